-- By which ways a region opens where an object stands, from what is found of the region.
use Rattle.std.proofs.Common.{◌≡◌, ◌↔◌, List, [], ◌∷◌, length, Bool, IsTrue, Option, Some, None, IfNone, Contains, slice_index_or, ◌≤◌, ◌<◌, refl, sym, subst, ◌∙◌, inl, inr, ⊎_elim, arith}
use Rattle.std.specs.Bool.{◌==◌}
use Rattle.std.proofs.lemmas.Bool.{eqb-true}
use Rattle.std.proofs.lemmas.List.Elements.{Contains-get_or}
use Rattle.pssm_model.specs.declared.ids.VertexId.{VertexId}
use Rattle.pssm_model.specs.declared.ids.RegionId.{RegionId}
use Rattle.pssm_model.specs.declared.ids.TransId.{TransId}
use Rattle.pssm_model.specs.declared.elements.DraftMachine.{DraftMachine}
use Rattle.pssm_model.specs.declared.elements.VertexKind.{VertexKind}
use Rattle.pssm_model.specs.declared.elements.VertexKind.TheVariants as kinds
use Rattle.pssm_model.specs.declared.steps.How.{How}
use Rattle.pssm_model.specs.declared.steps.How.TheVariants.{By, Restore, Nothing}
use Rattle.pssm_model.specs.Forest.{HasKind, OwnsOfKind}
use Rattle.pssm_model.specs.Legs.{Leaves}
use Rattle.pssm_model.specs.Paths.{HasOut, IsInitialOf}
use Rattle.pssm_model.specs.Ways.{IsRemembered, IsHistoryOf}
use Rattle.pssm_model.specs.WellFormed.{KeepsModelRules}
use Rattle.pssm_model.proofs.ElementLaws.{nothing_in_nil}
use Rattle.pssm_config.specs.Tables.{Tables, Fits, configuration_of}
use Rattle.pssm_semantics.specs.declared.setting.Class.{Class}
use Rattle.pssm_semantics.specs.Values.{Store, Params}
use Rattle.pssm_semantics_laws.proofs.Members.{first_in}
use Rattle.pssm_object.specs.inner.Firing.{GoesFrom, IsDefaultWay, IsHistoryKind, IsFreshWay, IsHistoryWay}
use Rattle.pssm_object.proofs.MachineLaws.{kind_there, one_history}

-- a region without initial vertices
no_initial : (m : DraftMachine) (r : RegionId) (initials : List VertexId)
    → ((v : VertexId) → Contains initials v ↔ IsInitialOf m r v)
    → IsTrue (length initials == 0) ↔ ((v : VertexId) → IsInitialOf m r v → ⊥)
no_initial m r [] are = (λ e v is. nothing_in_nil v ((are v).1 is), λ none. refl)
no_initial m r (v ∷ vs) are = (
  λ e. absurd (let no : length (v ∷ vs) ≡ 0 = eqb-true (length (v ∷ vs)) 0 e in omega arith),
  λ none. absurd (none v ((are v).0 (Contains-get_or (v ∷ vs) 0 v (omega arith)))),
)

-- opens by none
pub opens_by_none : (class : Class) (store : Store) (params : Params) (r : RegionId) (how : How) (initials : List VertexId) (empty : Bool) → how ≡ Nothing
    → ((v : VertexId) → Contains initials v ↔ IsInitialOf class.machine r v) → empty ≡ (length initials == 0)
    → IsTrue empty ↔ IsDefaultWay class store params r how
opens_by_none class store params r how initials empty is are e =
    subst (λ h. IsTrue empty ↔ IsDefaultWay class store params r h) (sym is)
    (subst (λ x. IsTrue x ↔ IsDefaultWay class store params r Nothing) (sym e) (no_initial class.machine r initials are))

-- the option is what the region remembers
abbrev pub IsMemoryOf : DraftMachine → Tables → RegionId → Option VertexId → Type 0
IsMemoryOf m tables r found = (s : VertexId) → (found ≡ Some s) ↔ IsRemembered m (configuration_of tables).Remembers r s

module _ (class : Class) (tables : Tables) (store : Store) (params : Params) (r : RegionId) (kind : VertexKind) where
  -- a region that remembers a State opens by restoring it
  pub restores_it : (how : How) (s : VertexId) → IsMemoryOf class.machine tables r (Some s)
      → (how ≡ Restore s) ↔ IsHistoryWay class tables store params r kind how
  restores_it (Restore q) s is = (λ e. (is q).0 (cc), λ h. (let same = (is q).1 h in cc))
  restores_it (By route) s is = (λ e. absurd (cc), λ h. absurd (h.0 s ((is s).0 refl)))
  restores_it Nothing s is = (λ e. absurd (cc), λ h. absurd (h.0 s ((is s).0 refl)))

  -- and one that remembers none opens afresh
  forgotten : IsMemoryOf class.machine tables r None → (s : VertexId) → IsRemembered class.machine (configuration_of tables).Remembers r s → ⊥
  forgotten is s h = let clash = (is s).1 h in cc

  pub opens_afresh : (how : How) → IsMemoryOf class.machine tables r None
      → IsFreshWay class store params r kind how ↔ IsHistoryWay class tables store params r kind how
  opens_afresh (By route) is = (
    λ fresh. (forgotten is, ⊎_elim (λ goes. inl (goes.0, goes.1, goes.2)) (λ default. inr (default.0, default.1)) fresh),
    λ h. ⊎_elim (λ goes. inl (goes.0, goes.1, goes.2)) (λ default. inr (default.0, default.1)) h.1,
  )
  opens_afresh (Restore s) is = (
    λ fresh. absurd (⊎_elim (λ goes. goes.2) (λ default. default.1) fresh),
    λ h. absurd (forgotten is s h),
  )
  opens_afresh Nothing is = (
    λ fresh. (forgotten is, ⊎_elim (λ goes. absurd goes.2) (λ default. inr (default.0, default.1)) fresh),
    λ h. ⊎_elim (λ goes. absurd goes) (λ default. inr (default.0, default.1)) h.1,
  )

module _ (class : Class) (rules : KeepsModelRules class.machine) (store : Store) (params : Params) (r : RegionId) (kind : VertexKind) (is : IsHistoryKind kind) where
  -- by its history vertex that has a transition
  pub goes_by_it : (v : VertexId) → IsHistoryOf class.machine r kind v → (how : How)
      → GoesFrom class store params v how ↔ IsFreshWay class store params r kind how
  goes_by_it v of how = (
    λ goes. inl (v, of, goes),
    λ fresh. ⊎_elim
        (λ goes. subst (λ w. GoesFrom class store params w how) (one_history rules r kind is goes.0 v (goes.1.0, goes.1.1) (of.0, of.1)) goes.2)
        (λ default. absurd (default.0 v of))
        fresh,
  )

  -- or by default
  pub defaults : ((v : VertexId) → IsHistoryOf class.machine r kind v → ⊥) → (how : How)
      → IsDefaultWay class store params r how ↔ IsFreshWay class store params r kind how
  defaults none how = (λ default. inr (none, default), λ fresh. ⊎_elim (λ goes. absurd (none goes.0 goes.1)) (λ default. default.1) fresh)

-- the first of the transitions that leave a vertex
pub first_out : (m : DraftMachine) (v : VertexId) (ts : List TransId) → 1 ≤ length ts → ((t : TransId) → Contains ts t ↔ Leaves m t v) → HasOut m v
first_out m v [] some are = absurd (omega (arith, some))
first_out m v (t ∷ ts) some are = (t, (are t).0 (first_in t ts))

-- the one history vertex of a kind, which has no transition
module _ {m : DraftMachine} (rules : KeepsModelRules m) (r : RegionId) (kind : VertexKind) (is : IsHistoryKind kind) where
  lacks_out : (v : VertexId) → OwnsOfKind m r kind v → (found : Option VertexId) → IfNone found (HasOut m v → ⊥)
      → IfNone found ((w : VertexId) → IsHistoryOf m r kind w → ⊥)
  lacks_out v owned (Some w) none = tt
  lacks_out v owned None none = λ w of. none (subst (HasOut m) (one_history rules r kind is w v (of.0, of.1) owned) of.2)

  pub first_lacks : (vs : List VertexId) (d : VertexId) → 1 ≤ length vs → ((v : VertexId) → Contains vs v ↔ OwnsOfKind m r kind v)
      → (found : Option VertexId) → IfNone found (HasOut m (slice_index_or vs 0 d) → ⊥)
      → IfNone found ((w : VertexId) → IsHistoryOf m r kind w → ⊥)
  first_lacks [] d some are found none = absurd (omega (arith, some))
  first_lacks (v ∷ vs) d some are found none = lacks_out v ((are v).0 (first_in v vs)) found none

-- what is found of what a region remembers
module _ {m : DraftMachine} {tables : Tables} (fits : Fits m tables) (r : RegionId) where
  pub remembered_there : (s : VertexId) → (configuration_of tables).Remembers r s → s.0 < length m.vertices
  remembered_there s h = ⊎_elim (kind_there m s kinds.State) (kind_there m s kinds.Final) (fits.remembered r s h).1

pub remembered_if : (m : DraftMachine) (tables : Tables) (r : RegionId) (v : VertexId) → (configuration_of tables).Remembers r v → (found : Option VertexId)
    → ((s : VertexId) → (found ≡ Some s) ↔ ((v ≡ s) × HasKind m s kinds.State)) → IsMemoryOf m tables r found
remembered_if m tables r v memory found is s = (
  λ e. let h = (is s).0 e in (subst (λ q. (configuration_of tables).Remembers r q) h.0 memory, h.1),
  λ h. (is s).1 ((let same = sym memory ∙ h.0 in cc), h.1),
)

pub remembers_none : (m : DraftMachine) (tables : Tables) (r : RegionId) (found : Option VertexId) → found ≡ None
    → ((s : VertexId) → (found ≡ Some s) ↔ (configuration_of tables).Remembers r s) → IsMemoryOf m tables r None
remembers_none m tables r found none is s = (
  λ e. absurd (cc),
  λ h. sym none ∙ (is s).1 h.0,
)
