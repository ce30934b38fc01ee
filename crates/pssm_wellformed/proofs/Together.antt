-- Where the ends of several transitions lie: apart, or two in one region.
use Rattle.std.proofs.Common.{◌≡◌, ◌↔◌, ◌<◌, ℕ, List, length, Bool, true, false, IsTrue, not, Contains, Option, Some, None, MatchOption, refl, subst, inl, inr, ⊎_elim, arith}
use Rattle.std.specs.List.{All}
use Rattle.std.proofs.lemmas.Bool.{false≢true}
use Rattle.std.proofs.lemmas.List.Elements.{Contains-get_or}
use Rattle.pssm_model.specs.declared.ids.VertexId.{VertexId}
use Rattle.pssm_model.specs.declared.ids.RegionId.{RegionId}
use Rattle.pssm_model.specs.declared.ids.TransId.{TransId}
use Rattle.pssm_model.specs.declared.elements.DraftMachine.{DraftMachine}
use Rattle.pssm_model.specs.declared.elements.VertexKind.{VertexKind}
use Rattle.pssm_model.specs.declared.elements.VertexKind.TheVariants as kinds
use Rattle.pssm_model.specs.declared.elements.Owner.TheVariants.{Region, State}
use Rattle.pssm_model.specs.Forest.{HasKind, owner_of, LiesInState, OwnsOfKind}
use Rattle.pssm_model.specs.Legs.{IsPoint}
use Rattle.pssm_model.specs.Shapes.{HasShape}
use Rattle.pssm_model.specs.WellFormed.{Ends, LieApart, LieApartBeside}
use Rattle.pssm_model.proofs.ElementLaws.{kind_unique}
use Rattle.pssm_wellformed.specs.declared.ends.End.{End}
use Rattle.pssm_wellformed.specs.inner.Ends.{HasEnd, transition_number}
use Rattle.pssm_wellformed.specs.inner.Apart.{EndLiesInside, placed, AreEnds, IsAround, AreOtherEnds, LieApartAround, IsFitting}
use Rattle.pssm_wellformed.proofs.Places.{end_exists, one_region, one_state, owner_may}
use Rattle.pssm_wellformed.proofs.Climbing.{one_state_inside}

-- Ends that lie apart lie in the State.
pub apart_has_all : (m : DraftMachine) (end : End) (s : VertexId) (ts : List TransId) → All (λ t. t.0 < length m.transitions) ts → LieApart m s (AreEnds m end ts)
    → (k : ℕ) → k < length ts → EndLiesInside m end s (placed ts k)
apart_has_all m end s ts there h k lt =
    let t = placed ts k in
    let w = end_exists m end t (there k (transition_number 0) lt) in
    (w.0, w.1, h.inside t w.0 (Contains-get_or ts k (transition_number 0) lt, w.1))

-- Where there are no ends, they lie apart.
pub none_apart : (m : DraftMachine) (end : End) (s : VertexId) (ts : List TransId) → length ts ≡ 0 → LieApart m s (AreEnds m end ts)
none_apart m end s ts none = record {
  inside = λ t w h. absurd (let lt = h.0.1 in omega arith);
  apart = λ t u v w r ne h g owner lv lw. absurd (let lt = h.0.1 in omega arith);
}

-- a State beside, where there is no end, and where there is a first one
pub fitting_any : (m : DraftMachine) (end : End) (r : RegionId) (ts : List TransId) (found : Option VertexId) → length ts ≡ 0
    → MatchOption found ((s : VertexId) → OwnsOfKind m r kinds.State s → ⊥) (λ s. OwnsOfKind m r kinds.State s)
    → MatchOption found ((s : VertexId) → OwnsOfKind m r kinds.State s → LieApart m s (AreEnds m end ts) → ⊥) (λ s. IsFitting m (λ q. OwnsOfKind m r kinds.State q) (AreEnds m end ts) s)
fitting_any m end r ts (Some s) none own = (own, λ q other h. none_apart m end s ts none)
fitting_any m end r ts None none is = λ s own h. is s own

pub fitting_first : (m : DraftMachine) → HasShape m → (end : End) (r : RegionId) (ts : List TransId) (t : TransId) (w : VertexId) (found : Option VertexId) → Contains ts t → HasEnd m end t w
    → MatchOption found ((s : VertexId) → OwnsOfKind m r kinds.State s → LiesInState m w s → ⊥) (λ s. OwnsOfKind m r kinds.State s × LiesInState m w s)
    → MatchOption found ((s : VertexId) → OwnsOfKind m r kinds.State s → LieApart m s (AreEnds m end ts) → ⊥) (λ s. IsFitting m (λ q. OwnsOfKind m r kinds.State q) (AreEnds m end ts) s)
fitting_first m shape end r ts t w (Some s) there has is = (
  is.0,
  λ q own h. subst (λ x. LieApart m x (AreEnds m end ts)) (one_state_inside m shape w r q s own is.0 (h.inside t w (there, has)) is.1) h,
)
fitting_first m shape end r ts t w None there has is = λ s own h. is s own (h.inside t w (there, has))

-- What stands around a vertex that a region owns is a State of that region.
beside : (m : DraftMachine) (v s : VertexId) (r : RegionId) → owner_of m (State v) ≡ Some (Region r) → IsAround m v s → OwnsOfKind m r kinds.State s
beside m v s r owner around = ⊎_elim (λ own. absurd cc)
    (λ w. subst (λ x. OwnsOfKind m x kinds.State s) (one_region m (State v) w.0 r w.2 owner) w.1) around

-- the States around a vertex, by what owns it
pub around_region : (m : DraftMachine) (v : VertexId) (r : RegionId) (ends : Ends) (found : Option VertexId) → owner_of m (State v) ≡ Some (Region r)
    → MatchOption found ((s : VertexId) → OwnsOfKind m r kinds.State s → LieApart m s ends → ⊥) (λ s. IsFitting m (λ q. OwnsOfKind m r kinds.State q) ends s)
    → MatchOption found ((s : VertexId) → IsAround m v s → LieApart m s ends → ⊥) (λ s. IsFitting m (λ q. IsAround m v q) ends s)
around_region m v r ends (Some s) owner is = (inr (r, is.0, owner), λ q around h. is.1 q (beside m v q r owner around) h)
around_region m v r ends None owner is = λ s around h. is s (beside m v s r owner around) h

pub around_state : (m : DraftMachine) (v s : VertexId) (ends : Ends) → owner_of m (State v) ≡ Some (State s) → IsFitting m (λ q. IsAround m v q) ends s
around_state m v s ends owner = (
  inl owner,
  λ q around h. ⊎_elim (λ own. subst (λ x. LieApart m x ends) (one_state m (State v) q s own owner) h) (λ w. let other = w.2 in absurd cc) around,
)

-- the same ends lie apart
pub apart_same : (m : DraftMachine) (s : VertexId) (ends others : Ends) → ((t : TransId) (w : VertexId) → others t w → ends t w) → LieApart m s ends → LieApart m s others
apart_same m s ends others same h = record {
  inside = λ t w e. h.inside t w (same t w e);
  apart = λ t u v w r ne e f owner lv lw. h.apart t u v w r ne (same t v e) (same u w f) owner lv lw;
}

module _ (m : DraftMachine) (near far : End) (v : VertexId) (ts : List TransId) (is : (t : TransId) → Contains ts t ↔ HasEnd m near t v) where
  pub to_other_ends : (s : VertexId) → LieApart m s (AreEnds m far ts) → LieApart m s (AreOtherEnds m near far v)
  to_other_ends s = apart_same m s (AreEnds m far ts) (AreOtherEnds m near far v) (λ t w e. ((is t).1 e.0, e.1))

  pub from_other_ends : (s : VertexId) → LieApart m s (AreOtherEnds m near far v) → LieApart m s (AreEnds m far ts)
  from_other_ends s = apart_same m s (AreOtherEnds m near far v) (AreEnds m far ts) (λ t w e. ((is t).0 e.0, e.1))

  -- the ends lie apart in the State that was found, or nowhere around
  pub found_iff : (s : VertexId) (b : Bool) → IsFitting m (λ q. IsAround m v q) (AreEnds m far ts) s → (IsTrue b ↔ LieApart m s (AreEnds m far ts))
      → IsTrue b ↔ LieApartAround m near far v
  found_iff s b fits iff = (
    λ t. (s, fits.0, to_other_ends s (iff.0 t)),
    λ h. iff.1 (fits.1 h.0 h.1 (from_other_ends h.0 h.2)),
  )

  pub not_found : ((s : VertexId) → IsAround m v s → LieApart m s (AreEnds m far ts) → ⊥) → LieApartAround m near far v → ⊥
  not_found none h = none h.0 h.1 (from_other_ends h.0 h.2)

-- the test turned round
pub not_when : (b : Bool) (P : Type 0) → (IsTrue b ↔ P) → IsTrue (not b) ↔ (P → ⊥)
not_when true P h = (λ t p. false≢true t, λ none. absurd (none (h.0 refl)))
not_when false P h = (λ t p. false≢true (h.1 p), λ none. refl)

-- A vertex of another kind is no connection point.
pub plain_kind : (m : DraftMachine) (v : VertexId) (kind : VertexKind) → HasKind m v kind → (kind ≡ kinds.EntryPoint → ⊥) → (kind ≡ kinds.ExitPoint → ⊥) → IsPoint m v → ⊥
plain_kind m v kind is entry exit point = ⊎_elim (λ p. entry (kind_unique m v kind kinds.EntryPoint is p)) (λ p. exit (kind_unique m v kind kinds.ExitPoint is p)) point

-- what the marks say of a join or fork, and of an entry point
pub nowhere_iff : (m : DraftMachine) → HasShape m → (near far : End) (v : VertexId) (b : Bool) → (IsPoint m v → ⊥) → (IsTrue b ↔ LieApartAround m near far v)
    → IsTrue (not b) ↔ (LieApartBeside m v (AreOtherEnds m near far v) → ⊥)
nowhere_iff m shape near far v b plain iff =
    let no = not_when b (LieApartAround m near far v) iff in (
      λ t (s, r, kind, own, owner, h). no.0 t (s, inr (r, (kind, own), owner), h),
      λ none. no.1 (λ h. ⊎_elim (λ own. plain (owner_may m shape v (State h.0) own).0) (λ w. none (h.0, w.0, w.1.0, w.1.1, w.2, h.2)) h.1),
    )

pub point_iff : (m : DraftMachine) → HasShape m → (near far : End) (v : VertexId) (b : Bool) → IsPoint m v → (IsTrue b ↔ LieApartAround m near far v)
    → IsTrue (not b) ↔ ((s : VertexId) → owner_of m (State v) ≡ Some (State s) → LieApart m s (AreOtherEnds m near far v) → ⊥)
point_iff m shape near far v b point iff =
    let no = not_when b (LieApartAround m near far v) iff in (
      λ t s own h. no.0 t (s, inl own, h),
      λ none. no.1 (λ h. ⊎_elim (λ own. none h.0 own h.2) (λ w. (owner_may m shape v (Region w.0) w.2).0 point) h.1),
    )
