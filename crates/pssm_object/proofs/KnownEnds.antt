-- What is active for an object whose step is under way is known, and whether an object has ended.
use Rattle.std.proofs.Common.{◌≡◌, List, [], ◌∷◌, length, Option, Some, None, refl, sym, ap, subst, ◌∙◌, inl, inr, ⊎_elim}
use Rattle.std.specs.Option.{option_map}
use Rattle.std.proofs.lemmas.Option.{slice_get_within}
use Rattle.pssm_model.specs.declared.ids.VertexId.{VertexId}
use Rattle.pssm_model.specs.declared.ids.RegionId.{RegionId}
use Rattle.pssm_model.specs.declared.ids.TransId.{TransId}
use Rattle.pssm_model.specs.declared.elements.DraftMachine.{DraftMachine}
use Rattle.pssm_model.specs.declared.elements.Transition.{Transition}
use Rattle.pssm_model.specs.declared.elements.VertexKind.TheVariants as kinds
use Rattle.pssm_model.specs.declared.elements.Owner.TheVariants.{Top, Region, State}
use Rattle.pssm_model.specs.declared.steps.How.{How}
use Rattle.pssm_model.specs.declared.steps.How.TheVariants.{By, Restore, Nothing}
use Rattle.pssm_model.specs.declared.steps.Item.{Item}
use Rattle.pssm_model.specs.declared.steps.Item.TheVariants as items
use Rattle.pssm_model.specs.inner.Listed.{vertex_number, region_number}
use Rattle.pssm_model.specs.Forest.{HasKind, owner_of, transition_at}
use Rattle.pssm_model.specs.Legs.{Enters}
use Rattle.pssm_model.specs.Configuration.{Configuration, HasActiveFinal, AllTopsAreFinal}
use Rattle.pssm_model.specs.Course.{Head}
use Rattle.pssm_plan.specs.Steadiness.{changed_by_item, changed_along}
use Rattle.pssm_model_laws.proofs.Known.{Known, known_as, known_both, known_either, known_not, known_below, known_among, known_vertex}
use Rattle.pssm_model_laws.proofs.KnownPlaces.{known_owner, known_vertex_kind}
use Rattle.pssm_semantics.specs.declared.entry.ObjectId.{ObjectId}
use Rattle.pssm_semantics.specs.declared.entry.Entry.{Entry}
use Rattle.pssm_semantics.specs.declared.entry.Entry.TheVariants.{Post, Start, Take, Done, Exit, Effect, Enter, Opened, Pick, DoStep}
use Rattle.pssm_semantics.specs.Journal.{IsActive, configuration_after}
use Rattle.pssm_semantics.specs.Completion.{EffectsAt, HasEnded}
use Rattle.pssm_object.specs.Standing.{IsUnderWay}
use Rattle.pssm_object.specs.inner.Ending.{Terminates}
use Rattle.pssm_object.proofs.MachineLaws.{kind_there}
use Rattle.pssm_object.proofs.Advancing.{known_object}

-- what is active after items that have run is known, where it is known of the configuration before them
known_changed : (m : DraftMachine) (now : Configuration) (item : Item) (how : How) → ((s : VertexId) → Known (now.Active s))
    → (s : VertexId) → Known ((changed_by_item m now item how).Active s)
known_changed m now (items.Enter v) how known s = known_either (known_vertex s v) (known s)
known_changed m now (items.Exit v) how known s = known_both (known_not (known_vertex s v)) (known s)
known_changed m now (items.Opened r mode) Nothing known s = known s
known_changed m now (items.Opened r mode) (By route) known s = known s
known_changed m now (items.Opened r mode) (Restore v) known s = known s
known_changed m now (items.Effect t) how known s = known s
known_changed m now (items.Pick c) how known s = known s

known_along : (m : DraftMachine) (now : Configuration) (ran : List (Item × How)) → ((s : VertexId) → Known (now.Active s))
    → (s : VertexId) → Known ((changed_along m now ran).Active s)
known_along m now [] known s = known s
known_along m now (x ∷ xs) known s = known_along m (changed_by_item m now x.0 x.1) xs (known_changed m now x.0 x.1 known) s

-- whether all top regions have an active final state is known, where it is known what is active
module _ (m : DraftMachine) (now : Configuration) (known : (s : VertexId) → Known (now.Active s)) where
  pub known_final : (r : RegionId) → Known (HasActiveFinal m now r)
  known_final r =
      known_as
      (λ h. (vertex_number h.0, h.2.0, h.2.1.0, h.2.1.1))
      (λ h. (h.0.0, kind_there m h.0 kinds.Final h.2, (h.1, (h.2, h.3))))
      (known_below
      (λ k. (owner_of m (State (vertex_number k)) ≡ Some (Region r)) × (HasKind m (vertex_number k) kinds.Final × now.Active (vertex_number k)))
      (λ k. known_both (known_owner m (State (vertex_number k)) (Region r))
      (known_both (known_vertex_kind m (vertex_number k) kinds.Final) (known (vertex_number k))))
      (length m.vertices))

  abbrev LacksFinal : RegionId → Type 0
  LacksFinal r = (owner_of m (Region r) ≡ Some Top) × (HasActiveFinal m now r → ⊥)

  pub known_tops : Known (AllTopsAreFinal m now)
  known_tops =
      ⊎_elim
      (λ lacks. inr (λ all. lacks.2.1 (all (region_number lacks.0) lacks.2.0)))
      (λ none. inl (λ r top.
      ⊎_elim (λ final. final) (λ not. absurd (none (r.0, slice_get_within m.regions r.0 Top top, (top, not)))) (known_final r)))
      (known_below
      (λ k. LacksFinal (region_number k))
      (λ k. known_both (known_owner m (Region (region_number k)) Top) (known_not (known_final (region_number k))))
      (length m.regions))

-- whether a transition ends on a terminate vertex is known
known_terminates : (m : DraftMachine) (t : TransId) → Known (Terminates m t)
known_terminates m t = by (transition_at m t) refl
  where
    by : (o : Option Transition) → transition_at m t ≡ o → Known (Terminates m t)
    by None e = inr (λ h. let none = ap (option_map (λ (x : Transition). x.target)) e in let clash = sym h.1 ∙ none in cc)
    by (Some x) e =
        let at : Enters m t x.target = ap (option_map (λ (y : Transition). y.target)) e in
        known_as
        (λ kind. (x.target, at, kind))
        (λ h. let same : h.0 ≡ x.target = (let two = sym h.1 ∙ at in cc) in subst (λ v. HasKind m v kinds.Terminate) same h.2)
        (known_vertex_kind m x.target kinds.Terminate)

-- whether an effect in an entry ends the object is known
abbrev TerminatesBy : DraftMachine → ObjectId → Entry → Type 0
TerminatesBy m o e = (t : TransId) × (v : VertexId) × EffectsAt e o t × Enters m t v × HasKind m v kinds.Terminate

known_terminates_by : (m : DraftMachine) (o : ObjectId) (e : Entry) → Known (TerminatesBy m o e)
known_terminates_by m o (Effect q t outs) =
    known_as
    (λ h. (t, h.1.0, (h.0, refl), h.1.1, h.1.2))
    (λ h. (h.2.0, subst (λ u. Terminates m u) (sym h.2.1) (h.1, h.3, h.4)))
    (known_both (known_object q o) (known_terminates m t))
known_terminates_by m o (Post q g args) = inr (λ h. h.2)
known_terminates_by m o (Start q) = inr (λ h. h.2)
known_terminates_by m o (Take q number firing) = inr (λ h. h.2)
known_terminates_by m o (Done q v firing) = inr (λ h. h.2)
known_terminates_by m o (Exit q v outs) = inr (λ h. h.2)
known_terminates_by m o (Enter q v outs) = inr (λ h. h.2)
known_terminates_by m o (Opened q r mode how) = inr (λ h. h.2)
known_terminates_by m o (Pick q c route) = inr (λ h. h.2)
known_terminates_by m o (DoStep q v k outs) = inr (λ h. h.2)

-- so whether the object has ended is known, where it is known what is active
pub known_ended : (m : DraftMachine) (J : List Entry) (o : ObjectId) → ((s : VertexId) → Known (IsActive J o s)) → Known (HasEnded m J o)
known_ended m J o active =
    known_either
    (known_as
    (λ h. (h.0, h.2.0, h.2.1, h.1, h.2.2, h.2.3, h.2.4))
    (λ h. (h.0, h.3, (h.1, h.2, h.4, h.5, h.6)))
    (known_among (TerminatesBy m o) J (λ e inside. known_terminates_by m o e)))
    (known_tops m (configuration_after m J o) active)

-- what is active for an object whose step is under way is known
pub known_active : {m : DraftMachine} {J : List Entry} {o : ObjectId} {head : Head} {at_head : Configuration} {ran : List (Item × How)}
    → IsUnderWay m J o head at_head ran → (s : VertexId) → Known (IsActive J o s)
known_active {m = m} {at_head = at_head} {ran = ran} u s = known_as (u.along s).1 (u.along s).0 (known_along m at_head ran u.known s)
