-- When an event starts a transition, alone or with the others into its join.
use Rattle.std.proofs.Common.{◌≡◌, ◌≢◌, ◌↔◌, List, [], ◌∷◌, Contains, refl, sym, subst, inl, inr}
use Rattle.pssm_model.specs.declared.ids.VertexId.{VertexId}
use Rattle.pssm_model.specs.declared.ids.TransId.{TransId}
use Rattle.pssm_model.specs.declared.ids.SignalId.{SignalId}
use Rattle.pssm_model.specs.declared.elements.DraftMachine.{DraftMachine}
use Rattle.pssm_model.specs.declared.elements.Transition.{Transition}
use Rattle.pssm_model.specs.declared.elements.VertexKind.TheVariants as kinds
use Rattle.pssm_model.specs.declared.elements.Element.TheVariants as elements
use Rattle.pssm_model.specs.declared.elements.FaultPlace.TheVariants as places
use Rattle.pssm_model.specs.declared.steps.Event.{Event}
use Rattle.pssm_model.specs.declared.steps.Event.TheVariants.{Signal}
use Rattle.pssm_model.specs.Configuration.{Configuration}
use Rattle.pssm_model.specs.Forest.{HasKind, transition_at}
use Rattle.pssm_model.specs.Legs.{Leaves, Enters}
use Rattle.pssm_model.specs.Routes.{Lists}
use Rattle.pssm_model.specs.WellFormed.{KeepsModelRules}
use Rattle.pssm_model.specs.WellFormed.Breaks.{E07}
use Rattle.pssm_model.proofs.ElementLaws.{some_and, and_some, leaves_one, nothing_in_nil}
use Rattle.pssm_model.proofs.RouteLaws.{is_one}
use Rattle.pssm_enabled.specs.Starts.{IsCausedBy, IsLeftBy, AreStarted, AreStartsWith}
use Rattle.pssm_routes.specs.inner.Starts.{IsStartedWith}
use Rattle.pssm_enabled.proofs.Started.{one_started, started_one}
use Rattle.pssm_enabled.proofs.StartLaws.{is_among_starts, one_starts}

module _ (m : DraftMachine) (now : Configuration) (event : Event) (t : TransId) where
  -- by its starts
  pub started_with : (starts : List TransId) → AreStartsWith m t starts → AreStarted m now event starts ↔ IsStartedWith m now event t
  started_with starts are = (
    λ h. (starts, are, h),
    λ h. subst (AreStarted m now event) (one_starts m t h.0 starts h.1 are) h.2,
  )

  -- where it leaves an active State and ends on no join, by what causes it
  module _ (s : VertexId) (leaves : Leaves m t s) (state : HasKind m s kinds.State) (active : now.Active s) where
    pub alone_with : ((v : VertexId) → Enters m t v → HasKind m v kinds.Join → ⊥) → IsCausedBy m event t s ↔ IsStartedWith m now event t
    alone_with none = (
      λ h. (
        t ∷ [],
        inl (refl, none),
        one_started m now t event (s, record { leaves = leaves; state = state; active = active; caused = h }),
      ),
      λ h.
          let alone = subst (AreStarted m now event) (one_starts m t h.0 (t ∷ []) h.1 (inl (refl, none))) h.2 in
          let from = started_one m now t event s leaves alone in
          subst (IsCausedBy m event t) (leaves_one m t from.0 s from.1.leaves leaves) from.1.caused,
    )

  -- it leaves an active State
  pub with_state : (s : VertexId) → Leaves m t s → IsStartedWith m now event t → HasKind m s kinds.State × now.Active s
  with_state s leaves h =
      let left : IsLeftBy m h.0 s = (t, is_among_starts m t h.0 h.1, leaves) in (h.2.states s left, h.2.active s left)

module _ {m : DraftMachine} (rules : KeepsModelRules m) where
  -- no transition into a join has a trigger
  trigger_no_join : (t : TransId) (signal : SignalId) → Lists m t signal → (v : VertexId) → Enters m t v → HasKind m v kinds.Join → ⊥
  trigger_no_join t signal lists v enters join =
      let at = some_and (λ (x : Transition). Contains x.triggers signal) (transition_at m t) lists in
      let trigger = and_some (λ (x : Transition). x.triggers ≢ []) (transition_at m t) at.0 at.1
      (λ none. nothing_in_nil signal (subst (λ xs. Contains xs signal) none at.2)) in
      rules (places.At (elements.Vertex v)) 7 (E07 (join, inl (t, enters, inr (inl trigger))))

  -- so by a signal it is started alone
  pub signal_with : (now : Configuration) (signal : SignalId) (t : TransId) (s : VertexId) → Leaves m t s → HasKind m s kinds.State → now.Active s
      → IsCausedBy m (Signal signal) t s ↔ IsStartedWith m now (Signal signal) t
  signal_with now signal t s leaves state active = (
    λ lists. (alone_with m now (Signal signal) t s leaves state active (trigger_no_join t signal lists)).0 lists,
    λ h.
        let by = h.2.caused in
        let same : t ≡ by.0 = is_one by.0 t (subst (λ ts. Contains ts t) by.1 (is_among_starts m t h.0 h.1)) in
        subst (λ x. Lists m x signal) (sym same) by.2,
  )
