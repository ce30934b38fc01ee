-- Transitions that the rules of models leave without a guard are true.
use Rattle.std.proofs.Common.{◌≡◌, ◌≢◌, ◌<◌, length, Some, inl, inr}
use Rattle.pssm_model.specs.declared.ids.VertexId.{VertexId}
use Rattle.pssm_model.specs.declared.ids.TransId.{TransId}
use Rattle.pssm_model.specs.declared.elements.DraftMachine.{DraftMachine}
use Rattle.pssm_model.specs.declared.elements.Transition.{Transition}
use Rattle.pssm_model.specs.declared.elements.Guard.{Guard}
use Rattle.pssm_model.specs.declared.elements.Guard.TheVariants.{Always, Otherwise, When}
use Rattle.pssm_model.specs.declared.elements.VertexKind.TheVariants as kinds
use Rattle.pssm_model.specs.declared.elements.Element.TheVariants as elements
use Rattle.pssm_model.specs.declared.elements.FaultPlace.TheVariants as places
use Rattle.pssm_model.specs.Forest.{HasKind, transition_at}
use Rattle.pssm_model.specs.Legs.{Leaves, Enters}
use Rattle.pssm_model.specs.Routes.{Truth, IsTrueAt, guard_of}
use Rattle.pssm_model.specs.WellFormed.{KeepsModelRules, HasGuard, IsUnguardedKind}
use Rattle.pssm_model.specs.WellFormed.Breaks.{E07, E08, E10}
use Rattle.pssm_model.proofs.ElementLaws.{some_at, mapped_at, and_some}
use Rattle.pssm_enabled.proofs.Leaving.{leaving_is_there}
use Rattle.pssm_enabled.proofs.StartLaws.{entering_is_there}

module _ (m : DraftMachine) (truth : Truth) (t : TransId) (none : HasGuard m t → ⊥) where
  by_guard : (g : Guard) → guard_of m t ≡ Some g → IsTrueAt m truth t
  by_guard Always is = inl (inl is)
  by_guard Otherwise is = absurd (none (and_some (λ (x : Guard). x ≢ Always) (guard_of m t) Otherwise is (λ e. cc)))
  by_guard (When g) is = absurd (none (and_some (λ (x : Guard). x ≢ Always) (guard_of m t) (When g) is (λ e. cc)))

  -- without a guard it is true
  unguarded_true : t.0 < length m.transitions → IsTrueAt m truth t
  unguarded_true there =
      let at = some_at m.transitions t.0 there in
      by_guard at.0.guard (mapped_at (λ (x : Transition). x.guard) (transition_at m t) at.0 at.1)

module _ {m : DraftMachine} (rules : KeepsModelRules m) (truth : Truth) (t : TransId) (v : VertexId) where
  -- so is one out of an initial or history vertex or an entry point
  pub always_true : Leaves m t v → IsUnguardedKind m v → IsTrueAt m truth t
  always_true leaves unguarded =
      unguarded_true m truth t (λ guard. rules (places.At (elements.Transition t)) 10 (E10 (v, leaves, inr (unguarded, guard))))
      (leaving_is_there m t v leaves)

  -- one out of a fork
  pub fork_true : Leaves m t v → HasKind m v kinds.Fork → IsTrueAt m truth t
  fork_true leaves fork =
      unguarded_true m truth t (λ guard. rules (places.At (elements.Vertex v)) 8 (E08 (fork, inl (t, leaves, inl guard))))
      (leaving_is_there m t v leaves)

  -- and one into a join
  pub join_true : Enters m t v → HasKind m v kinds.Join → IsTrueAt m truth t
  join_true enters join =
      unguarded_true m truth t (λ guard. rules (places.At (elements.Vertex v)) 7 (E07 (join, inl (t, enters, inl guard))))
      (entering_is_there m t v enters)
