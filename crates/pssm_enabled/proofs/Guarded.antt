-- The guards of transitions that are there, and whether another transition has a true one.
use Rattle.std.proofs.Common.{◌≡◌, ◌≢◌, ◌↔◌, List, Some, Contains, subst}
use Rattle.pssm_model.specs.declared.ids.VertexId.{VertexId}
use Rattle.pssm_model.specs.declared.ids.TransId.{TransId}
use Rattle.pssm_model.specs.declared.ids.GuardId.{GuardId}
use Rattle.pssm_model.specs.declared.elements.DraftMachine.{DraftMachine}
use Rattle.pssm_model.specs.declared.elements.Transition.{Transition}
use Rattle.pssm_model.specs.declared.elements.Guard.TheVariants.{When}
use Rattle.pssm_model.specs.Forest.{transition_at}
use Rattle.pssm_model.specs.Legs.{Leaves}
use Rattle.pssm_model.specs.Routes.{Truth, HasTrueValue}
use Rattle.pssm_enabled.specs.Telling.{IsGuardOf}
use Rattle.pssm_model.proofs.ElementLaws.{mapped_at}

-- a guard that may be asked for
pub guard_of_when : (m : DraftMachine) (t : TransId) (x : Transition) (g : GuardId) → transition_at m t ≡ Some x → x.guard ≡ When g → IsGuardOf m g
guard_of_when m t x g there is =
    let at = mapped_at (λ (y : Transition). y.guard) (transition_at m t) x there in
    (t, cc (at, is))

-- It is not another transition with a true guard.
abbrev pub IsNoTrueOther : DraftMachine → Truth → TransId → TransId → Type 0
IsNoTrueOther m truth t u = (u ≢ t) × HasTrueValue m truth u → ⊥

pub none_true_at_all : (m : DraftMachine) (truth : Truth) (t : TransId) (v : VertexId) (us : List TransId) → Leaves m t v
    → ((u : TransId) → Contains us u ↔ Leaves m u v) → ((u : TransId) → Contains us u → IsNoTrueOther m truth t u)
    → ((u : TransId) × (w : VertexId) × (u ≢ t) × Leaves m t w × Leaves m u w × HasTrueValue m truth u) → ⊥
none_true_at_all m truth t v us here items none h =
    let same : h.1 ≡ v = cc (h.3, here) in
    none h.0 ((items h.0).1 (subst (λ x. Leaves m h.0 x) same h.4)) (h.2, h.5)
