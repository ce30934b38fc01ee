use Rattle.std.proofs.Common.{◌≡◌, ◌++◌, take}
use Rattle.std.specs.List.{flat_map}
use Rattle.pssm_bodies.specs.Slots.{transition_slots}
use Rattle.pssm_bodies.proofs.slots.with_transitions.Given as goal

abbrev pub invariant-loop-transition : goal.invariant-loop-transition
invariant-loop-transition l = l.slots.items ≡ l.fn.slots.items ++ flat_map transition_slots (take l.transition-index l.transitions)
