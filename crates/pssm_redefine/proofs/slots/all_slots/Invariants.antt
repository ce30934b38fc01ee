use Rattle.std.proofs.Common.{◌≡◌, ◌++◌, take}
use Rattle.std.specs.List.{flat_map}
use Rattle.pssm_redefine.specs.Merging.{vertex_slots, transition_slots}
use Rattle.pssm_redefine.specs.inner.Gathered.{lent_bodies}
use Rattle.pssm_redefine.proofs.slots.all_slots.Given as goal

abbrev pub invariant-loop-forms : goal.invariant-loop-forms
invariant-loop-forms l =
    lent_bodies l.slots.items ≡ flat_map (vertex_slots l.draft) l.vertices ++ flat_map (transition_slots l.draft) (take l.forms-index l.transitions)
