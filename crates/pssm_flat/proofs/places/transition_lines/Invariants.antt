use Rattle.std.proofs.Common.{◌≡◌, take}
use Rattle.std.specs.Prelude.{sum_by}
use Rattle.pssm_flat.specs.inner.Places.{transition_size}
use Rattle.pssm_flat.proofs.places.transition_lines.Given as goal

abbrev pub invariant-loop-transition : goal.invariant-loop-transition
invariant-loop-transition l = l.lines ≡ sum_by transition_size (take l.transition-index l.transitions)
