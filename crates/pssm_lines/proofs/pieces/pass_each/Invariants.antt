-- what follows the pieces that are still to be passed follows all of them
use Rattle.std.proofs.Common.{◌≡◌}
use Rattle.std.specs.Option.{option_map}
use Rattle.pssm_lines.specs.inner.LineReading.{each_taken}
use Rattle.pssm_lines.proofs.pieces.pass_each.Given as goal

abbrev pub invariant-loop-after : goal.invariant-loop-after
invariant-loop-after g l = option_map (λ x. x.1) (each_taken l.before g.T.Passed.taken l.left l.rest) ≡ option_map (λ x. x.1) (each_taken l.before g.T.Passed.taken l.fn.most l.fn.bytes)

abbrev pub decreases-loop-after : goal.decreases-loop-after
decreases-loop-after g l = l.left
