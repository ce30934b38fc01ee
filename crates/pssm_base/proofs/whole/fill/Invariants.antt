use Rattle.std.proofs.Common.{◌+◌, ◌-◌, vec_len}
use Rattle.pssm_base.proofs.Pieces.{HasRead}
use Rattle.pssm_base.proofs.whole.fill.Given as goal

abbrev pub invariant-loop-bytes : goal.invariant-loop-bytes
invariant-loop-bytes g l =
    HasRead (g.I.Inputs.content l.fn.inputs) (g.I.Inputs.content l.inputs) (g.I.Inputs.history l.fn.inputs) (g.I.Inputs.history l.inputs) (g.I.Inputs.faults l.fn.inputs) (g.I.Inputs.faults l.inputs) l.path l.bytes.items (l.limit + 1)

abbrev pub decreases-loop-bytes : goal.decreases-loop-bytes
decreases-loop-bytes g l = l.limit + 1 - vec_len l.bytes
