use Rattle.std.proofs.Common.{◌-◌}
use Rattle.pssm_judge.proofs.PieceLaws.{IsUnderway}
use Rattle.pssm_judge.proofs.judging.judge_pieces.Given as goal

abbrev pub invariant-loop-from : goal.invariant-loop-from
invariant-loop-from g l =
    IsUnderway l.fn.run.setting (g.I.Inputs.content l.fn.inputs) (g.I.Inputs.content l.inputs) (g.I.Inputs.history l.fn.inputs) (g.I.Inputs.history l.inputs) (g.I.Inputs.faults l.fn.inputs) (g.I.Inputs.faults l.inputs) l.path l.from l.text.items l.place l.run

abbrev pub decreases-loop-from : goal.decreases-loop-from
decreases-loop-from g l = 16777217 - l.from
