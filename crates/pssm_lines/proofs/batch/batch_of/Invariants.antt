-- the lines so far, and the line feeds that are left
use Rattle.std.proofs.Common.{length}
use Rattle.pssm_lines.proofs.Streams.{IsUnderWay}
use Rattle.pssm_lines.proofs.batch.batch_of.Given as goal

abbrev pub invariant-loop-lines : goal.invariant-loop-lines
invariant-loop-lines l = IsUnderWay l.fn.begun l.fn.number l.text l.lines.items l.begun l.number l.rest

abbrev pub decreases-loop-lines : goal.decreases-loop-lines
decreases-loop-lines l = length l.rest
