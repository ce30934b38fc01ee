-- what is read so far, and what is still to be read, are all that was to be read
use Rattle.std.proofs.Common.{◌≡◌}
use Rattle.pssm_lines.specs.inner.LineReading.{behind_first, each_taken}
use Rattle.pssm_lines.proofs.pieces.read_each.Given as goal

abbrev pub invariant-loop-after : goal.invariant-loop-after
invariant-loop-after g l = behind_first l.items.items (each_taken l.before g.T.Piece.taken l.left l.rest) ≡ behind_first l.fn.first.items (each_taken l.before g.T.Piece.taken l.fn.most l.fn.bytes)

abbrev pub decreases-loop-after : goal.decreases-loop-after
decreases-loop-after g l = l.left
