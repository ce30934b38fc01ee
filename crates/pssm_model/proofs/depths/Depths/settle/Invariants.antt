use Rattle.std.proofs.Common.{vec_len}
use Rattle.pssm_model.specs.inner.Depths.{HasClimbed, KeepsKnown}
use Rattle.pssm_model.proofs.depths.Depths.settle.Given as goal

-- the places that are left
abbrev pub invariant-loop-place : goal.invariant-loop-place
invariant-loop-place l = HasClimbed l.fn.draft l.path.items l.self × KeepsKnown l.initial.self l.self

abbrev pub decreases-loop-place : goal.decreases-loop-place
decreases-loop-place l = vec_len l.path
