use Rattle.std.proofs.Common.{◌<◌, length}
use Rattle.pssm_model.specs.inner.Tables.{IsInnermost}
use Rattle.pssm_model.proofs.forest.Forest.scope.Given as goal

-- the innermost region of the vertices so far
abbrev pub invariant-loop-v : goal.invariant-loop-v
invariant-loop-v l = IsInnermost l.fn.draft l.fn.list l.v-index l.common × (l.common.0 < length l.fn.draft.regions)
