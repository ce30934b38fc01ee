-- the marks of the regions so far are taken away
use Rattle.std.proofs.Common.{◌≡◌, take, length}
use Rattle.pssm_config.specs.inner.Clearing.{AreCleared}
use Rattle.pssm_config.proofs.config.clear_each.Given as goal

abbrev pub invariant-loop-r : goal.invariant-loop-r
invariant-loop-r l = record {
  width : length l.marks.items ≡ length l.initial.marks.items;
  cleared : AreCleared l.initial.marks.items (take l.r-index l.regions) l.marks.items;
}
