-- the numbers of the first parts are in range
use Rattle.std.proofs.Common.{take}
use Rattle.std.specs.List.{AllByRecursion}
use Rattle.pssm_journal.proofs.ranges.look_at_all.Given as goal

abbrev pub invariant-loop-part : goal.invariant-loop-part
invariant-loop-part g l = AllByRecursion g.T.Ranged.fits (take l.part-index l.parts)
