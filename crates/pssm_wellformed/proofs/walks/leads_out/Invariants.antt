use Rattle.std.proofs.Common.{length}
use Rattle.pssm_wellformed.specs.inner.Walks.{AreArrowsWith, LeadsThrough, LeadsToRegion}
use Rattle.pssm_wellformed.proofs.walks.leads_out.Given as goal

abbrev pub invariant-loop-number : goal.invariant-loop-number
invariant-loop-number l = AreArrowsWith (length l.machine.vertices) l.number (LeadsThrough l.machine) (LeadsToRegion l.machine) l.onward.items
