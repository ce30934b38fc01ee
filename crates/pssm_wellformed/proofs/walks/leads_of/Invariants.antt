use Rattle.std.proofs.Common.{length, ◌+◌}
use Rattle.pssm_wellformed.specs.inner.Walks.{AreArrowsWith, LeadsOut, LeadsFromRegion}
use Rattle.pssm_wellformed.proofs.walks.leads_of.Given as goal

abbrev pub invariant-loop-number : goal.invariant-loop-number
invariant-loop-number l =
    let count = length l.machine.vertices + l.number in
    AreArrowsWith count count (LeadsOut l.machine) (LeadsFromRegion l.machine) l.onward.items
