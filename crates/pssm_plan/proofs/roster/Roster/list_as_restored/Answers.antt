use Rattle.std.proofs.Common.{arith}
use Rattle.std.proofs.lemmas.List.{take_all}
use Rattle.pssm_plan.specs.inner.Calling.{IsRestoredOf}
use Rattle.pssm_plan.proofs.Extending.{extended_same}
use Rattle.pssm_plan.proofs.Growing.{AddedBy}
use Rattle.pssm_plan.proofs.AddedCalls.{OpenedAs, one_more_restored, restored_all}
use Rattle.pssm_plan.proofs.roster.Roster.list_as_restored.Goals as goal

pub loop-one-preserved : goal.loop-one-preserved
loop-one-preserved c =
    one_more_restored c.args.machine.now c.args.s c.args.self.now.calls.items c.args.restored.now c.loop-one.one-index _ _ _ _ _
    c.loop-one-test.true c.is_of-wanted.ensures c.restored_mode.ensures c.loop-one.invariant c.list_regions.ensures.calls c.in_ok-list_regions.ensures.added

pub returns-clause-added : goal.returns-clause-added
returns-clause-added c =
    let whole = take_all c.loop-one.one-index c.args.restored.now (omega (arith, c.loop-one-test.false)) in
    extended_same c.args.machine.now _ _ (AddedBy (OpenedAs c.args.machine.now c.args.s) c.args.restored.now)
    (IsRestoredOf c.args.machine.now c.args.restored.now c.args.s)
    (restored_all c.args.machine.now c.args.s c.args.restored.now)
    (rw whole at c.loop-one.invariant.extended)
