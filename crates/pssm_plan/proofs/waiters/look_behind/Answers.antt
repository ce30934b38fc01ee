use Rattle.std.proofs.Common.{false, length, get_or}
use Rattle.pssm_model.specs.declared.steps.Item.TheVariants.{Exit}
use Rattle.pssm_plan.specs.declared.roster.Call.{Call}
use Rattle.pssm_plan.specs.declared.waiting.Wait.{Wait}
use Rattle.pssm_plan.specs.inner.Sequence.{IsSequence}
use Rattle.pssm_plan.proofs.ClearCalls.{clear_settled}
use Rattle.pssm_plan.proofs.Passes.{settled_put}
use Rattle.pssm_plan.proofs.waiters.look_behind.Goals as goal

pub returns-then-is_freed-clause-settled : goal.returns-then-is_freed-clause-settled
returns-then-is_freed-clause-settled c =
    let d : Call = record { item = Exit (record { 0 = 0 }); ran = false; blocked = false; seen = 0 } in
    let now = c.args.calls.now in
    let wait : Wait = record { blocked = false; seen = length now } in
    let Comes = IsSequence c.args.machine.now c.args.ways.now in
    settled_put Comes now c.put_free.new.calls c.args.place wait d c.requires.there c.put_free.ensures.put
    (clear_settled Comes now c.args.place (get_or now c.args.place d) (c.is_freed.ensures c.if-is_freed.true d))
