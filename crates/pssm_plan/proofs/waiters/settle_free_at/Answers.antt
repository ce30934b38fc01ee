use Rattle.std.proofs.Common.{◌<◌, ◌+◌, false, length, arith}
use Rattle.pssm_model.specs.declared.steps.Item.TheVariants.{Exit}
use Rattle.pssm_plan.specs.declared.roster.Call.{Call}
use Rattle.pssm_plan.specs.inner.Sequence.{IsSequence}
use Rattle.pssm_plan.specs.inner.Passes.{FreeLeft}
use Rattle.pssm_plan.proofs.StandingItems.{is_false}
use Rattle.pssm_plan.proofs.Passes.{behind_none, free_not, free_more, settled_put, put_sure, put_alike}
use Rattle.pssm_plan.proofs.waiters.settle_free_at.Goals as goal

pub look_free-wait-requires-clause-apart : goal.look_free-wait-requires-clause-apart
look_free-wait-requires-clause-apart c =
    let d : Call = record { item = Exit (record { 0 = 0 }); ran = false; blocked = false; seen = 0 } in
    behind_none c.args.machine.now c.args.ways.now c.args.calls.now c.args.since c.args.place d c.requires.new c.requires.old
    (let within = c.requires.new.within in let old = c.requires.old in omega (arith, within, old))

pub returns-then-may_wait_at-clause-left : goal.returns-then-may_wait_at-clause-left
returns-then-may_wait_at-clause-left c =
    let d : Call = record { item = Exit (record { 0 = 0 }); ran = false; blocked = false; seen = 0 } in
    let now = c.args.calls.now in
    let p = c.args.place in
    let Comes = IsSequence c.args.machine.now c.args.ways.now in
    let lt : c.args.place < length c.args.calls.now = (let within = c.requires.new.within in let old = c.requires.old in omega (arith, within, old)) in
    let s = settled_put Comes now c.put.new.calls p c.look_free-wait.result d lt c.put.ensures.put c.look_free-wait.ensures in
    put_sure Comes now c.put.new.calls p s lt (FreeLeft Comes c.args.since.calls c.args.ran p) (FreeLeft Comes c.args.since.calls c.args.ran (p + 1))
    c.requires.left
    (λ k x other h. free_more Comes c.args.since.calls c.args.ran p now c.put.new.calls (put_alike Comes now c.put.new.calls p s lt) k x other h)

pub returns-else-may_wait_at-clause-left : goal.returns-else-may_wait_at-clause-left
returns-else-may_wait_at-clause-left c =
    let d : Call = record { item = Exit (record { 0 = 0 }); ran = false; blocked = false; seen = 0 } in
    free_not c.args.machine.now c.args.ways.now c.args.calls.now c.args.since c.args.ran c.args.place d c.requires.new
    (λ free. c.may_wait_at.ensures.none (is_false _ c.if-may_wait_at.false) d free) c.requires.left
