use Rattle.std.proofs.Common.{◌<◌, ◌+◌, false, length, IsTrue, subst, arith}
use Rattle.std.proofs.lemmas.List.{get_or_default}
use Rattle.pssm_model.specs.declared.steps.Item.TheVariants.{Exit}
use Rattle.pssm_plan.specs.declared.roster.Call.{Call}
use Rattle.pssm_plan.specs.inner.Sequence.{IsSequence}
use Rattle.pssm_plan.specs.inner.Passes.{WaitingLeft}
use Rattle.pssm_plan.proofs.JunctionEffects.{free_passed}
use Rattle.pssm_plan.proofs.Passes.{waiting_seen, waiting_more, waiting_not, put_sure, put_alike}
use Rattle.pssm_plan.proofs.waiters.settle_waiting_at.Goals as goal

pub look_behind-requires-clause-seen : goal.look_behind-requires-clause-seen
look_behind-requires-clause-seen c = λ e.
    let d : Call = record { item = Exit (record { 0 = 0 }); ran = false; blocked = false; seen = 0 } in
    let now = c.args.calls.now in
    let lt : c.args.place < length c.args.calls.now = (let within = c.requires.there in let old = c.requires.old in omega (arith, within, old)) in
    let waits = c.waits_for.ensures.0 c.if-waits_for.true in
    waiting_seen (IsSequence c.args.machine.now c.args.ways.now) c.args.since.calls c.args.ran c.args.place c.args.end c.args.place now e c.requires.left
    c.requires.old lt (subst (λ (x : Call). IsTrue x.blocked) (get_or_default now c.args.place d e lt) waits.0)

pub returns-then-waits_for-clause-left : goal.returns-then-waits_for-clause-left
returns-then-waits_for-clause-left c =
    let now = c.args.calls.now in
    let new = c.look_behind.new.calls in
    let p = c.args.place in
    let Comes = IsSequence c.args.machine.now c.args.ways.now in
    let lt : c.args.place < length c.args.calls.now = (let within = c.requires.there in let old = c.requires.old in omega (arith, within, old)) in
    let s = c.look_behind.ensures.settled in
    put_sure Comes now new p s lt (WaitingLeft Comes c.args.since.calls c.args.ran p c.args.end)
    (WaitingLeft Comes c.args.since.calls c.args.ran (p + 1) c.args.end) c.requires.left
    (λ k x other h. waiting_more Comes c.args.since.calls c.args.ran p c.args.end now new (put_alike Comes now new p s lt) k x other h)

pub returns-else-waits_for-clause-left : goal.returns-else-waits_for-clause-left
returns-else-waits_for-clause-left c =
    let d : Call = record { item = Exit (record { 0 = 0 }); ran = false; blocked = false; seen = 0 } in
    waiting_not (IsSequence c.args.machine.now c.args.ways.now) c.args.since.calls c.args.ran c.args.place c.args.end c.args.calls.now d
    (λ waits. let no = c.waits_for.ensures.1 waits in let not = c.if-waits_for.false in cc) c.requires.left

pub look_behind-requires-clause-clear : goal.look_behind-requires-clause-clear
look_behind-requires-clause-clear c =
    free_passed (IsSequence c.args.machine.now c.args.ways.now) c.args.calls.now c.args.since.calls c.args.ran c.args.place c.args.end c.requires.left
