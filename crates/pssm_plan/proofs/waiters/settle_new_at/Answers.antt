use Rattle.std.proofs.Common.{◌+◌, false, refl, ap}
use Rattle.std.proofs.lemmas.List.{get_or_default}
use Rattle.pssm_model.specs.declared.steps.Item.TheVariants.{Exit}
use Rattle.pssm_plan.specs.declared.roster.Call.{Call}
use Rattle.pssm_plan.specs.inner.Sequence.{IsSequence}
use Rattle.pssm_plan.specs.inner.Passes.{NewLeft}
use Rattle.pssm_plan.proofs.ApartCalls.{new_now}
use Rattle.pssm_plan.proofs.Passes.{new_more, settled_put, put_sure}
use Rattle.pssm_plan.proofs.waiters.settle_new_at.Goals as goal

pub look_new-wait-requires-clause-new : goal.look_new-wait-requires-clause-new
look_new-wait-requires-clause-new c =
    let d : Call = record { item = Exit (record { 0 = 0 }); ran = false; blocked = false; seen = 0 } in
    new_now c.args.machine.now c.args.ways.now c.args.calls.now c.args.calls.now c.args.since c.args.place d
    (refl, λ k e lt. (refl, refl)) c.requires.new c.requires.there c.requires.from

pub returns-clause-left : goal.returns-clause-left
returns-clause-left c =
    let d : Call = record { item = Exit (record { 0 = 0 }); ran = false; blocked = false; seen = 0 } in
    let now = c.args.calls.now in
    let p = c.args.place in
    let Comes = IsSequence c.args.machine.now c.args.ways.now in
    let s = settled_put Comes now c.put.new.calls p c.look_new-wait.result d c.requires.there c.put.ensures.put c.look_new-wait.ensures in
    put_sure Comes now c.put.new.calls p s c.requires.there (NewLeft p) (NewLeft (p + 1)) c.requires.left
    (λ k x other h. new_more Comes p now c.put.new.calls k x other h)

pub look_new-wait-requires-clause-own : goal.look_new-wait-requires-clause-own
look_new-wait-requires-clause-own c = λ e.
    let d : Call = record { item = Exit (record { 0 = 0 }); ran = false; blocked = false; seen = 0 } in
    ap (λ (x : Call). x.item) (get_or_default c.args.calls.now c.args.place e d c.requires.there)
