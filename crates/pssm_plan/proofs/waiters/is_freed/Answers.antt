use Rattle.std.proofs.Common.{◌≡◌, ◌<◌, false, length, get_or, subst, arith}
use Rattle.std.proofs.lemmas.List.{get_or_default}
use Rattle.pssm_model.specs.declared.steps.Item.TheVariants.{Exit}
use Rattle.pssm_plan.specs.declared.roster.Call.{Call}
use Rattle.pssm_plan.specs.inner.Clear.{LeadsTo}
use Rattle.pssm_plan.specs.inner.Sequence.{IsSequence}
use Rattle.pssm_plan.proofs.JunctionEffects.{led_passed}
use Rattle.pssm_plan.proofs.waiters.is_freed.Goals as goal

pub returns-then-is_old : goal.returns-then-is_old
returns-then-is_old c = λ ok e.
    let d : Call = record { item = Exit (record { 0 = 0 }); ran = false; blocked = false; seen = 0 } in
    let calls = c.args.calls.now in
    let ran = c.args.ran in
    let place = c.args.place in
    let Comes = IsSequence c.args.machine.now c.args.ways.now in
    let old : c.args.ran < c.args.since.calls = c.is_old.ensures.0 c.if-is_old.true in
    let inside : c.args.ran < length c.args.calls.now = (let there = c.requires.there in omega (arith, old, there)) in
    led_passed Comes calls ran (get_or calls ran d) (get_or calls place e).item c.requires.once inside (λ x. get_or_default calls ran x d inside)
    (c.leads_on.ensures.ran ok) (c.requires.clear ran d old inside (c.leads_on.ensures.free ok))
    (subst (λ (x : Call). LeadsTo Comes (get_or calls ran d).item x.item) (get_or_default calls place d e c.requires.inside) (c.leads_on.ensures.leads ok))
