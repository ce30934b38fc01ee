use Rattle.std.proofs.Common.{◌≡◌, ◌<◌, ◌-◌, true, false, length, arith, ⊎_elim}
use Rattle.std.proofs.lemmas.Bool.{cases_lt}
use Rattle.pssm_model.specs.declared.steps.Item.TheVariants.{Exit}
use Rattle.pssm_plan.specs.declared.roster.Call.{Call}
use Rattle.pssm_plan.specs.inner.Sequence.{IsNestedPair}
use Rattle.pssm_plan.proofs.Looking.{free_less}
use Rattle.pssm_plan.proofs.waiting.last_nested.Goals as goal

pub returns-then-holds_up_nested-clause-none : goal.returns-then-holds_up_nested-clause-none
returns-then-holds_up_nested-clause-none c = λ j e low less inside up.
    c.loop-k.invariant j e (let some = c.loop-k-test.true in omega (arith, some, low)) less inside up

pub loop-k-preserved : goal.loop-k-preserved
loop-k-preserved c =
    let d : Call = record { item = Exit (record { 0 = 0 }); ran = false; blocked = false; seen = 0 } in
    let some = c.loop-k-test.true in
    let high = c.loop-k.auto.k in
    let end = c.requires.end in
    let lt : c.loop-k.k - 1 < length c.args.calls.now = omega (arith, some, high, end) in
    free_less (IsNestedPair c.args.machine.now) c.args.calls.now c.args.call.now.item (c.loop-k.k - 1) c.args.end d lt
    (λ h. absurd (let yes : c.holds_up_nested.result ≡ true = c.holds_up_nested.ensures.1 h in let no = c.if-holds_up_nested.false in cc (yes, no)))
    (λ j e low less inside up. c.loop-k.invariant j e (omega (arith, some, low)) less inside up)

-- none of those that have run holds it up
pub returns-clause-none : goal.returns-clause-none
returns-clause-none c = λ k d low less inside up.
    ⊎_elim
    (λ ran. up.1 (c.requires.done k d ran inside))
    (λ left. c.loop-k.invariant k d (let over = c.loop-k-test.false in omega (arith, over, left)) less inside up)
    (cases_lt k c.args.from)
