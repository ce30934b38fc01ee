use Rattle.std.proofs.Common.{◌≡◌, IsTrue, true, false, subst, ⊎_elim, arith, get_or}
use Rattle.std.proofs.lemmas.List.{take_all}
use Rattle.std.proofs.lemmas.List.Elements.{Contains-get_or}
use Rattle.pssm_model.specs.declared.steps.Item.TheVariants.{Exit}
use Rattle.pssm_plan.specs.declared.roster.Call.{Call}
use Rattle.pssm_plan.proofs.Taken.{taken_cases}
use Rattle.pssm_plan.proofs.roster.have_all_run.Goals as goal

pub returns-then-not-call : goal.returns-then-not-call
returns-then-not-call c =
    let d : Call = record { item = Exit (record { 0 = 0 }); ran = false; blocked = false; seen = 0 } in (
      λ f. absurd (let e : false ≡ true = f in cc),
      λ all. (let ran = all (get_or c.args.calls.now c.loop-call.call-index d) (Contains-get_or c.args.calls.now c.loop-call.call-index d c.loop-call-test.true) in
          let not = c.if-not-call.true in cc),
    )

pub loop-call-preserved : goal.loop-call-preserved
loop-call-preserved c =
    let d : Call = record { item = Exit (record { 0 = 0 }); ran = false; blocked = false; seen = 0 } in
    λ call inside. ⊎_elim
    (λ was. c.loop-call.invariant call was)
    (λ here. subst (λ (x : Call). IsTrue x.ran) here (let ran = c.if-not-call.false in cc))
    (taken_cases c.args.calls.now c.loop-call.call-index d call c.loop-call-test.true inside)

pub returns : goal.returns
returns c =
    let whole = take_all c.loop-call.call-index c.args.calls.now (omega (arith, c.loop-call-test.false)) in
    let all = rw whole at c.loop-call.invariant in
    (λ t. all, λ h. (let e : true ≡ true = (cc) in e))

pub returns-then-last_waits : goal.returns-then-last_waits
returns-then-last_waits c = (
  λ f. absurd (let e : false ≡ true = f in cc),
  λ all. absurd (c.last_waits.ensures c.if-last_waits.true all),
)
