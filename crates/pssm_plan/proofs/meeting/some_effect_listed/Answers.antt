use Rattle.std.proofs.Common.{List, Contains, arith, sym, subst, ⊎_elim}
use Rattle.std.proofs.lemmas.List.{take_all}
use Rattle.pssm_model.specs.declared.ids.TransId.{TransId}
use Rattle.pssm_model.specs.declared.steps.Item.TheVariants.{Effect}
use Rattle.pssm_plan.specs.inner.Marks.{IsListed}
use Rattle.pssm_plan.proofs.Taken.{taken_cases}
use Rattle.pssm_plan.proofs.meeting.some_effect_listed.Goals as goal

pub loop-t-preserved : goal.loop-t-preserved
loop-t-preserved c = λ t inside listed.
    let d : TransId = record { 0 = 0 } in
    ⊎_elim
    (λ was. c.loop-t.invariant t was listed)
    (λ now. let met = c.is_listed.ensures.1 (subst (λ (u : TransId). IsListed c.args.calls.now.items (Effect u)) (sym now) listed) in
    let no = c.if-is_listed.false in absurd (cc (met, no)))
    (taken_cases c.args.transitions.now c.loop-t.t-index d t c.loop-t-test.true inside)

pub returns : goal.returns
returns c = λ t inside listed.
    let whole = take_all c.loop-t.t-index c.args.transitions.now (omega (arith, c.loop-t-test.false)) in
    absurd (c.loop-t.invariant t (subst (λ (l : List TransId). Contains l t) (sym whole) inside) listed)
