use Rattle.std.proofs.Common.{List, arith, sym, subst}
use Rattle.std.proofs.lemmas.List.{take_all}
use Rattle.pssm_plan.specs.declared.roster.Call.{Call}
use Rattle.pssm_plan.specs.inner.Marks.{IsListed}
use Rattle.pssm_plan.proofs.AddedCalls.{none_met_more}
use Rattle.pssm_plan.proofs.meeting.meets_each.Goals as goal

pub loop-call-preserved : goal.loop-call-preserved
loop-call-preserved c =
    none_met_more c.args.machine.now c.args.way.now c.args.calls.now c.loop-call.call-index _ _ c.loop-call-test.true
    c.may_call.ensures c.if-may_call.false c.loop-call.invariant

pub returns : goal.returns
returns c = λ h.
    let whole = take_all c.loop-call.call-index c.args.calls.now (omega (arith, c.loop-call-test.false)) in
    absurd (c.loop-call.invariant h.0 (subst (λ (l : List Call). IsListed l h.0) (sym whole) h.1) h.2)
