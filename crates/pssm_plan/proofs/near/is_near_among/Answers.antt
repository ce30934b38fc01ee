-- each turn looks at one transition more
use Rattle.std.proofs.Common.{get_or, subst}
use Rattle.std.proofs.lemmas.List.Elements.{Contains-get_or}
use Rattle.std.proofs.lemmas.Bool.{false≢true}
use Rattle.pssm_model.specs.declared.ids.TransId.{TransId}
use Rattle.pssm_model.proofs.ElementLaws.{enters_one}
use Rattle.pssm_legs.proofs.NoneSoFar.{refuted, none_more, none_at_all}
use Rattle.pssm_plan.specs.inner.Near.{IsNear, LeadsNear}
use Rattle.pssm_plan.proofs.near.is_near_among.Goals as goal

pub target-requires : goal.target-requires
target-requires c =
    let d : TransId = record { 0 = 0 } in
    c.requires.there (get_or c.args.transitions.now c.loop-t.t-index d) (Contains-get_or c.args.transitions.now c.loop-t.t-index d c.loop-t-test.true)

pub loop-t-preserved : goal.loop-t-preserved
loop-t-preserved c =
    let d : TransId = record { 0 = 0 } in
    none_more (λ (t : TransId). LeadsNear c.args.machine.now t c.args.s) c.args.transitions.now c.loop-t.t-index c.loop-t.invariant d c.loop-t-test.true
    (λ h. refuted c.is_near.result c.if-is_near.false c.is_near.ensures
    (subst (λ v. IsNear c.args.machine.now v c.args.s)
    (enters_one c.args.machine.now (get_or c.args.transitions.now c.loop-t.t-index d) h.0 c.target.result h.1 c.target.ensures.enters) h.2))

pub returns : goal.returns
returns c = (
  λ f. absurd (false≢true f),
  λ h. absurd (none_at_all (λ (t : TransId). LeadsNear c.args.machine.now t c.args.s) c.args.transitions.now c.loop-t.t-index c.loop-t.invariant
      c.loop-t-test.false h.0 h.1 h.2),
)
