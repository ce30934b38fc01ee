use Rattle.std.proofs.Common.{◌≡◌, ◌+◌, length, ap, ◌∙◌, arith}
use Rattle.pssm_enabled.proofs.TrailLaws.{traced_other, traced_skip, traced_all, traced_none}
use Rattle.pssm_enabled.proofs.tracing.later_transitions.Goals.{then-ne+in_ok-push, else-ne, else-loop-test, then-loop-test+in_default}
use Rattle.pssm_enabled.proofs.tracing.later_transitions.Goals as goal

pub loop-preserved : goal.loop-preserved
loop-preserved c =
    let a = c.args in
    let step = c.in-Some.step in
    let was = c.loop.found.items in
    let now = c.if-ne.found.items in
    let next = c.step_before-next.result in
    elim c.if-ne.branch [
      | then-ne+in_ok-push w ↦ traced_other a.steps.now a.start a.last was now c.loop.next next step c.loop.counter c.ne.result c.ne.ensures w.if-ne.true
          (ap (λ v. v.items) w.found-is ∙ w.in_ok-push.ensures.items) c.in-Some.is c.step_before-next.ensures c.loop.invariant
      | else-ne w ↦ traced_skip a.steps.now a.start a.last was now c.loop.next next step c.loop.counter c.ne.result c.ne.ensures w.if-ne.false
          (ap (λ v. v.items) w.found-is) c.in-Some.is c.step_before-next.ensures c.loop.invariant
    ]

pub returns : goal.returns
returns c =
    let a = c.args in
    let found = c.loop.found.items in
    elim c.loop-test.branch [
      | else-loop-test w ↦ (
          let all : c.loop.counter ≡ length a.steps.now + 1 = omega (arith, c.requires, w.loop-test.false, c.loop.auto.counter-end) in
          traced_all a.steps.now a.start a.last found c.loop.next c.loop.counter all c.loop.invariant
          )
      | then-loop-test+in_default w ↦ traced_none a.steps.now a.start a.last found c.loop.next c.loop.counter w.in_default.is c.loop.invariant
    ]
