-- the route goes on behind its transitions, and those after the starts leave where one ends
use Rattle.pssm_enabled.proofs.ListPlaces.{refuted}
use Rattle.pssm_enabled.proofs.FewOn.{few_fit, fit_starts, fit_rest, fit_leave}
use Rattle.pssm_enabled.proofs.few.fit_few.Goals as goal

pub returns-then-not-go_on_behind : goal.returns-then-not-go_on_behind
returns-then-not-go_on_behind c = (
  λ wrong. absurd (cc),
  λ fits. absurd (refuted c.go_on_behind.result c.if-not-go_on_behind.true c.go_on_behind.ensures
      (fit_starts c.args.machine.now c.args.starts.now c.args.rest.now fits)),
)

pub returns-then-not-go_on_behind-2 : goal.returns-then-not-go_on_behind-2
returns-then-not-go_on_behind-2 c = (
  λ wrong. absurd (cc),
  λ fits. absurd (refuted c.go_on_behind-2.result c.if-not-go_on_behind-2.true c.go_on_behind-2.ensures
      (fit_rest c.args.machine.now c.args.starts.now c.args.rest.now fits)),
)

pub returns : goal.returns
returns c = (
  λ h. few_fit c.args.machine.now c.args.starts.now c.args.rest.now (c.go_on_behind.ensures.0 c.if-not-go_on_behind.false)
      (c.go_on_behind-2.ensures.0 c.if-not-go_on_behind-2.false) (c.leave_entered.ensures.0 h),
  λ fits. c.leave_entered.ensures.1 (fit_leave c.args.machine.now c.args.starts.now c.args.rest.now fits),
)
