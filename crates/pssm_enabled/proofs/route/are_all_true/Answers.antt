-- the starts and the other transitions
use Rattle.pssm_model.specs.Routes.{IsTrueAt}
use Rattle.pssm_enabled.proofs.Fitting.{all_on}
use Rattle.pssm_enabled.proofs.route.are_all_true.Goals as goal

pub returns-then-are_true : goal.returns-then-are_true
returns-then-are_true g c values tells =
    let is = all_on c.args.machine.now (IsTrueAt c.args.machine.now values) c.args.starts.now c.args.rest.now in (
      λ h. is.0 ((c.are_true.ensures values tells).0 c.if-are_true.true, (c.are_true-then-are_true.ensures values tells).0 h),
      λ h. (c.are_true-then-are_true.ensures values tells).1 (is.1 h).1,
    )

pub returns-else-are_true : goal.returns-else-are_true
returns-else-are_true g c values tells = (
  λ holds. absurd (let fails = c.if-are_true.false in cc (fails, holds)),
  λ h. (c.are_true.ensures values tells).1 ((all_on c.args.machine.now (IsTrueAt c.args.machine.now values) c.args.starts.now c.args.rest.now).1 h).0,
)
