use Rattle.std.proofs.Common.{subst}
use Rattle.pssm_model.specs.declared.steps.Item.TheVariants.{Effect}
use Rattle.pssm_plan.specs.inner.ByWays.{orders_by}
use Rattle.pssm_plan.proofs.ApartPairs.{beside}
use Rattle.pssm_plan.proofs.FreeCalls.{unset_by}
use Rattle.pssm_plan.proofs.apart.may_follow.Goals as goal

pub returns-in-Effect : goal.returns-in-Effect
returns-in-Effect c = λ h.
    unset_by c.is_of_star.result
    (λ star. beside c.regions-shaped.ensures.shaped c.requires.rules c.args.way.now c.requires.way c.args.t c.in-Effect.u (c.is_of_star.ensures star)
    (subst (orders_by c.args.machine.now c.args.way.now (Effect c.args.t)) c.in-Effect.is h))
