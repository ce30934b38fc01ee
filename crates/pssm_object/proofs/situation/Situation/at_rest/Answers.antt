-- a finished plan is that of a step that has run out
use Rattle.std.proofs.Common.{refl}
use Rattle.pssm_object.proofs.PlanItems.{plan_is}
use Rattle.pssm_object.proofs.situation.Situation.at_rest.Goals as goal

pub returns-then-finished : goal.returns-then-finished
returns-then-finished c =
    λ m h. (
      c.in-Some.plan,
      c.in-Some.is,
      (c.if-finished.ensures m (plan_is m c.args.self.now.plan c.in-Some.plan c.in-Some.is h)).0 refl,
    )
