-- the route is the way of the pick
use Rattle.std.proofs.Common.{List, ℤ, refl, subst}
use Rattle.pssm_model.specs.declared.steps.How.TheVariants.{By}
use Rattle.pssm_object.specs.inner.Firing.{IsWayFrom}
use Rattle.pssm_object.proofs.situation.Situation.pick_way.Goals as goal

pub returns : goal.returns
returns c = (
  By c.in_ok-route.route,
  subst (λ (store : List ℤ). IsWayFrom c.args.class.now store c.args.self.now.params c.args.choice c.in_ok-route.route) c.as_slice-store.ensures.value
      c.in_ok-route.ensures,
  refl,
)
