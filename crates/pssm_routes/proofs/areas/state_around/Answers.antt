-- The State that owns the home of a vertex is the innermost one around it.
use Rattle.std.proofs.Common.{◌∙◌, Some, ap}
use Rattle.pssm_routes.proofs.Around.{owner_there, owner_innermost, none_around}
use Rattle.pssm_routes.proofs.areas.state_around.Goals as goal

pub returns-in-State-clause-there : goal.returns-in-State-clause-there
returns-in-State-clause-there c =
    owner_there c.regions-has_shape.ensures.shaped c.home.result c.in-State.s (c.region_owner.ensures ∙ ap Some c.in-State.is)

pub returns-in-State-clause-innermost : goal.returns-in-State-clause-innermost
returns-in-State-clause-innermost c q inside =
    owner_innermost c.args.v c.in-State.s q c.home.result c.home.ensures.home (c.region_owner.ensures ∙ ap Some c.in-State.is) inside

pub returns-in_default : goal.returns-in_default
returns-in_default c = record {
  there = tt;
  around = tt;
  innermost = tt;
  none = λ q inside. none_around c.regions-has_shape.ensures.shaped c.args.v q c.home.result c.region_owner.result c.home.ensures.home c.region_owner.ensures
      (λ s e. c.in_default.not-State s e) inside;
}
