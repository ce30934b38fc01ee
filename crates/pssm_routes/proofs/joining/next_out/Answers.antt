use Rattle.pssm_routes.proofs.Ceilings.{owner_there, home_is_next, none_out}
use Rattle.pssm_routes.proofs.joining.next_out.Goals as goal

pub home-requires : goal.home-requires
home-requires c = owner_there _ c.regions-shaped.ensures.shaped _ _ c.in-State.ensures

pub returns-in-State-clause-some : goal.returns-in-State-clause-some
returns-in-State-clause-some c = home_is_next _ c.regions-shaped.ensures.shaped _ _ _ c.in-State.ensures c.home.ensures.home

pub returns-in_default : goal.returns-in_default
returns-in_default c = record {
  inside = tt;
  some = tt;
  none = none_out _ c.regions-shaped.ensures.shaped _ _ c.region_owner.ensures c.in_default.not-State;
}
