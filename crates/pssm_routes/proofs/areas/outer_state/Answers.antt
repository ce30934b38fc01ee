-- there is a State around
use Rattle.pssm_routes.proofs.areas.outer_state.Goals as goal

pub unreachable-requires : goal.unreachable-requires
unreachable-requires c = c.in-None.ensures.none c.requires.inside.0 c.requires.inside.1
