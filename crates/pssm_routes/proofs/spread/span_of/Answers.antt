-- the home of the anchor, or the region of the area
use Rattle.pssm_routes.proofs.Spreading.{inside_span}
use Rattle.pssm_routes.proofs.spread.span_of.Goals as goal

pub returns-then-starts_at-clause-span : goal.returns-then-starts_at-clause-span
returns-then-starts_at-clause-span c =
    inside_span c.args.machine.now c.args.footprint c.in-Inside.s _ c.in-Inside.is (c.starts_at.ensures.0 c.if-starts_at.true) c.home-then-starts_at.ensures.home
