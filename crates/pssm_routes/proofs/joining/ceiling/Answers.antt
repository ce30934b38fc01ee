use Rattle.std.proofs.Common.{refl, arith}
use Rattle.std.proofs.lemmas.Bool.{false≢true}
use Rattle.pssm_routes.proofs.Ceilings.{climb_begins, climb_goes_on, ceiling_at_source, none_at_source, ceiling_at_top}
use Rattle.pssm_routes.proofs.joining.ceiling.Goals as goal

pub loop-found-init : goal.loop-found-init
loop-found-init c = climb_begins _ _ _ _ _ c.home-region.ensures.there c.home-region.ensures.home c.depth-left.ensures.depth

pub loop-found-preserved : goal.loop-found-preserved
loop-found-preserved c =
    climb_goes_on _ _ _ c.loop-found.found _ _ c.loop-found.left _ c.loop-found.invariant (λ h. false≢true (c.loop-found-test.ensures.1 h))
    c.in-Some.ensures.inside c.in-Some.ensures.some (let more = c.loop-found.invariant.above.1 in omega arith)

pub returns-in-None-clause-some : goal.returns-in-None-clause-some
returns-in-None-clause-some c =
    ceiling_at_top _ _ _ c.loop-found.found _ c.loop-found.left c.loop-found.invariant (λ h. false≢true (c.loop-found-test.ensures.1 h))
    c.in-None.ensures.none

pub returns-clause-some : goal.returns-clause-some
returns-clause-some c =
    ceiling_at_source _ _ _ c.loop-found.found c.loop-found.region c.loop-found.left c.loop-found.invariant (c.loop-found-test.ensures.0 refl)

pub returns-clause-none : goal.returns-clause-none
returns-clause-none c =
    none_at_source _ _ _ c.loop-found.found c.loop-found.region c.loop-found.left c.loop-found.invariant (c.loop-found-test.ensures.0 refl)
