-- by the vertex on which the leg ends
use Rattle.std.proofs.Common.{refl}
use Rattle.pssm_legs.proofs.NextLegs.{none_begin, not_cut}
use Rattle.pssm_legs.proofs.NoneSoFar.{refuted}
use Rattle.pssm_legs.proofs.legs.put_next.Goals as goal

pub has_kind-fork-requires : goal.has_kind-fork-requires
has_kind-fork-requires c = (c.requires.so_far.inside c.args.place c.leg_at-leg.result.now c.leg_at-leg.ensures).last

pub begins_chains-requires : goal.begins_chains-requires
begins_chains-requires c = (c.requires.so_far.inside c.args.place c.leg_at-leg.result.now c.leg_at-leg.ensures).last

pub put_star-requires-clause-end : goal.put_star-requires-clause-end
put_star-requires-clause-end c =
    (c.leg_at-leg.result.now, c.leg_at-leg.ensures, refl, (c.requires.so_far.each c.args.place c.leg_at-leg.result.now c.leg_at-leg.ensures).one_last)

pub put_chains-requires-clause-end : goal.put_chains-requires-clause-end
put_chains-requires-clause-end c =
    (c.leg_at-leg.result.now, c.leg_at-leg.ensures, refl, (c.requires.so_far.each c.args.place c.leg_at-leg.result.now c.leg_at-leg.ensures).one_last)

pub returns-else-begins_chains : goal.returns-else-begins_chains
returns-else-begins_chains c =
    none_begin c.regions-shaped.ensures.shaped c.requires.rules c.args.route.now c.requires.route c.args.legs.now c.args.place c.leg_at-leg.result.now.last c.requires.so_far
    (c.leg_at-leg.result.now, c.leg_at-leg.ensures, refl, (c.requires.so_far.each c.args.place c.leg_at-leg.result.now c.leg_at-leg.ensures).one_last)
    (λ d cut l. not_cut c.args.machine.now c.leg_at-leg.result.now.last (refuted _ c.if-fork.false c.has_kind-fork.ensures)
    (refuted _ c.if-begins_chains.false c.begins_chains.ensures) cut)
