-- the starts enter one join, or there is one
use Rattle.std.proofs.Common.{None, Contains, sym, subst}
use Rattle.std.proofs.lemmas.Result.{IfOk-weaker}
use Rattle.pssm_model.specs.declared.steps.Route.{Route}
use Rattle.pssm_model.specs.Legs.{On}
use Rattle.pssm_model.specs.RouteWords.{IsStepRoute}
use Rattle.pssm_model_laws.proofs.RouteOrder.{of_start}
use Rattle.pssm_legs.specs.declared.legs.Leg.{Leg}
use Rattle.pssm_legs.specs.inner.Chained.{IsStarAt, IsMade, BeginsRoute}
use Rattle.pssm_legs.proofs.PathRegions.{in_head}
use Rattle.pssm_legs.proofs.Chains.{on_within}
use Rattle.pssm_legs.proofs.NextLegs.{start_begins, starts_are_star, begins_route}
use Rattle.pssm_legs.proofs.legs.leg_of_start.Goals as goal

pub target-target-requires : goal.target-target-requires
target-target-requires c =
    on_within c.regions-shaped.ensures.shaped c.requires.rules c.args.route.now c.requires.route c.args.start
    (of_start c.args.machine.now c.args.route.now c.args.start
    (subst (λ ts. Contains ts c.args.start) (sym c.requires.starts) (in_head c.args.start c.args.more.now)))

pub star_leg-requires-clause-star : goal.star_leg-requires-clause-star
star_leg-requires-clause-star c =
    subst (λ ts. IsStarAt c.args.machine.now ts c.target-target.result) c.requires.starts
    (starts_are_star c.regions-shaped.ensures.shaped c.requires.rules c.args.route.now c.requires.route c.args.start c.target-target.result
    (subst (λ ts. Contains ts c.args.start) (sym c.requires.starts) (in_head c.args.start c.args.more.now))
    c.target-target.ensures.enters (c.has_kind-join.ensures.0 c.if-join.true))

pub chain_leg-requires-clause-begins : goal.chain_leg-requires-clause-begins
chain_leg-requires-clause-begins c =
    start_begins c.regions-shaped.ensures.shaped c.requires.rules c.args.route.now c.requires.route c.args.start c.target-target.result
    (subst (λ ts. Contains ts c.args.start) (sym c.requires.starts) (in_head c.args.start c.args.more.now))
    c.target-target.ensures.enters
    (λ k. (let yes = c.has_kind-join.ensures.1 k in let not = c.if-join.false in cc))

pub returns-then-join : goal.returns-then-join
returns-then-join c =
    let start = subst (λ ts. Contains ts c.args.start) (sym c.requires.starts) (in_head c.args.start c.args.more.now) in
    IfOk-weaker c.star_leg.result
    (λ (leg : Leg). (p : Route) → IsStepRoute c.args.machine.now p → On p c.args.start → IsMade c.args.machine.now p c.args.start None leg)
    (BeginsRoute c.args.machine.now c.args.route.now)
    (λ leg made. begins_route c.args.machine.now c.args.route.now c.args.start leg start
    (made c.args.route.now c.requires.route (of_start c.args.machine.now c.args.route.now c.args.start start)))
    c.star_leg.ensures

pub returns-else-join : goal.returns-else-join
returns-else-join c =
    let start = subst (λ ts. Contains ts c.args.start) (sym c.requires.starts) (in_head c.args.start c.args.more.now) in
    IfOk-weaker c.chain_leg.result (IsMade c.args.machine.now c.args.route.now c.args.start None) (BeginsRoute c.args.machine.now c.args.route.now)
    (λ leg made. begins_route c.args.machine.now c.args.route.now c.args.start leg start made) c.chain_leg.ensures
