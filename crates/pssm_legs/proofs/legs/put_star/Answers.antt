-- all transitions out of a fork are one leg
use Rattle.std.proofs.Common.{Contains, refl, sym, subst, inr, arith}
use Rattle.pssm_legs.specs.inner.Chained.{IsStarAt}
use Rattle.pssm_legs.proofs.PathRegions.{in_head}
use Rattle.pssm_legs.proofs.NextLegs.{end_there, out_of_fork, star_put, none_begin}
use Rattle.pssm_legs.proofs.legs.put_star.Goals as goal

pub outgoing-requires : goal.outgoing-requires
outgoing-requires c =
    end_there c.regions-shaped.ensures.shaped c.requires.rules c.args.route.now c.requires.route c.requires.end.0.named c.args.end c.requires.end.3

pub star_leg-requires-clause-hub : goal.star_leg-requires-clause-hub
star_leg-requires-clause-hub c =
    end_there c.regions-shaped.ensures.shaped c.requires.rules c.args.route.now c.requires.route c.requires.end.0.named c.args.end c.requires.end.3

pub star_leg-requires-clause-star : goal.star_leg-requires-clause-star
star_leg-requires-clause-star c =
    subst (λ ts. IsStarAt c.args.machine.now ts c.args.end) c.in-Some.ensures.cases.0 (inr (c.requires.kind, c.outgoing.ensures.items))

pub returns-in_ok-push-in-Some : goal.returns-in_ok-push-in-Some
returns-in_ok-push-in-Some c =
    let x = c.in-Some.named.now in
    let l = (c.outgoing.ensures.items x).0 (subst (λ ts. Contains ts x) (sym c.in-Some.ensures.cases.0) (in_head x c.in-Some.more.now)) in
    star_put c.regions-shaped.ensures.shaped c.requires.rules c.args.route.now c.requires.route c.args.legs.now _ _ refl c.in_ok-push-in-Some.ensures.items c.args.place c.args.end x
    c.requires.kind l c.requires.so_far c.requires.end
    (c.in_ok-leg-in-Some.ensures c.args.route.now c.requires.route
    (out_of_fork c.regions-shaped.ensures.shaped c.requires.rules c.args.route.now c.requires.route c.requires.end.0.named c.args.end c.requires.end.3 x c.requires.kind l))

pub returns-in-None : goal.returns-in-None
returns-in-None c =
    none_begin c.regions-shaped.ensures.shaped c.requires.rules c.args.route.now c.requires.route c.args.legs.now c.args.place c.args.end c.requires.so_far c.requires.end
    (λ d cut l. (
    let at = (c.outgoing.ensures.items d).1 l in let lt = at.1 in let none = c.in-None.ensures.cases in omega (arith, lt, none)))
