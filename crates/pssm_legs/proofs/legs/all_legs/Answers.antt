-- one leg after another
use Rattle.std.proofs.Common.{arith}
use Rattle.pssm_legs.specs.inner.Chained.{NothingPut}
use Rattle.pssm_legs.proofs.LegsSoFar.{so_far_begins, few_legs, all_legs}
use Rattle.pssm_legs.proofs.legs.all_legs.Goals as goal

pub legs-init : goal.legs-init
legs-init c = so_far_begins c.regions-shaped.ensures.shaped c.requires.rules c.args.route.now c.requires.route _ c.new-more.ensures.items c.in_ok-first.ensures.1 c.in_ok-first.ensures.0

pub legs-preserved : goal.legs-preserved
legs-preserved c = c.in_ok-put_next.ensures

pub legs-smaller : goal.legs-smaller
legs-smaller c =
    let few = few_legs c.regions-shaped.ensures.shaped c.requires.rules c.args.route.now c.requires.route c.legs.legs c.legs.place NothingPut c.legs.invariant in
    let here = c.legs-test.true in
    let long = c.legs.legs.more.ok.0 in
    omega (arith, few, here, long)

pub returns : goal.returns
returns c =
    all_legs c.regions-shaped.ensures.shaped c.requires.rules c.args.route.now c.requires.route c.legs.legs c.legs.place c.legs.invariant (let past = c.legs-test.false in let long = c.legs.legs.more.ok.0 in omega (arith, past, long))

pub put_next-requires-clause-place : goal.put_next-requires-clause-place
put_next-requires-clause-place c = let here = c.legs-test.true in let long = c.legs.legs.more.ok.0 in omega (arith, here, long)
