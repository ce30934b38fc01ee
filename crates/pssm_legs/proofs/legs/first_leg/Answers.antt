-- a route has a start
use Rattle.std.proofs.Common.{◌∙◌, ap, sym, arith, length}
use Rattle.pssm_legs.proofs.NextLegs.{some_starts}
use Rattle.pssm_legs.proofs.legs.first_leg.Goals as goal

pub leg_of_start-requires-clause-starts : goal.leg_of_start-requires-clause-starts
leg_of_start-requires-clause-starts c = sym c.as_slice.ensures ∙ c.in-Some.ensures.cases.0

pub unreachable-requires : goal.unreachable-requires
unreachable-requires c =
    let some = some_starts c.regions-shaped.ensures.shaped c.requires.rules c.args.route.now c.requires.route in
    let same = ap length c.as_slice.ensures in
    let none = c.in-None.ensures.cases in
    omega (arith, some, same, none)
