-- the leg that calls the first item says what comes behind it
use Rattle.pssm_legs.proofs.OneCalls.{tells_behind}
use Rattle.pssm_legs.proofs.callers.is_followed.Goals as goal

pub follows-requires-clause-leg : goal.follows-requires-clause-leg
follows-requires-clause-leg c = c.requires.legs.each c.args.place c.leg_at-leg.result.now c.leg_at-leg.ensures

pub returns : goal.returns
returns c = λ p are.
    tells_behind c.regions-shaped.ensures.shaped c.requires.rules p c.args.legs.now are c.args.fires c.args.place c.leg_at-leg.result.now c.args.first
    c.args.second c.follows.result c.leg_at-leg.ensures c.requires.one c.requires.place c.follows.ensures
