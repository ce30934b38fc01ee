-- what is exited ahead of what the leg calls comes before it
use Rattle.pssm_legs.proofs.OneCalls.{tells_exit}
use Rattle.pssm_legs.proofs.callers.is_exited_before_one.Goals as goal

pub is_exit_ahead-requires-clause-leg : goal.is_exit_ahead-requires-clause-leg
is_exit_ahead-requires-clause-leg c = c.requires.legs.each c.args.other c.leg_at-leg.result.now c.leg_at-leg.ensures

pub returns : goal.returns
returns c = λ p are.
    tells_exit c.regions-shaped.ensures.shaped c.requires.rules p c.args.legs.now are c.args.fires c.args.other c.leg_at-leg.result.now c.args.s c.args.second
    c.is_exit_ahead.result c.leg_at-leg.ensures c.requires.two c.requires.other c.is_exit_ahead.ensures
