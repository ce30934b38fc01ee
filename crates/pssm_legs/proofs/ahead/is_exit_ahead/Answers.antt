-- the first leg that exits around the State exits it
use Rattle.pssm_legs.proofs.CoveringLegs.{exit_ahead}
use Rattle.pssm_legs.proofs.ahead.is_exit_ahead.Goals as goal

pub returns-then-fires : goal.returns-then-fires
returns-then-fires c =
    let told = exit_ahead c.args.machine.now c.regions-shaped.ensures.shaped c.args.s c.requires.state c.args.legs.now c.requires.legs c.args.fires c.args.place c.args.leg.now c.args.second c.requires.place in (
      λ is. told.0 (c.if-fires.true, c.is_covered_ahead.ensures.0 is),
      λ h. c.is_covered_ahead.ensures.1 (told.1 h).1,
    )
