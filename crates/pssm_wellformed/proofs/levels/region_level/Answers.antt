use Rattle.std.proofs.Common.{Some, ap, ◌∙◌, arith}
use Rattle.pssm_wellformed.proofs.Climbing.{inner_level, outer_level}
use Rattle.pssm_wellformed.proofs.Places.{owning_state_there}
use Rattle.pssm_wellformed.proofs.levels.region_level.Goals as goal

pub depth-requires : goal.depth-requires
depth-requires c = owning_state_there c.args.machine.now c.requires.shape c.args.region c.in-State.state (c.region_owner.ensures ∙ ap Some c.in-State.is)

pub returns-in-State-clause-level : goal.returns-in-State-clause-level
returns-in-State-clause-level c =
    inner_level c.args.machine.now c.requires.shape c.args.region c.in-State.state c.depth.result (c.region_owner.ensures ∙ ap Some c.in-State.is) c.depth.ensures.depth

pub returns-in_default : goal.returns-in_default
returns-in_default c = record {
  level = outer_level c.args.machine.now c.requires.shape c.args.region c.region_owner.result c.region_owner.ensures c.in_default.not-State;
  at_most = omega arith;
}
