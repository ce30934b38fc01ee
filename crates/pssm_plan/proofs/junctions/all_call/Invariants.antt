use Rattle.std.proofs.Common.{take, Contains}
use Rattle.pssm_model.specs.declared.steps.Item.TheVariants.{Effect}
use Rattle.pssm_plan.specs.declared.ways.Way.{Way}
use Rattle.pssm_plan.specs.inner.ByWays.{calls_by}
use Rattle.pssm_plan.proofs.junctions.all_call.Given as goal

-- the ways so far have the transition
abbrev pub invariant-loop-way : goal.invariant-loop-way
invariant-loop-way l = (way : Way) → Contains (take l.way-index l.ways) way → calls_by l.machine way (Effect l.t)
