use Rattle.std.proofs.Common.{take, Contains}
use Rattle.pssm_model.specs.declared.steps.Item.{Item}
use Rattle.pssm_model.specs.declared.steps.Item.TheVariants.{Effect}
use Rattle.pssm_plan.specs.declared.ways.Way.{Way}
use Rattle.pssm_plan.specs.inner.ByWays.{orders_by}
use Rattle.pssm_plan.specs.inner.Clear.{IsExitIn}
use Rattle.pssm_plan.proofs.clear.is_within.Given as goal

-- the ways so far order exits in the region alone before the effect
abbrev pub invariant-loop-way : goal.invariant-loop-way
invariant-loop-way l = (way : Way) → Contains (take l.way-index l.ways) way → (x : Item) → orders_by l.machine way x (Effect l.t) → IsExitIn l.machine l.r x
