use Rattle.std.proofs.Common.{take, Contains}
use Rattle.pssm_model.specs.declared.steps.Item.{Item}
use Rattle.pssm_model.specs.declared.steps.Item.TheVariants.{Enter}
use Rattle.pssm_plan.specs.declared.ways.Way.{Way}
use Rattle.pssm_plan.specs.inner.ByWays.{orders_by}
use Rattle.pssm_plan.specs.inner.Clear.{IsDone}
use Rattle.pssm_plan.proofs.clear.is_led.Given as goal

-- what the ways so far order before the entry has run
abbrev pub invariant-loop-way : goal.invariant-loop-way
invariant-loop-way l = (way : Way) → Contains (take l.way-index l.ways) way → (x : Item) → orders_by l.machine way x (Enter l.s) → IsDone l.calls x
