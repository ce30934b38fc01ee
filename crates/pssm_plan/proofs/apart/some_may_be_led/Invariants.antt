use Rattle.std.proofs.Common.{take}
use Rattle.pssm_model.specs.declared.steps.Item.{Item}
use Rattle.pssm_plan.specs.inner.Sequence.{IsOrderedBySome}
use Rattle.pssm_plan.proofs.apart.some_may_be_led.Given as goal

-- none of the ways so far puts anything before the item
abbrev pub invariant-loop-way : goal.invariant-loop-way
invariant-loop-way l = (x : Item) → IsOrderedBySome l.machine (take l.way-index l.ways) x l.item → ⊥
