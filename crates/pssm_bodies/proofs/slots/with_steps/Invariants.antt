use Rattle.std.proofs.Common.{◌≡◌, ◌++◌, map, take}
use Rattle.pssm_model.specs.declared.ids.ActId.{ActId}
use Rattle.pssm_bodies.specs.declared.slot.Reading.TheVariants.{Steps}
use Rattle.pssm_bodies.specs.Slots.{slot}
use Rattle.pssm_bodies.proofs.slots.with_steps.Given as goal

abbrev pub invariant-loop-step : goal.invariant-loop-step
invariant-loop-step l = l.slots.items ≡ l.fn.slots.items ++ map (λ (a : ActId). slot Steps a.0) (take l.step-index l.steps)
