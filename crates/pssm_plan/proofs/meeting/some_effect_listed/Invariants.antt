use Rattle.std.proofs.Common.{Contains, take}
use Rattle.pssm_model.specs.declared.ids.TransId.{TransId}
use Rattle.pssm_model.specs.declared.steps.Item.TheVariants.{Effect}
use Rattle.pssm_plan.specs.inner.Marks.{IsListed}
use Rattle.pssm_plan.proofs.meeting.some_effect_listed.Given as goal

-- the effect of none of the transitions so far is listed
abbrev pub invariant-loop-t : goal.invariant-loop-t
invariant-loop-t l = (t : TransId) → Contains (take l.t-index l.transitions) t → IsListed l.calls.items (Effect t) → ⊥
