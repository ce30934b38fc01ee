use Rattle.std.proofs.Common.{◌≡◌, take}
use Rattle.pssm_model.specs.declared.ids.TransId.{TransId}
use Rattle.pssm_model.specs.declared.steps.Item.TheVariants.{Effect}
use Rattle.pssm_plan.proofs.Growing.{HasGrown, AddedBy}
use Rattle.pssm_plan.proofs.roster.Roster.list_transitions.Given as goal

-- the effects of the transitions so far are listed
abbrev pub invariant-loop-t : goal.invariant-loop-t
invariant-loop-t l =
    HasGrown l.machine l.fn.self.calls.items (AddedBy (λ (t : TransId) x. x ≡ Effect t) (take l.t-index l.transitions)) l.self.calls.items
