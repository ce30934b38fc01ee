use Rattle.std.proofs.Common.{◌≡◌, take}
use Rattle.pssm_model.specs.declared.ids.RegionId.{RegionId}
use Rattle.pssm_model.specs.declared.steps.Item.TheVariants.{Opened}
use Rattle.pssm_model.specs.declared.steps.Mode.TheVariants.{Plain}
use Rattle.pssm_plan.proofs.Growing.{HasGrown, AddedBy}
use Rattle.pssm_plan.proofs.roster.Roster.list_tops.Given as goal

-- the openings of the regions so far are listed
abbrev pub invariant-loop-r : goal.invariant-loop-r
invariant-loop-r l =
    HasGrown l.machine l.fn.self.calls.items
    (AddedBy (λ (r : RegionId) x. x ≡ Opened r Plain) (take l.r-index l.r-items))
    l.self.calls.items
