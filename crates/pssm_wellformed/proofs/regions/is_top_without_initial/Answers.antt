use Rattle.std.proofs.Common.{◌∙◌, Some, ap}
use Rattle.pssm_wellformed.proofs.Listing.{empty_iff}
use Rattle.pssm_wellformed.proofs.regions.is_top_without_initial.Goals as goal

pub returns-in-Top : goal.returns-in-Top
returns-in-Top c =
    let is = c.initials_of.ensures.items in
    let iff = empty_iff c.initials_of.result.now c.is_empty.result c.is_empty.ensures in (
      λ t. (c.region_owner.ensures ∙ ap Some c.in-Top.is, λ v h. iff.0 t v ((is v).1 h)),
      λ h. iff.1 (λ v in_it. h.1 v ((is v).0 in_it)),
    )
