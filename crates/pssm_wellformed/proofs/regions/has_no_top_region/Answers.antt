use Rattle.pssm_wellformed.proofs.Listing.{empty_iff}
use Rattle.pssm_wellformed.proofs.regions.has_no_top_region.Goals as goal

pub returns : goal.returns
returns c =
    let is = c.top_regions.ensures.items in
    let iff = empty_iff c.top_regions.result.now c.is_empty.result c.is_empty.ensures in (
      λ t r h. iff.0 t r ((is r).1 h),
      λ none. iff.1 (λ r c'. none r ((is r).0 c')),
    )
