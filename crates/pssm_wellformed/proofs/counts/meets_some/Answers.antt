use Rattle.pssm_wellformed.proofs.Listing.{not_empty_iff}
use Rattle.pssm_wellformed.proofs.counts.meets_some.Goals as goal

pub returns : goal.returns
returns c =
    let xs = c.meeting.result.now in
    let is = c.meeting.ensures.items in
    let iff = not_empty_iff xs c.is_empty.result c.is_empty.ensures in (
      λ t. let some = iff.0 t in (some.0, (is some.0).0 some.1),
      λ h. iff.1 (h.0, (is h.0).1 h.1),
    )
