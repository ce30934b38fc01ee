use Rattle.pssm_model.specs.declared.ids.TransId.{TransId}
use Rattle.pssm_wellformed.proofs.Listing.{longer_iff}
use Rattle.pssm_wellformed.proofs.counts.meets_two.Goals as goal

pub returns : goal.returns
returns c =
    let is = c.meeting.ensures.items in
    let iff = longer_iff (λ (t : TransId). t.0) c.meeting.result.now c.meeting.ensures.ascending in (
      λ t. let two = iff.0 t in (two.0, two.1, two.2, (is two.0).0 two.3, (is two.1).0 two.4),
      λ h. iff.1 (h.0, h.1, h.2, (is h.0).1 h.3, (is h.1).1 h.4),
    )
