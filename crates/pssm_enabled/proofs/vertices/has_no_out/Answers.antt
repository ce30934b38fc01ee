-- no transition is listed
use Rattle.pssm_enabled.proofs.Marks.{empty_is}
use Rattle.pssm_enabled.proofs.vertices.has_no_out.Goals as goal

pub returns : goal.returns
returns c =
    let is = empty_is c.outgoing.result.now c.is_empty.result c.is_empty.ensures in (
      λ h t leaves. is.0 h t ((c.outgoing.ensures.items t).1 leaves),
      λ h. is.1 (λ t inside. h t ((c.outgoing.ensures.items t).0 inside)),
    )
