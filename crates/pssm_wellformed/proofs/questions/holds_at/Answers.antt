use Rattle.pssm_wellformed.proofs.questions.holds_at.Goals as goal

pub returns : goal.returns
returns c =
    let is = c.meeting.ensures.items in (
      λ t. let some = c.holds_for_some.ensures.0 t in (some.0, (is some.0).0 some.1, some.2),
      λ h. c.holds_for_some.ensures.1 (h.0, (is h.0).1 h.1, h.2),
    )
