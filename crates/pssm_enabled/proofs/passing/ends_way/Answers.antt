-- as the kind of the vertex asks
use Rattle.std.proofs.Common.{refl}
use Rattle.pssm_enabled.proofs.ListPlaces.{refuted}
use Rattle.pssm_enabled.proofs.PassingLaws.{entry_ends, other_ends}
use Rattle.pssm_enabled.proofs.passing.ends_way.Goals as goal

pub returns-then-is_passed_over : goal.returns-then-is_passed_over
returns-then-is_passed_over c =
    (λ wrong. absurd (cc), λ h. absurd (h.passed (c.is_passed_over.ensures.0 c.if-is_passed_over.true)))

pub returns-then-is_entry_point : goal.returns-then-is_entry_point
returns-then-is_entry_point c =
    let is = entry_ends c.args.machine.now c.args.v (c.is_entry_point.ensures.0 c.if-is_entry_point.true) in
    (λ h. is.0 (c.has_no_out.ensures.0 h), λ h. c.has_no_out.ensures.1 (is.1 h))

pub returns : goal.returns
returns c = (
  λ h. other_ends c.args.machine.now c.args.v (refuted c.is_passed_over.result c.if-is_passed_over.false c.is_passed_over.ensures)
      (refuted c.is_entry_point.result c.if-is_entry_point.false c.is_entry_point.ensures),
  λ h. refl,
)
