-- as the kind of the source asks
use Rattle.pssm_enabled.proofs.ListPlaces.{refuted}
use Rattle.pssm_enabled.proofs.PassingLaws.{back_over, back_from_entry, back_not}
use Rattle.pssm_enabled.proofs.passing.leads_back.Goals as goal

pub returns-then-is_passed_over : goal.returns-then-is_passed_over
returns-then-is_passed_over g c values tells =
    let is = back_over c.args.machine.now c.source-v.result values c.args.good.now c.args.t c.source-v.ensures.leaves
    (c.is_passed_over.ensures.0 c.if-is_passed_over.true) in
    (λ h. is.0 ((c.is_true_at.ensures values tells).0 h), λ h. (c.is_true_at.ensures values tells).1 (is.1 h))

pub returns-then-is_entry_point : goal.returns-then-is_entry_point
returns-then-is_entry_point g c values tells =
    let is = back_from_entry c.args.machine.now c.source-v.result values c.args.good.now c.args.t c.source-v.ensures.leaves
    (c.is_entry_point.ensures.0 c.if-is_entry_point.true) in
    (λ h. is.0 (c.are_all_good.ensures.0 h), λ h. c.are_all_good.ensures.1 (is.1 h))

pub returns-else-is_entry_point : goal.returns-else-is_entry_point
returns-else-is_entry_point g c values tells = (
  λ holds. absurd (let fails = c.if-is_entry_point.false in cc (fails, holds)),
  λ h. absurd (back_not c.args.machine.now c.source-v.result values c.args.good.now c.args.t c.source-v.ensures.leaves
      (refuted c.is_passed_over.result c.if-is_passed_over.false c.is_passed_over.ensures)
      (refuted c.is_entry_point.result c.if-is_entry_point.false c.is_entry_point.ensures) h),
)
