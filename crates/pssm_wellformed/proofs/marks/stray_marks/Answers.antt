use Rattle.std.proofs.Common.{ℕ, List, Bool, subst, Vec, Global}
use Rattle.pssm_wellformed.specs.inner.Reach.{StaysWithin}
use Rattle.pssm_wellformed.specs.inner.Marks.{AreMarksBelow, AreStrayMarks}
use Rattle.pssm_wellformed.proofs.Arrows.{arrows_within}
use Rattle.pssm_wellformed.proofs.Marking.{turned_within, stray_marks_are}
use Rattle.pssm_wellformed.proofs.Straying.{ok_by}
use Rattle.pssm_wellformed.proofs.marks.stray_marks.Goals as goal

pub lowest_levels-requires-clause-within : goal.lowest_levels-requires-clause-within
lowest_levels-requires-clause-within c = arrows_within c.args.machine.now c.requires c.args.walk c.in_ok-onward.onward.items c.in_ok-onward.ensures

pub turned-requires-clause-within : goal.turned-requires-clause-within
turned-requires-clause-within c = arrows_within c.args.machine.now c.requires c.args.walk c.in_ok-onward.onward.items c.in_ok-onward.ensures

pub marks_below-requires-clause-within : goal.marks_below-requires-clause-within
marks_below-requires-clause-within c =
    let back : StaysWithin c.in_ok-back.back.items = turned_within c.in_ok-onward.onward.items c.in_ok-back.back.items c.in_ok-back.ensures in
    rw c.as_slice.ensures.value back

pub returns : goal.returns
returns c =
    let m = c.args.machine.now in
    let back = c.in_ok-back.back.items in
    let lowest = c.in_ok-lowest.lowest.items in
    let count = c.count_levels-count.result in
    ok_by (λ (levels : Vec (Vec Bool Global) Global). AreMarksBelow c.as_slice.result.now c.as_slice-2.result.now count levels.items)
    (λ (levels : Vec (Vec Bool Global) Global). AreStrayMarks m c.args.walk levels.items) c.marks_below.result c.marks_below.ensures
    (λ levels h.
    let marks : AreMarksBelow back lowest count levels.items =
    subst (λ (g : List (Vec ℕ Global)). AreMarksBelow g lowest count levels.items) c.as_slice.ensures.value
    (subst (λ xs. AreMarksBelow c.as_slice.result.now xs count levels.items) c.as_slice-2.ensures.value h) in
    stray_marks_are m c.requires c.args.walk c.in_ok-onward.onward.items back lowest count levels.items c.in_ok-onward.ensures c.in_ok-back.ensures c.in_ok-lowest.ensures
    c.count_levels-count.ensures marks)
