use Rattle.std.proofs.Common.{◌≡◌, ◌∙◌, ◌++◌, List, length, take, drop, get_or, rules, ap, sym, subst}
use Rattle.std.proofs.Math.Seq.{take-append_seam}
use Rattle.pssm_plan.specs.declared.roster.Call.{Call}
use Rattle.pssm_plan.specs.inner.Sequence.{IsSequence, AreNewSince}
use Rattle.pssm_plan.specs.inner.Passes.{AreCaught, AreSureBut, FreeLeft}
use Rattle.pssm_plan.specs.inner.Marks.{AreRunBefore}
use Rattle.pssm_plan.specs.inner.Places.{CallList, ArePlaced}
use Rattle.pssm_plan.proofs.PlacedCalls.{placed_alike}
use Rattle.pssm_plan.proofs.roster.Roster.settle.Goals as goal

pub settle_all-requires-clause-caught : goal.settle_all-requires-clause-caught
settle_all-requires-clause-caught c =
    let same = c.as_mut_slice.ensures.value ∙ ap (λ (l : CallList). l.items) c.calls.view_is in
    subst (λ (l : List Call). AreCaught c.args.spans.now l) (sym same) c.requires.caught

pub settle_all-requires-clause-placed : goal.settle_all-requires-clause-placed
settle_all-requires-clause-placed c =
    subst (λ (l : List Call). ArePlaced l c.as_slice-rows.result.now) (sym c.as_mut_slice.ensures.value)
    (subst (ArePlaced c.calls.inside.list.items) (sym c.as_slice-rows.ensures.value) c.calls.invariant)

pub settle_all-requires-clause-new : goal.settle_all-requires-clause-new
settle_all-requires-clause-new c =
    let same = c.as_mut_slice.ensures.value ∙ ap (λ (l : CallList). l.items) c.calls.view_is in
    subst (λ (l : List Call). AreNewSince c.args.machine.now c.args.ways.now l c.args.since) (sym same) c.requires.new

pub settle_all-requires-clause-left : goal.settle_all-requires-clause-left
settle_all-requires-clause-left c =
    let same = c.as_mut_slice.ensures.value ∙ ap (λ (l : CallList). l.items) c.calls.view_is in
    subst (λ (l : List Call). AreSureBut (FreeLeft (IsSequence c.args.machine.now c.args.ways.now) c.args.since.calls c.args.ran 0)
    (IsSequence c.args.machine.now c.args.ways.now) l) (sym same) c.requires.left

pub invariant_of-calls : goal.invariant_of-calls
invariant_of-calls c =
    let value = c.as_mut_slice.ensures.value in
    let wide : length c.settle_all.new.calls ≡ length c.calls.inside.list.items = c.settle_all.ensures.alike.0 ∙ ap (λ (l : List Call). length l) value in
    let count : c.calls.inside.list.len ≡ length c.settle_all.new.calls = search rules in
    let new = c.settle_all.new.calls in
    let whole : take c.calls.inside.list.len (new ++ drop (length new) c.calls.inside.list.items) ≡ new =
    rw count (take-append_seam new (drop (length new) c.calls.inside.list.items)) in
    rw whole (placed_alike c.calls.inside.list.items new c.calls.inside.rows.items wide
    (λ k d lt. (c.settle_all.ensures.alike.1 k d (rw value lt)).item_is ∙ ap (λ (l : List Call). (get_or l k d).item) value) c.calls.invariant)

pub settle_all-requires-clause-done : goal.settle_all-requires-clause-done
settle_all-requires-clause-done c =
    let same = c.as_mut_slice.ensures.value ∙ ap (λ (l : CallList). l.items) c.calls.view_is in
    subst (λ (l : List Call). AreRunBefore l c.args.done) (sym same) c.requires.done
