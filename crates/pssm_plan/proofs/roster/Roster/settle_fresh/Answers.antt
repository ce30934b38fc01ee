use Rattle.std.proofs.Common.{◌≡◌, ◌<◌, ◌∙◌, ◌++◌, ℕ, List, length, take, drop, get_or, rules, ap, sym, subst}
use Rattle.std.proofs.Math.Seq.{take-append_seam}
use Rattle.pssm_plan.specs.declared.roster.Call.{Call}
use Rattle.pssm_plan.specs.inner.Marks.{IsFreshAt}
use Rattle.pssm_plan.specs.inner.Passes.{AreCaught}
use Rattle.pssm_plan.specs.inner.Places.{CallList}
use Rattle.pssm_plan.proofs.PlacedCalls.{placed_alike}
use Rattle.pssm_plan.proofs.roster.Roster.settle_fresh.Goals as goal

pub settle_each-requires-clause-caught : goal.settle_each-requires-clause-caught
settle_each-requires-clause-caught c =
    let same = c.as_mut_slice.ensures.value ∙ ap (λ (l : CallList). l.items) c.calls.view_is in
    subst (λ (l : List Call). AreCaught c.args.spans.now l) (sym same) c.requires.caught

pub settle_each-requires-clause-fresh : goal.settle_each-requires-clause-fresh
settle_each-requires-clause-fresh c =
    let same = c.as_mut_slice.ensures.value ∙ ap (λ (l : CallList). l.items) c.calls.view_is in
    subst (λ (l : List Call). (k : ℕ) (d : Call) → k < length l → IsFreshAt k (get_or l k d)) (sym same) c.requires.fresh

pub invariant_of-calls : goal.invariant_of-calls
invariant_of-calls c =
    let value = c.as_mut_slice.ensures.value in
    let wide : length c.settle_each.new.calls ≡ length c.calls.inside.list.items = c.settle_each.ensures.alike.0 ∙ ap (λ (l : List Call). length l) value in
    let count : c.calls.inside.list.len ≡ length c.settle_each.new.calls = search rules in
    let new = c.settle_each.new.calls in
    let whole : take c.calls.inside.list.len (new ++ drop (length new) c.calls.inside.list.items) ≡ new =
    rw count (take-append_seam new (drop (length new) c.calls.inside.list.items)) in
    rw whole (placed_alike c.calls.inside.list.items new c.calls.inside.rows.items wide
    (λ k d lt. (c.settle_each.ensures.alike.1 k d (rw value lt)).item_is ∙ ap (λ (l : List Call). (get_or l k d).item) value) c.calls.invariant)
