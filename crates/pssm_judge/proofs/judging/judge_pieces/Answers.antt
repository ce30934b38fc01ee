use Rattle.std.proofs.Common.{ℕ, List, sym, subst, arith}
use Rattle.std.proofs.lemmas.List.{length-take-le}
use Rattle.pssm_judge.specs.Verdicts.{IsFaultFor}
use Rattle.pssm_judge.specs.inner.Judging.{IsPlaced}
use Rattle.pssm_judge.proofs.PieceLaws.{underway_first, underway_more, whole_read, holds_more, verdict_end, fault_end, read_fault, passed_on}
use Rattle.pssm_judge.proofs.judging.judge_pieces.Goals as goal

-- Nothing was read.
pub loop-from-init : goal.loop-from-init
loop-from-init g c = underway_first _ _ _ _ _ _ _ c.requires.begins c.requires.empty c.first-place.ensures

-- All was read.
pub judge_end-requires : goal.judge_end-requires
judge_end-requires g c =
    let u = c.loop-from.invariant in
    (c.args.run.now.setting, u.came, subst (λ (t : List ℕ). IsPlaced c.args.run.now.setting u.came t c.loop-from.place c.loop-from.run) (sym c.as_slice.ensures.value) u.placed)

pub returns-then-count-eq0-clause-verdict : goal.returns-then-count-eq0-clause-verdict
returns-then-count-eq0-clause-verdict g c =
    let u = c.loop-from.invariant in
    let reads = whole_read _ _ _ _ _ _ _ _ _ _ _ c.loop-from.from _ _ _ u c.read_piece.ensures.same c.read_piece.ensures.counts c.in_ok-count.count _
    (c.in_ok-count.ensures.end c.if-count-eq0.true) c.in_ok-count.ensures.kept c.if-count-eq0.true (omega arith) in
    verdict_end c.judge_end.result c.args.run.now.setting _ c.args.path.now u.came (λ s t. IsPlaced s t c.as_slice.result.now c.loop-from.place c.loop-from.run) reads
    (subst (λ (t : List ℕ). IsPlaced c.args.run.now.setting u.came t c.loop-from.place c.loop-from.run) (sym c.as_slice.ensures.value) u.placed) c.judge_end.ensures.verdict

pub returns-then-count-eq0-clause-fault : goal.returns-then-count-eq0-clause-fault
returns-then-count-eq0-clause-fault g c =
    let u = c.loop-from.invariant in
    let reads = whole_read _ _ _ _ _ _ _ _ _ _ _ c.loop-from.from _ _ _ u c.read_piece.ensures.same c.read_piece.ensures.counts c.in_ok-count.count _
    (c.in_ok-count.ensures.end c.if-count-eq0.true) c.in_ok-count.ensures.kept c.if-count-eq0.true (omega arith) in
    fault_end c.judge_end.result c.args.run.now.setting _ _ _ c.args.path.now u.came (λ s t. IsPlaced s t c.as_slice.result.now c.loop-from.place c.loop-from.run) reads
    (subst (λ (t : List ℕ). IsPlaced c.args.run.now.setting u.came t c.loop-from.place c.loop-from.run) (sym c.as_slice.ensures.value) u.placed) c.judge_end.ensures.fault

-- A piece more.
pub judge_piece-requires : goal.judge_piece-requires
judge_piece-requires g c = let u = c.loop-from.invariant in (c.args.run.now.setting, u.came, u.placed)

pub loop-from-preserved : goal.loop-from-preserved
loop-from-preserved g c =
    let u = c.loop-from.invariant in
    underway_more _ _ _ _ _ _ _ _ _ _ _ c.loop-from.from _ _ _ u c.read_piece.ensures.same c.read_piece.ensures.counts c.split_at.result.0.now c.in_ok-count.count _ _ _
    (rw c.split_at.ensures.front c.in_ok-count.ensures.more) (rw c.split_at.ensures.front c.in_ok-count.ensures.kept) (rw c.split_at.ensures.front (sym (length-take-le c.in_ok-count.count _ c.in_ok-count.ensures.within)))
    (omega arith) (omega arith)
    (λ placed. c.in_ok-place.ensures _ u.came placed)

-- There is more than a journal may have.
pub returns-clause-fault : goal.returns-clause-fault
returns-clause-fault g c = holds_more _ _ _ _ _ _ _ _ c.loop-from.from _ _ _ c.loop-from.invariant (omega arith)

-- A read failed.
pub returns-in_err-count-clause-fault : goal.returns-in_err-count-clause-fault
returns-in_err-count-clause-fault g c =
    let u = c.loop-from.invariant in
    passed_on (λ f. IsFaultFor c.args.run.now.setting _ _ _ c.args.path.now f) c.in_err-count.field-0.0 c.from_residual.result c.from_residual.ensures.1
    (read_fault c.args.run.now.setting _ _ _ _ c.args.path.now c.in_err-count.field-0.0 (u.counts c.args.path.now) c.in_err-count.ensures.fault)
