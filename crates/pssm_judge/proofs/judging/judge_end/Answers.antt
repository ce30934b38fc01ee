use Rattle.std.proofs.Common.{ℕ, sym, subst, ◌∙◌}
use Rattle.std.proofs.lemmas.Bool.{false≢true}
use Rattle.pssm_judge.specs.declared.verdict.Verdict.TheVariants.{Accept}
use Rattle.pssm_judge.specs.Verdicts.{IsVerdictOn}
use Rattle.pssm_judge.specs.inner.Answers.{IsFaultOn}
use Rattle.pssm_judge.specs.inner.Judging.{IsPlaced}
use Rattle.pssm_judge.proofs.AnswerLaws.{answered_verdict, answered_fault}
use Rattle.pssm_judge.proofs.PieceLaws.{each_ok, each_err, said_stopped, accepts, ends_open}
use Rattle.pssm_judge.proofs.judging.judge_end.Goals as goal

-- The judging has ended at a line.
pub returns-in-Some-clause-verdict : goal.returns-in-Some-clause-verdict
returns-in-Some-clause-verdict c =
    let behind = c.in_ok-behind.behind in
    each_ok c.answer.result (λ s t. IsPlaced s t c.args.text.now c.args.place c.args.run.now) (λ s t v. IsVerdictOn s t v)
    (λ s t p. answered_verdict s t c.in-Some.stop c.answer.result c.answer.ensures (said_stopped s t behind.rest.now behind.place c.judge_lines.new.run c.in-Some.stop c.in-Some.is (c.in_ok-behind.ensures.goes_on s t p)))

pub returns-in-Some-clause-fault : goal.returns-in-Some-clause-fault
returns-in-Some-clause-fault c =
    let behind = c.in_ok-behind.behind in
    each_err c.answer.result (λ s t. IsPlaced s t c.args.text.now c.args.place c.args.run.now) (λ s t f. IsFaultOn s t f)
    (λ s t p. answered_fault s t c.in-Some.stop c.answer.result c.answer.ensures (said_stopped s t behind.rest.now behind.place c.judge_lines.new.run c.in-Some.stop c.in-Some.is (c.in_ok-behind.ensures.goes_on s t p)))

-- All was read.
pub returns-then-is_whole-clause-verdict : goal.returns-then-is_whole-clause-verdict
returns-then-is_whole-clause-verdict c = λ s t p.
    let behind = c.in_ok-behind.behind in
    let whole = c.is_whole.ensures.0 c.if-is_whole.true in
    subst (λ (n : ℕ). IsVerdictOn s t (Accept n)) (sym c.len.ensures.count)
    (accepts s t behind.rest.now behind.place c.judge_lines.new.run c.in_default.is (c.in_ok-behind.ensures.goes_on s t p) whole.0 whole.1 c.len.ensures.completes)

-- The bytes end within a line, or before the first one.
pub returns-clause-fault : goal.returns-clause-fault
returns-clause-fault c = λ s t p.
    let behind = c.in_ok-behind.behind in
    ends_open s t behind.rest.now behind.place c.judge_lines.new.run c.in_default.is (c.in_ok-behind.ensures.goes_on s t p)
    (λ both. false≢true (sym c.if-is_whole.false ∙ c.is_whole.ensures.1 both)) c.in_ok-behind.ensures.over
