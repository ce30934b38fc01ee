-- The answer where the judging ends at an entry is what the bytes deserve.
use Rattle.std.proofs.Common.{◌≡◌, ℕ, List, sym, subst}
use Rattle.std.specs.Prelude.{Result, IfOk, IfErr}
use Rattle.pssm_semantics.specs.declared.setting.Setting.{Setting}
use Rattle.pssm_journal.specs.Judged.{IsJudged}
use Rattle.pssm_judge.specs.declared.run.Stop.{Stop}
use Rattle.pssm_judge.specs.declared.run.Stop.TheVariants as stops
use Rattle.pssm_judge.specs.declared.verdict.Verdict.{Verdict}
use Rattle.pssm_judge.specs.declared.verdict.JudgeFault.{JudgeFault}
use Rattle.pssm_judge.specs.Verdicts.{IsVerdictOn}
use Rattle.pssm_judge.specs.inner.Answers.{IsFaultOn, said_at, answer_to}

pub answered_verdict : (setting : Setting) (bytes : List ℕ) (stop : Stop) (answer : Result Verdict JudgeFault) → answer ≡ answer_to stop → IsJudged setting bytes (said_at stop)
    → IfOk answer (IsVerdictOn setting bytes)
answered_verdict setting bytes (stops.Limit entry) answer is judged = subst (λ (r : Result Verdict JudgeFault). IfOk r (IsVerdictOn setting bytes)) (sym is) tt
answered_verdict setting bytes (stops.Text fault) answer is judged = subst (λ (r : Result Verdict JudgeFault). IfOk r (IsVerdictOn setting bytes)) (sym is) tt
answered_verdict setting bytes (stops.Refuse entry rule) answer is judged = subst (λ (r : Result Verdict JudgeFault). IfOk r (IsVerdictOn setting bytes)) (sym is) judged

pub answered_fault : (setting : Setting) (bytes : List ℕ) (stop : Stop) (answer : Result Verdict JudgeFault) → answer ≡ answer_to stop → IsJudged setting bytes (said_at stop)
    → IfErr answer (IsFaultOn setting bytes)
answered_fault setting bytes (stops.Limit entry) answer is judged = subst (λ (r : Result Verdict JudgeFault). IfErr r (IsFaultOn setting bytes)) (sym is) judged
answered_fault setting bytes (stops.Refuse entry rule) answer is judged = subst (λ (r : Result Verdict JudgeFault). IfErr r (IsFaultOn setting bytes)) (sym is) tt
answered_fault setting bytes (stops.Text fault) answer is judged = subst (λ (r : Result Verdict JudgeFault). IfErr r (IsFaultOn setting bytes)) (sym is) judged
