use Rattle.std.proofs.Common.{ℕ, List}
use Rattle.pssm_semantics.specs.declared.setting.Setting.{Setting}
use Rattle.pssm_judge.specs.inner.Judging.{IsPlaced, IsFewer}
use Rattle.pssm_judge.proofs.lines.judge_lines.Given as goal

-- The lines up to this place were taken, and fewer bytes are left than before.
abbrev pub invariant-lines : goal.invariant-lines
invariant-lines l = record {
  goes_on : (setting : Setting) (bytes : List ℕ) → IsPlaced setting bytes l.fn.text l.fn.place l.fn.run → IsPlaced setting bytes l.behind.rest.now l.behind.place l.run;
  fewer : IsFewer l.left l.behind;
}

abbrev pub decreases-lines : goal.decreases-lines
decreases-lines l = l.left
