-- The run has taken the brief lines that were read.
use Rattle.std.proofs.Common.{◌≤◌, ℕ, List, true, length}
use Rattle.pssm_semantics.specs.declared.setting.Setting.{Setting}
use Rattle.pssm_judge.specs.inner.Judging.{IsJudging}
use Rattle.pssm_judge.proofs.lines.take_briefs.Given as goal

abbrev pub invariant-loop-parts : goal.invariant-loop-parts
invariant-loop-parts l = record {
  goes_on : (setting : Setting) (bytes : List ℕ) → IsJudging setting bytes l.fn.rest true l.fn.line l.fn.run → IsJudging setting bytes l.left true l.number l.run;
  within : length l.left ≤ length l.fn.rest;
}

-- the bytes that are still to be read
abbrev pub decreases-loop-parts : goal.decreases-loop-parts
decreases-loop-parts l = length l.left
