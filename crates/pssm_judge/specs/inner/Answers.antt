-- What the judging of bytes answers where it stops.
use Rattle.std.specs.Prelude.{ℕ, List, Result, Ok, Err}
use Rattle.pssm_semantics.specs.declared.setting.Setting.{Setting}
use Rattle.pssm_journal.specs.Judged.{Judged, Refused, Limited, BadText, IsJudged}
use Rattle.pssm_judge.specs.declared.run.Stop.{Stop}
use Rattle.pssm_judge.specs.declared.run.Stop.TheVariants as stops
use Rattle.pssm_judge.specs.declared.verdict.Verdict.{Verdict}
use Rattle.pssm_judge.specs.declared.verdict.Verdict.TheVariants.{Refuse}
use Rattle.pssm_judge.specs.declared.verdict.JudgeFault.{JudgeFault}
use Rattle.pssm_judge.specs.declared.verdict.JudgeFault.TheVariants.{Text, Limit, NoMemory}

-- what the bytes deserve where there is no verdict; want of memory says nothing of them
abbrev pub IsFaultOn : Setting → List ℕ → JudgeFault → Type 0
IsFaultOn setting bytes (Text fault) = IsJudged setting bytes (BadText fault)
IsFaultOn setting bytes (Limit entry) = IsJudged setting bytes (Limited entry)
IsFaultOn setting bytes NoMemory = Unit {0}
IsFaultOn setting bytes _ = ⊥

-- what is to be said where the judging ends at a line
abbrev pub said_at : Stop → Judged
said_at (stops.Limit entry) = Limited entry
said_at (stops.Refuse entry rule) = Refused entry rule
said_at (stops.Text fault) = BadText fault

-- the judge's answer there
abbrev pub answer_to : Stop → Result Verdict JudgeFault
answer_to (stops.Limit entry) = Err (Limit entry)
answer_to (stops.Refuse entry rule) = Ok (Refuse entry rule)
answer_to (stops.Text fault) = Err (Text fault)
