use Rattle.std.proofs.Common.{inl, inr}
use Rattle.pssm_lines.proofs.EachText.{each_text}
use Rattle.pssm_lines.proofs.laws.text_or_fault.Goals as goal

pub returns : goal.returns
returns c = λ text. elim (each_text text) [
  | inl whole ↦ inl (whole.lines, whole.are, whole.parts)
  | inr faulty ↦ inr (faulty.lines, faulty.fault, faulty.has)
]
