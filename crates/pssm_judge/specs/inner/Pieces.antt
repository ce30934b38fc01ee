-- What the reading of pieces tells of a path.
use Rattle.std.specs.Prelude.{◌≡◌, ℕ, List, ◌++◌, length, Option, IfSome}
use Rattle.pssm_base.specs.Faults.{Rose}
use Rattle.pssm_base.specs.inner.Filling.{IsRead}
use Rattle.pssm_judge.specs.declared.verdict.JudgeFault.{JudgeFault}
use Rattle.pssm_judge.specs.declared.verdict.JudgeFault.TheVariants.{ReadFault}

-- Behind as many bytes as were read so far, these are read.
abbrev pub AddsRead : Option (List ℕ) → ℕ → List ℕ → Type 0
AddsRead content from piece = (came : List ℕ) → from ≡ length came → IsRead content came → IsRead content (came ++ piece)

-- As many bytes as were read so far are all.
abbrev pub EndsRead : Option (List ℕ) → ℕ → Type 0
EndsRead content from = (came : List ℕ) → from ≡ length came → IsRead content came → IfSome content (λ held. came ≡ held)

-- A read failed.
abbrev pub BreaksRead : ℕ → ℕ → JudgeFault → Type 0
BreaksRead before after ReadFault = Rose before after
BreaksRead before after _ = ⊥
