-- What the program writes, and its statuses.
use Rattle.std.specs.Prelude.{◌≤◌, ℕ, List, ◌++◌, codes}
use Rattle.std.specs.Fmt.{decimal}
use Rattle.hex.specs.Hex.{encode_lower}
use Rattle.pssm_semantics.specs.Verdict.{number_of}
use Rattle.pssm_flat.specs.Text.{line}
use Rattle.pssm_tool.specs.declared.answer.Answer.{Answer}
use Rattle.pssm_tool.specs.declared.answer.Answer.TheVariants.{Accept, Refuse, Limit, WellFormed, Usage, BadLine, NoEnd, TooLarge}
use Rattle.pssm_tool.specs.declared.answer.Answer.TheVariants.{Journal, Flat, Generated, BadModel}
use Rattle.pssm_workers.specs.declared.ended.Ended.TheVariants as ends
use Rattle.pssm_tool.specs.Refusals.{load_fault_text}

-- the line on the run of a generated model, by its number: how many entries the journal has, how many of them take a signal, and the digest of its text
abbrev pub generated_line : ℕ → ℕ → ℕ → List ℕ → List ℕ
generated_line n entries takes digest =
    line (codes "gen " ++ decimal n ++ codes " entries " ++ decimal entries ++ codes " takes " ++ decimal takes ++ codes " sha256 " ++ encode_lower digest)

-- what is written for an answer: a line, the journal of a run, a model's flat text, or the lines on what is wrong with a model
abbrev pub text_of : Answer → List ℕ
text_of (Accept entries) = line (codes "accept " ++ decimal entries)
text_of (Refuse entry rule) = line (codes "refuse " ++ decimal entry ++ codes " A" ++ decimal (number_of rule))
text_of (Limit entry) = line (codes "limit " ++ decimal entry)
text_of WellFormed = line (codes "well formed")
text_of Usage = line (codes "usage")
text_of (BadLine number byte) = line (codes "journal line " ++ decimal number ++ codes " byte " ++ decimal byte)
text_of (NoEnd number) = line (codes "journal line " ++ decimal number ++ codes " no end")
text_of TooLarge = line (codes "too large")
text_of (Journal text ended) = text
text_of (Flat text) = text
text_of (Generated n entries takes digest) = generated_line n entries takes digest
text_of (BadModel fault) = load_fault_text fault

-- the status that goes with it
abbrev pub code_of : Answer → ℕ
code_of (Refuse entry rule) = 1
code_of Usage = 2
code_of (BadModel fault) = 3
code_of (BadLine number byte) = 4
code_of (NoEnd number) = 4
code_of (Limit entry) = 8
code_of (Journal text ends.Limit) = 8
code_of TooLarge = 9
code_of _ = 0

-- the statuses that say that reading, writing or memory failed
abbrev pub IsFailure : ℕ → Type 0
IsFailure code = (5 ≤ code) × (code ≤ 7)
