-- Whole lines at the front of a text, and the ends that make a line whole.
use Rattle.std.specs.Prelude.{◌≡◌, ◌≤◌, ◌==◌, ℕ, Bool, true, false, List, [], ◌∷◌, ◌++◌, drop, length, codes}
use Rattle.pssm_semantics.specs.declared.line.Line.{Line}
use Rattle.pssm_semantics.specs.declared.line.Line.TheVariants.{Exit, Effect, Enter, DoStep}
use Rattle.pssm_lines.specs.LineText.{line_text, header_line}
use Rattle.pssm_lines.specs.Grammar.{IsLine}
use Rattle.pssm_lines.specs.Faults.{IsJournalLine}

-- No line of the grammar stands at the front.
abbrev pub BeginsNoLine : List ℕ → Type 0
BeginsNoLine bytes = (l : Line) (rest : List ℕ) → IsLine l → bytes ≡ line_text l ++ 10 ∷ rest → ⊥

-- Nothing that may stand there is whole at the front.
abbrev pub HasNoWholeLine : Bool → List ℕ → Type 0
HasNoWholeLine false bytes = (rest : List ℕ) → bytes ≡ header_line ++ rest → ⊥
HasNoWholeLine true bytes = (l : Line) (rest : List ℕ) → IsJournalLine l → bytes ≡ line_text l ++ 10 ∷ rest → ⊥

-- The bytes are a line of the grammar with its line feed.
abbrev pub IsWholeLine : List ℕ → Type 0
IsWholeLine bytes = (l : Line) × IsLine l × (bytes ≡ line_text l ++ 10 ∷ [])

-- Some end of the sample makes a whole line of the front.
abbrev pub IsEndedBy : List ℕ → List ℕ → Type 0
IsEndedBy front sample = (n : ℕ) × (n ≤ length sample) × IsWholeLine (front ++ drop n sample)

-- a line of a kind that has no outputs
abbrev pub HasNoOuts : Line → Type 0
HasNoOuts (Exit object state outs) = ⊥
HasNoOuts (Effect object transition outs) = ⊥
HasNoOuts (Enter object state outs) = ⊥
HasNoOuts (DoStep object state step outs) = ⊥
HasNoOuts _ = Unit {0}

-- The first bytes are the same, where there are any.
abbrev pub are_alike : List ℕ → List ℕ → Bool
are_alike (b ∷ bytes) (s ∷ sample) = b == s
are_alike _ _ = true

-- Lines of which some end makes a whole line of any bytes that begin one.
abbrev pub samples : List (List ℕ)
samples =
    codes "post a.a(1,1)\n"
    ∷ codes "start a\n"
    ∷ codes "take a 1 t1+t1,t1 t1+t1,t1\n"
    ∷ codes "done a v1 t1+t1,t1 t1+t1,t1\n"
    ∷ codes "exit a v1 >a.a(1,1)\n"
    ∷ codes "effect a t1 >a.a(1,1)\n"
    ∷ codes "enter a v1 >a.a(1,1)\n"
    ∷ codes "open a r1 default by t1+t1,t1\n"
    ∷ codes "open a r1 shallow state v1\n"
    ∷ codes "open a r1 deep none\n"
    ∷ codes "pick a v1 t1+t1,t1\n"
    ∷ codes "do a v1 1 >a.a(1,1)\n"
    ∷ []

-- The line stands at the front of the bytes, with its line feed, and the rest behind it.
abbrev pub StandsAt : List ℕ → Line → List ℕ → Type 0
StandsAt bytes line rest = IsLine line × (bytes ≡ line_text line ++ 10 ∷ rest)
