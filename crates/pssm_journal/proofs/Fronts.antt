-- Two readings of one text of a journal: the shorter is the front of the longer.
use Rattle.std.proofs.Common.{◌≡◌, ℕ, List, [], ◌∷◌, ◌++◌, refl, sym, ap, subst, ◌∙◌, append_assoc}
use Rattle.std.specs.List.{AllByRecursion}
use Rattle.std.proofs.lemmas.List.{append-nil}
use Rattle.pssm_semantics.specs.declared.line.Line.{Line}
use Rattle.pssm_lines.specs.LineText.{line_text, header_line, text_of, journal_text}
use Rattle.pssm_lines.specs.Faults.{IsJournalLine}
use Rattle.pssm_lines.proofs.Spellings.{lines_apart}

-- ---- texts

-- the text of lines and of further lines
text-append : (ls ms : List Line) → text_of (ls ++ ms) ≡ text_of ls ++ text_of ms
text-append [] ms = refl
text-append (l ∷ ls) ms = ap (λ (t : List ℕ). (line_text l ++ 10 ∷ []) ++ t) (text-append ls ms) ∙ sym (append_assoc (line_text l ++ 10 ∷ []) (text_of ls) (text_of ms))

-- a journal's text with one more line, and what follows it
pub one_more_line : (ls : List Line) (l : Line) (rest : List ℕ) → journal_text (ls ++ l ∷ []) ++ rest ≡ journal_text ls ++ (line_text l ++ 10 ∷ rest)
one_more_line ls l rest =
    ap (λ (t : List ℕ). (header_line ++ t) ++ rest) (text-append ls (l ∷ []) ∙ ap (λ (t : List ℕ). text_of ls ++ t) (append-nil (line_text l ++ 10 ∷ [])))
    ∙ simp append_assoc

-- a line of a text, and what follows it
abbrev pub line_and : Line → List ℕ → List ℕ
line_and l rest = line_text l ++ 10 ∷ rest

-- of two readings of one text the shorter is the front of the longer
pub data Compared (ls ms : List Line) (x y : List ℕ) : Type 0 where
  shorter : (more : List Line) → ms ≡ ls ++ more → x ≡ text_of more ++ y → Compared ls ms x y
  longer : (more : List Line) → ls ≡ ms ++ more → y ≡ text_of more ++ x → Compared ls ms x y

compared_more : (l : Line) (ls ms : List Line) (x y : List ℕ) → Compared ls ms x y → Compared (l ∷ ls) (l ∷ ms) x y
compared_more l ls ms x y (shorter more e f) = shorter more (ap (λ (t : List Line). l ∷ t) e) f
compared_more l ls ms x y (longer more e f) = longer more (ap (λ (t : List Line). l ∷ t) e) f

-- the first line, and what follows it
pub unfold_line : (l : Line) (ls : List Line) (x : List ℕ) → text_of (l ∷ ls) ++ x ≡ line_text l ++ 10 ∷ (text_of ls ++ x)
unfold_line l ls x = simp append_assoc

pub compare : (ls ms : List Line) (x y : List ℕ) → AllByRecursion IsJournalLine ls → AllByRecursion IsJournalLine ms → text_of ls ++ x ≡ text_of ms ++ y → Compared ls ms x y
compare [] ms x y p q e = shorter ms refl e
compare (l ∷ ls) [] x y p q e = longer (l ∷ ls) refl (sym e)
compare (l ∷ ls) (m ∷ ms) x y p q e =
    let both = lines_apart l m (text_of ls ++ x) (text_of ms ++ y) p.0.line q.0.line (sym (unfold_line l ls x) ∙ e ∙ unfold_line m ms y) in
    subst (λ (n : Line). Compared (l ∷ ls) (n ∷ ms) x y) both.0 (compared_more l ls ms x y (compare ls ms x y p.1 q.1 both.1))

-- a text that has a line is not empty
pub some_line : (l : Line) (rest : List ℕ) → [] ≡ line_text l ++ 10 ∷ rest → ⊥
some_line l rest e = some_text (line_text l) e where
  some_text : (t : List ℕ) → [] ≡ t ++ 10 ∷ rest → ⊥
  some_text [] f = absurd cc
  some_text (c ∷ cs) f = absurd cc

pub no_lines : (more : List Line) (rest : List ℕ) → [] ≡ text_of more ++ rest → (more ≡ []) × (rest ≡ [])
no_lines [] rest e = (refl, sym e)
no_lines (l ∷ more) rest e = absurd (some_line l (text_of more ++ rest) (e ∙ unfold_line l more rest))
