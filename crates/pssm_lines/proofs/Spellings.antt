-- A line has one spelling, and two readings of one text agree.
use Rattle.std.proofs.Common.{◌≡◌, ℕ, List, [], ◌∷◌, ◌++◌, sym, ap, ◌∙◌}
use Rattle.pssm_semantics.specs.declared.line.Line.{Line}
use Rattle.pssm_semantics.specs.declared.line.Line.TheVariants.{Post, Start, Take, Done, Exit, Effect, Enter, Opened, Pick, DoStep}
use Rattle.pssm_semantics.specs.declared.line.LineOut.{LineOut}
use Rattle.pssm_lines.specs.LineText.{line_text, outs_text}
use Rattle.pssm_lines.specs.Grammar.{IsLine, AreSpelledOuts}
use Rattle.pssm_lines.specs.inner.LineReading.{shown_of, line_taken, outs_taken}
use Rattle.pssm_lines.proofs.Readers.{same_got}
use Rattle.pssm_lines.proofs.PieceLaws.{outs_reads}
use Rattle.pssm_lines.proofs.LineLaws.{line_again}

one_outs : (xs ys : List LineOut) → AreSpelledOuts xs → AreSpelledOuts ys → outs_text xs ≡ outs_text ys → xs ≡ ys
one_outs xs ys p q e =
    let read = outs_reads.again xs [] p (tt, tt) in
    let again = outs_reads.again ys [] q (tt, tt) in
    (same_got xs ys [] [] (sym read ∙ ap (λ (t : List ℕ). outs_taken (t ++ [])) e ∙ again)).0

one_shown : (l m : Line) → IsLine l → IsLine m → shown_of l ≡ shown_of m → l ≡ m
one_shown (Post object signal args) (Post object' signal' args') p q e = cc
one_shown (Post object signal args) m p q e = absurd cc
one_shown (Start object) (Start object') p q e = cc
one_shown (Start object) m p q e = absurd cc
one_shown (Take object number firing) (Take object' number' firing') p q e = cc
one_shown (Take object number firing) m p q e = absurd cc
one_shown (Done object state firing) (Done object' state' firing') p q e = cc
one_shown (Done object state firing) m p q e = absurd cc
one_shown (Exit object state outs) (Exit object' state' outs') p q e = let outs_are : outs ≡ outs' = one_outs outs outs' p.2 q.2 cc in cc
one_shown (Exit object state outs) m p q e = absurd cc
one_shown (Effect object transition outs) (Effect object' transition' outs') p q e = let outs_are : outs ≡ outs' = one_outs outs outs' p.2 q.2 cc in cc
one_shown (Effect object transition outs) m p q e = absurd cc
one_shown (Enter object state outs) (Enter object' state' outs') p q e = let outs_are : outs ≡ outs' = one_outs outs outs' p.2 q.2 cc in cc
one_shown (Enter object state outs) m p q e = absurd cc
one_shown (Opened object region mode how) (Opened object' region' mode' how') p q e = cc
one_shown (Opened object region mode how) m p q e = absurd cc
one_shown (Pick object choice route) (Pick object' choice' route') p q e = cc
one_shown (Pick object choice route) m p q e = absurd cc
one_shown (DoStep object state step outs) (DoStep object' state' step' outs') p q e = let outs_are : outs ≡ outs' = one_outs outs outs' p.3 q.3 cc in cc
one_shown (DoStep object state step outs) m p q e = absurd cc

-- of two lines at the front of one text
pub lines_apart : (l m : Line) (x y : List ℕ) → IsLine l → IsLine m → line_text l ++ 10 ∷ x ≡ line_text m ++ 10 ∷ y → (l ≡ m) × (x ≡ y)
lines_apart l m x y p q e =
    let both = same_got (shown_of l) (shown_of m) x y (sym (line_again l x p) ∙ ap line_taken e ∙ line_again m y q) in
    (one_shown l m p q both.0, both.1)

pub one_line : (l m : Line) → IsLine l → IsLine m → line_text l ≡ line_text m → l ≡ m
one_line l m p q e = (lines_apart l m [] [] p q (ap (λ (t : List ℕ). t ++ 10 ∷ []) e)).0
