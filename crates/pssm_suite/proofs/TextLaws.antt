-- Lines for each number, written one after the other.
use Rattle.std.proofs.Common.{◌≡◌, ℕ, zero, suc, ◌+◌, ◌-◌, ◌≤◌, List, [], ◌∷◌, ◌++◌, sym, ap, ◌∙◌, append_assoc, arith}
use Rattle.std.specs.Prelude.{map, codes}
use Rattle.std.specs.List.{flat_map, range_with_len}
use Rattle.std.specs.Fmt.{decimal}
use Rattle.std.proofs.lemmas.Grind.{flat_map-append}
use Rattle.std.proofs.lemmas.List.{append-nil}
use Rattle.std.proofs.lemmas.List.FromFn.{map-range_with_len_more}
use Rattle.pssm_flat.specs.Text.{line, text_of}
use Rattle.pssm_flat.proofs.TextLaws.{text_of_append, text_of_one}
use Rattle.pssm_flat.proofs.WriteLaws.{two_pieces}
use Rattle.pssm_suite.specs.Generated.{up_to, state_line, next_state, step_lines, head_lines, back_lines, generated_lines, generated_text}

-- one number more at the end
counting_more : (a n j : ℕ) → a + n ≡ j → range_with_len a (suc n) ≡ range_with_len a n ++ j ∷ []
counting_more a zero j e = let same : a ≡ j = omega (arith, e) in ap (λ i. i ∷ []) same
counting_more a (suc n) j e = ap (λ is. a ∷ is) (counting_more (a + 1) n j (omega (arith, e)))

-- from 1 on, one number more
up_to_more : (k : ℕ) → 1 ≤ k → up_to (k + 1 - 1) ≡ up_to (k - 1) ++ k ∷ []
up_to_more k le =
    let next : k + 1 - 1 ≡ suc (k - 1) = omega arith in
    ap up_to next ∙ counting_more 1 (k - 1) k (omega arith)

-- behind a text and one piece comes another
behind_piece : (whole before after a b : List ℕ) → after ≡ before ++ b → before ≡ whole ++ a → after ≡ whole ++ (a ++ b)
behind_piece whole before after a b more so_far = more ∙ ap (λ t. t ++ b) so_far ∙ append_assoc whole a b

-- the lines of one number more are written
pub lines_more : (f : ℕ → List (List ℕ)) (k : ℕ) (whole before after : List ℕ)
    → 1 ≤ k → after ≡ before ++ text_of (f k) → before ≡ whole ++ text_of (flat_map f (up_to (k - 1))) → after ≡ whole ++ text_of (flat_map f (up_to (k + 1 - 1)))
lines_more f k whole before after le more so_far =
    let lines : flat_map f (up_to (k + 1 - 1)) ≡ flat_map f (up_to (k - 1)) ++ f k =
    ap (flat_map f) (up_to_more k le) ∙ flat_map-append f (up_to (k - 1)) (k ∷ []) ∙ ap (λ ls. flat_map f (up_to (k - 1)) ++ ls) (append-nil (f k)) in
    behind_piece whole before after _ _ more so_far
    ∙ ap (λ t. whole ++ t) (sym (ap text_of lines ∙ text_of_append (flat_map f (up_to (k - 1))) (f k)))

-- the line of one number more is written
pub line_more : (f : ℕ → List ℕ) (k : ℕ) (whole before after : List ℕ)
    → 1 ≤ k → after ≡ before ++ line (f k) → before ≡ whole ++ text_of (map f (up_to (k - 1))) → after ≡ whole ++ text_of (map f (up_to (k + 1 - 1)))
line_more f k whole before after le more so_far =
    let next : k + 1 - 1 ≡ k - 1 + 1 = omega arith in
    let lines : map f (up_to (k + 1 - 1)) ≡ map f (up_to (k - 1)) ++ f k ∷ [] =
    ap (λ i. map f (up_to i)) next ∙ map-range_with_len_more f 1 (k - 1) k (omega arith) in
    behind_piece whole before after _ _ more so_far
    ∙ ap (λ t. whole ++ t) (sym (ap text_of lines ∙ text_of_append (map f (up_to (k - 1))) (f k ∷ []) ∙ ap (λ t. text_of (map f (up_to (k - 1))) ++ t) (sym (text_of_one (f k)))))

-- the lines of a step, from its pieces
pub step_written : (n k next : ℕ) (t0 t1 t2 t3 t4 : List ℕ) → next ≡ next_state n k
    → t1 ≡ t0 ++ (codes "transition t" ++ decimal k) → t2 ≡ t1 ++ (codes " v" ++ decimal k) → t3 ≡ t2 ++ (codes " v" ++ decimal next)
    → t4 ≡ t3 ++ text_of (codes " external" ∷ codes "on Go" ∷ codes "effect send b.Go();" ∷ []) → t4 ≡ t0 ++ text_of (step_lines n k)
step_written n k next t0 t1 t2 t3 t4 e e1 e2 e3 e4 =
    two_pieces t0 t1 t4 _ _ e1 (two_pieces t1 t2 t4 _ _ e2 (two_pieces t2 t3 t4 _ _ e3 e4))
    ∙ ap (λ t. t0 ++ t) (grouped (decimal k) (decimal k) (decimal next) ∙ ap (λ i. text_of ((codes "transition t" ++ (decimal k ++ (codes " v" ++ (decimal k ++ (codes " v" ++ (decimal i ++ codes " external")))))) ∷ codes "on Go" ∷ codes "effect send b.Go();" ∷ [])) e) where
      grouped : (a b c : List ℕ) → (codes "transition t" ++ a) ++ ((codes " v" ++ b) ++ ((codes " v" ++ c) ++ text_of (codes " external" ∷ codes "on Go" ∷ codes "effect send b.Go();" ∷ [])))
          ≡ text_of ((codes "transition t" ++ (a ++ (codes " v" ++ (b ++ (codes " v" ++ (c ++ codes " external")))))) ∷ codes "on Go" ∷ codes "effect send b.Go();" ∷ [])
      grouped a b c = simp append_assoc

-- what stands before the States of the circle
abbrev pub first_lines : List (List ℕ)
first_lines = head_lines ++ codes "machine Front" ∷ codes "region r0 top" ∷ codes "vertex v0 r0 initial" ∷ []

-- the whole text, from its pieces
pub model_written : (n : ℕ) (t t0 t1 t2 t3 t4 : List ℕ)
    → t0 ≡ t ++ text_of first_lines → t1 ≡ t0 ++ text_of (map state_line (up_to n)) → t2 ≡ t1 ++ line (codes "transition t0 v0 v1 external")
    → t3 ≡ t2 ++ text_of (flat_map (step_lines n) (up_to n)) → t4 ≡ t3 ++ text_of (back_lines ++ codes "end" ∷ []) → t4 ≡ t ++ generated_text n
unfolding generated_text generated_lines
model_written n t t0 t1 t2 t3 t4 e0 e1 e2 e3 e4 =
    let states = map state_line (up_to n) in
    let steps = flat_map (step_lines n) (up_to n) in
    let first : List ℕ = codes "transition t0 v0 v1 external" in
    let back : List (List ℕ) = back_lines ++ codes "end" ∷ [] in
    let lines : generated_lines n ≡ first_lines ++ (states ++ (first ∷ (steps ++ back))) =
    ap (λ ls. first_lines ++ ls) (append_assoc states (first ∷ steps) back) in
    let text : text_of (first_lines ++ (states ++ (first ∷ (steps ++ back)))) ≡ text_of first_lines ++ (text_of states ++ (line first ++ (text_of steps ++ text_of back))) =
    text_of_append first_lines (states ++ (first ∷ (steps ++ back)))
    ∙ ap (λ u. text_of first_lines ++ u) (text_of_append states (first ∷ (steps ++ back)) ∙ ap (λ u. text_of states ++ (line first ++ u)) (text_of_append steps back)) in
    two_pieces t t0 t4 _ _ e0 (two_pieces t0 t1 t4 _ _ e1 (two_pieces t1 t2 t4 _ _ e2 (two_pieces t2 t3 t4 _ _ e3 e4)))
    ∙ ap (λ u. t ++ u) (sym (ap text_of lines ∙ text))
