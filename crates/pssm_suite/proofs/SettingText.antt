-- The flat text of the generated setting.
use Rattle.std.proofs.Common.{◌≡◌, ℕ, zero, suc, ◌+◌, ◌≤◌, ◌<◌, List, [], ◌∷◌, ◌++◌, Some, refl, ap, ◌∙◌, append_assoc, arith}
use Rattle.std.specs.Prelude.{map, codes, replicate, slice_get}
use Rattle.std.specs.List.{flat_map, range_with_len}
use Rattle.std.specs.Fmt.{decimal}
use Rattle.std.proofs.lemmas.Fmt.{decimal_digit}
use Rattle.std.proofs.lemmas.List.{append-nil}
use Rattle.pssm_flat.specs.Text.{text_of, numbered, vertex_lines, transition_lines, names_of, block_lines, flat_lines, flat_text}
use Rattle.pssm_flat.specs.Text.{head_lines as first_lines}
use Rattle.pssm_suite.specs.Generated.{up_to, next_state, state_line, step_lines, head_lines, front_lines, back_lines, generated_lines, generated_text}
use Rattle.pssm_suite.specs.GeneratedSetting.{vertex, transition, on_go, nothing, send_on, front, back, generated_setting}
use Rattle.pssm_model.specs.declared.elements.VertexKind.TheVariants.{State}

-- the lines of equal items, each of one line
lines_of_equal : {X : Type 0} (f : ℕ → X → List (List ℕ)) (g : ℕ → List ℕ) (x : X) → ((i : ℕ) → f i x ≡ g i ∷ []) → (k n : ℕ) → numbered f k (replicate n x) ≡ map g (range_with_len k n)
lines_of_equal f g x each k zero = refl
lines_of_equal f g x each k (suc n) =
    let next : suc k ≡ k + 1 = omega arith in
    ap (λ ls. ls ++ numbered f (suc k) (replicate n x)) (each k)
    ∙ ap (λ ls. g k ∷ ls) (ap (λ j. numbered f j (replicate n x)) next ∙ lines_of_equal f g x each (k + 1) n)

-- the lines of items that are made from their numbers
lines_of_made : {X : Type 0} (f : ℕ → X → List (List ℕ)) (g : ℕ → List (List ℕ)) (x : ℕ → X) (k n : ℕ) → ((i : ℕ) → k ≤ i → i < k + n → f i (x i) ≡ g i)
    → numbered f k (map x (range_with_len k n)) ≡ flat_map g (range_with_len k n)
lines_of_made f g x k zero each = refl
lines_of_made f g x k (suc n) each =
    let next : suc k ≡ k + 1 = omega arith in
    let others = map x (range_with_len (k + 1) n) in
    ap (λ ls. ls ++ numbered f (suc k) others) (each k (omega arith) (omega arith))
    ∙ ap (λ ls. g k ++ ls) (ap (λ j. numbered f j others) next ∙ lines_of_made f g x (k + 1) n (λ i le lt. each i (omega arith) (omega (arith, lt))))

-- one of equal items
pub one_of_equal : {X : Type 0} (x : X) (n i : ℕ) → i < n → slice_get (replicate n x) i ≡ Some x
one_of_equal x zero i lt = absurd (omega arith)
one_of_equal x (suc n) zero lt = refl
one_of_equal x (suc n) (suc i) lt = one_of_equal x n i (omega arith)

-- the behaviour of a step
pub step_act : (n i : ℕ) → 1 ≤ i → i < 1 + n → slice_get (nothing ∷ replicate n send_on) i ≡ Some send_on
step_act n zero le lt = absurd (omega arith)
step_act n (suc i) le lt = one_of_equal send_on n i (omega arith)

-- the lines of a step
step_text : (n i : ℕ) → 1 ≤ i → i < 1 + n → transition_lines (names_of (generated_setting n) (front n)) (front n) i (transition i (next_state n i) on_go i) ≡ step_lines n i
unfolding generated_setting
step_text n i le lt = rw (step_act n i le lt) refl

-- ---- numbers of one digit

zero_is : decimal 0 ≡ codes "0"
zero_is = decimal_digit 0 (omega arith)

one_is : decimal 1 ≡ codes "1"
one_is = decimal_digit 1 (omega arith)

two_is : decimal 2 ≡ codes "2"
two_is = decimal_digit 2 (omega arith)

three_is : decimal 3 ≡ codes "3"
three_is = decimal_digit 3 (omega arith)

four_is : decimal 4 ≡ codes "4"
four_is = decimal_digit 4 (omega arith)

five_is : decimal 5 ≡ codes "5"
five_is = decimal_digit 5 (omega arith)

six_is : decimal 6 ≡ codes "6"
six_is = decimal_digit 6 (omega arith)

seven_is : decimal 7 ≡ codes "7"
seven_is = decimal_digit 7 (omega arith)

-- ---- the blocks

front_text : (n : ℕ) → block_lines (names_of (generated_setting n) (front n)) (front n) ≡ front_lines n
unfolding generated_setting
front_text n =
    let names = names_of (generated_setting n) (front n) in
    let steps = map (λ i. transition i (next_state n i) on_go i) (up_to n) in
    let states_are : numbered (vertex_lines names (front n)) 1 (replicate n (vertex 0 State [])) ≡ map state_line (up_to n) =
    lines_of_equal (vertex_lines names (front n)) state_line (vertex 0 State []) (λ i. rw zero_is refl) 1 n in
    let steps_are : numbered (transition_lines names (front n)) 1 steps ≡ flat_map (step_lines n) (up_to n) =
    lines_of_made (transition_lines names (front n)) (step_lines n) (λ i. transition i (next_state n i) on_go i) 1 n (step_text n) in
    rw zero_is (rw one_is
    (ap (λ ls. codes "machine Front" ∷ codes "region r0 top" ∷ codes "vertex v0 r0 initial" ∷ (ls ++ (codes "transition t0 v0 v1 external" ∷ numbered (transition_lines names (front n)) 1 steps))) states_are
    ∙ ap (λ ls. codes "machine Front" ∷ codes "region r0 top" ∷ codes "vertex v0 r0 initial" ∷ (map state_line (up_to n) ++ (codes "transition t0 v0 v1 external" ∷ ls))) steps_are))

back_text : (n : ℕ) → block_lines (names_of (generated_setting n) back) back ≡ back_lines
unfolding generated_setting
back_text n = rw zero_is (rw one_is (rw two_is (rw three_is (rw four_is (rw five_is (rw six_is (rw seven_is refl)))))))

head_text : (n : ℕ) → first_lines (generated_setting n) ≡ head_lines
unfolding generated_setting
head_text n = rw zero_is refl

generated_lines_are : (n : ℕ) → flat_lines (generated_setting n) ≡ generated_lines n
unfolding generated_setting flat_lines generated_lines
generated_lines_are n =
    let end : List (List ℕ) = codes "end" ∷ [] in
    let front_block = block_lines (names_of (generated_setting n) (front n)) (front n) in
    let back_block = block_lines (names_of (generated_setting n) back) back in
    ap (λ ls. ls ++ ((front_block ++ (back_block ++ [])) ++ end)) (head_text n)
    ∙ ap (λ ls. head_lines ++ ((ls ++ (back_block ++ [])) ++ end)) (front_text n)
    ∙ ap (λ ls. head_lines ++ ((front_lines n ++ (ls ++ [])) ++ end)) (back_text n)
    ∙ ap (λ ls. head_lines ++ ((front_lines n ++ ls) ++ end)) (append-nil back_lines)
    ∙ ap (λ ls. head_lines ++ ls) (append_assoc (front_lines n) back_lines end)

pub generated_text_is : (n : ℕ) → flat_text (generated_setting n) ≡ generated_text n
unfolding flat_text generated_text
generated_text_is n = ap text_of (generated_lines_are n)
