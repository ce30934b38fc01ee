-- How many bytes the generated text has at most.
use Rattle.std.proofs.Common.{◌≤◌, ◌+◌, ◌*◌, ℕ, zero, suc, List, [], ◌∷◌, ◌++◌, length, codes, map, Bool, true, false, ap, arith, length-append}
use Rattle.std.specs.Prelude.{◌==◌, if◌then◌else◌}
use Rattle.std.specs.List.{flat_map, range_with_len}
use Rattle.std.specs.Fmt.{decimal}
use Rattle.std.proofs.lemmas.Fmt.{length-decimal-le}
use Rattle.std.proofs.lemmas.Grind.{flat_map-append}
use Rattle.pssm_flat.specs.Text.{line, text_of}
use Rattle.pssm_suite.specs.Generated.{up_to, state_line, next_state, step_line, step_lines, head_lines, front_lines, back_lines, generated_lines, generated_text}

-- ---- lines

-- a line more
line_more : (l : List ℕ) (lines : List (List ℕ)) (a b : ℕ) → length l ≤ a → length (text_of lines) ≤ b → length (text_of (l ∷ lines)) ≤ a + 1 + b
line_more l lines a b here there =
    let whole = length-append (line l) (text_of lines) in
    let feed = length-append l (10 ∷ []) in
    omega (arith, whole, feed, here, there)

-- lines behind lines
lines_more : (xs ys : List (List ℕ)) (a b : ℕ) → length (text_of xs) ≤ a → length (text_of ys) ≤ b → length (text_of (xs ++ ys)) ≤ a + b
lines_more xs ys a b here there =
    let split = ap (λ (t : List ℕ). length t) (flat_map-append line xs ys) in
    let whole = length-append (text_of xs) (text_of ys) in
    omega (arith, split, whole, here, there)

-- ---- the lines of States and steps

digits : (i : ℕ) → i ≤ 4001 → length (decimal i) ≤ 4
digits i few = length-decimal-le 4 i (omega arith) (omega (arith, few)) (omega (arith, few))

state_size : (i : ℕ) → i ≤ 4000 → length (state_line i) ≤ 21
state_size i few =
    let a = length-append (codes "vertex v") (decimal i ++ codes " r0 state") in
    let b = length-append (decimal i) (codes " r0 state") in
    let d = digits i (omega (arith, few)) in
    omega (arith, a, b, d)

chosen : (b : Bool) (i : ℕ) → i ≤ 4000 → (if b then 1 else i + 1) ≤ 4001
chosen true i few = omega arith
chosen false i few = omega (arith, few)

step_size : (n i : ℕ) → i ≤ 4000 → length (step_line n i) ≤ 37
step_size n i few =
    let j = next_state n i in
    let a = length-append (codes "transition t") (decimal i ++ (codes " v" ++ (decimal i ++ (codes " v" ++ (decimal j ++ codes " external"))))) in
    let b = length-append (decimal i) (codes " v" ++ (decimal i ++ (codes " v" ++ (decimal j ++ codes " external")))) in
    let c = length-append (codes " v") (decimal i ++ (codes " v" ++ (decimal j ++ codes " external"))) in
    let d = length-append (decimal i) (codes " v" ++ (decimal j ++ codes " external")) in
    let e = length-append (codes " v") (decimal j ++ codes " external") in
    let f = length-append (decimal j) (codes " external") in
    let own = digits i (omega (arith, few)) in
    let next = digits j (chosen (i == n) i few) in
    omega (arith, a, b, c, d, e, f, own, next)

states_size : (a k : ℕ) → a + k ≤ 4001 → length (text_of (map state_line (range_with_len a k))) ≤ 22 * k
states_size a zero few = omega arith
states_size a (suc k) few =
    let more = line_more (state_line a) (map state_line (range_with_len (a + 1) k)) 21 (22 * k) (state_size a (omega (arith, few))) (states_size (a + 1) k (omega (arith, few))) in
    omega (arith, more)

steps_size : (n a k : ℕ) → a + k ≤ 4001 → length (text_of (flat_map (step_lines n) (range_with_len a k))) ≤ 66 * k
steps_size n a zero few = omega arith
steps_size n a (suc k) few =
    let rest = flat_map (step_lines n) (range_with_len (a + 1) k) in
    let effect = line_more (codes "effect send b.Go();") rest 19 (66 * k) (omega arith) (steps_size n (a + 1) k (omega (arith, few))) in
    let on = line_more (codes "on Go") (codes "effect send b.Go();" ∷ rest) 5 (20 + 66 * k) (omega arith) (omega (arith, effect)) in
    let step = line_more (step_line n a) (codes "on Go" ∷ codes "effect send b.Go();" ∷ rest) 37 (26 + 66 * k) (step_size n a (omega (arith, few))) (omega (arith, on)) in
    omega (arith, step)

-- ---- the whole text

front_size : (n : ℕ) → n ≤ 4000 → length (text_of (front_lines n)) ≤ 400000
front_size n few =
    let steps = steps_size n 1 n (omega (arith, few)) in
    let first = line_more (codes "transition t0 v0 v1 external") (flat_map (step_lines n) (up_to n)) 28 (66 * n) (omega arith) steps in
    let states = states_size 1 n (omega (arith, few)) in
    let both = lines_more (map state_line (up_to n)) (codes "transition t0 v0 v1 external" ∷ flat_map (step_lines n) (up_to n)) (22 * n) (29 + 66 * n) states (omega (arith, first)) in
    let rest = map state_line (up_to n) ++ (codes "transition t0 v0 v1 external" ∷ flat_map (step_lines n) (up_to n)) in
    let initial = line_more (codes "vertex v0 r0 initial") rest 20 (29 + 88 * n) (omega arith) (omega (arith, both)) in
    let region = line_more (codes "region r0 top") (codes "vertex v0 r0 initial" ∷ rest) 13 (50 + 88 * n) (omega arith) (omega (arith, initial)) in
    let machine = line_more (codes "machine Front") (codes "region r0 top" ∷ codes "vertex v0 r0 initial" ∷ rest) 13 (64 + 88 * n) (omega arith) (omega (arith, region)) in
    omega (arith, machine, few)

head_size : length (text_of head_lines) ≤ 1000
head_size = omega arith

back_size : length (text_of (back_lines ++ codes "end" ∷ [])) ≤ 1000
back_size = omega arith

-- The text has fewer bytes than a model may have.
pub generated_small : (n : ℕ) → n ≤ 4000 → length (generated_text n) ≤ 16777216
unfolding generated_lines generated_text
generated_small n few =
    let tail = lines_more (front_lines n) (back_lines ++ codes "end" ∷ []) 400000 1000 (front_size n few) back_size in
    let whole = lines_more head_lines (front_lines n ++ (back_lines ++ codes "end" ∷ [])) 1000 401000 head_size tail in
    omega (arith, whole)
