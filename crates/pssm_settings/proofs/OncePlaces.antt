-- The numbers of slots: each place has a slot of its own, and a slot where nothing stands has number 0.
use Rattle.std.proofs.Common.{◌≡◌, ◌≢◌, ◌<◌, ◌≤◌, ◌+◌, ◌==◌, ℕ, Bool, true, false, cond, List, [], ◌∷◌, map, length, Option, Some, None, refl, sym, ap, ◌∙◌, subst, arith, ⊎_elim}
use Rattle.std.specs.Prelude.{⊤}
use Rattle.std.specs.List.{range_with_len}
use Rattle.std.proofs.lemmas.Bool.{cases_eq, eqb-false, eq-eqb, ne_eqb}
use Rattle.pssm_model.specs.declared.draft_setting.Body.{Body}
use Rattle.pssm_redefine.specs.Bodies.{places_from, number_from}
use Rattle.pssm_redefine.proofs.SumLaws.{added}

-- the type of the elements of a list
abbrev element_of : {A : Type 0} → List A → Type 0
element_of {A} xs = A

-- where a body stands: the type has a name only in the crate that flattens
abbrev pub Place : Type 0
Place = element_of (places_from 0 [])

-- ---- how often a slot stands among places

abbrev pub at_slot : ℕ → Place → ℕ
at_slot s p = cond (p.slot == s) 1 0

abbrev pub times : ℕ → List Place → ℕ
times s ps = added (at_slot s) ps

-- a slot before all others
below : (n s : ℕ) (slots : List (Option Body)) → s < n → times s (places_from n slots) ≡ 0
below n s [] lt = refl
below n s (None ∷ slots) lt = below (n + 1) s slots (omega arith)
below n s (Some body ∷ slots) lt =
    let here : cond {A = ℕ} (n == s) 1 0 ≡ 0 = ap (λ t. cond {A = ℕ} t 1 0) (ne_eqb n s (λ e. omega arith)) in
    let more = below (n + 1) s slots (omega arith) in
    omega (arith, here, more)

at_most_one : (t : Bool) → cond t 1 0 ≤ 1
at_most_one true = omega arith
at_most_one false = omega arith

-- Each slot stands there once at most.
pub once_at_most : (n s : ℕ) (slots : List (Option Body)) → times s (places_from n slots) ≤ 1
once_at_most n s [] = omega arith
once_at_most n s (None ∷ slots) = once_at_most (n + 1) s slots
once_at_most n s (Some body ∷ slots) =
    let more = once_at_most (n + 1) s slots in
    ⊎_elim
    (λ (e : n ≡ s). let none = below (n + 1) s slots (omega arith) in let one = at_most_one (n == s) in omega (arith, none, one))
    (λ (ne : n ≡ s → ⊥). let here : cond {A = ℕ} (n == s) 1 0 ≡ 0 = ap (λ t. cond {A = ℕ} t 1 0) (ne_eqb n s ne) in omega (arith, here, more))
    (cases_eq n s)

-- ---- numbers

not_here : (n x y : ℕ) (t : Bool) → (x ≡ 0 → y ≡ 0) → cond t 1 0 + x ≡ 0 → cond t n y ≡ 0
not_here n x y true more e = absurd (omega arith)
not_here n x y false more e = more (omega arith)

-- A slot that stands nowhere has number 0.
pub not_numbered : (n s : ℕ) (ps : List Place) → times s ps ≡ 0 → number_from n ps s ≡ 0
not_numbered n s [] e = refl
not_numbered n s (p ∷ ps) e = not_here n (times s ps) (number_from (n + 1) ps s) (p.slot == s) (not_numbered (n + 1) s ps) e

not_zero : (n x y : ℕ) (t : Bool) → 0 < n → (y ≡ 0 → x ≡ 0) → cond t n y ≡ 0 → cond t 1 0 + x ≡ 0
not_zero n x y true some more e = absurd (omega arith)
not_zero n x y false some more e = omega (arith, more e)

-- A slot with number 0 stands nowhere.
pub numbered : (n s : ℕ) (ps : List Place) → 0 < n → number_from n ps s ≡ 0 → times s ps ≡ 0
numbered n s [] some e = refl
numbered n s (p ∷ ps) some e = not_zero n (times s ps) (number_from (n + 1) ps s) (p.slot == s) some (numbered (n + 1) s ps (omega arith)) e

elsewhere : (x : ℕ) (t : Bool) → cond t 1 0 + x ≡ 0 → t ≡ false
elsewhere x true e = absurd (omega arith)
elsewhere x false e = refl

-- the first of the places has no slot of the later ones
other_numbers : (n s : ℕ) (f : ℕ → ℕ) (qs : List Place) → times s qs ≡ 0
    → map (λ (q : Place). cond (s == q.slot) n (f q.slot)) qs ≡ map (λ (q : Place). f q.slot) qs
other_numbers n s f [] e = refl
other_numbers n s f (q ∷ qs) e =
    let apart : q.slot ≡ s → ⊥ = eqb-false q.slot s (elsewhere (times s qs) (q.slot == s) e) in
    let here : cond (s == q.slot) n (f q.slot) ≡ f q.slot = ap (λ t. cond t n (f q.slot)) (ne_eqb s q.slot (λ is. apart (sym is))) in
    ap (λ h. h ∷ map (λ (r : Place). cond (s == r.slot) n (f r.slot)) qs) here ∙ ap (λ l. f q.slot ∷ l) (other_numbers n s f qs (omega (arith, e)))

-- The numbers of the places, each of which has a slot of its own, are those from the first on.
pub in_order : (n : ℕ) (ps : List Place) → ((s : ℕ) → times s ps ≤ 1) → map (λ (p : Place). number_from n ps p.slot) ps ≡ range_with_len n (length ps)
in_order n [] once = refl
in_order n (p ∷ ps) once =
    let same : (p.slot == p.slot) ≡ true = eq-eqb p.slot p.slot refl in
    let here : number_from n (p ∷ ps) p.slot ≡ n = ap (λ t. cond t n (number_from (n + 1) ps p.slot)) same in
    let least : 1 + times p.slot ps ≤ 1 = subst (λ t. cond t 1 0 + times p.slot ps ≤ 1) same (once p.slot) in
    ap (λ h. h ∷ map (λ (q : Place). number_from n (p ∷ ps) q.slot) ps) here
    ∙ ap (λ l. n ∷ l) (other_numbers n p.slot (number_from (n + 1) ps) ps (omega (arith, least))
    ∙ in_order (n + 1) ps (λ s. let all = once s in omega (arith, all)))

-- ---- numbers and slots

-- The number is 0 where nothing stands, and not elsewhere.
abbrev pub Agrees : ℕ → Option Body → Type 0
Agrees n None = n ≡ 0
Agrees n (Some body) = n ≢ 0

-- It is so with each of the slots, the first of which has the number `n`.
abbrev pub Fits : (ℕ → ℕ) → ℕ → List (Option Body) → Type 0
Fits f n [] = ⊤
Fits f n (slot ∷ slots) = Agrees (f n) slot × Fits f (n + 1) slots

fits_from : (f : ℕ → ℕ) (n : ℕ) (slots : List (Option Body)) → ((s : ℕ) → n ≤ s → times s (places_from n slots) ≡ 0 → f s ≡ 0)
    → ((s : ℕ) → n ≤ s → f s ≡ 0 → times s (places_from n slots) ≡ 0) → Fits f n slots
fits_from f n [] none some = tt
fits_from f n (None ∷ slots) none some =
    (none n (omega arith) (below (n + 1) n slots (omega arith)), fits_from f (n + 1) slots (λ s le. none s (omega arith)) (λ s le. some s (omega arith)))
fits_from f n (Some body ∷ slots) none some = (
  λ e. let here : cond {A = ℕ} (n == n) 1 0 ≡ 1 = ap (λ t. cond {A = ℕ} t 1 0) (eq-eqb n n refl) in let no = some n (omega arith) e in omega (arith, here, no),
  fits_from f (n + 1) slots
      (λ s le no. none s (omega arith)
      (let here : cond {A = ℕ} (n == s) 1 0 ≡ 0 = ap (λ t. cond {A = ℕ} t 1 0) (ne_eqb n s (λ e. omega arith)) in omega (arith, here, no)))
      (λ s le e. let all = some s (omega arith) e in omega (arith, all)),
)

-- The places in any order number the slots so.
pub fits : (slots : List (Option Body)) (order : List Place) → ((s : ℕ) → times s order ≡ times s (places_from 0 slots)) → Fits (number_from 1 order) 0 slots
fits slots order same =
    fits_from (number_from 1 order) 0 slots (λ s le no. not_numbered 1 s order (same s ∙ no)) (λ s le e. sym (same s) ∙ numbered 1 s order (omega arith) e)
