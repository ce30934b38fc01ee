-- Lists in which nothing stands twice.
use Rattle.std.proofs.Common.{◌≡◌, ◌≤◌, ◌<◌, ◌+◌, ◌⊎◌, inl, inr, ℕ, Bool, true, false, List, [], ◌∷◌, ◌++◌, length, Option, Some, None, refl, sym, ap, ◌∙◌, subst, arith, position, bytes_eq, length-append}
use Rattle.std.specs.Prelude.{nat_lt, cond, not}
use Rattle.std.specs.List.{position_or_len}
use Rattle.std.proofs.lemmas.Bool.{lt-ltb}
use Rattle.std.proofs.lemmas.Slice.Eq.{bytes_eq-Decides}
use Rattle.pssm_semantics.specs.declared.setting.Names.{Names}
use Rattle.pssm_semantics.specs.declared.tree.Act.{Act}
use Rattle.pssm_semantics.specs.declared.tree.Stmt.{Stmt}
use Rattle.pssm_acts.specs.ActGrammar.{SpellsPhrase, assignment, sending, bare_mark, marking, SpellsStmts, nothing, phrase, choice, alternative, SpellsBehaviours, first, step}
use Rattle.pssm_acts.specs.Marks.{grown, with_mark}
use Rattle.pssm_acts.specs.Tokens.{Token}
use Rattle.pssm_bodies.specs.declared.slot.Reading.{Reading}
use Rattle.pssm_bodies.specs.Readings.{Said, Says, behaviour, guard'}
use Rattle.pssm_bodies.specs.Readings.{steps as says_steps}
use Rattle.pssm_bodies.proofs.SlotLaws.{Has, has_append, append_has}

-- Nothing stands in the list twice.
abbrev pub Distinct : {X : Type 0} → List X → Type 0
Distinct [] = Unit {0}
Distinct (x ∷ xs) = (Has xs x → ⊥) × Distinct xs

-- ---- such a list within another

-- A list, cut at one of its elements.
record Cut {X : Type 0} (ys : List X) (x : X) : Type 0 where
  front : List X
  back : List X
  is : ys ≡ front ++ x ∷ back

cut_at : {X : Type 0} (ys : List X) (x : X) → Has ys x → Cut ys x
cut_at [] x h = absurd h
cut_at (y ∷ ys) x (inl is) = record { front = []; back = ys; is = ap (λ z. z ∷ ys) is }
cut_at (y ∷ ys) x (inr more) =
    let c : Cut ys x = cut_at ys x more in
    record { front = y ∷ c.front; back = c.back; is = ap (λ zs. y ∷ zs) c.is }

-- What stands in the list and is not the one at which it is cut stands in the rest of it.
in_rest : {X : Type 0} (front back : List X) (x m : X) → (x ≡ m → ⊥) → Has (front ++ x ∷ back) m → Has (front ++ back) m
in_rest front back x m apart h = go (append_has front (x ∷ back) m h) where
  go : Has front m ⊎ Has (x ∷ back) m → Has (front ++ back) m
  go (inl h) = has_append front back m (inl h)
  go (inr (inl is)) = absurd (apart is)
  go (inr (inr h)) = has_append front back m (inr h)

-- It has no more elements than a list that has all of them.
pub no_longer : {X : Type 0} (xs ys : List X) → Distinct xs → ((m : X) → Has xs m → Has ys m) → length xs ≤ length ys
no_longer [] ys apart within = omega arith
no_longer {X} (x ∷ xs) ys apart within =
    let c : Cut ys x = cut_at ys x (within x (inl refl)) in
    let rest : (m : X) → Has xs m → Has (c.front ++ c.back) m = λ m h.
    in_rest c.front c.back x m (λ same. apart.0 (subst (λ z. Has xs z) (sym same) h)) (subst (λ zs. Has zs m) c.is (within m (inr h))) in
    omega (arith, no_longer xs (c.front ++ c.back) apart.1 rest, length-append c.front c.back, length-append c.front (x ∷ c.back), ap length c.is)

-- ---- marks

distinct_more : {X : Type 0} (xs : List X) (x : X) → Distinct xs → (Has xs x → ⊥) → Distinct (xs ++ x ∷ [])
distinct_more [] x apart new = ((λ h. h), tt)
distinct_more (y ∷ xs) x apart new = ((λ h. go (append_has xs (x ∷ []) y h)), distinct_more xs x apart.1 (λ h. new (inr h))) where
  go : Has xs y ⊎ Has (x ∷ []) y → ⊥
  go (inl h) = apart.0 h
  go (inr (inl is)) = new (inl (sym is))
  go (inr (inr h)) = h

found_some : (p : List ℕ → Bool) (xs : List (List ℕ)) (x : List ℕ) → Has xs x → p x ≡ true → position_or_len p xs < length xs
found_some p [] x h is = absurd h
found_some p (y ∷ ys) x (inl same) is = go (p y) (ap p same ∙ is) where
  go : (t : Bool) → t ≡ true → cond (not t) (1 + position_or_len p ys) 0 < length (y ∷ ys)
  go true e = omega arith
  go false e = absurd cc
found_some p (y ∷ ys) x (inr h) is = go (p y) (found_some p ys x h is) where
  go : (t : Bool) → position_or_len p ys < length ys → cond (not t) (1 + position_or_len p ys) 0 < length (y ∷ ys)
  go true lt = omega arith
  go false lt = omega (arith, lt)

not_none : (n len : ℕ) → n < len → cond (nat_lt n len) (Some n) None ≡ None → ⊥
not_none n len lt is = let e : nat_lt n len ≡ true = lt-ltb n len lt in cc

not_found : (marks : List (List ℕ)) (word : List ℕ) → position (λ n. bytes_eq n word) marks ≡ None → Has marks word → ⊥
not_found marks word none h =
    not_none (position_or_len (λ n. bytes_eq n word) marks) (length marks) (found_some (λ n. bytes_eq n word) marks word h ((bytes_eq-Decides word word).1 refl)) none

mark_distinct : (marks : List (List ℕ)) (word : List ℕ) → Distinct marks → Distinct (with_mark marks word)
mark_distinct marks word apart = go (position (λ n. bytes_eq n word) marks) refl where
  go : (found : Option ℕ) → position (λ n. bytes_eq n word) marks ≡ found → Distinct (grown found marks word)
  go (Some k) e = apart
  go None e = distinct_more marks word apart (not_found marks word e)

phrase_distinct : {names : Names} {marks noted : List (List ℕ)} {l : ℕ} {ts : List Token} {s : Stmt} → SpellsPhrase names marks l ts s noted → Distinct marks → Distinct noted
phrase_distinct (assignment semicolon is found assigns spelled ends) apart = apart
phrase_distinct (sending semicolon is receives dots named found spelled few ends) apart = apart
phrase_distinct {names} {marks} (bare_mark {l} {mark} {name} is named ends) apart = mark_distinct marks name.word apart
phrase_distinct {names} {marks} (marking {l} {mark} {name} semicolon is named spelled few ends) apart = mark_distinct marks name.word apart

stmts_distinct : {names : Names} {marks noted : List (List ℕ)} {l : ℕ} {ts : List Token} {block : List Stmt} → SpellsStmts names marks l ts block noted → Distinct marks → Distinct noted
stmts_distinct nothing apart = apart
stmts_distinct (phrase before spelled) apart = phrase_distinct spelled (stmts_distinct before apart)
stmts_distinct (choice if' opening closing before is guard opens inner closes) apart = stmts_distinct inner (stmts_distinct before apart)
stmts_distinct (alternative if' opening closing else' opening' closing' before is guard opens inner closes is' opens' rest closes') apart =
    stmts_distinct rest (stmts_distinct inner (stmts_distinct before apart))

behaviours_distinct : {names : Names} {marks noted : List (List ℕ)} {ts : List Token} {acts : List Act} → SpellsBehaviours names marks ts acts noted → Distinct marks → Distinct noted
behaviours_distinct (first spells) apart = stmts_distinct spells.spelled apart
behaviours_distinct (step step' semicolon before is ends spells) apart = stmts_distinct spells.spelled (behaviours_distinct before apart)

-- A text notes no name twice.
pub says_distinct : (names : Names) (marks : List (List ℕ)) (text : List ℕ) (reading : Reading) (said : Said) (noted : List (List ℕ)) → Says names marks text reading said noted → Distinct marks → Distinct noted
says_distinct names marks text reading said noted (behaviour spells) apart = stmts_distinct spells.spelled.spelled apart
says_distinct names marks text reading said noted (says_steps spells) apart = behaviours_distinct spells.spelled apart
says_distinct names marks text reading said noted (guard' spells) apart = apart
