-- In which slot each number stands.
use Rattle.std.proofs.Common.{◌≡◌, ◌≤◌, ◌<◌, ◌+◌, ◌-◌, ◌==◌, ◌⊎◌, inl, inr, ℕ, zero, suc, Bool, true, false, not, cond, List, [], ◌∷◌, ◌++◌, length, map, filter, find, get_or, set, sum_by, Option, Some, None, refl, sym, ap, ◌∙◌, subst, arith}
use Rattle.std.specs.List.{Contains, range_with_len}
use Rattle.std.specs.Option.{option_or, is_some}
use Rattle.std.proofs.lemmas.List.Folds.{find-append}
use Rattle.std.proofs.lemmas.List.Sums.{sum_by-cons}
use Rattle.std.proofs.lemmas.List.Sorted.{Contains-permutation, IsPermutation-sym, sum_by-IsPermutation}
use Rattle.std.proofs.lemmas.List.{get_or-set_same, get_or-set_other, length-set, get_or_default}
use Rattle.std.proofs.lemmas.Bool.{eqb-true, eqb-false, eq-eqb}
use Rattle.std.proofs.lemmas.List.FromFn.{length-range_with_len, get_or-range_with_len}
use Rattle.pssm_model.specs.declared.draft_setting.FlatDraft.{FlatDraft}
use Rattle.pssm_bodies.specs.declared.slot.Slot.{Slot}
use Rattle.pssm_bodies.specs.Slots.{machine_slots, is_given, given_numbers, HasEachOnce}
use Rattle.pssm_bodies.specs.inner.Counts.{IsTable}

-- ---- elements

-- x is one of them
abbrev pub Has : {X : Type 0} → List X → X → Type 0
Has [] x = ⊥
Has (y ∷ ys) x = (y ≡ x) ⊎ Has ys x

pub has_contained : {X : Type 0} (xs : List X) (x : X) → Contains xs x → Has xs x
has_contained [] x (k, lt, is) = absurd (omega arith)
has_contained (y ∷ ys) x (zero, lt, is) = inl is
has_contained (y ∷ ys) x (suc k, lt, is) = inr (has_contained ys x (k, omega arith, is))

pub contained_has : {X : Type 0} (xs : List X) (x : X) → Has xs x → Contains xs x
contained_has [] x h = absurd h
contained_has (y ∷ ys) x (inl is) = (0, omega arith, is)
contained_has (y ∷ ys) x (inr more) = let c = contained_has ys x more in (suc c.0, omega (arith, c.1), c.2)

pub has_append : {X : Type 0} (xs ys : List X) (x : X) → Has xs x ⊎ Has ys x → Has (xs ++ ys) x
has_append [] ys x (inl h) = absurd h
has_append [] ys x (inr h) = h
has_append (z ∷ xs) ys x (inl (inl is)) = inl is
has_append (z ∷ xs) ys x (inl (inr h)) = inr (has_append xs ys x (inl h))
has_append (z ∷ xs) ys x (inr h) = inr (has_append xs ys x (inr h))

pub append_has : {X : Type 0} (xs ys : List X) (x : X) → Has (xs ++ ys) x → Has xs x ⊎ Has ys x
append_has [] ys x h = inr h
append_has (z ∷ xs) ys x (inl is) = inl (inl is)
append_has (z ∷ xs) ys x (inr h) = go (append_has xs ys x h) where
  go : Has xs x ⊎ Has ys x → Has (z ∷ xs) x ⊎ Has ys x
  go (inl h) = inl (inr h)
  go (inr h) = inr h

-- a test of two numbers, and what it says
pub by_test : {A : Type 0} (a b : ℕ) → ((a == b) ≡ true → a ≡ b → A) → ((a == b) ≡ false → (a ≡ b → ⊥) → A) → A
by_test {A} a b same other = go (a == b) refl same other where
  go : (t : Bool) → (a == b) ≡ t → ((a == b) ≡ true → a ≡ b → A) → ((a == b) ≡ false → (a ≡ b → ⊥) → A) → A
  go true e same other = same e (eqb-true a b e)
  go false e same other = other e (eqb-false a b e)

pub if_true : (b : Bool) → b ≡ true → cond {A = ℕ} b 1 0 ≡ 1
if_true b is = subst (λ (t : Bool). cond {A = ℕ} t 1 0 ≡ 1) (sym is) refl

pub if_false : (b : Bool) → b ≡ false → cond {A = ℕ} b 1 0 ≡ 0
if_false b is = subst (λ (t : Bool). cond {A = ℕ} t 1 0 ≡ 0) (sym is) refl

-- ---- the table

abbrev pub first_at : List Slot → ℕ → Option Slot
first_at slots n = find (λ (x : Slot). x.number == n) slots

-- One slot more is found where none was found before.
found_next : (slots : List Slot) (s : Slot) (n : ℕ) → first_at (slots ++ s ∷ []) n ≡ option_or (first_at slots n) (cond (s.number == n) (Some s) None)
found_next slots s n = find-append (λ (x : Slot). x.number == n) slots (s ∷ [])

or_none : {X : Type 0} (o : Option X) → option_or o None ≡ o
or_none None = refl
or_none (Some x) = refl

-- elsewhere it is as before
found_elsewhere : (slots : List Slot) (s : Slot) (n : ℕ) → (s.number == n) ≡ false → first_at (slots ++ s ∷ []) n ≡ first_at slots n
found_elsewhere slots s n other = found_next slots s n ∙ ap (λ (b : Bool). option_or (first_at slots n) (cond b (Some s) None)) other ∙ or_none (first_at slots n)

found_there : (slots : List Slot) (s : Slot) (n : ℕ) → (s.number == n) ≡ true → first_at slots n ≡ None → first_at (slots ++ s ∷ []) n ≡ Some s
found_there slots s n there none = found_next slots s n ∙ ap (λ (o : Option Slot). option_or o (cond (s.number == n) (Some s) None)) none ∙ ap (λ (b : Bool). cond b (Some s) None) there

found_before : (slots : List Slot) (s x : Slot) (n : ℕ) → first_at slots n ≡ Some x → first_at (slots ++ s ∷ []) n ≡ Some x
found_before slots s x n before = found_next slots s n ∙ ap (λ (o : Option Slot). option_or o (cond (s.number == n) (Some s) None)) before

pub put_table : (slots : List Slot) (table : List (Option Slot)) (s : Slot) (k : ℕ) → k ≡ s.number → k < length table → get_or table k None ≡ None → IsTable slots table
    → IsTable (slots ++ s ∷ []) (set table k (Some s))
put_table slots table s k here within none is n lt =
    let lt' : n < length table = omega (arith, lt, length-set table k (Some s)) in
    by_test s.number n
    (λ there same.
    let e : k ≡ n = here ∙ same in
    let at : get_or (set table k (Some s)) n None ≡ Some s = subst (λ j. get_or (set table k (Some s)) j None ≡ Some s) e (get_or-set_same table k (Some s) None within) in
    at ∙ sym (found_there slots s n there (sym (is n lt') ∙ subst (λ j. get_or table j None ≡ None) e none)))
    (λ other apart. get_or-set_other table k n (Some s) None (λ e. apart (sym here ∙ sym e)) ∙ is n lt' ∙ sym (found_elsewhere slots s n other))

pub kept_table : (slots : List Slot) (table : List (Option Slot)) (s : Slot) (k : ℕ) → k ≡ s.number → (k < length table → (x : Slot) × (get_or table k None ≡ Some x)) → IsTable slots table
    → IsTable (slots ++ s ∷ []) table
kept_table slots table s k here taken is n lt = by_test s.number n
    (λ there same.
    let old = taken (omega (arith, here, same, lt)) in
    let was : get_or table n None ≡ Some old.0 = subst (λ j. get_or table j None ≡ Some old.0) (here ∙ same) old.1 in
    was ∙ sym (found_before slots s old.0 n (sym (is n lt) ∙ was)))
    (λ other apart. is n lt ∙ sym (found_elsewhere slots s n other))

-- ---- each number once

-- how many slots have this number
abbrev pub times : ℕ → List Slot → ℕ
times n slots = sum_by (λ (s : Slot). cond (s.number == n) 1 0) slots

-- how many numbers are this one
abbrev pub times_in : ℕ → List ℕ → ℕ
times_in n numbers = sum_by (λ (k : ℕ). cond (k == n) 1 0) numbers

abbrev pub numbers_in : List Slot → List ℕ
numbers_in slots = filter is_given (map (λ (s : Slot). s.number) slots)

-- A sum over slots is one over the given numbers, where number 0 counts for nothing.
pub sum_given : (f : ℕ → ℕ) → f 0 ≡ 0 → (slots : List Slot) → sum_by (λ (s : Slot). f s.number) slots ≡ sum_by f (numbers_in slots)
sum_given f none [] = refl
sum_given f none (s ∷ slots) = sum_by-cons (λ (s : Slot). f s.number) s slots ∙ ap (λ k. f s.number + k) (sum_given f none slots) ∙ go (s.number == 0) refl where
  go : (t : Bool) → (s.number == 0) ≡ t → f s.number + sum_by f (numbers_in slots) ≡ sum_by f (cond (not t) (s.number ∷ numbers_in slots) (numbers_in slots))
  go true e = let zero' : f s.number ≡ 0 = ap f (eqb-true s.number 0 e) ∙ none in omega (arith, zero')
  go false e = sym (sum_by-cons f s.number (numbers_in slots))

range_times : (n a len : ℕ) → n < a → times_in n (range_with_len a len) ≡ 0
range_times n a zero below = refl
range_times n a (suc len) below =
    by_test a n
    (λ there same. absurd (omega (arith, same, below)))
    (λ other apart.
    omega (arith, sum_by-cons (λ (k : ℕ). cond (k == n) 1 0) a (range_with_len (a + 1) len), if_false (a == n) other, range_times n (a + 1) len (omega (arith, below))))

range_once : (n a len : ℕ) → times_in n (range_with_len a len) ≤ 1
range_once n a zero = omega arith
range_once n a (suc len) = by_test a n
    (λ there same.
    omega (arith, sum_by-cons (λ (k : ℕ). cond (k == n) 1 0) a (range_with_len (a + 1) len), if_true (a == n) there, range_times n (a + 1) len (omega (arith, same))))
    (λ other apart. omega (arith, sum_by-cons (λ (k : ℕ). cond (k == n) 1 0) a (range_with_len (a + 1) len), if_false (a == n) other, range_once n (a + 1) len))

module _ (flat : FlatDraft) (once : HasEachOnce flat) where
  -- A number stands in one slot at most.
  pub at_most_once : (n : ℕ) → 0 < n → times n (machine_slots flat.machine) ≤ 1
  at_most_once n some =
      let none : cond {A = ℕ} (0 == n) 1 0 ≡ 0 = by_test 0 n (λ there same. absurd (omega (arith, same, some))) (λ other apart. if_false (0 == n) other) in
      omega (
        arith,
        sum_given (λ k. cond (k == n) 1 0) none (machine_slots flat.machine),
        sum_by-IsPermutation (λ (k : ℕ). cond (k == n) 1 0) (given_numbers flat.machine) (range_with_len 1 (length flat.bodies - 1)) once.others,
        range_once n 1 (length flat.bodies - 1),
      )

  -- Every body stands in a slot.
  pub stands_given : (n : ℕ) → 0 < n → n < length flat.bodies → Has (given_numbers flat.machine) n
  stands_given n some within =
      let range = range_with_len 1 (length flat.bodies - 1) in
      let inside : Contains range n = (
        n - 1,
        omega (arith, length-range_with_len 1 (length flat.bodies - 1), some, within),
        get_or-range_with_len 1 (length flat.bodies - 1) (n - 1) n (omega (arith, some, within)) ∙ (let e : 1 + (n - 1) ≡ n = omega (arith, some) in e),
      ) in
      has_contained (given_numbers flat.machine) n
      (Contains-permutation range (given_numbers flat.machine) n (IsPermutation-sym (given_numbers flat.machine) range once.others) inside)

has_times : (slots : List Slot) (s : Slot) → Has slots s → 0 < times s.number slots
has_times [] s h = absurd h
has_times (x ∷ slots) s (inl is) =
    let there : (x.number == s.number) ≡ true = eq-eqb x.number s.number (ap (λ (y : Slot). y.number) is) in
    omega (arith, sum_by-cons (λ (y : Slot). cond (y.number == s.number) 1 0) x slots, if_true (x.number == s.number) there)
has_times (x ∷ slots) s (inr more) = omega (arith, sum_by-cons (λ (y : Slot). cond (y.number == s.number) 1 0) x slots, has_times slots s more)

-- A slot is the first with its number, where no other has it.
pub found_alone : (slots : List Slot) (s : Slot) → Has slots s → times s.number slots ≤ 1 → first_at slots s.number ≡ Some s
found_alone [] s h few = absurd h
found_alone (x ∷ slots) s has few = go (x.number == s.number) refl has (λ more. found_alone slots s more) where
  parts : times s.number (x ∷ slots) ≡ cond {A = ℕ} (x.number == s.number) 1 0 + times s.number slots
  parts = sum_by-cons (λ (y : Slot). cond (y.number == s.number) 1 0) x slots

  go : (t : Bool) → (x.number == s.number) ≡ t → Has (x ∷ slots) s → (Has slots s → times s.number slots ≤ 1 → first_at slots s.number ≡ Some s)
      → cond t (Some x) (first_at slots s.number) ≡ Some s
  go true e (inl is) others = ap Some is
  go true e (inr more) others = absurd (omega (arith, parts, few, if_true (x.number == s.number) e, has_times slots s more))
  go false e (inl is) others = absurd (eqb-false x.number s.number e (ap (λ (y : Slot). y.number) is))
  go false e (inr more) others = others more (omega (arith, parts, few))

-- A given number is found.
pub found_given : (slots : List Slot) (n : ℕ) → Has (numbers_in slots) n → (s : Slot) × (first_at slots n ≡ Some s) × (s.number ≡ n) × Has slots s
found_given [] n h = absurd h
found_given (x ∷ slots) n has = by_test x.number n
    (λ there same. (x, ap (λ (b : Bool). cond b (Some x) (first_at slots n)) there, same, inl refl))
    (λ other apart.
    let found = found_given slots n (go (is_given x.number) has apart) in
    (found.0, ap (λ (b : Bool). cond b (Some x) (first_at slots n)) other ∙ found.1, found.2, inr found.3)) where
      go : (t : Bool) → Has (cond t (x.number ∷ numbers_in slots) (numbers_in slots)) n → (x.number ≡ n → ⊥) → Has (numbers_in slots) n
      go true (inl is) apart = absurd (apart is)
      go true (inr more) apart = more
      go false more apart = more

-- ---- what a table says

-- A slot that is put where none stood.
pub none_at : (o : Option Slot) → is_some o ≡ false → o ≡ None
none_at None e = refl
none_at (Some x) e = absurd cc

pub some_at : (o : Option Slot) → is_some o ≡ true → (x : Slot) × (o ≡ Some x)
some_at (Some x) e = (x, refl)
some_at None e = absurd cc

-- What is read at a place of the table.
pub read_at : (table : List (Option Slot)) (k : ℕ) (o : Option Slot) → k < length table → o ≡ get_or table k o → get_or table k None ≡ o
read_at table k o within is = get_or_default table k None o within ∙ sym is

-- ---- numbers in range

has_number : (slots : List Slot) (s : Slot) → Has slots s → (s.number ≡ 0 → ⊥) → Has (numbers_in slots) s.number
has_number [] s h some = absurd h
has_number (x ∷ slots) s has some = go (x.number == 0) refl has (λ more. has_number slots s more some) where
  go : (t : Bool) → (x.number == 0) ≡ t → Has (x ∷ slots) s → (Has slots s → Has (numbers_in slots) s.number) → Has (cond (not t) (x.number ∷ numbers_in slots) (numbers_in slots)) s.number
  go true e (inl is) others = absurd (some (sym (ap (λ (y : Slot). y.number) is) ∙ eqb-true x.number 0 e))
  go true e (inr more) others = others more
  go false e (inl is) others = inl (ap (λ (y : Slot). y.number) is)
  go false e (inr more) others = inr (others more)

range_within : (a len n : ℕ) → Has (range_with_len a len) n → n < a + len
range_within a zero n h = absurd h
range_within a (suc len) n (inl is) = omega (arith, is)
range_within a (suc len) n (inr more) = omega (arith, range_within (a + 1) len n more)

-- The number of a slot is that of a body.
pub number_within : (flat : FlatDraft) → HasEachOnce flat → (s : Slot) → Has (machine_slots flat.machine) s → (s.number ≡ 0 → ⊥) → (0 < s.number) × (s.number ≤ length flat.bodies - 1)
number_within flat once s has some =
    let range = range_with_len 1 (length flat.bodies - 1) in
    let there = has_contained range s.number
    (Contains-permutation (given_numbers flat.machine) range s.number once.others (contained_has (given_numbers flat.machine) s.number (has_number (machine_slots flat.machine) s has some))) in
    (positive s.number some, omega (arith, range_within 1 (length flat.bodies - 1) s.number there)) where
      positive : (n : ℕ) → (n ≡ 0 → ⊥) → 0 < n
      positive n some = omega (arith, some)
