-- An object takes no more signals than are told to it.
use Rattle.std.proofs.Common.{◌≡◌, ◌≤◌, ◌+◌, ◌==◌, ◌&&◌, ◌++◌, ℕ, List, [], ◌∷◌, length, Bool, true, false, not, cond, filter, refl, sym, ap, subst, ◌∙◌, arith, length-append, eq-eqb}
use Rattle.std.specs.List.{count_by, list_any, enumerate_from}
use Rattle.std.proofs.lemmas.List.Elements.{filter-append}
use Rattle.std.proofs.lemmas.List.Sums.{sum_by-cons, sum_by-append, sum_by_push, length-filter, count_by-le-length}
use Rattle.pssm_model.specs.declared.steps.Firing.{Firing}
use Rattle.pssm_semantics.specs.declared.entry.ObjectId.{ObjectId}
use Rattle.pssm_semantics.specs.declared.entry.Entry.{Entry}
use Rattle.pssm_semantics.specs.declared.entry.Entry.TheVariants.{Post, Start, Take, Done, Exit, Effect, Enter, Opened, Pick, DoStep}
use Rattle.pssm_semantics.specs.declared.entry.Rule.{Rule}
use Rattle.pssm_semantics.specs.declared.entry.Rule.TheVariants.{A1, A6}
use Rattle.pssm_semantics.specs.declared.stimulus.Stimulus.{Stimulus}
use Rattle.pssm_semantics.specs.declared.setting.Setting.{Setting}
use Rattle.pssm_semantics.specs.Pool.{signals_of_entry, signals_of, takes, pool_of}
use Rattle.pssm_semantics.specs.Rules.{Holds}
use Rattle.pssm_semantics.specs.Admissible.{IsAdmissibleIn}
use Rattle.pssm_semantics.proofs.Appended.{from_the_end}
use Rattle.pssm_semantics_laws.proofs.Admissible.{IsAdmissible-front, IsAdmissible-last}
use Rattle.pssm_semantics_laws.proofs.Objects.{same_object}
use Rattle.pssm_semantics_laws.proofs.Waiting.{signals_of-append, waits_in, arrivals, pool_of-grows, pool_of-take}
use Rattle.pssm_suite.proofs.EntryWeights.{own_head, takes_of}

-- whether the signal is one for the object, and how many of these a journal has
abbrev pub is_for : ObjectId → Stimulus → Bool
is_for o x = x.object.0 == o.0

abbrev pub told_count : ObjectId → List Entry → ℕ
told_count o J = count_by (is_for o) (signals_of J)

-- ---- what a filter leaves

filter_le : {X : Type 0} (p : X → Bool) (xs : List X) → length (filter p xs) ≤ length xs
filter_le p xs = omega (arith, length-filter p xs, count_by-le-length p xs)

filter_less : {X : Type 0} (p : X → Bool) (held rest : List X) (x : X) → p x ≡ false → length (filter p (held ++ x ∷ rest)) + 1 ≤ length (held ++ x ∷ rest)
filter_less p held rest x fails =
    let parts = ap (λ ys. length ys) (filter-append p held (x ∷ rest)) in
    let both = length-append (filter p held) (filter p (x ∷ rest)) in
    let second = ap (λ b. length (cond b (x ∷ filter p rest) (filter p rest))) fails in
    let a = filter_le p held in
    let c = filter_le p rest in
    let whole = length-append held (x ∷ rest) in
    omega (arith, parts, both, second, a, c, whole)

-- what comes to a pool is for its object
kept_few : {X : Type 0} (a b : Bool) (w : X) (ws : List X) → length (cond (a && b) (w ∷ ws) ws) ≤ cond a 1 0 + length ws
kept_few true true w ws = omega arith
kept_few true false w ws = omega arith
kept_few false b w ws = omega arith

come_few : (J : List Entry) (o : ObjectId) (k : ℕ) (xs : List Stimulus) → length (filter (waits_in J o) (enumerate_from k xs)) ≤ count_by (is_for o) xs
come_few J o k [] = omega arith
come_few J o k (x ∷ xs) =
    let here = kept_few (x.object.0 == o.0) (not (list_any (λ e. takes e o k) J)) (k, x) (filter (waits_in J o) (enumerate_from (k + 1) xs)) in
    let later = come_few J o (k + 1) xs in
    let sum = sum_by-cons (λ (y : Stimulus). cond (is_for o y) 1 0) x xs in
    omega (arith, here, later, sum)

-- ---- one more entry

-- So many signals were taken and wait as were told, or fewer.
abbrev FewTaken : ObjectId → List Entry → Type 0
FewTaken o J = takes_of o J + length (pool_of J o) ≤ told_count o J

pub told_more : (o : ObjectId) (J : List Entry) (e : Entry) → told_count o (J ++ e ∷ []) ≡ told_count o J + count_by (is_for o) (signals_of_entry e)
told_more o J e =
    ap (count_by (is_for o)) (signals_of-append J e) ∙ sum_by-append (λ (y : Stimulus). cond (is_for o y) 1 0) (signals_of J) (signals_of_entry e)

pub takes_more : (o : ObjectId) (J : List Entry) (e : Entry) → takes_of o (J ++ e ∷ []) ≡ takes_of o J + own_head o 0 1 e
takes_more o J e = sum_by_push (own_head o 0 1) J e

-- an entry that takes no signal of the object
others : (o : ObjectId) (J : List Entry) (e : Entry) → own_head o 0 1 e ≡ 0 → ((n : ℕ) → takes e o n ≡ false) → FewTaken o J → FewTaken o (J ++ e ∷ [])
others o J e none free was =
    let pool = ap (λ (ws : List (ℕ × Stimulus)). length ws) (pool_of-grows J e o free) in
    let both = length-append (pool_of J o) (arrivals J e o) in
    let few = come_few J o (1 + length (signals_of J)) (signals_of_entry e) in
    let told = told_more o J e in
    let taken = takes_more o J e in
    omega (arith, was, none, pool, both, few, told, taken)

-- a take
take_own : (o : ObjectId) (J : List Entry) (number : ℕ) (firing : Firing) (held rest : List (ℕ × Stimulus)) (x : Stimulus)
    → pool_of J o ≡ held ++ (number, x) ∷ rest → FewTaken o J → FewTaken o (J ++ Take o number firing ∷ [])
take_own o J number firing held rest x waits was =
    let e : Entry = Take o number firing in
    let test : ℕ × Stimulus → Bool = λ w. not (takes e o w.0) in
    let hit : test (number, x) ≡ false =
    ap (λ b. not (b && (number == number))) (eq-eqb o.0 o.0 refl) ∙ ap (λ b. not b) (eq-eqb number number refl) in
    let less = filter_less test held rest (number, x) hit in
    let pool = ap (λ (ws : List (ℕ × Stimulus)). length ws) (pool_of-take J o number firing o) in
    let inner = ap (λ (ws : List (ℕ × Stimulus)). length (filter test ws)) waits in
    let size = ap (λ (ws : List (ℕ × Stimulus)). length ws) waits in
    let told = told_more o J e in
    let taken = takes_more o J e in
    let one = ap {B = ℕ} (λ b. cond b 1 0) (eq-eqb o.0 o.0 refl) in
    omega (arith, was, less, pool, inner, size, told, taken, one)

take_other : (o q : ObjectId) (J : List Entry) (number : ℕ) (firing : Firing) → (q.0 == o.0) ≡ false → FewTaken o J → FewTaken o (J ++ Take q number firing ∷ [])
take_other o q J number firing apart was =
    others o J (Take q number firing) (ap {B = ℕ} (λ b. cond b 1 0) apart) (λ n. ap (λ b. b && (number == n)) apart) was

no_start : (b : Bool) → ◌≡◌ {A = ℕ} (cond b 0 0) 0
no_start true = refl
no_start false = refl

module _ (setting : Setting) where
  one_more : (o : ObjectId) (J : List Entry) (e : Entry) → ((rule : Rule) → Holds setting rule J e) → FewTaken o J → FewTaken o (J ++ e ∷ [])
  one_more o J (Take q number firing) may was = by (q.0 == o.0) refl
    where
      by : (b : Bool) → (q.0 == o.0) ≡ b → FewTaken o (J ++ Take q number firing ∷ [])
      by true e =
          let known = may A1 in
          let first = may A6 known.0 known.1 in
          let same : q ≡ o = same_object q o e in
          subst (λ p. FewTaken o (J ++ Take p number firing ∷ [])) (sym same)
          (take_own o J number firing first.0 first.1 first.2 (subst (λ p. pool_of J p ≡ first.0 ++ (number, first.2) ∷ first.1) same first.3) was)
      by false e = take_other o q J number firing e was
  one_more o J (Post q g args) may was = others o J (Post q g args) refl (λ n. refl) was
  one_more o J (Start q) may was = others o J (Start q) (no_start (q.0 == o.0)) (λ n. refl) was
  one_more o J (Done q v firing) may was = others o J (Done q v firing) refl (λ n. refl) was
  one_more o J (Exit q v outs) may was = others o J (Exit q v outs) refl (λ n. refl) was
  one_more o J (Effect q t outs) may was = others o J (Effect q t outs) refl (λ n. refl) was
  one_more o J (Enter q v outs) may was = others o J (Enter q v outs) refl (λ n. refl) was
  one_more o J (Opened q r mode how) may was = others o J (Opened q r mode how) refl (λ n. refl) was
  one_more o J (Pick q v route) may was = others o J (Pick q v route) refl (λ n. refl) was
  one_more o J (DoStep q v k outs) may was = others o J (DoStep q v k outs) refl (λ n. refl) was

  -- So it is in every admissible journal.
  pub few_taken : (o : ObjectId) (J : List Entry) → IsAdmissibleIn setting J → takes_of o J + length (pool_of J o) ≤ told_count o J
  few_taken o =
      from_the_end (λ js. IsAdmissibleIn setting js → FewTaken o js) (λ all. omega arith)
      (λ js e before all.
      one_more o js e (IsAdmissible-last (Holds setting) js e all) (before (IsAdmissible-front (Holds setting) js (e ∷ []) all)))
