-- What is told to an object it has taken, or it waits.
use Rattle.std.proofs.Common.{◌≡◌, ◌≤◌, ◌<◌, ◌+◌, ◌==◌, ◌&&◌, ◌||◌, ◌++◌, ℕ, zero, suc, List, [], ◌∷◌, length, Bool, true, false, not, cond, Some, filter, refl, sym, ap, subst, ◌∙◌, ⊎_elim, arith, length-append, eq-eqb}
use Rattle.std.specs.List.{AllByRecursion, count_by, list_any, enumerate_from}
use Rattle.std.proofs.lemmas.Bool.Decides.{eqb_tells}
use Rattle.std.proofs.lemmas.Option.{slice_get_within}
use Rattle.std.proofs.lemmas.List.Filters.{length-filter_both}
use Rattle.std.proofs.lemmas.List.Sums.{sum_by-cons}
use Rattle.std.proofs.lemmas.Grind.{flat_map-append}
use Rattle.pssm_model.specs.declared.steps.Firing.{Firing}
use Rattle.pssm_semantics.specs.declared.entry.ObjectId.{ObjectId}
use Rattle.pssm_semantics.specs.declared.entry.Entry.{Entry}
use Rattle.pssm_semantics.specs.declared.entry.Entry.TheVariants.{Post, Start, Take, Done, Exit, Effect, Enter, Opened, Pick, DoStep}
use Rattle.pssm_semantics.specs.declared.stimulus.Stimulus.{Stimulus}
use Rattle.pssm_semantics.specs.declared.setting.Setting.{Setting}
use Rattle.pssm_semantics.specs.Journal.{Splits}
use Rattle.pssm_semantics.specs.Pool.{signals_of_entry, signals_of, numbered_signals, takes, pool_of, told_by}
use Rattle.pssm_semantics.specs.Rules.{Holds}
use Rattle.pssm_semantics.specs.Admissible.{IsAdmissibleIn}
use Rattle.pssm_semantics.proofs.Appended.{from_the_end}
use Rattle.pssm_semantics_laws.proofs.Admissible.{IsAdmissible-front}
use Rattle.pssm_semantics_laws.proofs.Objects.{same_object}
use Rattle.pssm_semantics_laws.proofs.Waiting.{waits_in, arrivals, pool_of-grows, pool_of-take}
use Rattle.pssm_system.proofs.Takes.{admissible-keeps_takes}
use Rattle.pssm_suite.proofs.EntryWeights.{each_entry, takes_of}
use Rattle.pssm_suite.proofs.TakenSignals.{is_for, told_count, told_more, takes_more}

-- ---- a number stands once among the signals

none_of_later : (b : Bool) (number k : ℕ) (xs : List Stimulus) → number < k → length (filter (λ (w : ℕ × Stimulus). b && (number == w.0)) (enumerate_from k xs)) ≡ 0
none_of_later b number k [] lt = refl
none_of_later b number k (x ∷ xs) lt =
    let rest = none_of_later b number (k + 1) xs (omega (arith, lt)) in
    ⊎_elim
    (λ yes. absurd (let same = yes.1 in omega (arith, same, lt)))
    (λ other. passes_not b (number == k) (k, x) (filter (λ (w : ℕ × Stimulus). b && (number == w.0)) (enumerate_from (k + 1) xs)) other.0 rest)
    (eqb_tells number k)
  where
    passes_not : {X : Type 0} (a c : Bool) (w : X) (ws : List X) → c ≡ false → length ws ≡ 0 → length (cond (a && c) (w ∷ ws) ws) ≡ 0
    passes_not true true w ws e h = absurd (let clash : true ≡ false = e in cc)
    passes_not true false w ws e h = h
    passes_not false c w ws e h = h

one_at_most : {X : Type 0} (b : Bool) (w : X) (ws : List X) → length ws ≡ 0 → length (cond b (w ∷ ws) ws) ≤ 1
one_at_most true w ws h = omega (arith, h)
one_at_most false w ws h = omega (arith, h)

not_passing : {X : Type 0} (a c : Bool) (w : X) (ws : List X) → c ≡ false → length ws ≤ 1 → length (cond (a && c) (w ∷ ws) ws) ≤ 1
not_passing true true w ws e h = absurd (let clash : true ≡ false = e in cc)
not_passing true false w ws e h = h
not_passing false c w ws e h = h

once : (b : Bool) (number k : ℕ) (xs : List Stimulus) → length (filter (λ (w : ℕ × Stimulus). b && (number == w.0)) (enumerate_from k xs)) ≤ 1
once b number k [] = omega arith
once b number k (x ∷ xs) =
    let test : ℕ × Stimulus → Bool = λ w. b && (number == w.0) in
    let rest = filter test (enumerate_from (k + 1) xs) in
    ⊎_elim
    (λ yes. (let same = yes.1 in one_at_most (b && (number == k)) (k, x) rest (none_of_later b number (k + 1) xs (omega (arith, same)))))
    (λ other. not_passing b (number == k) (k, x) rest other.0 (once b number (k + 1) xs))
    (eqb_tells number k)

-- and so at most once among those that pass another test
fewer_kept : {X : Type 0} (p q : X → Bool) (xs : List X) → length (filter p (filter q xs)) ≤ length (filter p xs)
fewer_kept p q [] = omega arith
fewer_kept p q (x ∷ xs) = by (q x) (p x) refl (fewer_kept p q xs)
  where
    by : (a c : Bool) → p x ≡ c → length (filter p (filter q xs)) ≤ length (filter p xs)
        → length (filter p (cond a (x ∷ filter q xs) (filter q xs))) ≤ length (cond c (x ∷ filter p xs) (filter p xs))
    by true true e le = let kept = ap (λ b. length (cond b (x ∷ filter p (filter q xs)) (filter p (filter q xs)))) e in omega (arith, le, kept)
    by true false e le = let kept = ap (λ b. length (cond b (x ∷ filter p (filter q xs)) (filter p (filter q xs)))) e in omega (arith, le, kept)
    by false true e le = omega (arith, le)
    by false false e le = le

-- ---- no later signal is taken

any_false : {X : Type 0} (p : X → Bool) (xs : List X) → AllByRecursion (λ x. p x ≡ false) xs → list_any p xs ≡ false
any_false p [] all = refl
any_false p (x ∷ xs) all = ap (λ b. b || list_any p xs) all.0 ∙ any_false p xs all.1

told_within : (J : List Entry) (number : ℕ) (x : Stimulus) → told_by J number ≡ Some x → number ≤ length (signals_of J)
told_within J zero x told = omega arith
told_within J (suc k) x told = let lt = slice_get_within (signals_of J) k x told in omega (arith, lt)

takes_no : (q o : ObjectId) (number n : ℕ) → number < n → ((q.0 == o.0) && (number == n)) ≡ false
takes_no q o number n lt = ⊎_elim (λ yes. absurd (let same = yes.1 in omega (arith, same, lt))) (λ other. no_both (q.0 == o.0) (number == n) other.0) (eqb_tells number n)
  where
    no_both : (a c : Bool) → c ≡ false → (a && c) ≡ false
    no_both true c e = e
    no_both false c e = refl

module _ (setting : Setting) (J : List Entry) (admissible : IsAdmissibleIn setting J) (o : ObjectId) (n : ℕ) (later : length (signals_of J) < n) where
  longer : (before after : List Entry) (e : Entry) → Splits J before e after → length (signals_of before) ≤ length (signals_of J)
  longer before after e splits =
      let all = ap (λ js. length (signals_of js)) splits in
      let parts = ap (λ (xs : List Stimulus). length xs) (flat_map-append signals_of_entry before (e ∷ after)) in
      let sum = length-append (signals_of before) (signals_of (e ∷ after)) in
      omega (arith, all, parts, sum)

  untaken_by : (before after : List Entry) (e : Entry) → Splits J before e after → takes e o n ≡ false
  untaken_by before after (Take q number firing) splits =
      let told = (admissible-keeps_takes setting J admissible).takes_are_told before after q number firing splits in
      let within = told_within before number told.0 told.1 in
      let fits = longer before after (Take q number firing) splits in
      takes_no q o number n (omega (arith, within, fits, later))
  untaken_by before after (Post q g args) splits = refl
  untaken_by before after (Start q) splits = refl
  untaken_by before after (Done q v firing) splits = refl
  untaken_by before after (Exit q v outs) splits = refl
  untaken_by before after (Effect q t outs) splits = refl
  untaken_by before after (Enter q v outs) splits = refl
  untaken_by before after (Opened q r mode how) splits = refl
  untaken_by before after (Pick q v route) splits = refl
  untaken_by before after (DoStep q v k outs) splits = refl

  untaken : list_any (λ e. takes e o n) J ≡ false
  untaken = any_false (λ e. takes e o n) J (each_entry (λ e. takes e o n ≡ false) J untaken_by)

-- ---- what comes to a pool is all that is for its object

kept_all : {X : Type 0} (a b : Bool) (w : X) (ws : List X) → b ≡ true → cond a 1 0 + length ws ≤ length (cond (a && b) (w ∷ ws) ws)
kept_all true true w ws e = omega arith
kept_all true false w ws e = absurd (let clash : false ≡ true = e in cc)
kept_all false b w ws e = omega arith

come_all : (J : List Entry) (o : ObjectId) (k : ℕ) (xs : List Stimulus) → ((n : ℕ) → k ≤ n → list_any (λ e. takes e o n) J ≡ false)
    → count_by (is_for o) xs ≤ length (filter (waits_in J o) (enumerate_from k xs))
come_all J o k [] free = omega arith
come_all J o k (x ∷ xs) free =
    let here = kept_all (x.object.0 == o.0) (not (list_any (λ e. takes e o k) J)) (k, x) (filter (waits_in J o) (enumerate_from (k + 1) xs))
    (ap not (free k (omega arith))) in
    let later = come_all J o (k + 1) xs (λ n le. free n (omega (arith, le))) in
    let sum = sum_by-cons (λ (y : Stimulus). cond (is_for o y) 1 0) x xs in
    omega (arith, here, later, sum)

-- ---- one more entry

-- So many signals were told as were taken or wait, or fewer.
abbrev AllTold : ObjectId → List Entry → Type 0
AllTold o J = told_count o J ≤ takes_of o J + length (pool_of J o)

module _ (setting : Setting) (o : ObjectId) (J : List Entry) (admissible : IsAdmissibleIn setting J) (was : AllTold o J) where
  others : (e : Entry) → ((n : ℕ) → takes e o n ≡ false) → AllTold o (J ++ e ∷ [])
  others e free =
      let pool = ap (λ (ws : List (ℕ × Stimulus)). length ws) (pool_of-grows J e o free) in
      let both = length-append (pool_of J o) (arrivals J e o) in
      let all = come_all J o (1 + length (signals_of J)) (signals_of_entry e) (λ n le. untaken setting J admissible o n (omega (arith, le))) in
      let told = told_more o J e in
      let taken = takes_more o J e in
      omega (arith, was, pool, both, all, told, taken)

  take_own : (number : ℕ) (firing : Firing) → AllTold o (J ++ Take o number firing ∷ [])
  take_own number firing =
      let e : Entry = Take o number firing in
      let hit : ℕ × Stimulus → Bool = λ w. takes e o w.0 in
      let parts = length-filter_both hit (λ w. not (takes e o w.0)) (λ w. refl) (pool_of J o) in
      let less = fewer_kept hit (waits_in J o) (numbered_signals J) in
      let one_hit = once (o.0 == o.0) number 1 (signals_of J) in
      let pool = ap (λ (ws : List (ℕ × Stimulus)). length ws) (pool_of-take J o number firing o) in
      let told = told_more o J e in
      let taken = takes_more o J e in
      let one = ap {B = ℕ} (λ b. cond b 1 0) (eq-eqb o.0 o.0 refl) in
      omega (arith, was, parts, less, one_hit, pool, told, taken, one)

  one_more : (e : Entry) → AllTold o (J ++ e ∷ [])
  one_more (Take q number firing) = by (q.0 == o.0) refl
    where
      by : (b : Bool) → (q.0 == o.0) ≡ b → AllTold o (J ++ Take q number firing ∷ [])
      by true e = subst (λ p. AllTold o (J ++ Take p number firing ∷ [])) (sym (same_object q o e)) (take_own number firing)
      by false e = others (Take q number firing) (λ n. ap (λ b. b && (number == n)) e)
  one_more (Post q g args) = others (Post q g args) (λ n. refl)
  one_more (Start q) = others (Start q) (λ n. refl)
  one_more (Done q v firing) = others (Done q v firing) (λ n. refl)
  one_more (Exit q v outs) = others (Exit q v outs) (λ n. refl)
  one_more (Effect q t outs) = others (Effect q t outs) (λ n. refl)
  one_more (Enter q v outs) = others (Enter q v outs) (λ n. refl)
  one_more (Opened q r mode how) = others (Opened q r mode how) (λ n. refl)
  one_more (Pick q v route) = others (Pick q v route) (λ n. refl)
  one_more (DoStep q v k outs) = others (DoStep q v k outs) (λ n. refl)

-- So it is in every admissible journal.
pub all_taken : (setting : Setting) (o : ObjectId) (J : List Entry) → IsAdmissibleIn setting J → told_count o J ≤ takes_of o J + length (pool_of J o)
all_taken setting o =
    from_the_end (λ js. IsAdmissibleIn setting js → AllTold o js) (λ all. omega arith)
    (λ js e before all.
    let so_far = IsAdmissible-front (Holds setting) js (e ∷ []) all in one_more setting o js so_far (before so_far) e)
