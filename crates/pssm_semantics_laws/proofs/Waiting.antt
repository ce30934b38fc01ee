-- What one more entry at the end of a journal does to the signals that wait.
use Rattle.std.proofs.Common.{◌≡◌, ℕ, ◌+◌, ℤ, suc, List, [], ◌∷◌, ◌++◌, length, refl, sym, ◌∙◌, ap, append-nil, add-zero, arith, Bool, true, false, not, ◌&&◌, ◌||◌, ◌==◌, cond}
use Rattle.std.specs.List.{filter, list_any, enumerate_from}
use Rattle.std.proofs.lemmas.Grind.{flat_map-append}
use Rattle.std.proofs.lemmas.List.Elements.{filter-append}
use Rattle.std.proofs.lemmas.List.Folds.{list_any-append}
use Rattle.pssm_semantics.specs.declared.entry.ObjectId.{ObjectId}
use Rattle.pssm_semantics.specs.declared.entry.Entry.{Entry}
use Rattle.pssm_semantics.specs.declared.entry.Entry.TheVariants.{Post, Take}
use Rattle.pssm_semantics.specs.declared.stimulus.Stimulus.{Stimulus}
use Rattle.pssm_model.specs.declared.ids.SignalId.{SignalId}
use Rattle.pssm_model.specs.declared.steps.Firing.{Firing}
use Rattle.pssm_semantics.specs.Pool.{signals_of_entry, signals_of, numbered_signals, takes, pool_of}

pub enumerate_from-append : {X : Type 0} (n : ℕ) (xs ys : List X) → enumerate_from n (xs ++ ys) ≡ enumerate_from n xs ++ enumerate_from (n + length xs) ys
enumerate_from-append n [] ys = ap (λ k. enumerate_from k ys) (sym (add-zero n))
enumerate_from-append n (x ∷ xs) ys =
    let place : n + 1 + length xs ≡ n + suc (length xs) = omega arith in
    ap (λ r. (n, x) ∷ r) (enumerate_from-append (n + 1) xs ys ∙ ap (λ k. enumerate_from (n + 1) xs ++ enumerate_from k ys) place)

kept-both : {X : Type 0} (q : X → Bool) (x : X) (ps rs : List X) (b c : Bool) → rs ≡ filter q ps → q x ≡ c
    → cond (b && c) (x ∷ rs) rs ≡ filter q (cond b (x ∷ ps) ps)
kept-both q x ps rs false c same e = same
kept-both q x ps rs true true same e = rw e (ap (λ ys. x ∷ ys) same)
kept-both q x ps rs true false same e = rw e same

-- one test after the other is both
pub filter-both : {X : Type 0} (p q r : X → Bool) → ((x : X) → r x ≡ (p x && q x)) → (xs : List X) → filter r xs ≡ filter q (filter p xs)
filter-both p q r h [] = refl
filter-both p q r h (x ∷ xs) = rw (h x) (kept-both q x (filter p xs) (filter r xs) (p x) (q x) (filter-both p q r h xs) refl)

-- a test that lets all pass
pub filter-all : {X : Type 0} (p : X → Bool) → ((x : X) → p x ≡ true) → (xs : List X) → filter p xs ≡ xs
filter-all p h [] = refl
filter-all p h (x ∷ xs) = rw (h x) (ap (λ ys. x ∷ ys) (filter-all p h xs))

-- the signals after an entry are those before it and its own
pub signals_of-append : (J : List Entry) (e : Entry) → signals_of (J ++ e ∷ []) ≡ signals_of J ++ signals_of_entry e
signals_of-append J e = flat_map-append signals_of_entry J (e ∷ []) ∙ ap (λ xs. signals_of J ++ xs) (append-nil (signals_of_entry e))

-- the signals with numbers likewise
pub numbered_signals-append : (J : List Entry) (e : Entry)
    → numbered_signals (J ++ e ∷ []) ≡ numbered_signals J ++ enumerate_from (1 + length (signals_of J)) (signals_of_entry e)
numbered_signals-append J e = ap (λ xs. enumerate_from 1 xs) (signals_of-append J e) ∙ enumerate_from-append 1 (signals_of J) (signals_of_entry e)

-- the signal is for the object, and no take of it in the journal names its number
abbrev pub waits_in : List Entry → ObjectId → ℕ × Stimulus → Bool
waits_in J o w = (w.1.object.0 == o.0) && not (list_any (λ e. takes e o w.0) J)

-- what an entry adds to the pool of the object
abbrev pub arrivals : List Entry → Entry → ObjectId → List (ℕ × Stimulus)
arrivals J e o = filter (waits_in J o) (enumerate_from (1 + length (signals_of J)) (signals_of_entry e))

both_missing : (a b c : Bool) → (a && not (b || (c || false))) ≡ ((a && not b) && not c)
both_missing false b c = refl
both_missing true true c = refl
both_missing true false true = refl
both_missing true false false = refl

-- A signal waits after an entry where it waits before it and the entry does not take it.
pub waits_in-append : (J : List Entry) (e : Entry) (o : ObjectId) (w : ℕ × Stimulus)
    → waits_in (J ++ e ∷ []) o w ≡ (waits_in J o w && not (takes e o w.0))
waits_in-append J e o w =
    ap (λ b. (w.1.object.0 == o.0) && not b) (list_any-append (λ f. takes f o w.0) J (e ∷ []))
    ∙ both_missing (w.1.object.0 == o.0) (list_any (λ f. takes f o w.0) J) (takes e o w.0)

-- A pool after an entry is the pool before it and what the entry adds, without what the entry takes.
pub pool_of-append : (J : List Entry) (e : Entry) (o : ObjectId)
    → pool_of (J ++ e ∷ []) o ≡ filter (λ w. not (takes e o w.0)) (pool_of J o ++ arrivals J e o)
pool_of-append J e o =
    filter-both (waits_in J o) (λ w. not (takes e o w.0)) (waits_in (J ++ e ∷ []) o) (waits_in-append J e o) (numbered_signals (J ++ e ∷ []))
    ∙ ap (λ ws. filter (λ w. not (takes e o w.0)) (filter (waits_in J o) ws)) (numbered_signals-append J e)
    ∙ ap (λ ws. filter (λ w. not (takes e o w.0)) ws)
    (filter-append (waits_in J o) (numbered_signals J) (enumerate_from (1 + length (signals_of J)) (signals_of_entry e)))

-- An entry that takes no signal of the object adds to its pool what it posts and sends.
pub pool_of-grows : (J : List Entry) (e : Entry) (o : ObjectId) → ((n : ℕ) → takes e o n ≡ false) → pool_of (J ++ e ∷ []) o ≡ pool_of J o ++ arrivals J e o
pool_of-grows J e o none = pool_of-append J e o ∙ filter-all (λ w. not (takes e o w.0)) (λ w. ap not (none w.0)) (pool_of J o ++ arrivals J e o)

-- An entry without signals that takes none of the object leaves its pool.
pub pool_of-same : (J : List Entry) (e : Entry) (o : ObjectId) → ((n : ℕ) → takes e o n ≡ false) → signals_of_entry e ≡ [] → pool_of (J ++ e ∷ []) o ≡ pool_of J o
pool_of-same J e o none empty =
    pool_of-grows J e o none
    ∙ ap (λ xs. pool_of J o ++ filter (waits_in J o) (enumerate_from (1 + length (signals_of J)) xs)) empty
    ∙ append-nil (pool_of J o)

-- A take leaves of every pool what it does not take.
pub pool_of-take : (J : List Entry) (q : ObjectId) (number : ℕ) (firing : Firing) (o : ObjectId)
    → pool_of (J ++ Take q number firing ∷ []) o ≡ filter (λ w. not (takes (Take q number firing) o w.0)) (pool_of J o)
pool_of-take J q number firing o =
    pool_of-append J (Take q number firing) o
    ∙ ap (λ ws. filter (λ w. not (takes (Take q number firing) o w.0)) ws) (append-nil (pool_of J o))

-- A post adds its signal, with the next number, to the pool of its object, where no take in the journal names the number.
pub pool_of-post : (J : List Entry) (q : ObjectId) (signal : SignalId) (args : List ℤ) (o : ObjectId)
    → let w : ℕ × Stimulus = (1 + length (signals_of J), record { object = q; signal = signal; args = args }) in
    pool_of (J ++ Post q signal args ∷ []) o ≡ pool_of J o ++ cond (waits_in J o w) (w ∷ []) []
pool_of-post J q signal args o = pool_of-grows J (Post q signal args) o (λ n. refl)
