-- What an entry leaves of the pools and adds to them, as a journal has it and as it is kept.
use Rattle.std.proofs.Common.{◌≡◌, ◌<◌, ◌≤◌, ◌+◌, ◌++◌, ◌==◌, ◌&&◌, ◌||◌, ℕ, zero, suc, List, [], ◌∷◌, Bool, true, false, not, cond, length, filter, Some, None, slice_get, slice_index_or, Contains, refl, sym, ap, subst, ◌∙◌, ⊎_elim, arith, append-nil, append_assoc, eq-eqb}
use Rattle.std.specs.List.{AllByRecursion, list_any, enumerate_from}
use Rattle.std.proofs.Math.ListN.{set}
use Rattle.std.proofs.lemmas.List.{map-append}
use Rattle.std.proofs.lemmas.Bool.{false≢true}
use Rattle.std.proofs.lemmas.Bool.Decides.{eqb_tells}
use Rattle.std.proofs.lemmas.Option.{slice_get_within, get_or_from_slice_get}
use Rattle.pssm_model.specs.declared.steps.Firing.{Firing}
use Rattle.pssm_semantics.specs.declared.entry.ObjectId.{ObjectId}
use Rattle.pssm_semantics.specs.declared.entry.Entry.{Entry}
use Rattle.pssm_semantics.specs.declared.entry.Entry.TheVariants.{Post, Start, Take, Done, Exit, Effect, Enter, Opened, Pick, DoStep}
use Rattle.pssm_semantics.specs.declared.stimulus.Stimulus.{Stimulus}
use Rattle.pssm_semantics.specs.Pool.{signals_of_entry, signals_of, takes, pool_of, told_by}
use Rattle.pssm_semantics_laws.proofs.Members.{first_in, later_in}
use Rattle.pssm_semantics_laws.proofs.Objects.{same_object}
use Rattle.pssm_semantics_laws.proofs.Waiting.{waits_in, arrivals, pool_of-grows, pool_of-take, filter-all}
use Rattle.pssm_pool.specs.declared.pools.Waiting.{Waiting}
use Rattle.pssm_pool.specs.Waits.{with_arrived}
use Rattle.pssm_object.specs.Standing.{HasSignalsTaken}
use Rattle.pssm_object.specs.Following.{stimulus_of}
use Rattle.pssm_system.specs.inner.Pooling.{without_number, waiting_as, delivered, left_by, arriving, numbered_for}
use Rattle.pssm_system.proofs.Places.{get-set_same, get-set_other}
use Rattle.pssm_system.proofs.Numbers.{differ, without-here, without-later}
use Rattle.pssm_system.proofs.Following.{IsNoTake}

-- the numbers ascend
abbrev pub Ascends : {X : Type 0} → List (ℕ × X) → Type 0
Ascends [] = Unit {0}
Ascends (w ∷ rest) = AllByRecursion (λ v. w.0 < v.0) rest × Ascends rest

above : {X : Type 0} (m n : ℕ) (xs : List X) → m < n → AllByRecursion (λ v. m < v.0) (enumerate_from n xs)
above m n [] lt = tt
above m n (x ∷ xs) lt = (lt, above m (n + 1) xs (omega arith))

numbers-ascend : {X : Type 0} (n : ℕ) (xs : List X) → Ascends (enumerate_from n xs)
numbers-ascend n [] = tt
numbers-ascend n (x ∷ xs) = (above n (n + 1) xs (omega arith), numbers-ascend (n + 1) xs)

kept-so : {X : Type 0} (P : X → Type 0) (x : X) (xs : List X) (b : Bool) → P x → AllByRecursion P xs → AllByRecursion P (cond b (x ∷ xs) xs)
kept-so P x xs true p all = (p, all)
kept-so P x xs false p all = all

filtered-so : {X : Type 0} (P : X → Type 0) (p : X → Bool) (xs : List X) → AllByRecursion P xs → AllByRecursion P (filter p xs)
filtered-so P p [] all = tt
filtered-so P p (x ∷ xs) all = kept-so P x (filter p xs) (p x) all.0 (filtered-so P p xs all.1)

kept-ascends : {X : Type 0} (x : ℕ × X) (xs : List (ℕ × X)) (b : Bool) → AllByRecursion (λ v. x.0 < v.0) xs → Ascends xs → Ascends (cond b (x ∷ xs) xs)
kept-ascends x xs true over all = (over, all)
kept-ascends x xs false over all = all

filtered-ascends : {X : Type 0} (p : ℕ × X → Bool) (xs : List (ℕ × X)) → Ascends xs → Ascends (filter p xs)
filtered-ascends p [] all = tt
filtered-ascends p (x ∷ xs) all = kept-ascends x (filter p xs) (p x) (filtered-so (λ v. x.0 < v.0) p xs all.0) (filtered-ascends p xs all.1)

-- The numbers of the signals that wait for an object ascend.
pub pool-ascends : (J : List Entry) (o : ObjectId) → Ascends (pool_of J o)
pool-ascends J o = filtered-ascends (waits_in J o) (enumerate_from 1 (signals_of J)) (numbers-ascend 1 (signals_of J))

other-number : (n k : ℕ) → n < k → (n == k) ≡ false
other-number n k lt = ⊎_elim (λ same. absurd (omega (arith, same.1))) (λ other. other.0) (eqb_tells n k)

-- a take leaves the signals with greater numbers
left-alone : (o : ObjectId) (number : ℕ) (firing : Firing) (rest : List (ℕ × Stimulus)) → AllByRecursion (λ v. number < v.0) rest
    → filter (λ w. not (takes (Take o number firing) o w.0)) rest ≡ rest
left-alone o number firing [] over = refl
left-alone o number firing (w ∷ rest) over =
    let keeps : takes (Take o number firing) o w.0 ≡ false = rw (eq-eqb o.0 o.0 refl) (other-number number w.0 over.0) in
    rw keeps (ap (λ ws. w ∷ ws) (left-alone o number firing rest over.1))

-- A take leaves the signals with other numbers.
left-numbered : (o : ObjectId) (number : ℕ) (firing : Firing) (waiting : List Waiting) → Ascends (numbered_for o waiting)
    → filter (λ w. not (takes (Take o number firing) o w.0)) (numbered_for o waiting) ≡ numbered_for o (without_number number waiting)
left-numbered o number firing [] over = refl
left-numbered o number firing (w ∷ rest) over =
    ⊎_elim
    (λ (same : ((w.number == number) ≡ true) × (w.number ≡ number)).
    let takes-it : takes (Take o number firing) o w.number ≡ true = rw (eq-eqb o.0 o.0 refl) (eq-eqb number w.number (sym same.1)) in
    rw takes-it
    (left-alone o number firing (numbered_for o rest) (subst (λ n. AllByRecursion (λ v. n < v.0) (numbered_for o rest)) same.1 over.0)
    ∙ ap (numbered_for o) (sym (without-here number w rest same.1))))
    (λ (other : ((w.number == number) ≡ false) × (w.number ≡ number → ⊥)).
    let keeps : takes (Take o number firing) o w.number ≡ false = rw (eq-eqb o.0 o.0 refl) (differ number w.number (λ e. other.1 (sym e))) in
    rw keeps
    (ap (λ ws. (w.number, stimulus_of o w) ∷ ws) (left-numbered o number firing rest over.1)
    ∙ ap (numbered_for o) (sym (without-later number w rest other.1))))
    (eqb_tells w.number number)

pool_of-take_own : (J : List Entry) (o : ObjectId) (number : ℕ) (firing : Firing) (waiting : List Waiting) → pool_of J o ≡ numbered_for o waiting
    → pool_of (J ++ Take o number firing ∷ []) o ≡ numbered_for o (without_number number waiting)
pool_of-take_own J o number firing waiting is =
    pool_of-take J o number firing o
    ∙ ap (filter (λ w. not (takes (Take o number firing) o w.0))) is
    ∙ left-numbered o number firing waiting (subst (λ ws. Ascends ws) is (pool-ascends J o))

-- A take of another object leaves all.
pub pool_of-take_other : (J : List Entry) (q o : ObjectId) (number : ℕ) (firing : Firing) → (q.0 ≡ o.0 → ⊥) → pool_of (J ++ Take q number firing ∷ []) o ≡ pool_of J o
pool_of-take_other J q o number firing apart =
    let other : (q.0 == o.0) ≡ false = ⊎_elim (λ same. absurd (apart same.1)) (λ h. h.0) (eqb_tells q.0 o.0) in
    pool_of-take J q number firing o ∙ filter-all (λ w. not (takes (Take q number firing) o w.0)) (λ w. rw other refl) (pool_of J o)

-- an entry that takes a signal of the object is such a take
take-of : (e : Entry) (o : ObjectId) (n : ℕ) → takes e o n ≡ true → (firing : Firing) × (e ≡ Take o n firing)
take-of (Take q k firing) o n h = by (q.0 == o.0) (k == n) refl refl h
  where
    by : (a b : Bool) → (q.0 == o.0) ≡ a → (k == n) ≡ b → (a && b) ≡ true → (f : Firing) × (Take q k firing ≡ Take o n f)
    by true true same number holds =
        let number_is : k ≡ n = ⊎_elim (λ h. h.1) (λ h. absurd (false≢true (sym h.0 ∙ number))) (eqb_tells k n) in
        (firing, ap (λ p. Take p k firing) (same_object q o same) ∙ ap (λ i. Take o i firing) number_is)
    by true false same number holds = absurd (false≢true holds)
    by false true same number holds = absurd (false≢true holds)
    by false false same number holds = absurd (false≢true holds)
take-of (Post q g args) o n h = absurd (false≢true h)
take-of (Start q) o n h = absurd (false≢true h)
take-of (Done q v firing) o n h = absurd (false≢true h)
take-of (Exit q v outs) o n h = absurd (false≢true h)
take-of (Effect q v outs) o n h = absurd (false≢true h)
take-of (Enter q v outs) o n h = absurd (false≢true h)
take-of (Opened q r mode how) o n h = absurd (false≢true h)
take-of (Pick q v route) o n h = absurd (false≢true h)
take-of (DoStep q v k outs) o n h = absurd (false≢true h)

some-take : (J : List Entry) (o : ObjectId) (n : ℕ) → list_any (λ e. takes e o n) J ≡ true → (firing : Firing) × Contains J (Take o n firing)
some-take [] o n h = absurd (false≢true h)
some-take (e ∷ J) o n h = by (takes e o n) refl h (some-take J o n)
  where
    by : (a : Bool) → takes e o n ≡ a → (a || list_any (λ f. takes f o n) J) ≡ true
        → (list_any (λ f. takes f o n) J ≡ true → (firing : Firing) × Contains J (Take o n firing)) → (firing : Firing) × Contains (e ∷ J) (Take o n firing)
    by true is holds later = let at = take-of e o n is in (at.0, subst (λ f. Contains (e ∷ J) f) at.1 (first_in e J))
    by false is holds later = let at = later holds in (at.0, later_in e J (Take o n at.0) at.1)

-- a signal that is told has a number that was given out
told-few : (J : List Entry) (n : ℕ) (x : Stimulus) → told_by J n ≡ Some x → n < length (signals_of J) + 1
told-few J zero x told = let none : None ≡ Some x = told in absurd (cc)
told-few J (suc n) x told = let lt = slice_get_within (signals_of J) n x told in omega arith

-- No signal is taken before it is told.
untaken : (J : List Entry) (o : ObjectId) → HasSignalsTaken J o → (n : ℕ) → length (signals_of J) + 1 ≤ n → list_any (λ e. takes e o n) J ≡ false
untaken J o taken n le = by (list_any (λ e. takes e o n) J) refl
  where
    by : (a : Bool) → list_any (λ e. takes e o n) J ≡ a → a ≡ false
    by true is = let at = some-take J o n is in let told = taken n at.0 at.1 in absurd (let lt = told-few J n told.0 told.1 in omega arith)
    by false is = refl

-- the signals that come to an object are those that the journal lets arrive
arriving-are : (J : List Entry) (o : ObjectId) (xs : List Stimulus) (n : ℕ) → ((k : ℕ) → n ≤ k → list_any (λ e. takes e o k) J ≡ false)
    → numbered_for o (arriving o n xs) ≡ filter (waits_in J o) (enumerate_from n xs)
arriving-are J o [] n later = refl
arriving-are J o (x ∷ rest) n later =
    rw (later n (omega arith)) (by (x.object.0 == o.0) refl (arriving-are J o rest (n + 1) (λ k le. later k (omega arith))))
  where
    by : (a : Bool) → (x.object.0 == o.0) ≡ a → numbered_for o (arriving o (n + 1) rest) ≡ filter (waits_in J o) (enumerate_from (n + 1) rest)
        → numbered_for o (cond a (waiting_as n x ∷ arriving o (n + 1) rest) (arriving o (n + 1) rest))
        ≡ cond (a && true) ((n, x) ∷ filter (waits_in J o) (enumerate_from (n + 1) rest)) (filter (waits_in J o) (enumerate_from (n + 1) rest))
    by true is further =
        let own : stimulus_of o (waiting_as n x) ≡ x =
        ap (λ q. let y : Stimulus = record { object = q; signal = x.signal; args = x.args } in y) (sym (same_object x.object o is)) in
        ap (λ y. (n, y) ∷ numbered_for o (arriving o (n + 1) rest)) own ∙ ap (λ ws. (n, x) ∷ ws) further
    by false is further = further

-- each pool has the signals that came to it at its end
delivered-at : (o : ObjectId) (xs : List Stimulus) (n : ℕ) (pools : List (List Waiting)) (waiting : List Waiting) → slice_get pools o.0 ≡ Some waiting
    → slice_get (delivered n xs pools) o.0 ≡ Some (waiting ++ arriving o n xs)
delivered-at o [] n pools waiting at = at ∙ ap Some (sym (append-nil waiting))
delivered-at o (x ∷ rest) n pools waiting at = by (x.object.0 == o.0) refl (delivered-at o rest (n + 1) (with_arrived pools x.object (waiting_as n x)))
  where
    by : (a : Bool) → (x.object.0 == o.0) ≡ a
        → ((ws : List Waiting) → slice_get (with_arrived pools x.object (waiting_as n x)) o.0 ≡ Some ws
        → slice_get (delivered (n + 1) rest (with_arrived pools x.object (waiting_as n x))) o.0 ≡ Some (ws ++ arriving o (n + 1) rest))
        → slice_get (delivered (n + 1) rest (with_arrived pools x.object (waiting_as n x))) o.0
        ≡ Some (waiting ++ cond a (waiting_as n x ∷ arriving o (n + 1) rest) (arriving o (n + 1) rest))
    by true is further =
        let own = same_object x.object o is in
        let old : slice_index_or pools x.object.0 [] ≡ waiting = ap (λ (p : ObjectId). slice_index_or pools p.0 []) own ∙ get_or_from_slice_get pools o.0 waiting [] at in
        let more : slice_get (with_arrived pools x.object (waiting_as n x)) o.0 ≡ Some (waiting ++ waiting_as n x ∷ []) =
        subst (λ (p : ObjectId). slice_get (set pools p.0 (slice_index_or pools x.object.0 [] ++ waiting_as n x ∷ [])) o.0 ≡ Some (waiting ++ waiting_as n x ∷ [])) (sym own)
        (get-set_same pools o.0 (slice_index_or pools x.object.0 [] ++ waiting_as n x ∷ []) (slice_get_within pools o.0 waiting at)
        ∙ ap (λ ws. Some (ws ++ waiting_as n x ∷ [])) old) in
        further (waiting ++ waiting_as n x ∷ []) more
        ∙ ap Some (append_assoc waiting (waiting_as n x ∷ []) (arriving o (n + 1) rest))
    by false is further =
        further waiting
        (get-set_other pools x.object.0 o.0 (slice_index_or pools x.object.0 [] ++ waiting_as n x ∷ [])
        (λ same. false≢true (sym is ∙ eq-eqb x.object.0 o.0 (sym same))) ∙ at)

-- an entry other than a take takes nothing
takes-nothing : (e : Entry) (o : ObjectId) (n : ℕ) → IsNoTake e → takes e o n ≡ false
takes-nothing (Take q k firing) o n free = absurd free
takes-nothing (Post q g args) o n free = refl
takes-nothing (Start q) o n free = refl
takes-nothing (Done q v firing) o n free = refl
takes-nothing (Exit q v outs) o n free = refl
takes-nothing (Effect q v outs) o n free = refl
takes-nothing (Enter q v outs) o n free = refl
takes-nothing (Opened q r mode how) o n free = refl
takes-nothing (Pick q v route) o n free = refl
takes-nothing (DoStep q v k outs) o n free = refl

-- and leaves each pool
leaves-all : (e : Entry) (pools : List (List Waiting)) → IsNoTake e → left_by e pools ≡ pools
leaves-all (Take q k firing) pools free = absurd free
leaves-all (Post q g args) pools free = refl
leaves-all (Start q) pools free = refl
leaves-all (Done q v firing) pools free = refl
leaves-all (Exit q v outs) pools free = refl
leaves-all (Effect q v outs) pools free = refl
leaves-all (Enter q v outs) pools free = refl
leaves-all (Opened q r mode how) pools free = refl
leaves-all (Pick q v route) pools free = refl
leaves-all (DoStep q v k outs) pools free = refl

-- The pools of these signals are those of the journal.
abbrev pub HaveWaiting : List Entry → List (List Waiting) → Type 0
HaveWaiting J pools = (o : ObjectId) (waiting : List Waiting) → slice_get pools o.0 ≡ Some waiting → pool_of J o ≡ numbered_for o waiting

-- an object of the setting has a pool, and takes no signal before it is told
abbrev pub HasPool : List Entry → List (List Waiting) → ObjectId → Type 0
HasPool J pools o = ((waiting : List Waiting) × (slice_get pools o.0 ≡ Some waiting)) × HasSignalsTaken J o

-- the pool of an object once an entry other than a take has come
pub arrived : (J : List Entry) (e : Entry) (pools : List (List Waiting)) (told : ℕ) (o : ObjectId) → IsNoTake e → told ≡ length (signals_of J) → HaveWaiting J pools
    → HasPool J pools o → (waiting : List Waiting) → slice_get (delivered (told + 1) (signals_of_entry e) (left_by e pools)) o.0 ≡ Some waiting
    → pool_of (J ++ e ∷ []) o ≡ numbered_for o waiting
arrived J e pools told o free told-is have there waiting at =
    let old = there.0.0 in
    let now : slice_get (delivered (told + 1) (signals_of_entry e) (left_by e pools)) o.0 ≡ Some (old ++ arriving o (told + 1) (signals_of_entry e)) =
    delivered-at o (signals_of_entry e) (told + 1) (left_by e pools) old (subst (λ ps. slice_get ps o.0 ≡ Some old) (sym (leaves-all e pools free)) there.0.1) in
    let same : waiting ≡ old ++ arriving o (told + 1) (signals_of_entry e) = cc in
    let number : told + 1 ≡ 1 + length (signals_of J) = omega arith in
    pool_of-grows J e o (λ n. takes-nothing e o n free)
    ∙ ap (λ ws. ws ++ arrivals J e o) (have o old there.0.1)
    ∙ ap (λ ws. numbered_for o old ++ ws)
    (sym (ap (λ n. numbered_for o (arriving o n (signals_of_entry e))) number
    ∙ arriving-are J o (signals_of_entry e) (1 + length (signals_of J)) (λ k le. untaken J o there.1 k (omega arith))))
    ∙ sym (map-append (λ (w : Waiting). (w.number, stimulus_of o w)) old (arriving o (told + 1) (signals_of_entry e)))
    ∙ ap (numbered_for o) (sym same)

-- the pool of an object once a take has come
pub left : (J : List Entry) (q : ObjectId) (old : List Waiting) (number : ℕ) (firing : Firing) (pools : List (List Waiting)) (o : ObjectId)
    → slice_get pools q.0 ≡ Some old → HaveWaiting J pools → (waiting : List Waiting)
    → slice_get (left_by (Take q number firing) pools) o.0 ≡ Some waiting → pool_of (J ++ Take q number firing ∷ []) o ≡ numbered_for o waiting
left J q old number firing pools o there have waiting at =
    let fewer = without_number number (slice_index_or pools q.0 []) in
    ⊎_elim
    (λ same.
    let own : q ≡ o = ap (λ n. let p : ObjectId = record { 0 = n } in p) same.1 in
    let now : slice_get (left_by (Take q number firing) pools) q.0 ≡ Some (without_number number old) =
    get-set_same pools q.0 fewer (slice_get_within pools q.0 old there)
    ∙ ap (λ ws. Some (without_number number ws)) (get_or_from_slice_get pools q.0 old [] there) in
    let here : slice_get (left_by (Take q number firing) pools) q.0 ≡ Some waiting =
    subst (λ (p : ObjectId). slice_get (left_by (Take q number firing) pools) p.0 ≡ Some waiting) (sym own) at in
    let left-is : without_number number old ≡ waiting = cc in
    subst (λ p. pool_of (J ++ Take q number firing ∷ []) p ≡ numbered_for p waiting) own
    (pool_of-take_own J q number firing old (have q old there) ∙ ap (numbered_for q) left-is))
    (λ other.
    pool_of-take_other J q o number firing other.1
    ∙ have o waiting (sym (get-set_other pools q.0 o.0 fewer (λ e. other.1 (sym e))) ∙ at))
    (eqb_tells q.0 o.0)
