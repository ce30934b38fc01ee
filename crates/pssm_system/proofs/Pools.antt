-- How the pools change while signals are taken from them and come to them.
use Rattle.std.proofs.Common.{◌≡◌, ◌≤◌, ◌<◌, ◌+◌, ◌++◌, ◌==◌, ℕ, zero, suc, List, [], ◌∷◌, Bool, true, false, cond, length, Some, None, get_or, refl, sym, ap, subst, ◌∙◌, arith, length-append}
use Rattle.std.proofs.Math.ListN.{set, length-set}
use Rattle.std.proofs.lemmas.List.Sums.{sum_by-cons}
use Rattle.pssm_model.specs.declared.steps.Firing.{Firing}
use Rattle.pssm_semantics.specs.declared.entry.ObjectId.{ObjectId}
use Rattle.pssm_semantics.specs.declared.entry.Entry.{Entry}
use Rattle.pssm_semantics.specs.declared.entry.Entry.TheVariants.{Post, Start, Take, Done, Exit, Effect, Enter, Opened, Pick, DoStep}
use Rattle.pssm_semantics.specs.declared.stimulus.Stimulus.{Stimulus}
use Rattle.pssm_pool.specs.declared.pools.Waiting.{Waiting}
use Rattle.pssm_pool.specs.Waits.{Waits, waiting_for, held_in, with_arrived, without}
use Rattle.pssm_system.specs.inner.Pooling.{without_number, HasNoNumber, signal_taken, waiting_as, delivered, left_by, HavePools}
use Rattle.pssm_system.proofs.Numbers.{with-none, without-none}

-- the signals that are left are still to come
pub record AreToCome (first : Waits) (told : ℕ) (signals : List Stimulus) (number : ℕ) (rest : List Stimulus) (pools : Waits) : Type 0 where
  pub number_is : number + length rest ≡ told + length signals
  pub there : HavePools rest (length pools.waiting)
  pub spare : length rest ≤ pools.spare
  pub pools_are : delivered (number + 1) rest pools.waiting ≡ delivered (told + 1) signals first.waiting

module _ (first pools : Waits) (told : ℕ) (signals : List Stimulus) (number : ℕ) (x : Stimulus) (left rest : List Stimulus) (next : left ≡ x ∷ rest)
    (was : AreToCome first told signals number left pools) where
  nexts : AreToCome first told signals number (x ∷ rest) pools
  nexts = subst (λ xs. AreToCome first told signals number xs pools) next was

  -- the next has a pool, with room for one more
  pub next-there : x.object.0 < length pools.waiting
  next-there = nexts.there.0

  pub next-spare : 1 ≤ pools.spare
  next-spare = let all = nexts.spare in omega arith

  pub one-comes : (new : Waits) → new.waiting ≡ with_arrived pools.waiting x.object (waiting_as (number + 1) x) → pools.spare ≤ new.spare + 1
      → AreToCome first told signals (number + 1) rest new
  one-comes new comes less = record {
    number_is = let all = nexts.number_is in omega arith;
    there = subst (HavePools rest) (sym (ap (λ (ws : List (List Waiting)). length ws) comes ∙ length-set pools.waiting x.object.0 _)) nexts.there.1;
    spare = let all = nexts.spare in omega arith;
    pools_are = ap (λ ws. delivered (number + 1 + 1) rest ws) comes ∙ nexts.pools_are;
  }

-- a list into which is written what stands there
set-alike : {X : Type 0} (xs : List X) (k : ℕ) (d : X) → set xs k (get_or xs k d) ≡ xs
set-alike [] k d = refl
set-alike (x ∷ xs) zero d = refl
set-alike (x ∷ xs) (suc k) d = ap (λ ys. x ∷ ys) (set-alike xs k d)

module _ (pools : List (List Waiting)) (e : Entry) (o : ObjectId) (number : ℕ) (firing : Firing) (is : e ≡ Take o number firing) where
  -- where the signal does not wait, the take has none, and leaves the pools as they are
  pub taken-none : HasNoNumber number (waiting_for pools o) → None ≡ signal_taken pools e
  taken-none none = sym (ap (signal_taken pools) is ∙ with-none number (waiting_for pools o) none)

  pub left-none : HasNoNumber number (waiting_for pools o) → pools ≡ left_by e pools
  left-none none =
      sym
      (ap (λ f. left_by f pools) is
      ∙ ap (λ ws. set pools o.0 ws) (without-none number (waiting_for pools o) none)
      ∙ set-alike pools o.0 [])

-- how many signals wait once one pool has been written
held-set : (more : ℕ) (pools : List (List Waiting)) (k : ℕ) (ws : List Waiting) → length ws ≤ length (get_or pools k []) + more
    → held_in (set pools k ws) ≤ held_in pools + more
held-set more [] k ws le = omega arith
held-set more (p ∷ rest) zero ws le =
    let new = sum_by-cons (λ (xs : List Waiting). length xs) ws rest in
    let old = sum_by-cons (λ (xs : List Waiting). length xs) p rest in
    omega (arith, new, old, le)
held-set more (p ∷ rest) (suc k) ws le =
    let new = sum_by-cons (λ (xs : List Waiting). length xs) p (set rest k ws) in
    let old = sum_by-cons (λ (xs : List Waiting). length xs) p rest in
    let there = held-set more rest k ws le in
    omega (arith, new, old, there)

fewer : (n : ℕ) (waiting : List Waiting) → length (without_number n waiting) ≤ length waiting
fewer n [] = omega arith
fewer n (w ∷ rest) = by (w.number == n) (fewer n rest)
  where
    by : (a : Bool) → length (without_number n rest) ≤ length rest → length (cond a rest (w ∷ without_number n rest)) ≤ suc (length rest)
    by true le = omega arith
    by false le = omega (arith, le)

-- no more wait once an entry has taken its signal
pub held-left : (e : Entry) (pools : List (List Waiting)) → held_in (left_by e pools) ≤ held_in pools
held-left (Take o number firing) pools =
    let less = held-set 0 pools o.0 (without_number number (waiting_for pools o)) (let le = fewer number (waiting_for pools o) in omega (arith, le)) in
    omega (arith, less)
held-left (Post o g args) pools = omega arith
held-left (Start o) pools = omega arith
held-left (Done o v firing) pools = omega arith
held-left (Exit o v outs) pools = omega arith
held-left (Effect o v outs) pools = omega arith
held-left (Enter o v outs) pools = omega arith
held-left (Opened o r mode how) pools = omega arith
held-left (Pick o v route) pools = omega arith
held-left (DoStep o v k outs) pools = omega arith

-- and at most so many more once so many have come
pub held-delivered : (n : ℕ) (xs : List Stimulus) (pools : List (List Waiting)) → held_in (delivered n xs pools) ≤ held_in pools + length xs
held-delivered n [] pools = omega arith
held-delivered n (x ∷ rest) pools =
    let w = waiting_as n x in
    let later = held-delivered (n + 1) rest (with_arrived pools x.object w) in
    let here = held-set 1 pools x.object.0 (waiting_for pools x.object ++ w ∷ []) (let le = length-append (waiting_for pools x.object) (w ∷ []) in omega (arith, le)) in
    omega (arith, later, here)
