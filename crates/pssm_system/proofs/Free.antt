-- The first signal of a pool that its object does not defer, as a look through the pool finds it.
use Rattle.std.proofs.Common.{◌≡◌, ◌↔◌, ℕ, suc, List, take, drop, Bool, true, false, IsTrue, Some, slice_get, sym, ap, subst, ◌∙◌}
use Rattle.pssm_semantics.specs.declared.entry.Entry.{Entry}
use Rattle.pssm_semantics.specs.declared.stimulus.Stimulus.{Stimulus}
use Rattle.pssm_semantics.specs.Pool.{told_by}
use Rattle.pssm_semantics.specs.Deferral.{IsDeferred}
use Rattle.pssm_semantics.specs.declared.setting.Class.{Class}
use Rattle.pssm_pool.specs.declared.pools.Waiting.{Waiting}
use Rattle.pssm_pool.specs.Telling.{AreAlike, IsFirstNot}
use Rattle.pssm_object.specs.Standing.{Standing, StandsAfter}
use Rattle.pssm_object.specs.Following.{Defers, stimulus_of}
use Rattle.pssm_system.specs.inner.Deferring.{ComesFirst}
use Rattle.pssm_system.proofs.Places.{split-at, all-before}

-- it defers a signal where it defers one that is alike
pub defers-alike : (class : Class) (x : Standing) (v w : Waiting) (answer : Bool) → AreAlike v w → Defers class x v answer → Defers class x w answer
defers-alike class x v w answer alike defers =
    let same : stimulus_of x.own v ≡ stimulus_of x.own w =
    ap (λ n. let s : Stimulus = record { object = x.own; signal = n; args = v.args } in s) alike.0
    ∙ ap (λ ns. let s : Stimulus = record { object = x.own; signal = w.signal; args = ns } in s) alike.1 in
    subst
    (λ (s : Stimulus). (J : List Entry) → StandsAfter class J x → IsTrue answer ↔ IsDeferred class (told_by J) J x.own s)
    same
    defers

-- the first for which it is not answered that the object defers it
pub free-found : (class : Class) (x : Standing) (waiting : List Waiting) (Answers : Waiting → Bool → Type 0) (k : ℕ) → IsFirstNot Answers waiting k
    → (w : Waiting) → slice_get waiting k ≡ Some w → ((v : Waiting) → Answers v true → Defers class x v true)
    → ((v : Waiting) → Answers v false → Defers class x v false) → ComesFirst class x waiting w
free-found class x waiting Answers k first w at held free =
    let there = first.here.1 in
    let one : Some first.here.0 ≡ Some w = sym there ∙ at in
    let same : first.here.0 ≡ w = cc in
    record {
      held = take k waiting;
      behind = drop (suc k) waiting;
      waiting_is = split-at waiting k w at;
      deferred = all-before (λ (v : Waiting). Defers class x v true) waiting k (λ j v lt here. held v (first.before j v lt here));
      free = subst (λ v. Defers class x v false) same (free first.here.0 first.here.2);
    }
