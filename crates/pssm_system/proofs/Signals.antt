-- The first signal that waits for an object and that it does not defer is the one that a take may have.
use Rattle.std.proofs.Common.{◌≡◌, ◌<◌, ◌++◌, ◌==◌, ℕ, List, [], ◌∷◌, Bool, true, false, cond, Option, Some, None, slice_get, refl, sym, ap, subst, ◌∙◌, ⊎_elim, arith, eq-eqb}
use Rattle.std.specs.List.{AllByRecursion}
use Rattle.std.proofs.lemmas.Bool.{false≢true}
use Rattle.std.proofs.lemmas.Bool.Decides.{eqb_tells}
use Rattle.std.proofs.lemmas.List.{map-append}
use Rattle.pssm_semantics.specs.declared.entry.ObjectId.{ObjectId}
use Rattle.pssm_semantics.specs.declared.entry.Entry.{Entry}
use Rattle.pssm_semantics.specs.declared.stimulus.Stimulus.{Stimulus}
use Rattle.pssm_semantics.specs.declared.setting.Class.{Class}
use Rattle.pssm_semantics.specs.declared.setting.Setting.{Setting}
use Rattle.pssm_semantics.specs.Pool.{pool_of, told_by}
use Rattle.pssm_semantics.specs.Rules.{IsFirstWaiting}
use Rattle.pssm_semantics.specs.Deferral.{IsDeferred}
use Rattle.pssm_semantics.proofs.Appended.{AllByRecursion-back}
use Rattle.pssm_system.proofs.Takes.{pool_of-waits}
use Rattle.pssm_pool.specs.declared.pools.Waiting.{Waiting}
use Rattle.pssm_object.specs.Standing.{Standing}
use Rattle.pssm_object.specs.Following.{stimulus_of, Defers}
use Rattle.pssm_system.specs.inner.Pooling.{with_number, numbered_for}
use Rattle.pssm_system.specs.inner.Deferring.{AreDeferred, ComesFirst, IsFirstFree, if_numbered}
use Rattle.pssm_system.specs.inner.Keeping.{IsObject, ArePools}
use Rattle.pssm_system.proofs.Numbers.{with-here, with-later}
use Rattle.pssm_system.proofs.Arriving.{Ascends, pool-ascends}

-- the first signal that waits for an object and that it does not defer
pub record IsFirst (pools : List (List Waiting)) (o : ObjectId) (class : Class) (x : Standing) (first : Option Waiting) : Type 0 where
  pub pool : List Waiting
  pub there : slice_get pools o.0 ≡ Some pool
  pub first_is : IsFirstFree class x pool first

-- the first element of a list that has not a property is one
first-alike : {X : Type 0} (P : X → Type 0) (held rest before behind : List X) (y z : X) → held ++ y ∷ rest ≡ before ++ z ∷ behind → AllByRecursion P held
    → (P y → ⊥) → AllByRecursion P before → (P z → ⊥) → y ≡ z
first-alike P [] rest [] behind y z is all not also other = cc
first-alike P [] rest (b ∷ before) behind y z is all not also other = let same : b ≡ y = cc in absurd (not (subst P same also.0))
first-alike P (h ∷ held) rest [] behind y z is all not also other = let same : h ≡ z = cc in absurd (other (subst P same all.0))
first-alike P (h ∷ held) rest (b ∷ before) behind y z is all not also other =
    let tails : held ++ y ∷ rest ≡ before ++ z ∷ behind = cc in first-alike P held rest before behind y z tails all.1 not also.1 other

-- a signal that waits, by its number
pub record IsNumbered (o : ObjectId) (waiting : List Waiting) (number : ℕ) (y : Stimulus) (w : Waiting) : Type 0 where
  pub found : with_number number waiting ≡ Some w
  pub number_is : number ≡ w.number
  pub stimulus_is : y ≡ stimulus_of o w

-- a signal that stands in a pool is found there
found-there : (o : ObjectId) (number : ℕ) (y : Stimulus) (rest : List (ℕ × Stimulus)) (waiting : List Waiting) (held : List (ℕ × Stimulus))
    → numbered_for o waiting ≡ held ++ (number, y) ∷ rest → Ascends (numbered_for o waiting) → (w : Waiting) × IsNumbered o waiting number y w
found-there o number y rest [] [] is over = absurd (cc)
found-there o number y rest [] (h ∷ held) is over = absurd (cc)
found-there o number y rest (w ∷ waiting) [] is over =
    let one : (w.number, stimulus_of o w) ≡ (number, y) = cc in
    let same : w.number ≡ number = ap (λ (v : ℕ × Stimulus). v.0) one in
    (w, record { found = with-here number w waiting same; number_is = sym same; stimulus_is = sym (ap (λ (v : ℕ × Stimulus). v.1) one) })
found-there o number y rest (w ∷ waiting) (h ∷ held) is over =
    let tails : numbered_for o waiting ≡ held ++ (number, y) ∷ rest = cc in
    let later = found-there o number y rest waiting held tails over.1 in
    let above : w.number < number =
    (AllByRecursion-back (λ (v : ℕ × Stimulus). w.number < v.0) held ((number, y) ∷ rest) (subst (AllByRecursion (λ (v : ℕ × Stimulus). w.number < v.0)) tails over.0)).0 in (
      later.0,
      record {
        found = with-later number w waiting (λ same. absurd (omega (arith, same, above))) ∙ later.1.found;
        number_is = later.1.number_is;
        stimulus_is = later.1.stimulus_is;
      },
    )

module _ {setting : Setting} {J : List Entry} {pools : List (List Waiting)} (are : ArePools setting J pools) (o : ObjectId) (p : List Waiting) (there : slice_get pools o.0 ≡ Some p) where
  -- the pool of the journal is the one that is kept
  pool-is : pool_of J o ≡ numbered_for o p
  pool-is = are.each o p there

  -- a signal that may be taken is found by its number
  pub numbered-there : (class : Class) (number : ℕ) → IsFirstWaiting class J o number
      → (w : Waiting) × (with_number number p ≡ Some w) × (number ≡ w.number) × (told_by J number ≡ Some (stimulus_of o w))
  numbered-there class number (held, rest, y, is, deferred, kept) =
      let at = found-there o number y rest p held (sym pool-is ∙ is) (subst (λ ws. Ascends ws) pool-is (pool-ascends J o)) in
      (at.0, at.1.found, at.1.number_is, (pool_of-waits J o held rest number y is).told ∙ ap Some at.1.stimulus_is)

  module _ (class : Class) (x : Standing) (object : IsObject class J o x) where
    abbrev IsHeld : ℕ × Stimulus → Type 0
    IsHeld w = IsDeferred class (told_by J) J o w.1

    -- what the object says of a signal is so of the journal
    deferred-here : (w : Waiting) → Defers class x w true → IsDeferred class (told_by J) J o (stimulus_of o w)
    deferred-here w says = subst (λ q. IsDeferred class (told_by J) J q (stimulus_of q w)) object.own ((says J object.stands).0 refl)

    free-here : (w : Waiting) → Defers class x w false → IsDeferred class (told_by J) J o (stimulus_of o w) → ⊥
    free-here w says deferred =
        false≢true ((says J object.stands).1 (subst (λ q. IsDeferred class (told_by J) J q (stimulus_of q w)) (sym object.own) deferred))

    all-deferred : (waiting : List Waiting) → AreDeferred class x waiting → AllByRecursion IsHeld (numbered_for o waiting)
    all-deferred [] all = tt
    all-deferred (w ∷ rest) all = (deferred-here w all.0, all-deferred rest all.1)

    -- the pool of the journal up to the first signal that is not deferred
    pool-split : (w : Waiting) (f : ComesFirst class x p w)
        → pool_of J o ≡ numbered_for o f.held ++ (w.number, stimulus_of o w) ∷ numbered_for o f.behind
    pool-split w f =
        pool-is ∙ ap (numbered_for o) f.waiting_is ∙ map-append (λ (v : Waiting). (v.number, stimulus_of o v)) f.held (w ∷ f.behind)

    -- the journal has told it
    pub first-told : (w : Waiting) → ComesFirst class x p w → told_by J w.number ≡ Some (stimulus_of o w)
    first-told w f = (pool_of-waits J o (numbered_for o f.held) (numbered_for o f.behind) w.number (stimulus_of o w) (pool-split w f)).told

    -- it may be taken
    pub may-take : (w : Waiting) → ComesFirst class x p w → IsFirstWaiting class J o w.number
    may-take w f =
        (numbered_for o f.held, numbered_for o f.behind, stimulus_of o w, pool-split w f, all-deferred f.held f.deferred, free-here w f.free)

    -- and no other
    pub taken-first : (first : Option Waiting) → IsFirstFree class x p first → (number : ℕ) → IsFirstWaiting class J o number
        → (w : Waiting) × (first ≡ Some w) × (number ≡ w.number)
    taken-first None all number (held, rest, y, is, deferred, kept) =
        let each : AllByRecursion IsHeld (held ++ (number, y) ∷ rest) = subst (AllByRecursion IsHeld) (sym pool-is ∙ is) (all-deferred p all) in
        absurd (kept (AllByRecursion-back IsHeld held ((number, y) ∷ rest) each).0)
    taken-first (Some w) f number (held, rest, y, is, deferred, kept) =
        let one : (number, y) ≡ (w.number, stimulus_of o w) =
        first-alike IsHeld held rest (numbered_for o f.held) (numbered_for o f.behind) (number, y) (w.number, stimulus_of o w) (sym is ∙ pool-split w f) deferred
        kept (all-deferred f.held f.deferred) (free-here w f.free) in
        (w, refl, ap (λ (v : ℕ × Stimulus). v.0) one)

-- the signal, if it has a number
pub numbered-so : (n : ℕ) (w : Waiting) → n ≡ w.number → if_numbered n (Some w) ≡ Some w
numbered-so n w same = rw (eq-eqb w.number n (sym same)) refl

pub numbered-is : (n : ℕ) (first : Option Waiting) (w : Waiting) → if_numbered n first ≡ Some w → (first ≡ Some w) × (n ≡ w.number)
numbered-is n None w e = let clash : None ≡ Some w = e in absurd (cc)
numbered-is n (Some v) w e = by (v.number == n) refl e
  where
    by : (a : Bool) → (v.number == n) ≡ a → cond a (Some v) None ≡ Some w → (Some v ≡ Some w) × (n ≡ w.number)
    by true is same =
        let number : v.number ≡ n = ⊎_elim (λ h. h.1) (λ h. absurd (false≢true (sym h.0 ∙ is))) (eqb_tells v.number n) in
        (same, sym number ∙ ap (λ (y : Waiting). y.number) (let one : v ≡ w = cc in one))
    by false is same = let clash : None ≡ Some w = same in absurd (cc)
