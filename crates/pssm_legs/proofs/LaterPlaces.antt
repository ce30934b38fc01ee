-- Which places of legs stand later than others, and loops over the legs.
use Rattle.std.proofs.Common.{◌≡◌, ◌⊎◌, ◌<◌, ◌≤◌, ◌+◌, ℕ, zero, suc, List, length, Option, Some, None, slice_get, get_or, refl, sym, ap, ◌∙◌, subst, inl, inr, ⊎_elim, arith, add-one}
use Rattle.std.proofs.lemmas.Bool.{cases_lt}
use Rattle.std.proofs.lemmas.Option.{slice_get_within, slice_get-get_or}
use Rattle.pssm_legs.specs.declared.legs.Leg.{Leg}
use Rattle.pssm_legs.specs.declared.legs.Legs.{Legs}
use Rattle.pssm_legs.specs.LegsOf.{leg_list, IsAt, StandsLater}
use Rattle.pssm_legs.specs.LegsOf.StandsLater.{next, after}
use Rattle.pssm_legs.specs.inner.Told.{HasFurther}
use Rattle.pssm_legs.proofs.Places.{same_at}

-- a further leg is one place further in the list
pub at_more : (legs : Legs) (k : ℕ) (b : Leg) → slice_get legs.more.items k ≡ Some b → IsAt legs (k + 1) b
at_more legs k b e = rw (add-one k) e

pub further_at : (legs : Legs) (more : List Leg) (k : ℕ) (b : Leg) → more ≡ legs.more.items → k < length more → b ≡ get_or more k b → IsAt legs (k + 1) b
further_at legs more k b same lt is =
    at_more legs k b (subst (λ (xs : List Leg). slice_get xs k ≡ Some b) same (slice_get-get_or more k b lt ∙ ap Some (sym is)))

pub of_more : (legs : Legs) (k : ℕ) (b : Leg) → IsAt legs (k + 1) b → slice_get legs.more.items k ≡ Some b
of_more legs k b e = by (rw (add-one k) at e)
  where
    by : slice_get (leg_list legs) (suc k) ≡ Some b → slice_get legs.more.items k ≡ Some b
    by h = h

-- each leg is the first or a further one
pub first_or_more : (legs : Legs) (P : ℕ → Leg → Type 0) (i : ℕ) (a : Leg) → IsAt legs i a → P i a → P 0 legs.first ⊎ HasFurther legs P
first_or_more legs P zero a at h = let same : legs.first ≡ a = cc in inl (subst (P 0) (sym same) h)
first_or_more legs P (suc k) a at h = inr (k, a, at_more legs k a at, subst (λ n. P n a) (sym (add-one k)) h)

module _ (legs : Legs) where
  -- what stands later stands behind a leg
  pub later_cases : (i j : ℕ) (b : Leg) → IsAt legs j b → StandsLater (leg_list legs) i j
      → (k : ℕ) × (b.before ≡ Some k) × ((i ≡ k) ⊎ StandsLater (leg_list legs) i k)
  later_cases i j b at (next {b = x} here named) =
      let same = same_at (leg_list legs) j x b here at in (i, subst (λ (y : Leg). y.before ≡ Some i) same named, inl refl)
  later_cases i j b at (after {k = k} {b = x} here named rest) =
      let same = same_at (leg_list legs) j x b here at in (k, subst (λ (y : Leg). y.before ≡ Some k) same named, inr rest)

  pub later_further : (i j k : ℕ) → StandsLater (leg_list legs) i j → StandsLater (leg_list legs) j k → StandsLater (leg_list legs) i k
  later_further i j k h (next here named) = after here named h
  later_further i j k h (after {k = x} here named rest) = after here named (later_further i j x h rest)

  module _ (lower : (i j : ℕ) (leg : Leg) → IsAt legs j leg → leg.before ≡ Some i → i < j) where
    pub later_lower : (i j : ℕ) → StandsLater (leg_list legs) i j → i < j
    later_lower i j (next {b = b} here named) = lower i j b here named
    later_lower i j (after {k = k} {b = b} here named rest) =
        let first = lower k j b here named in let more = later_lower i k rest in omega (arith, first, more)

    pub later_there : (i j : ℕ) (b : Leg) → StandsLater (leg_list legs) i j → IsAt legs j b → i < length (leg_list legs)
    later_there i j b h at = let lt = later_lower i j h in let within = slice_get_within (leg_list legs) j b at in omega (arith, lt, within)

    pub later_is_further : (P : ℕ → Leg → Type 0) (i j : ℕ) (b : Leg) → StandsLater (leg_list legs) i j → IsAt legs j b → P j b → HasFurther legs P
    later_is_further P i zero b h at is = let lt = later_lower i zero h in absurd (omega (arith, lt))
    later_is_further P i (suc k) b h at is = (k, b, at_more legs k b at, subst (λ n. P n b) (sym (add-one k)) is)

  pub nothing_behind_alone : (P : ℕ → Leg → Type 0) → length legs.more.items ≤ 0 → HasFurther legs P → ⊥
  nothing_behind_alone P none h = let lt = slice_get_within legs.more.items h.0 h.1 (of_more legs h.0 h.1 h.2) in omega (arith, lt, none)

  -- None of the first few further legs is such.
  abbrev pub NoneYet : (ℕ → Leg → Type 0) → ℕ → Type 0
  NoneYet P count = (k : ℕ) (b : Leg) → k < count → IsAt legs (k + 1) b → P (k + 1) b → ⊥

  pub none_yet : (P : ℕ → Leg → Type 0) → NoneYet P 0
  none_yet P k b lt at is = omega (arith, lt)

  pub one_more_not : (P : ℕ → Leg → Type 0) (count : ℕ) (b : Leg) → NoneYet P count → IsAt legs (count + 1) b → (P (count + 1) b → ⊥) → NoneYet P (count + 1)
  one_more_not P count b none at fails k a lt here is =
      ⊎_elim
      (λ below. none k a below here is)
      (λ upto.
      let same : k ≡ count = omega (arith, lt, upto) in
      let there = subst (λ n. IsAt legs (n + 1) a) same here in
      let leg = same_at (leg_list legs) (count + 1) a b there at in
      fails (subst (P (count + 1)) leg (subst (λ n. P (n + 1) a) same is)))
      (cases_lt k count)

  pub none_further : (P : ℕ → Leg → Type 0) (count : ℕ) → NoneYet P count → length legs.more.items ≤ count → HasFurther legs P → ⊥
  none_further P count none all h =
      let lt = slice_get_within legs.more.items h.0 h.1 (of_more legs h.0 h.1 h.2) in
      none h.0 h.1 (omega (arith, lt, all)) h.2 h.3

  -- The walk from a leg to those behind which it stands has come to this place, if to one, and what it has passed is not such.
  pub record IsClimbing (P : ℕ → Leg → Type 0) (place : ℕ) (before : Option ℕ) : Type 0 where
    pub up : (k : ℕ) → before ≡ Some k → StandsLater (leg_list legs) k place
    pub left : (i : ℕ) (a : Leg) → StandsLater (leg_list legs) i place → IsAt legs i a → P i a
        → (k : ℕ) × (before ≡ Some k) × ((i ≡ k) ⊎ StandsLater (leg_list legs) i k)

  pub climb_begins : (P : ℕ → Leg → Type 0) (place : ℕ) (b : Leg) → IsAt legs place b → IsClimbing P place b.before
  climb_begins P place b at = record {
    up = λ k named. next at named;
    left = λ i a later here is. later_cases i place b at later;
  }

  pub climb_goes_on : (P : ℕ → Leg → Type 0) (place k : ℕ) (before : Option ℕ) (b : Leg) → before ≡ Some k → IsClimbing P place before → IsAt legs k b
      → (P k b → ⊥) → IsClimbing P place b.before
  climb_goes_on P place k before b e h at none = record {
    up = λ i named. later_further i k place (next at named) (h.up k e);
    left = λ i a later here is. (
        let passed = h.left i a later here is in
        let first = passed.1 in
        let same : passed.0 ≡ k = cc in
        ⊎_elim
        (λ this.
        let place_is : i ≡ k = cc in
        let leg = same_at (leg_list legs) k a b (subst (λ n. IsAt legs n a) place_is here) at in
        absurd (none (subst (P k) leg (subst (λ n. P n a) place_is is))))
        (λ further. later_cases i k b at (subst (StandsLater (leg_list legs) i) same further))
        passed.2);
  }

  pub climb_ends : (P : ℕ → Leg → Type 0) (place : ℕ) (before : Option ℕ) → before ≡ None → IsClimbing P place before → (i : ℕ) (a : Leg)
      → StandsLater (leg_list legs) i place → IsAt legs i a → P i a → ⊥
  climb_ends P place before e h i a later at is = let passed = h.left i a later at is in let some = passed.1 in cc

-- how many places are left to climb
abbrev pub places_left : Option ℕ → ℕ
places_left None = 0
places_left (Some k) = k + 1

pub fewer_places : (k : ℕ) (before : Option ℕ) → ((i : ℕ) → before ≡ Some i → i < k) → places_left before < k + 1
fewer_places k None lower = omega arith
fewer_places k (Some i) lower = let lt = lower i refl in omega (arith, lt)

-- no further leg with a place up to this one stands later than it
pub none_up_to : (legs : Legs) → ((i j : ℕ) (leg : Leg) → IsAt legs j leg → leg.before ≡ Some i → i < j) → (P : ℕ → Leg → Type 0) (place : ℕ)
    → NoneYet legs (λ j b. StandsLater (leg_list legs) place j × P j b) place
none_up_to legs lower P place k b lt at is = let less = later_lower legs lower place (k + 1) is.0 in omega (arith, lt, less)
