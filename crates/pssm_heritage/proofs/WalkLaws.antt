-- Walking along extended machines: at the start, one machine more, and at the end.
use Rattle.std.proofs.Common.{◌≡◌, ◌⊎◌, ◌+◌, ◌<◌, ◌≤◌, ℕ, zero, suc, Bool, true, false, List, [], ◌∷◌, ◌++◌, length, reverse, replicate, set, Option, Some, None, get_or, refl, sym, ap, subst, ◌∙◌, inl, inr, ⊎_elim, arith, Contains, IfSome, slice_get, option_and_then, append_assoc, append-nil, get_or-set_other, take, add-one, sum_by}
use Rattle.std.specs.List.{AllByRecursion}
use Rattle.std.proofs.lemmas.Bool.{cases_lt}
use Rattle.std.proofs.lemmas.List.{get_or_past, get_or-replicate, length-replicate, reverse-append}
use Rattle.std.proofs.lemmas.List.Elements.{Contains-append_left, Contains-append_right, Contains-append_cases}
use Rattle.std.proofs.lemmas.List.Sums.{sum_by-set}
use Rattle.std.proofs.Math.ListN.{length-set}
use Rattle.std.proofs.Math.Seq.{take-suc}
use Rattle.pssm_model.specs.declared.draft_setting.Draft.{Draft}
use Rattle.pssm_model.specs.declared.draft_setting.DraftParts.{DraftParts}
use Rattle.pssm_model.specs.DraftSettings.{Extends, ExtendsFar, IsOrExtends, IsInRange, PartsInRange}
use Rattle.pssm_model.specs.DraftSettings.ExtendsFar.{directly, further}
use Rattle.pssm_model.specs.DraftSettings.IsOrExtends.{itself, extended}
use Rattle.pssm_model.proofs.ElementLaws.{some_at}
use Rattle.pssm_heritage.specs.Chains.{IsChain, IsFirstCyclic}
use Rattle.pssm_heritage.specs.Chains.IsChain.{base as chain_base, extended as chain_extended}
use Rattle.pssm_heritage.specs.inner.Walks.{unseen, IsWalking, HasWalked, IsLeast}
use Rattle.pssm_heritage.proofs.ChainLaws.{the_one, is_one, nothing_in, one_base, or_far, or_or, or_next, two_up, or_split, leads_back}

-- what holds of all holds of the one at a place
pub all_at : {X : Type 0} (P : X → Type 0) (xs : List X) (n : ℕ) (x : X) → AllByRecursion P xs → slice_get xs n ≡ Some x → P x
all_at P [] n x all e = absurd (cc)
all_at P (y ∷ xs) zero x all e = let same : y ≡ x = cc in subst P same all.0
all_at P (y ∷ xs) (suc n) x all e = all_at P xs n x all.1 e

-- the parts of a machine that extends another
pub parts_of : (draft : Draft) (m b : ℕ) → Extends draft m b → (parts : DraftParts) × (slice_get draft.machines m ≡ Some parts) × (parts.extends ≡ Some b)
parts_of draft m b e = split (slice_get draft.machines m) refl e
  where
    split : (o : Option DraftParts) → slice_get draft.machines m ≡ o → option_and_then (λ (p : DraftParts). p.extends) o ≡ Some b
        → (parts : DraftParts) × (slice_get draft.machines m ≡ Some parts) × (parts.extends ≡ Some b)
    split None is f = absurd (cc)
    split (Some parts) is f = (parts, is, f)

-- an extended machine is one of the draft
pub base_below : (draft : Draft) (m b : ℕ) → IsInRange draft → Extends draft m b → b < length draft.machines
base_below draft m b range e =
    let p = parts_of draft m b e in
    let within = all_at (PartsInRange draft) draft.machines m p.0 range.machines p.1 in
    subst (λ o. IfSome o (λ k. k < length draft.machines)) p.2 within.extends

-- the machine extends none
pub no_base : (draft : Draft) (m : ℕ) → m < length draft.machines → option_and_then (λ (p : DraftParts). p.extends) (slice_get draft.machines m) ≡ None
    → IsChain draft m (m ∷ [])
no_base draft m lt e = split (slice_get draft.machines m) refl e
  where
    split : (o : Option DraftParts) → slice_get draft.machines m ≡ o → option_and_then (λ (p : DraftParts). p.extends) o ≡ None → IsChain draft m (m ∷ [])
    split None is f = let some = some_at draft.machines m lt in absurd (cc (some.1, is))
    split (Some parts) is f = chain_base parts is f

nothing_marked : (n x : ℕ) → get_or (replicate n false) x false ≡ true → ⊥
nothing_marked n x e =
    ⊎_elim
    (λ lt. let f = get_or-replicate n x false false lt in cc)
    (λ ge. let f = get_or_past (replicate n false) x false (let l = length-replicate n false in omega arith) in cc)
    (cases_lt x n)

pub walk_starts : (draft : Draft) (m : ℕ) → m < length draft.machines → IsWalking draft m [] m (replicate (length draft.machines) false)
walk_starts draft m lt = record {
  below = lt;
  width = length-replicate (length draft.machines) false;
  reached = itself;
  marked = λ x e. absurd (nothing_marked (length draft.machines) x e);
  up = λ x h. absurd (nothing_in x h);
  closed = λ x y h e. absurd (nothing_in x h);
  start = inr refl;
  chain = λ machines h. subst (IsChain draft m) (sym (append-nil machines)) h;
}

pub in_more : (path : List ℕ) (at x : ℕ) → Contains (path ++ at ∷ []) x → Contains path x ⊎ (x ≡ at)
in_more path at x h = ⊎_elim (λ l. inl l) (λ r. inr (the_one at x r)) (Contains-append_cases path (at ∷ []) x h)

marks : (seen : List Bool) (at x : ℕ) → at < length seen → get_or (set seen at true) x false ≡ true → (x ≡ at) ⊎ (get_or seen x false ≡ true)
marks seen at x lt e = ⊎_elim (λ same. inl same) (λ ne. inr (let f = get_or-set_other seen at x true false ne in cc)) (same_or_other x at)
  where
    same_or_other : (a b : ℕ) → (a ≡ b) ⊎ (a ≡ b → ⊥)
    same_or_other a b = ⊎_elim (λ l. inr (λ e. omega arith)) (λ g. ⊎_elim (λ l. inr (λ e. omega arith)) (λ h. inl (omega arith)) (cases_lt b a)) (cases_lt a b)

pub walk_goes_on : (draft : Draft) (m at base : ℕ) (path : List ℕ) (seen : List Bool) → IsInRange draft → IsWalking draft m path at seen → Extends draft at base
    → IsWalking draft m (path ++ at ∷ []) base (set seen at true)
walk_goes_on draft m at base path seen range h e = record {
  below = base_below draft at base range e;
  width = length-set seen at true ∙ h.width;
  reached = or_next h.reached e;
  marked = λ x mark. ⊎_elim
      (λ same. Contains-append_right path (at ∷ []) x (is_one at x same))
      (λ old. Contains-append_left path (at ∷ []) x (h.marked x old))
      (marks seen at x (let w = h.width in let b = h.below in omega arith) mark);
  up = λ x is. ⊎_elim
      (λ old. let up = h.up x old in (up.0, further at up.1 e))
      (λ same. subst (λ n. IsOrExtends draft m n × ExtendsFar draft n base) (sym same) (h.reached, directly e))
      (in_more path at x is);
  closed = λ x y is f. ⊎_elim
      (λ old. ⊎_elim
      (λ on. inl (Contains-append_left path (at ∷ []) y on))
      (λ same. inl (Contains-append_right path (at ∷ []) y (is_one at y same)))
      (h.closed x y old f))
      (λ same. inr (one_base draft at y base (subst (λ n. Extends draft n y) same f) e))
      (in_more path at x is);
  start = ⊎_elim
      (λ old. inl (Contains-append_left path (at ∷ []) m old))
      (λ same. inl (Contains-append_right path (at ∷ []) m (is_one at m same)))
      h.start;
  chain = λ machines c.
      subst (IsChain draft m) (append_assoc machines (at ∷ []) (reverse path) ∙ ap (λ r. machines ++ r) (sym (reverse-append path (at ∷ []))))
      (h.chain (machines ++ at ∷ []) (chain_extended base e c));
}

module _ {draft : Draft} where
  -- a path that has all that its machines extend has all that its first machine extends
  has_all : {m x : ℕ} (path : List ℕ) → Contains path m → ((x y : ℕ) → Contains path x → Extends draft x y → Contains path y) → ExtendsFar draft m x → Contains path x
  has_all {m = m} {x = x} path start closed (directly e) = closed m x start e
  has_all {x = x} path start closed (further o more e) = closed o x (has_all path start closed more) e

  or_all : {m x : ℕ} (path : List ℕ) → Contains path m → ((x y : ℕ) → Contains path x → Extends draft x y → Contains path y) → IsOrExtends draft m x → Contains path x
  or_all path start closed itself = start
  or_all path start closed (extended far) = has_all path start closed far

pub walk_ends : (draft : Draft) (m at : ℕ) (path : List ℕ) (seen : List Bool) → IsWalking draft m path at seen
    → option_and_then (λ (p : DraftParts). p.extends) (slice_get draft.machines at) ≡ None → HasWalked draft m (path ++ at ∷ []) None
walk_ends draft m at path seen h none = record {
  has = λ x is. ⊎_elim (λ old. (h.up x old).0) (λ same. subst (IsOrExtends draft m) (sym same) h.reached) (in_more path at x is);
  all = λ x up. or_all (path ++ at ∷ []) start closed up;
  ended = subst (IsChain draft m) (sym (reverse-append path (at ∷ []))) (h.chain (at ∷ []) (no_base draft at h.below none));
}
  where
    start : Contains (path ++ at ∷ []) m
    start =
        ⊎_elim
        (λ old. Contains-append_left path (at ∷ []) m old)
        (λ same. Contains-append_right path (at ∷ []) m (is_one at m same))
        h.start

    closed : (x y : ℕ) → Contains (path ++ at ∷ []) x → Extends draft x y → Contains (path ++ at ∷ []) y
    closed x y is f =
        ⊎_elim
        (λ old. ⊎_elim
        (λ on. Contains-append_left path (at ∷ []) y on)
        (λ same. Contains-append_right path (at ∷ []) y (is_one at y same))
        (h.closed x y old f))
        (λ same. let g = subst (λ n. Extends draft n y) same f in absurd (cc))
        (in_more path at x is)

pub walk_closes : (draft : Draft) (m at : ℕ) (path : List ℕ) (seen : List Bool) → IsWalking draft m path at seen
    → get_or seen at false ≡ true → HasWalked draft m path (Some at)
walk_closes draft m at path seen h mark = record {
  has = λ x is. (h.up x is).0;
  all = λ x up. or_all path start closed up;
  ended = (h.reached, (h.up at there).1, h.below);
}
  where
    there : Contains path at
    there = h.marked at mark

    start : Contains path m
    start = ⊎_elim (λ old. old) (λ same. subst (Contains path) (sym same) there) h.start

    closed : (x y : ℕ) → Contains path x → Extends draft x y → Contains path y
    closed x y is f = ⊎_elim (λ on. on) (λ same. subst (Contains path) (sym same) there) (h.closed x y is f)

pub first_of_round : (draft : Draft) (m back least : ℕ) (path : List ℕ) (end : Option ℕ) → IsOrExtends draft m back → ExtendsFar draft back back
    → HasWalked draft back path end → IsLeast back path least → IsFirstCyclic draft m least
first_of_round draft m back least path end reached loop walked min = record {
  reached = or_or reached on;
  cyclic = round least on;
  first = λ y up cyclic lt. let le = min.below y (walked.all y (back_up y up cyclic)) in omega arith;
}
  where
    on : IsOrExtends draft back least
    on = ⊎_elim (λ same. subst (IsOrExtends draft back) (sym same) itself) (λ is. walked.has least is) min.is

    round : (x : ℕ) → IsOrExtends draft back x → ExtendsFar draft x x
    round x up =
        ⊎_elim
        (λ same. subst (λ n. ExtendsFar draft n n) (sym same) loop)
        (λ far. or_far (leads_back loop far) far)
        (or_split up)

    back_up : (y : ℕ) → IsOrExtends draft m y → ExtendsFar draft y y → IsOrExtends draft back y
    back_up y up cyclic =
        ⊎_elim
        (λ same. ⊎_elim
        (λ again. subst (λ n. IsOrExtends draft n y) (same ∙ sym again) itself)
        (λ far. leads_back cyclic (subst (λ n. ExtendsFar draft n back) (sym same) far))
        (or_split reached))
        (λ far. ⊎_elim
        (λ again. extended (subst (λ n. ExtendsFar draft n y) (sym again) far))
        (λ other. ⊎_elim
        (λ is. is)
        (λ down. ⊎_elim (λ s. subst (IsOrExtends draft back) s itself) (λ d. leads_back cyclic d) (or_split down))
        (two_up other far))
        (or_split reached))
        (or_split up)

pub least_more : (first i least new : ℕ) (others : List ℕ) → i < length others → IsLeast first (take i others) least
    → ((new ≡ get_or others i 0) × (get_or others i 0 < least)) ⊎ ((new ≡ least) × (least ≤ get_or others i 0)) → IsLeast first (take (i + 1) others) new
least_more first i least new others lt h step =
    subst (λ xs. IsLeast first xs new) (sym (ap (λ n. take n others) (add-one i) ∙ take-suc others i 0 lt))
    (⊎_elim
    (λ s. record {
      is = inr (Contains-append_right (take i others) (get_or others i 0 ∷ []) new (is_one (get_or others i 0) new s.0));
      below_first = let b = h.below_first in let e = s.0 in let l = s.1 in omega arith;
      below = λ x is. ⊎_elim
          (λ old. let b = h.below x old in let e = s.0 in let l = s.1 in omega arith)
          (λ same. let e = s.0 in omega arith)
          (in_more (take i others) (get_or others i 0) x is);
    })
    (λ s. record {
      is = ⊎_elim (λ f. inl (s.0 ∙ f)) (λ on. inr (Contains-append_left (take i others) (get_or others i 0 ∷ []) new (subst (Contains (take i others)) (sym s.0) on))) h.is;
      below_first = let b = h.below_first in let e = s.0 in omega arith;
      below = λ x is. ⊎_elim
          (λ old. let b = h.below x old in let e = s.0 in omega arith)
          (λ same. let e = s.0 in let l = s.1 in omega arith)
          (in_more (take i others) (get_or others i 0) x is);
    })
    step)

-- one machine fewer is unseen
pub fewer_unseen : (seen : List Bool) (at : ℕ) → at < length seen → get_or seen at false ≡ false → sum_by unseen (set seen at true) < sum_by unseen seen
fewer_unseen seen at lt e =
    let same = sum_by-set unseen seen at true false lt in
    let one : unseen (get_or seen at false) ≡ 1 = ap unseen e in
    omega arith
