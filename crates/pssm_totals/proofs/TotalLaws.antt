-- Totals: at a machine that extends none, one machine further, and round a circle.
use Rattle.std.proofs.Common.{◌≡◌, ◌⊎◌, ◌↔◌, ◌≤◌, ◌+◌, ℕ, List, [], ◌∷◌, ◌++◌, min, Option, Some, None, sym, subst, inl, inr, ⊎_elim, arith, Contains, sum_by}
use Rattle.std.specs.List.{AllByRecursion}
use Rattle.std.proofs.lemmas.List.Sums.{sum_by-cons}
use Rattle.pssm_model.specs.DraftSettings.{most_elements}
use Rattle.pssm_totals.specs.Totals.{extended, Reaches, IsTotal, AreFew, count_at}
use Rattle.pssm_totals.specs.Totals.Reaches.{itself, further}
use Rattle.pssm_totals.specs.inner.Ways.{first_or, IsWay}
use Rattle.pssm_totals.proofs.ListLaws.{nothing_in, the_one, is_one, first_or_behind, is_first, is_behind, AreApart, apart_by_pairs, pairs_by_apart, sum_inside}
use Rattle.pssm_totals.proofs.ReachLaws.{reach_reach, one_step, head}

-- what holds of all holds of one that is among them
pub all_in : {X : Type 0} (P : X → Type 0) (xs : List X) (x : X) → AllByRecursion P xs → Contains xs x → P x
all_in P [] x all h = absurd (nothing_in x h)
all_in P (y ∷ xs) x all h = ⊎_elim (λ same. subst P (sym same) all.0) (λ behind. all_in P xs x all.1 behind) (first_or_behind y xs x h)

pub all_by_each : {X : Type 0} (P : X → Type 0) (xs : List X) → ((x : X) → Contains xs x → P x) → AllByRecursion P xs
all_by_each P [] each = tt
all_by_each P (y ∷ xs) each = (each y (is_first y xs), all_by_each P xs (λ x h. each x (is_behind y xs x h)))

-- ---- ways

module _ (extends : List (Option ℕ)) where
  -- from each machine of a way the next one is reached
  pub way_to : (path : List ℕ) (next x : ℕ) → IsWay extends path (Some next) → Contains path x → Reaches extends x next
  way_to [] next x way h = absurd (nothing_in x h)
  way_to (m ∷ []) next x way h = subst (λ k. Reaches extends k next) (sym (the_one m x h)) (one_step way.0)
  way_to (m ∷ n ∷ path) next x way h =
      ⊎_elim
      (λ same. subst (λ k. Reaches extends k next) (sym same) (reach_reach (one_step way.0) (way_to (n ∷ path) next n way.1 (is_first n path))))
      (λ behind. way_to (n ∷ path) next x way.1 behind)
      (first_or_behind m (n ∷ path) x h)

  -- from the first machine of a way each one is reached
  pub way_from : (m : ℕ) (path : List ℕ) (next : Option ℕ) (x : ℕ) → IsWay extends (m ∷ path) next → Contains (m ∷ path) x → Reaches extends m x
  way_from m [] next x way h = subst (Reaches extends m) (sym (the_one m x h)) itself
  way_from m (n ∷ path) next x way h =
      ⊎_elim
      (λ same. subst (Reaches extends m) (sym same) itself)
      (λ behind. reach_reach (one_step way.0) (way_from n path next x way.1 behind))
      (first_or_behind m (n ∷ path) x h)

  -- what a machine of a way extends is on the way, or the next
  pub way_closed : (path : List ℕ) (next : Option ℕ) (x y : ℕ) → IsWay extends path next → Contains path x → extended extends x ≡ Some y
      → Contains path y ⊎ (next ≡ Some y)
  way_closed [] next x y way h e = absurd (nothing_in x h)
  way_closed (m ∷ path) next x y way h e =
      ⊎_elim
      (λ same. first path way.0 (subst (λ k. extended extends k ≡ Some y) same e))
      (λ behind. ⊎_elim (λ on. inl (is_behind m path y on)) (λ is. inr is) (way_closed path next x y way.1 behind e))
      (first_or_behind m path x h)
    where
      first : (rest : List ℕ) → extended extends m ≡ first_or rest next → extended extends m ≡ Some y → Contains (m ∷ rest) y ⊎ (next ≡ Some y)
      first [] f g = inr (cc)
      first (n ∷ rest) f g = let same : n ≡ y = cc in inl (is_behind m (n ∷ rest) y (subst (Contains (n ∷ rest)) same (is_first n rest)))

  pub way_front : (front back : List ℕ) (next : Option ℕ) → IsWay extends (front ++ back) next → IsWay extends front (first_or back next)
  way_front [] back next way = tt
  way_front (m ∷ []) back next way = (way.0, tt)
  way_front (m ∷ n ∷ front) back next way = (way.0, way_front (n ∷ front) back next way.1)

  pub way_back : (front back : List ℕ) (next : Option ℕ) → IsWay extends (front ++ back) next → IsWay extends back next
  way_back [] back next way = way
  way_back (m ∷ front) back next way = way_back front back next way.1

  pub way_more : (path : List ℕ) (at : ℕ) (next : Option ℕ) → IsWay extends path (Some at) → extended extends at ≡ next → IsWay extends (path ++ at ∷ []) next
  way_more [] at next way e = (e, tt)
  way_more (m ∷ []) at next way e = (way.0, (e, tt))
  way_more (m ∷ n ∷ path) at next way e = (way.0, way_more (n ∷ path) at next way.1 e)

-- ---- totals

module _ {extends : List (Option ℕ)} {own : List ℕ} where
  pub few_by_total : {m total : ℕ} → IsTotal extends own m total → (total ≤ most_elements) ↔ AreFew extends own m
  few_by_total h = (
    λ le machines different reached.
        let inside = sum_inside (count_at own) machines h.machines (apart_by_pairs machines different) (λ x is. (h.all x).1 (all_in (Reaches extends _) machines x reached is)) in
        let sum = h.sum in
        omega arith,
    λ few.
        let le = few h.machines h.different (all_by_each (Reaches extends _) h.machines (λ x is. (h.all x).0 is)) in
        let sum = h.sum in
        omega arith,
  )

  pub one_total : {m total other : ℕ} → IsTotal extends own m total → IsTotal extends own m other → total ≡ other
  one_total h g =
      let less = sum_inside (count_at own) h.machines g.machines (apart_by_pairs h.machines h.different) (λ x is. (g.all x).1 ((h.all x).0 is)) in
      let more = sum_inside (count_at own) g.machines h.machines (apart_by_pairs g.machines g.different) (λ x is. (h.all x).1 ((g.all x).0 is)) in
      let one = h.sum in
      let two = g.sum in
      omega arith

  -- a machine that extends none
  pub total_ends : (m total : ℕ) → extended extends m ≡ None → total ≡ min 65536 (count_at own m) → IsTotal extends own m total
  total_ends m total none e = record {
    machines = m ∷ [];
    different = pairs_by_apart (m ∷ []) (nothing_in m, tt);
    all = λ x. (
      λ is. subst (Reaches extends m) (sym (the_one m x is)) itself,
      λ reach. is_one m x (⊎_elim (λ same. same) (λ h. let f = h.1 in absurd (cc)) (head reach)),
    );
    sum = omega arith;
  }

  -- one machine more, which is not among those of the one that it extends
  pub total_goes_on : (m base total above : ℕ) → extended extends m ≡ Some base → IsTotal extends own base above → (Reaches extends base m → ⊥)
      → total ≡ min 65536 (count_at own m + above) → IsTotal extends own m total
  total_goes_on m base total above is h not e = record {
    machines = m ∷ h.machines;
    different = pairs_by_apart (m ∷ h.machines) (λ in_all. not ((h.all m).0 in_all), apart_by_pairs h.machines h.different);
    all = λ x. (
      λ on. ⊎_elim
          (λ same. subst (Reaches extends m) (sym same) itself)
          (λ behind. reach_reach (one_step is) ((h.all x).0 behind))
          (first_or_behind m h.machines x on),
      λ reach. ⊎_elim
          (λ same. subst (Contains (m ∷ h.machines)) (sym same) (is_first m h.machines))
          (λ g. let there : g.0 ≡ base = let f = g.1 in cc in
          is_behind m h.machines x ((h.all x).1 (subst (λ y. Reaches extends y x) there g.2)))
          (head reach),
    );
    sum = let sum = h.sum in omega (arith, sum_by-cons (count_at own) m h.machines);
  }

  -- the machines of a circle have the sum of the circle
  pub total_round : (m : ℕ) (others : List ℕ) (x total : ℕ) → IsWay extends (m ∷ others) (Some m) → AreApart (m ∷ others) → Contains (m ∷ others) x
      → total ≡ min 65536 (sum_by (count_at own) (m ∷ others)) → IsTotal extends own x total
  total_round m others x total way apart on e = record {
    machines = m ∷ others;
    different = pairs_by_apart (m ∷ others) apart;
    all = λ y. (λ is. reach_reach (way_to extends (m ∷ others) m x way on) (way_from extends m others (Some m) y way is), λ reach. stays reach);
    sum = e;
  }
    where
      stays : {y : ℕ} → Reaches extends x y → Contains (m ∷ others) y
      stays itself = on
      stays {y = y} (further o more f) =
          ⊎_elim
          (λ there. there)
          (λ same. let is : y ≡ m = cc in subst (Contains (m ∷ others)) (sym is) (is_first m others))
          (way_closed extends (m ∷ others) (Some m) o y way (stays more) f)
