-- The lowest level of a vertex and others, one of the others more at a time.
use Rattle.std.proofs.Common.{◌≡◌, ◌↔◌, ◌⊎◌, ◌<◌, ◌≤◌, ◌+◌, ℕ, List, [], ◌∷◌, ◌++◌, length, get_or, take, Contains, Vec, Global, sym, ap, subst, ◌∙◌, inl, inr, ⊎_elim, arith, length-append}
use Rattle.std.proofs.lemmas.Bool.{cases_eq}
use Rattle.std.proofs.lemmas.List.{take_more, get_or_append_left}
use Rattle.std.proofs.lemmas.List.Elements.{Contains-append_left, Contains-push, Contains-push_cases}
use Rattle.pssm_model.specs.declared.ids.VertexId.{VertexId}
use Rattle.pssm_model.specs.declared.elements.DraftMachine.{DraftMachine}
use Rattle.pssm_model.specs.declared.elements.Owner.{Owner}
use Rattle.pssm_wellformed.specs.inner.Lists.{list_at}
use Rattle.pssm_wellformed.specs.inner.Ends.{vertex_number}
use Rattle.pssm_wellformed.specs.inner.Walks.{LiesIn}
use Rattle.pssm_wellformed.specs.inner.Levels.{IsCommonLevel, SomeLieOutside, IsLowestLevel, AreLevelsBelow, AreLowestLevels}
use Rattle.pssm_wellformed.proofs.Pushing.{get_pushed}

-- a vertex by itself
pub lowest_alone : (m : DraftMachine) (v : VertexId) (n : ℕ) → IsCommonLevel m v v n → IsLowestLevel m v [] n
lowest_alone m v n common p k lies level = (
  λ lt. absurd (let le = (common p k lies level).0 lies in omega arith),
  λ some. absurd (let none = some.1.1 in omega arith),
)

-- Some of one more vertices lies outside where one of the others does, or it does.
outside_more : (m : DraftMachine) (xs : List ℕ) (i : ℕ) (p : Owner) → i < length xs
    → SomeLieOutside m (take (i + 1) xs) p ↔ (SomeLieOutside m (take i xs) p ⊎ (LiesIn m (vertex_number (get_or xs i 0)) p → ⊥))
outside_more m xs i p lt =
    let x = get_or xs i 0 in
    let grown = take_more xs i 0 lt in (
      λ some. ⊎_elim (λ old. inl (some.0, old, some.2)) (λ e. inr (subst (λ y. LiesIn m (vertex_number y) p → ⊥) (sym e) some.2))
          (Contains-push_cases (take i xs) x some.0 (subst (λ ys. Contains ys some.0) grown some.1)),
      λ w. ⊎_elim
          (λ old. (old.0, subst (λ ys. Contains ys old.0) (sym grown) (Contains-append_left (take i xs) (x ∷ []) old.0 old.1), old.2))
          (λ out. (x, subst (λ ys. Contains ys x) (sym grown) (Contains-push (take i xs) x), out)) w,
    )

-- A number that another does not reach is below it.
pub above : (k n : ℕ) → (k ≤ n → ⊥) → n < k
above k n past = omega arith

-- one vertex more, with a lower level, and with one that is not lower
pub lowest_lower : (m : DraftMachine) (v : VertexId) (xs : List ℕ) (i x n c : ℕ) → i < length xs → x ≡ get_or xs i 0 → c < n → IsCommonLevel m v (vertex_number x) c
    → IsLowestLevel m v (take i xs) n → IsLowestLevel m v (take (i + 1) xs) c
lowest_lower m v xs i x n c lt is lower common h p k lies level =
    let both = common p k lies level in
    let more = outside_more m xs i p lt in
    let to : (LiesIn m (vertex_number x) p → ⊥) → LiesIn m (vertex_number (get_or xs i 0)) p → ⊥ = subst (λ y. (LiesIn m (vertex_number x) p → ⊥) → LiesIn m (vertex_number y) p → ⊥) is (λ f. f) in
    let from : (LiesIn m (vertex_number (get_or xs i 0)) p → ⊥) → LiesIn m (vertex_number x) p → ⊥ = subst (λ y. (LiesIn m (vertex_number y) p → ⊥) → LiesIn m (vertex_number x) p → ⊥) is (λ f. f) in (
      λ below. more.1 (inr (to (λ l. let le = both.0 l in omega arith))),
      λ some. ⊎_elim (λ old. let below = (h p k lies level).1 old in omega arith) (λ out. above k c (λ le. from out (both.1 le))) (more.0 some),
    )

pub lowest_same : (m : DraftMachine) (v : VertexId) (xs : List ℕ) (i x n c : ℕ) → i < length xs → x ≡ get_or xs i 0 → n ≤ c → IsCommonLevel m v (vertex_number x) c
    → IsLowestLevel m v (take i xs) n → IsLowestLevel m v (take (i + 1) xs) n
lowest_same m v xs i x n c lt is higher common h p k lies level =
    let both = common p k lies level in
    let more = outside_more m xs i p lt in
    let from : (LiesIn m (vertex_number (get_or xs i 0)) p → ⊥) → LiesIn m (vertex_number x) p → ⊥ = subst (λ y. (LiesIn m (vertex_number y) p → ⊥) → LiesIn m (vertex_number x) p → ⊥) is (λ f. f) in (
      λ below. more.1 (inl ((h p k lies level).0 below)),
      λ some. ⊎_elim (λ old. (h p k lies level).1 old)
          (λ out. let below : c < k = above k c (λ le. from out (both.1 le)) in omega arith) (more.0 some),
    )

-- the level of one vertex more is put behind
pub levels_pushed : (m : DraftMachine) (onward : List (Vec ℕ Global)) (n x : ℕ) (xs : List ℕ) → IsLowestLevel m (vertex_number n) (list_at onward n) x
    → AreLowestLevels m onward n xs → AreLowestLevels m onward (n + 1) (xs ++ x ∷ [])
levels_pushed m onward n x xs one h = record {
  width = let w = h.width in omega (arith, length-append xs (x ∷ []));
  levels = λ a lt. ⊎_elim
      (λ (e : a ≡ n).
      let same : get_or (xs ++ x ∷ []) a 0 ≡ x = ap (λ k. get_or (xs ++ x ∷ []) k 0) (e ∙ sym h.width) ∙ get_pushed xs x 0 in
      subst (IsLowestLevel m (vertex_number a) (list_at onward a)) (sym same) (subst (λ b. IsLowestLevel m (vertex_number b) (list_at onward b) x) (sym e) one))
      (λ (ne : a ≡ n → ⊥).
      let below : a < n = omega arith in
      let there : a < length xs = let w = h.width in omega arith in
      subst (IsLowestLevel m (vertex_number a) (list_at onward a)) (sym (get_or_append_left xs (x ∷ []) 0 a there)) (h.levels a below))
      (cases_eq a n);
}

-- the levels of the places of one vertex more
pub count_higher : (m : DraftMachine) (n count own : ℕ) → IsCommonLevel m (vertex_number n) (vertex_number n) own → count ≤ own
    → AreLevelsBelow m n count → AreLevelsBelow m (n + 1) (own + 1)
count_higher m n count own common le h v p k lt lies level = ⊎_elim
    (λ (e : v.0 ≡ n).
    let is : v ≡ vertex_number n = ap vertex_number e in
    let here : LiesIn m (vertex_number n) p = subst (λ (w : VertexId). LiesIn m w p) is lies in
    let at_most = (common p k here level).0 here in omega arith)
    (λ (ne : v.0 ≡ n → ⊥). let below = h v p k (omega arith) lies level in omega arith)
    (cases_eq v.0 n)

pub count_same : (m : DraftMachine) (n count own : ℕ) → IsCommonLevel m (vertex_number n) (vertex_number n) own → own < count
    → AreLevelsBelow m n count → AreLevelsBelow m (n + 1) count
count_same m n count own common le h v p k lt lies level = ⊎_elim
    (λ (e : v.0 ≡ n).
    let is : v ≡ vertex_number n = ap vertex_number e in
    let here : LiesIn m (vertex_number n) p = subst (λ (w : VertexId). LiesIn m w p) is lies in
    let at_most = (common p k here level).0 here in omega arith)
    (λ (ne : v.0 ≡ n → ⊥). h v p k (omega arith) lies level)
    (cases_eq v.0 n)
