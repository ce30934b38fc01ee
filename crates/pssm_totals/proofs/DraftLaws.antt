-- The machines of a draft, as lists of what they extend and of their counts.
use Rattle.std.proofs.Common.{get_or, ◌≡◌, ◌↔◌, ◌<◌, ◌≤◌, ◌+◌, ℕ, zero, suc, List, [], ◌∷◌, length, map, min, Option, Some, refl, sym, ap, ◌∙◌, arith, slice_get, option_and_then, sum_by}
use Rattle.std.specs.List.{AllByRecursion}
use Rattle.std.proofs.lemmas.List.Sums.{sum_by-cons}
use Rattle.pssm_model.specs.declared.draft_setting.Draft.{Draft}
use Rattle.pssm_model.specs.declared.draft_setting.DraftParts.{DraftParts}
use Rattle.pssm_model.specs.DraftSettings.{ExtendsFar, IsOrExtends, ArePartsOf, IsFew, most_elements}
use Rattle.pssm_model.specs.DraftSettings.ExtendsFar.{directly as far_directly, further as far_further}
use Rattle.pssm_model.specs.DraftSettings.IsOrExtends.{itself as up_itself, extended as up_extended}
use Rattle.pssm_model.proofs.ElementLaws.{some_at}
use Rattle.pssm_totals.specs.Totals.{extended, ExtendWithin, Reaches, AreFew, AreTotals, count_at, extends_of, counts_of}
use Rattle.pssm_totals.specs.Totals.Reaches.{itself, further}
use Rattle.pssm_totals.proofs.TotalLaws.{few_by_total}
use Rattle.pssm_totals.proofs.ReachLaws.{one_step, reached_below}
use Rattle.std.proofs.lemmas.List.{length-map}

extends_in : {X : Type 0} (f : X → Option ℕ) (xs : List X) (m : ℕ) → extended (map f xs) m ≡ option_and_then f (slice_get xs m)
extends_in f [] m = refl
extends_in f (x ∷ xs) zero = refl
extends_in f (x ∷ xs) (suc m) = extends_in f xs m

count_in : {X : Type 0} (f : X → ℕ) (xs : List X) (m : ℕ) (x : X) → slice_get xs m ≡ Some x → count_at (map f xs) m ≡ f x
count_in f [] m x e = absurd (cc)
count_in f (y ∷ xs) zero x e = let same : y ≡ x = cc in ap f same
count_in f (y ∷ xs) (suc m) x e = count_in f xs m x e

module _ {draft : Draft} {m : ℕ} where
  reached_far : {x : ℕ} → ExtendsFar draft m x → Reaches (extends_of draft) m x
  reached_far (far_directly e) = one_step (extends_in (λ (p : DraftParts). p.extends) draft.machines m ∙ e)
  reached_far (far_further o more e) = further o (reached_far more) (extends_in (λ (p : DraftParts). p.extends) draft.machines o ∙ e)

  reached : {x : ℕ} → IsOrExtends draft m x → Reaches (extends_of draft) m x
  reached up_itself = itself
  reached (up_extended h) = reached_far h

  extends_next : {x : ℕ} (o : ℕ) → IsOrExtends draft m o → option_and_then (λ (p : DraftParts). p.extends) (slice_get draft.machines o) ≡ Some x
      → IsOrExtends draft m x
  extends_next o up_itself e = up_extended (far_directly e)
  extends_next o (up_extended h) e = up_extended (far_further o h e)

  extends_reached : {x : ℕ} → Reaches (extends_of draft) m x → IsOrExtends draft m x
  extends_reached itself = up_itself
  extends_reached (further o more e) =
      extends_next o (extends_reached more) (sym (extends_in (λ (p : DraftParts). p.extends) draft.machines o) ∙ e)

all_of_all : {X : Type 0} (P Q : X → Type 0) → ((x : X) → P x → Q x) → (xs : List X) → AllByRecursion P xs → AllByRecursion Q xs
all_of_all P Q f [] all = tt
all_of_all P Q f (x ∷ xs) all = (f x all.0, all_of_all P Q f xs all.1)

module _ (draft : Draft) (count : DraftParts → ℕ) where
  -- a sum of counts that are cut off is the sum, or above the limit
  sum_cut : (machines : List ℕ) (parts : List DraftParts) → ArePartsOf draft machines parts
      → sum_by (count_at (counts_of count draft)) machines ≤ most_elements → sum_by count parts ≤ most_elements
  sum_cut machines parts are le = let same = same_sum machines parts are le in omega arith
    where
      same_sum : (machines : List ℕ) (parts : List DraftParts) → ArePartsOf draft machines parts
          → sum_by (count_at (counts_of count draft)) machines ≤ most_elements → sum_by count parts ≡ sum_by (count_at (counts_of count draft)) machines
      same_sum [] [] are le = refl
      same_sum [] (p ∷ parts) are le = absurd are
      same_sum (m ∷ machines) [] are le = absurd are
      same_sum (m ∷ machines) (p ∷ parts) are le =
          let here = count_in (λ (q : DraftParts). min (most_elements + 1) (count q)) draft.machines m p are.0 in
          let all = sum_by-cons (count_at (counts_of count draft)) m machines in
          let own = sum_by-cons count p parts in
          let rest = same_sum machines parts are.1 (omega arith) in
          omega arith

  sum_below : (machines : List ℕ) (parts : List DraftParts) → ArePartsOf draft machines parts
      → sum_by (count_at (counts_of count draft)) machines ≤ sum_by count parts
  sum_below [] [] are = omega arith
  sum_below [] (p ∷ parts) are = absurd are
  sum_below (m ∷ machines) [] are = absurd are
  sum_below (m ∷ machines) (p ∷ parts) are =
      let here = count_in (λ (q : DraftParts). min (most_elements + 1) (count q)) draft.machines m p are.0 in
      let all = sum_by-cons (count_at (counts_of count draft)) m machines in
      let own = sum_by-cons count p parts in
      let rest = sum_below machines parts are.1 in
      omega arith

parts_for : (draft : Draft) (machines : List ℕ) → AllByRecursion (λ x. x < length draft.machines) machines
    → (parts : List DraftParts) × ArePartsOf draft machines parts
parts_for draft [] all = ([], tt)
parts_for draft (m ∷ machines) all =
    let one = some_at draft.machines m all.0 in
    let more = parts_for draft machines all.1 in
    (one.0 ∷ more.0, (one.1, more.1))

-- the lists keep the limit where the draft does
pub few_in_draft : (draft : Draft) (count : DraftParts → ℕ) (m : ℕ) → ExtendWithin (extends_of draft) → m < length draft.machines
    → AreFew (extends_of draft) (counts_of count draft) m ↔ IsFew draft count m
few_in_draft draft count m within lt = (
  λ few machines parts different all are.
      sum_cut draft count machines parts are
      (few machines different (all_of_all (IsOrExtends draft m) (Reaches (extends_of draft) m) (λ x h. reached h) machines all)),
  λ few machines different all.
      let width = length-map draft.machines (λ (p : DraftParts). p.extends) in
      let there = all_of_all (Reaches (extends_of draft) m) (λ x. x < length draft.machines)
      (λ x h. let below = reached_below within (omega arith) h in omega arith) machines all in
      let parts = parts_for draft machines there in
      let le = few machines parts.0 different (all_of_all (Reaches (extends_of draft) m) (IsOrExtends draft m) (λ x h. extends_reached h) machines all) parts.1 in
      let below = sum_below draft count machines parts.0 parts.1 in
      omega arith,
)

-- a total keeps the limit where the machine of the draft does
pub few_in_totals : (draft : Draft) (count : DraftParts → ℕ) (totals : List ℕ) (m : ℕ) → ExtendWithin (extends_of draft)
    → AreTotals (extends_of draft) (counts_of count draft) totals → m < length draft.machines → (get_or totals m 0 ≤ most_elements) ↔ IsFew draft count m
few_in_totals draft count totals m within h lt =
    let width = length-map draft.machines (λ (p : DraftParts). p.extends) in
    let wide = h.width in
    let one = few_by_total (h.each m (omega arith)) in
    let few = few_in_draft draft count m within lt in
    (λ le. few.0 (one.0 le), λ is. one.1 (few.1 is))
