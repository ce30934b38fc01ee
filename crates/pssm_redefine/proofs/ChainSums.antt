-- What the machines of a chain have together keeps the limit.
use Rattle.std.proofs.Common.{◌≡◌, ◌<◌, ◌≤◌, ℕ, suc, List, [], ◌∷◌, length, take, get_or, refl, ◌∙◌, subst, arith, Some, slice_get, Contains, sum_by}
use Rattle.std.specs.Prelude.{◌≢◌, AllPairs, All}
use Rattle.std.specs.List.{AllByRecursion}
use Rattle.std.proofs.lemmas.List.{get_or-take, length-take-le, get_or_default}
use Rattle.std.proofs.lemmas.List.Elements.{Contains-get_or}
use Rattle.std.proofs.lemmas.Option.{slice_get_within}
use Rattle.pssm_model.specs.declared.draft_setting.Draft.{Draft}
use Rattle.pssm_model.specs.declared.draft_setting.DraftParts.{DraftParts}
use Rattle.pssm_model.specs.DraftSettings.{IsOrExtends, ArePartsOf, IsFew, IsInRange, IsSmallMachine}
use Rattle.pssm_model.proofs.ElementLaws.{some_at}
use Rattle.pssm_heritage.specs.Chains.{IsChain}
use Rattle.pssm_heritage.specs.Chains.IsChain.{base as chain_base, extended as chain_extended}
use Rattle.pssm_heritage.proofs.ChainLaws.{chain_has, cut_at}
use Rattle.pssm_heritage.proofs.WalkLaws.{parts_of}
use Rattle.pssm_heritage.proofs.NumberLaws.{or_below}
use Rattle.pssm_redefine.proofs.SumLaws.{added, added_is}

-- what holds of all that a list contains
all_of : {X : Type 0} (P : X → Type 0) (xs : List X) → ((x : X) → Contains xs x → P x) → AllByRecursion P xs
all_of P [] each = tt
all_of P (x ∷ xs) each = (each x (0, omega arith, refl), all_of P xs (λ y h. let lt = h.1 in each y (suc h.0, omega arith, h.2)))

-- ---- machines of a chain

chain_below : (draft : Draft) (m : ℕ) (machines : List ℕ) → IsChain draft m machines → m < length draft.machines
chain_below draft m _ (chain_base parts is none) = slice_get_within draft.machines m parts is
chain_below draft m _ (chain_extended other e chain) = let p = parts_of draft m other e in slice_get_within draft.machines m p.0 p.1

module _ (draft : Draft) (m : ℕ) (machines : List ℕ) (range : IsInRange draft) (chain : IsChain draft m machines) where
  pub last_below : m < length draft.machines
  last_below = chain_below draft m machines chain

  one_below : (x : ℕ) → Contains machines x → x < length draft.machines
  one_below x h = or_below draft m x range last_below (chain_has chain x h)

  -- They are machines of the draft.
  pub machines_below : All (λ k. k < length draft.machines) machines
  machines_below = λ k d lt. one_below (get_or machines k d) (Contains-get_or machines k d lt)

  -- They are the machine and those that it extends.
  pub machines_up : AllByRecursion (IsOrExtends draft m) machines
  machines_up = all_of (IsOrExtends draft m) machines (chain_has chain)

  -- No two are the same.
  pub machines_apart : AllPairs (λ a b. a ≢ b) machines
  machines_apart = λ i j d lt within same.
      let cut = cut_at chain j within in
      let cut_length : length (take j machines) ≡ j = length-take-le j machines (omega arith) in
      let earlier : i < length (take j machines) = omega arith in
      let at : get_or (take j machines) i d ≡ get_or machines j 0 = get_or-take j machines i d lt ∙ same ∙ get_or_default machines j d 0 within in
      cut.circle (cut.has (get_or machines j 0) (subst (Contains (take j machines)) at (Contains-get_or (take j machines) i d earlier)))

-- ---- sums over machines

-- machines that there are have parts
parts_at : (draft : Draft) (machines : List ℕ) → ((x : ℕ) → Contains machines x → x < length draft.machines)
    → (parts : List DraftParts) × ArePartsOf draft machines parts
parts_at draft [] below = ([], tt)
parts_at draft (m ∷ machines) below =
    let here = some_at draft.machines m (below m (0, omega arith, refl)) in
    let more = parts_at draft machines (λ x h. let lt = h.1 in below x (suc h.0, omega arith, h.2)) in
    (here.0 ∷ more.0, (here.1, more.1))

added_parts : (draft : Draft) (f : ℕ → ℕ) (count : DraftParts → ℕ) → ((x : ℕ) (p : DraftParts) → slice_get draft.machines x ≡ Some p → f x ≤ count p)
    → (machines : List ℕ) (parts : List DraftParts) → ArePartsOf draft machines parts → added f machines ≤ added count parts
added_parts draft f count each [] [] all = omega arith
added_parts draft f count each [] (p ∷ parts) all = absurd (all)
added_parts draft f count each (m ∷ machines) [] all = absurd (all)
added_parts draft f count each (m ∷ machines) (p ∷ parts) all = omega (arith, each m p all.0, added_parts draft f count each machines parts all.1)

-- What each machine has at most of what is counted, they have together within the limit.
pub added_few : (draft : Draft) (m : ℕ) (machines : List ℕ) (f : ℕ → ℕ) (count : DraftParts → ℕ) → IsInRange draft → IsChain draft m machines → IsFew draft count m
    → ((x : ℕ) (p : DraftParts) → slice_get draft.machines x ≡ Some p → f x ≤ count p) → added f machines ≤ 65535
added_few draft m machines f count range chain few each =
    let parts = parts_at draft machines (one_below draft m machines range chain) in
    let sum : sum_by count parts.0 ≤ 65535 = few machines parts.0 (machines_apart draft m machines range chain) (machines_up draft m machines range chain) parts.1 in
    let same : added count parts.0 ≡ sum_by count parts.0 = added_is count parts.0 in
    let less : added f machines ≤ added count parts.0 = added_parts draft f count each machines parts.0 parts.1 in
    omega arith

pub small_chain : (draft : Draft) (m : ℕ) (machines : List ℕ) → IsInRange draft → IsChain draft m machines → IsSmallMachine draft m
small_chain draft m machines range chain = range.small m (chain_below draft m machines chain)
