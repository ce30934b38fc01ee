-- The first signal that is not held, as a look through a pool finds it.
use Rattle.std.proofs.Common.{◌≡◌, ◌<◌, ◌≤◌, ◌+◌, ℕ, Bool, true, false, List, [], ◌∷◌, zero, suc, length, map, Option, Some, None, option_map, slice_get, sym, refl, ap, subst, ◌∙◌, ⊎_elim, Contains, arith}
use Rattle.std.specs.List.{AllByRecursion}
use Rattle.std.proofs.lemmas.Bool.{cases_lt}
use Rattle.std.proofs.lemmas.Bool.Decides.{eqb_tells}
use Rattle.std.proofs.lemmas.Option.{slice_get-map, slice_get_within, get_or_from_slice_get}
use Rattle.pssm_links.specs.Chained.{Linked}
use Rattle.pssm_pool.specs.declared.pools.Waiting.{Waiting}
use Rattle.pssm_pool.specs.declared.front.Kind.{Kind}
use Rattle.pssm_pool.specs.Telling.{AreAlike, AnswersAlike, IsFirstNot}
use Rattle.pssm_pool.specs.inner.Fronts.{AreKinds}
use Rattle.pssm_pool.specs.inner.Looks.{AllBefore}

-- a value that is read off a list stands there with its slot
pub entry-at : (row : List (Linked Waiting)) (j : ℕ) (w : Waiting) → slice_get (map (λ (e : Linked Waiting). e.value) row) j ≡ Some w
    → (e : Linked Waiting) × (slice_get row j ≡ Some e) × (e.value ≡ w)
entry-at [] j w at = let none : None ≡ Some w = at in absurd (cc)
entry-at (e ∷ row) zero w at = (e, refl, (let one : Some e.value ≡ Some w = at in cc))
entry-at (e ∷ row) (suc j) w at = entry-at row j w at

-- and is one of the values
pub value-in : (waiting : List Waiting) (k : ℕ) (w : Waiting) → slice_get waiting k ≡ Some w → Contains waiting w
value-in waiting k w at = (k, slice_get_within waiting k w at, get_or_from_slice_get waiting k w w at)

module _ (Answers : Waiting → Bool → Type 0) where
  pub before-none : (waiting : List Waiting) → AllBefore Answers waiting 0
  before-none waiting j w lt at = absurd (omega arith)

  pub before-more : (waiting : List Waiting) (k : ℕ) (x : Waiting) → slice_get waiting k ≡ Some x → Answers x true
      → AllBefore Answers waiting k → AllBefore Answers waiting (k + 1)
  before-more waiting k x at here before j w lt there =
      ⊎_elim
      (λ same.
      let one : Some x ≡ Some w = sym at ∙ subst (λ i. slice_get waiting i ≡ Some w) same.1 there in
      let alike : x ≡ w = cc in
      subst (λ y. Answers y true) alike here)
      (λ other. before j w (let apart = other.1 in omega arith) there)
      (eqb_tells j k)

  pub first-found : (waiting : List Waiting) (k : ℕ) (x : Waiting) → slice_get waiting k ≡ Some x → Answers x false
      → AllBefore Answers waiting k → IsFirstNot Answers waiting k
  first-found waiting k x at here before = record { before = before; here = (x, at, here) }

  pub all-held : (n : ℕ) (waiting : List Waiting) → length waiting ≤ n → AllBefore Answers waiting n
      → AllByRecursion (λ w. Answers w true) waiting
  all-held n [] le before = tt
  all-held zero (w ∷ rest) le before = absurd (omega arith)
  all-held (suc n) (w ∷ rest) le before = (
    before 0 w (omega arith) refl,
    all-held n rest (omega arith) (λ j x lt at. before (suc j) x (omega arith) at),
  )

-- So many of the kinds are held: true may be answered for the first signal of each.
abbrev pub AreHeldTo : (Waiting → Bool → Type 0) → List (Linked Waiting) → List Kind → ℕ → Type 0
AreHeldTo Answers row kinds n =
    (i : ℕ) (kind : Kind) (e : Linked Waiting) → i < n → slice_get kinds i ≡ Some kind → slice_get row kind.place ≡ Some e → Answers e.value true

module _ (Answers : Waiting → Bool → Type 0) (row : List (Linked Waiting)) (kinds : List Kind) where
  pub kinds-more : (n : ℕ) (kind : Kind) (e : Linked Waiting) → slice_get kinds n ≡ Some kind → slice_get row kind.place ≡ Some e → Answers e.value true
      → AreHeldTo Answers row kinds n → AreHeldTo Answers row kinds (n + 1)
  kinds-more n kind e listed there here before i other x lt at stands =
      ⊎_elim
      (λ same.
      let one : Some kind ≡ Some other = sym listed ∙ subst (λ j. slice_get kinds j ≡ Some other) same.1 at in
      let alike : other ≡ kind = cc in
      let place : slice_get row kind.place ≡ Some x = subst (λ (k : Kind). slice_get row k.place ≡ Some x) alike stands in
      let both : Some e ≡ Some x = sym there ∙ place in
      let value : e ≡ x = cc in
      subst (λ (y : Linked Waiting). Answers y.value true) value here)
      (λ away. before i other x (let apart = away.1 in omega (arith, lt, apart)) at stands)
      (eqb_tells i n)

  module _ (count : ℕ) (are : AreKinds row kinds count) where
    -- the signals before the place of a kind are alike to ones of kinds before it
    pub held-before : (n : ℕ) (kind : Kind) → slice_get kinds n ≡ Some kind → AreHeldTo Answers row kinds n
        → AllBefore (AnswersAlike Answers) (map (λ (e : Linked Waiting). e.value) row) kind.place
    held-before n kind listed held j w lt at =
        let e = entry-at row j w at in
        let stands = are.stand n kind listed in
        let by = are.known j e.0 (let before = stands.before in omega (arith, lt, before)) e.1 in
        let order : by.number < n =
        ⊎_elim
        (λ less. less)
        (λ most.
        ⊎_elim
        (λ same.
        let one : Some by.kind ≡ Some kind = sym by.listed ∙ subst (λ i. slice_get kinds i ≡ Some kind) (sym same.1) listed in
        let alike : by.kind ≡ kind = cc in
        let place : by.kind.place ≡ kind.place = ap (λ (k : Kind). k.place) alike in
        let le = by.order in
        absurd (omega (arith, le, place, lt)))
        (λ away.
        let apart = away.1 in
        let more = are.ascend n by.number kind by.kind (omega (arith, most, apart)) listed by.listed in
        let le = by.order in
        absurd (omega (arith, le, more, lt)))
        (eqb_tells by.number n))
        (cases_lt by.number n) in
        (by.first.value, subst (λ (v : Waiting). AreAlike by.first.value v) e.2 by.alike, held by.number by.kind by.first order by.listed by.there)

    pub all-kinds-held : (n : ℕ) → length kinds ≤ n → AreHeldTo Answers row kinds n
        → AllBefore (AnswersAlike Answers) (map (λ (e : Linked Waiting). e.value) row) count
    all-kinds-held n le held j w lt at =
        let e = entry-at row j w at in
        let by = are.known j e.0 lt e.1 in
        let within = slice_get_within kinds by.number by.kind by.listed in
        (by.first.value, subst (λ (v : Waiting). AreAlike by.first.value v) e.2 by.alike, held by.number by.kind by.first (omega (arith, within, le)) by.listed by.there)

    -- the kind is the first for which false is answered
    pub first-kind-free : (n : ℕ) (kind : Kind) (e : Linked Waiting) → slice_get kinds n ≡ Some kind → slice_get row kind.place ≡ Some e → Answers e.value false
        → AreHeldTo Answers row kinds n → IsFirstNot (AnswersAlike Answers) (map (λ (e : Linked Waiting). e.value) row) kind.place
    first-kind-free n kind e listed there here held = record {
      before = held-before n kind listed held;
      here = (
        e.value,
        slice_get-map (λ (x : Linked Waiting). x.value) row kind.place ∙ ap (λ (o : Option (Linked Waiting)). option_map (λ x. x.value) o) there,
        (e.value, (refl, refl), here),
      );
    }
