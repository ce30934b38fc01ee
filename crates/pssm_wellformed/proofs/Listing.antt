-- Lists by number, as they are filled.
use Rattle.std.proofs.Common.{◌≡◌, ◌≢◌, ◌↔◌, ◌<◌, ◌≤◌, ◌+◌, ◌==◌, ℕ, List, [], ◌∷◌, ◌++◌, if◌then◌else◌, length, Bool, true, IsTrue, not, nat_lt, get_or, take, Contains, refl, sym, ap, subst, ◌∙◌, ⊎_elim, arith, eq-eqb}
use Rattle.std.specs.List.{AllPairs}
use Rattle.std.proofs.lemmas.Bool.{cases_eq, ne_eqb, false≢true, ltb-true, lt-ltb}
use Rattle.std.proofs.lemmas.List.{get_or_default, append-nil, take_more, take_all}
use Rattle.std.proofs.lemmas.List.Elements.{Contains-append_left, Contains-push, Contains-push_cases, Contains-get_or}
use Rattle.pssm_model.specs.declared.ids.VertexId.{VertexId}
use Rattle.pssm_model.specs.declared.ids.RegionId.{RegionId}
use Rattle.pssm_model.specs.declared.ids.TransId.{TransId}
use Rattle.pssm_model.specs.declared.elements.DraftMachine.{DraftMachine}
use Rattle.pssm_model.specs.declared.elements.VertexKind.{VertexKind}
use Rattle.pssm_model.specs.Forest.{OwnsOfKind}
use Rattle.pssm_model.specs.WellFormed.{OwnsTwo}
use Rattle.pssm_wellformed.specs.inner.Ends.{transition_number}
use Rattle.pssm_wellformed.specs.inner.Apart.{placed}

-- what is put is the item for this number, and nothing for another
pub puts_here : (key item k : ℕ) (xs : List ℕ) → k ≡ key → xs ++ (if k == key then item ∷ [] else []) ≡ xs ++ item ∷ []
puts_here key item k xs e = ap (λ (b : Bool). xs ++ (if b then item ∷ [] else [])) (eq-eqb k key e)

pub puts_there : (key item k : ℕ) (xs : List ℕ) → (k ≡ key → ⊥) → xs ++ (if k == key then item ∷ [] else []) ≡ xs
puts_there key item k xs ne = ap (λ (b : Bool). xs ++ (if b then item ∷ [] else [])) (ne_eqb k key ne) ∙ append-nil xs

-- a list has an item exactly where it is not empty, and an ascending one two different items where it is longer than one
module _ {A : Type 0} where
  two_in : (number : A → ℕ) (xs : List A) (d : A) → AllPairs (λ x y. number x < number y) xs → 1 < length xs
      → (x y : A) × (x ≢ y) × Contains xs x × Contains xs y
  two_in number xs d up lt =
      let below : number (get_or xs 0 d) < number (get_or xs 1 d) = up 0 1 d (omega arith) lt in
      (get_or xs 0 d, get_or xs 1 d, λ e. (let same = ap number e in omega arith), Contains-get_or xs 0 d (omega arith), Contains-get_or xs 1 d lt)

  in_two : (xs : List A) (x y : A) → x ≢ y → Contains xs x → Contains xs y → 1 < length xs
  in_two xs x y ne c d = ⊎_elim
      (λ (e : c.0 ≡ d.0). absurd (ne (sym c.2 ∙ get_or_default xs c.0 x y c.1 ∙ ap (λ k. get_or xs k y) e ∙ d.2)))
      (λ (other : c.0 ≡ d.0 → ⊥). let a = c.1 in let b = d.1 in omega arith) (cases_eq c.0 d.0)

  -- the tests of a list's length say whether it has an item, and whether it has two
  pub not_empty_iff : (xs : List A) (b : Bool) → b ≡ (length xs == 0) → IsTrue (not b) ↔ ((x : A) × Contains xs x)
  not_empty_iff [] b h = (λ t. absurd (false≢true (subst (λ x. not x ≡ true) h t)), λ c. absurd (let lt = c.1.1 in omega arith))
  not_empty_iff (x ∷ xs) b h = (λ t. (x, (0, omega arith, refl)), λ c. ap not (h ∙ ne_eqb (length (x ∷ xs)) 0 (λ e. omega arith)))

  pub longer_iff : (number : A → ℕ) (xs : List A) → AllPairs (λ x y. number x < number y) xs
      → IsTrue (nat_lt 1 (length xs)) ↔ ((x y : A) × (x ≢ y) × Contains xs x × Contains xs y)
  longer_iff number [] up = (λ t. absurd (let lt = ltb-true 1 0 t in omega arith), λ c. absurd (let lt = c.3.1 in omega arith))
  longer_iff number (x ∷ xs) up = (
    λ t. two_in number (x ∷ xs) x up (ltb-true 1 (length (x ∷ xs)) t),
    λ c. lt-ltb 1 (length (x ∷ xs)) (in_two (x ∷ xs) c.0 c.1 c.2 c.3 c.4),
  )

  pub empty_iff : (xs : List A) (b : Bool) → b ≡ (length xs == 0) → IsTrue b ↔ ((x : A) → Contains xs x → ⊥)
  empty_iff [] b h = (λ t i c. let lt = c.1 in omega arith, λ none. h)
  empty_iff (x ∷ xs) b h = (
    λ t. absurd (false≢true (sym (h ∙ ne_eqb (length (x ∷ xs)) 0 (λ e. omega arith)) ∙ t)),
    λ none. absurd (none x (0, omega arith, refl)),
  )

  -- none of the first so many items has a property: one item more, and all of them
  pub none_more : (P : A → Type 0) (xs : List A) (i : ℕ) (d : A) → i < length xs → (P (get_or xs i d) → ⊥)
      → ((x : A) → Contains (take i xs) x → P x → ⊥) → (x : A) → Contains (take (i + 1) xs) x → P x → ⊥
  none_more P xs i d lt none h x c p =
      ⊎_elim (λ old. h x old p) (λ (e : get_or xs i d ≡ x). none (subst P (sym e) p))
      (Contains-push_cases (take i xs) (get_or xs i d) x (subst (λ ys. Contains ys x) (take_more xs i d lt) c))

  pub none_at_all : (P : A → Type 0) (xs : List A) (i : ℕ) → length xs ≤ i → ((x : A) → Contains (take i xs) x → P x → ⊥) → (x : A) → Contains xs x → P x → ⊥
  none_at_all P xs i le h x c p = h x (subst (λ ys. Contains ys x) (sym (take_all i xs le)) c) p

-- the numbers below a bound with a property: one more is put behind, or passed over
pub kept_more : (P : ℕ → Type 0) (n : ℕ) (xs : List ℕ) → P n → ((r : ℕ) → Contains xs r ↔ ((r < n) × P r)) → (r : ℕ) → Contains (xs ++ n ∷ []) r ↔ ((r < n + 1) × P r)
kept_more P n xs has h r = (
  λ c. ⊎_elim (λ old. let w = (h r).0 old in (let lt = w.0 in omega arith, w.1)) (λ (e : n ≡ r). (omega arith, subst P e has)) (Contains-push_cases xs n r c),
  λ w. ⊎_elim (λ (e : r ≡ n). subst (Contains (xs ++ n ∷ [])) (sym e) (Contains-push xs n))
      (λ (ne : r ≡ n → ⊥). Contains-append_left xs (n ∷ []) r ((h r).1 (let lt = w.0 in omega arith, w.1))) (cases_eq r n),
)

pub kept_passed : (P : ℕ → Type 0) (n : ℕ) (xs : List ℕ) → (P n → ⊥) → ((r : ℕ) → Contains xs r ↔ ((r < n) × P r)) → (r : ℕ) → Contains xs r ↔ ((r < n + 1) × P r)
kept_passed P n xs none h r = (
  λ c. let w = (h r).0 c in (let lt = w.0 in omega arith, w.1),
  λ w. ⊎_elim (λ (e : r ≡ n). absurd (none (subst P e w.1))) (λ (ne : r ≡ n → ⊥). (h r).1 (let lt = w.0 in omega arith, w.1)) (cases_eq r n),
)

-- in an ascending list an item stands at one place
pub placed_apart : (ts : List TransId) → AllPairs (λ t u. t.0 < u.0) ts → (j k : ℕ) → j < k → k < length ts → placed ts j ≡ placed ts k → ⊥
placed_apart ts up j k lt within e =
    let below : (placed ts j).0 < (placed ts k).0 = up j k (transition_number 0) lt within in
    let same = ap (λ (t : TransId). t.0) e in
    omega arith

-- Some of these is earlier exactly where the first is.
pub earlier_iff : (ts : List TransId) (first : TransId) (n : ℕ) → 0 < length ts → first ≡ get_or ts 0 first → AllPairs (λ t u. t.0 < u.0) ts
    → IsTrue (nat_lt first.0 n) ↔ ((t : TransId) × Contains ts t × (t.0 < n))
earlier_iff [] first n some is up = absurd (omega arith)
earlier_iff (t ∷ ts) first n some is up =
    let same : t ≡ first = sym is in (
      λ h. (first, (0, omega arith, same), ltb-true first.0 n h),
      λ (u, (k, within, e), lt). lt-ltb first.0 n (⊎_elim
          (λ (none : k ≡ 0).
          let at : t ≡ u = ap (λ i. get_or (t ∷ ts) i u) (sym none) ∙ e in
          let named : first.0 ≡ u.0 = ap (λ (x : TransId). x.0) (sym same ∙ at) in
          omega arith)
          (λ (some : k ≡ 0 → ⊥).
          let below : t.0 < (get_or (t ∷ ts) k u).0 = up 0 k u (omega arith) within in
          let named : first.0 ≡ t.0 = ap (λ (x : TransId). x.0) (sym same) in
          let at : (get_or (t ∷ ts) k u).0 ≡ u.0 = ap (λ (x : TransId). x.0) e in
          omega arith)
          (cases_eq k 0)),
    )

-- A region owns two vertices of a kind exactly where there are two in the list of them.
pub two_of_kind : (m : DraftMachine) (r : RegionId) (kind : VertexKind) (vs : List VertexId) → ((v : VertexId) → Contains vs v ↔ OwnsOfKind m r kind v)
    → AllPairs (λ v w. v.0 < w.0) vs → IsTrue (nat_lt 1 (length vs)) ↔ OwnsTwo m r kind
two_of_kind m r kind vs is up =
    let iff = longer_iff (λ (v : VertexId). v.0) vs up in (
      λ t. let two = iff.0 t in let v = (is two.0).0 two.3 in let w = (is two.1).0 two.4 in (two.0, two.1, two.2, v.0, w.0, v.1, w.1),
      λ h. iff.1 (h.0, h.1, h.2, (is h.0).1 (h.3, h.5), (is h.1).1 (h.4, h.6)),
    )
