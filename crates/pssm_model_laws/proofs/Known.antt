-- Facts that are known to hold or not to hold.
use Rattle.std.proofs.Common.{◌≡◌, ◌⊎◌, ◌<◌, ℕ, zero, suc, List, [], ◌∷◌, Contains, refl, sym, ap, subst, inl, inr, ⊎_elim, arith}
use Rattle.std.proofs.lemmas.List.Elements.{Contains-append_cases, Contains-append_left, Contains-append_right}
use Rattle.pssm_model.specs.declared.ids.VertexId.{VertexId}
use Rattle.pssm_model.specs.declared.ids.RegionId.{RegionId}
use Rattle.pssm_model.specs.declared.ids.TransId.{TransId}
use Rattle.pssm_model.specs.declared.elements.Owner.{Owner}
use Rattle.pssm_model.specs.declared.elements.Owner.TheVariants.{Top, Region, State}
use Rattle.pssm_model.specs.declared.elements.TransKind.{TransKind}
use Rattle.pssm_model.specs.declared.elements.TransKind.TheVariants.{External, Local, Internal}
use Rattle.pssm_model.proofs.ElementLaws.{same_vertex, same_transition, same_region, nothing_in_nil}
use Rattle.pssm_model.proofs.RouteLaws.{in_one, is_one}

-- It holds, or it does not.
abbrev pub Known : Type 0 → Type 0
Known P = P ⊎ (P → ⊥)

-- what is known, and not refuted, holds
pub sure : {P : Type 0} → Known P → ((P → ⊥) → ⊥) → P
sure known not = ⊎_elim (λ is. is) (λ none. absurd (not none)) known

pub known_both : {P Q : Type 0} → Known P → Known Q → Known (P × Q)
known_both p q =
    ⊎_elim
    (λ first. ⊎_elim (λ second. inl (first, second)) (λ none. inr (λ h. none h.1)) q)
    (λ none. inr (λ h. none h.0))
    p

pub known_either : {P Q : Type 0} → Known P → Known Q → Known (P ⊎ Q)
known_either p q =
    ⊎_elim
    (λ first. inl (inl first))
    (λ no. ⊎_elim (λ second. inl (inr second)) (λ none. inr (λ h. ⊎_elim no none h)) q)
    p

pub known_not : {P : Type 0} → Known P → Known (P → ⊥)
known_not p = ⊎_elim (λ is. inr (λ none. none is)) (λ none. inl none) p

pub known_as : {P Q : Type 0} → (P → Q) → (Q → P) → Known P → Known Q
known_as to from p = ⊎_elim (λ is. inl (to is)) (λ none. inr (λ h. none (from h))) p

-- Some number below a bound is such, or none is.
pub known_below : (P : ℕ → Type 0) → ((k : ℕ) → Known (P k)) → (n : ℕ) → Known ((k : ℕ) × (k < n) × P k)
known_below P each zero = inr (λ h. let lt : h.0 < 0 = h.1 in absurd (omega arith))
known_below P each (suc n) =
    ⊎_elim
    (λ last. inl (n, omega arith, last))
    (λ no. known_as
    (λ h. (h.0, (let lt : h.0 < n = h.1 in omega arith), h.2))
    (λ h. (h.0, below h.0 h.1 (λ same. no (subst P same h.2)), h.2))
    (known_below P each n))
    (each n)
  where
    below : (k : ℕ) → k < suc n → (k ≡ n → ⊥) → k < n
    below k lt apart = omega (arith, apart)

-- Some element of a list is such, or none is.
pub known_among : {X : Type 0} (P : X → Type 0) (xs : List X) → ((x : X) → Contains xs x → Known (P x)) → Known ((x : X) × Contains xs x × P x)
known_among P [] each = inr (λ h. nothing_in_nil h.0 h.1)
known_among P (x ∷ xs) each =
    ⊎_elim
    (λ first. inl (x, Contains-append_left (x ∷ []) xs x (in_one x), first))
    (λ no. known_as
    (λ h. (h.0, Contains-append_right (x ∷ []) xs h.0 h.1, h.2))
    (λ h. ⊎_elim
    (λ first. absurd (no (subst P (is_one x h.0 first) h.2)))
    (λ rest. (h.0, rest, h.2))
    (Contains-append_cases (x ∷ []) xs h.0 h.1))
    (known_among P xs (λ y inside. each y (Contains-append_right (x ∷ []) xs y inside))))
    (each x (Contains-append_left (x ∷ []) xs x (in_one x)))

-- All elements of a list are such, or some is not.
pub known_all : {X : Type 0} (P : X → Type 0) (xs : List X) → ((x : X) → Contains xs x → Known (P x)) → Known ((x : X) → Contains xs x → P x)
known_all P [] each = inl (λ x h. absurd (nothing_in_nil x h))
known_all P (x ∷ xs) each =
    known_as
    (λ both y h. ⊎_elim
    (λ first. subst P (sym (is_one x y first)) both.0)
    (λ rest. both.1 y rest)
    (Contains-append_cases (x ∷ []) xs y h))
    (λ all. (
      all x (Contains-append_left (x ∷ []) xs x (in_one x)),
      λ y inside. all y (Contains-append_right (x ∷ []) xs y inside),
    ))
    (known_both
    (each x (Contains-append_left (x ∷ []) xs x (in_one x)))
    (known_all P xs (λ y inside. each y (Contains-append_right (x ∷ []) xs y inside))))

-- An element is in a list, or not.
pub known_inside : {X : Type 0} → ((x y : X) → Known (x ≡ y)) → (xs : List X) (x : X) → Known (Contains xs x)
known_inside same xs x =
    known_as
    (λ h. subst (λ y. Contains xs y) h.2 h.1)
    (λ h. (x, h, refl))
    (known_among (λ y. y ≡ x) xs (λ y inside. same y x))

-- Two numbers are the same, or not.
pub known_number : (a b : ℕ) → Known (a ≡ b)
known_number zero zero = inl refl
known_number zero (suc b) = inr (λ e. absurd (omega (arith, e)))
known_number (suc a) zero = inr (λ e. absurd (omega (arith, e)))
known_number (suc a) (suc b) = known_as (λ e. ap suc e) (λ e. omega (arith, e)) (known_number a b)

pub known_vertex : (a b : VertexId) → Known (a ≡ b)
known_vertex a b = known_as (same_vertex a b) (λ e. ap (λ (x : VertexId). x.0) e) (known_number a.0 b.0)

pub known_region : (a b : RegionId) → Known (a ≡ b)
known_region a b = known_as (same_region a b) (λ e. ap (λ (x : RegionId). x.0) e) (known_number a.0 b.0)

pub known_transition : (a b : TransId) → Known (a ≡ b)
known_transition a b = known_as (same_transition a b) (λ e. ap (λ (x : TransId). x.0) e) (known_number a.0 b.0)

pub known_place : (p q : Owner) → Known (p ≡ q)
known_place Top Top = inl refl
known_place Top (Region r) = inr (λ e. cc)
known_place Top (State s) = inr (λ e. cc)
known_place (Region r) Top = inr (λ e. cc)
known_place (Region r) (Region q) = known_as (λ e. ap Region e) (λ e. cc) (known_region r q)
known_place (Region r) (State s) = inr (λ e. cc)
known_place (State s) Top = inr (λ e. cc)
known_place (State s) (Region r) = inr (λ e. cc)
known_place (State s) (State q) = known_as (λ e. ap State e) (λ e. cc) (known_vertex s q)

pub known_kind : (k l : TransKind) → Known (k ≡ l)
known_kind External External = inl refl
known_kind External Local = inr (λ e. cc)
known_kind External Internal = inr (λ e. cc)
known_kind Local External = inr (λ e. cc)
known_kind Local Local = inl refl
known_kind Local Internal = inr (λ e. cc)
known_kind Internal External = inr (λ e. cc)
known_kind Internal Local = inr (λ e. cc)
known_kind Internal Internal = inl refl
