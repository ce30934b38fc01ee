-- What one more element at the end does to a split of a list, and to "some element of one kind with none of another after it".
use Rattle.std.proofs.Common.{◌≡◌, ◌⊎◌, inl, inr, List, [], ◌∷◌, ◌++◌, refl, sym, ◌∙◌, ap, subst, append_assoc, append-nil}
use Rattle.std.specs.List.{AllByRecursion}

pub never_ends : {X : Type 0} (y : X) (before after : List X) → [] ≡ before ++ y ∷ after → ⊥
never_ends y [] after e = cc
never_ends y (b ∷ bs) after e = cc

-- A split of the longer list is at the new element, or one of the shorter list.
pub split-append : {X : Type 0} (xs before after : List X) (x y : X) → xs ++ x ∷ [] ≡ before ++ y ∷ after
    → ((xs ≡ before) × (x ≡ y) × (after ≡ [])) ⊎ ((rest : List X) × (after ≡ rest ++ x ∷ []) × (xs ≡ before ++ y ∷ rest))
split-append [] [] after x y e = inl (refl, cc, cc)
split-append [] (b ∷ bs) after x y e = let tail : [] ≡ bs ++ y ∷ after = cc in absurd (never_ends y bs after tail)
split-append (z ∷ zs) [] after x y e = inr (zs, cc, cc)
split-append (z ∷ zs) (b ∷ bs) after x y e =
    let tail : zs ++ x ∷ [] ≡ bs ++ y ∷ after = cc in
    let head : z ≡ b = cc in
    elim (split-append zs bs after x y tail) [
      | inl h ↦ let same : zs ≡ bs = h.0 in inl (cc, h.1, h.2)
      | inr h ↦ let same : zs ≡ bs ++ y ∷ h.0 = h.2 in inr (h.0, h.1, cc)
    ]

-- each of two lists, and so of both
pub AllByRecursion-append : {X : Type 0} (P : X → Type 0) (xs ys : List X) → AllByRecursion P xs → AllByRecursion P ys → AllByRecursion P (xs ++ ys)
AllByRecursion-append P [] ys all more = more
AllByRecursion-append P (x ∷ xs) ys all more = (all.0, AllByRecursion-append P xs ys all.1 more)

-- of both, and so of the first
pub AllByRecursion-front : {X : Type 0} (P : X → Type 0) (xs ys : List X) → AllByRecursion P (xs ++ ys) → AllByRecursion P xs
AllByRecursion-front P [] ys all = tt
AllByRecursion-front P (x ∷ xs) ys all = (all.0, AllByRecursion-front P xs ys all.1)

-- of both, and so of the second
pub AllByRecursion-back : {X : Type 0} (P : X → Type 0) (xs ys : List X) → AllByRecursion P (xs ++ ys) → AllByRecursion P ys
AllByRecursion-back P [] ys all = all
AllByRecursion-back P (x ∷ xs) ys all = AllByRecursion-back P xs ys all.1

-- some element of one kind with only elements of another kind after it
abbrev pub LastOf : {X : Type 0} → (X → Type 0) → (X → Type 0) → List X → Type 0
LastOf {X} P Q xs = (before after : List X) × (x : X) × (xs ≡ before ++ x ∷ after) × P x × AllByRecursion Q after

pub LastOf-nil : {X : Type 0} (P Q : X → Type 0) → LastOf P Q [] → ⊥
LastOf-nil P Q h = never_ends h.2 h.0 h.1 h.3

-- the new element is of the first kind
pub LastOf-becomes : {X : Type 0} (P Q : X → Type 0) (xs : List X) (x : X) → P x → LastOf P Q (xs ++ x ∷ [])
LastOf-becomes P Q xs x p = (xs, [], x, refl, p, tt)

-- the new element is of the second kind
pub LastOf-stays : {X : Type 0} (P Q : X → Type 0) (xs : List X) (x : X) → LastOf P Q xs → Q x → LastOf P Q (xs ++ x ∷ [])
LastOf-stays P Q xs x h q = (
  h.0,
  h.1 ++ x ∷ [],
  h.2,
  ap (λ ys. ys ++ x ∷ []) h.3 ∙ append_assoc h.0 (h.2 ∷ h.1) (x ∷ []),
  h.4,
  AllByRecursion-append Q h.1 (x ∷ []) h.5 (q, tt),
)

-- one or the other
pub LastOf-was : {X : Type 0} (P Q : X → Type 0) (xs : List X) (x : X) → LastOf P Q (xs ++ x ∷ []) → P x ⊎ (LastOf P Q xs × Q x)
LastOf-was {X} P Q xs x h =
    elim (split-append xs h.0 h.1 x h.2 h.3) [
      | inl k ↦ inl (subst P (sym k.1) h.4)
      | inr k ↦
          let All : List X → Type 0 = λ ys. AllByRecursion Q ys in
          let all : AllByRecursion Q (k.0 ++ x ∷ []) = subst All k.1 h.5 in
          inr ((h.0, k.0, h.2, k.2, h.4, AllByRecursion-front Q k.0 (x ∷ []) all), (AllByRecursion-back Q k.0 (x ∷ []) all).0)
    ]

-- Two such splits are one, where the second kind is "not of the first".
pub last_split-unique : {X : Type 0} (P : X → Type 0) (before after front back : List X) (x y : X) → before ++ x ∷ after ≡ front ++ y ∷ back
    → P x → AllByRecursion (λ z. P z → ⊥) after → P y → AllByRecursion (λ z. P z → ⊥) back
    → (before ≡ front) × (x ≡ y) × (after ≡ back)
last_split-unique P [] after [] back x y e p none q nothing = (refl, cc, cc)
last_split-unique {X} P [] after (c ∷ cs) back x y e p none q nothing =
    let tail : after ≡ cs ++ y ∷ back = cc in
    let None : List X → Type 0 = λ zs. AllByRecursion (λ z. P z → ⊥) zs in
    absurd ((AllByRecursion-back (λ z. P z → ⊥) cs (y ∷ back) (subst None tail none)).0 q)
last_split-unique {X} P (b ∷ bs) after [] back x y e p none q nothing =
    let tail : back ≡ bs ++ x ∷ after = cc in
    let None : List X → Type 0 = λ zs. AllByRecursion (λ z. P z → ⊥) zs in
    absurd ((AllByRecursion-back (λ z. P z → ⊥) bs (x ∷ after) (subst None tail nothing)).0 p)
last_split-unique P (b ∷ bs) after (c ∷ cs) back x y e p none q nothing =
    let tail : bs ++ x ∷ after ≡ cs ++ y ∷ back = cc in
    let h : (bs ≡ cs) × (x ≡ y) × (after ≡ back) = last_split-unique P bs after cs back x y tail p none q nothing in
    let head : b ≡ c = cc in
    let same : bs ≡ cs = h.0 in
    (cc, h.1, h.2)

from_front : {X : Type 0} (P : List X → Type 0) → ((xs : List X) (x : X) → P xs → P (xs ++ x ∷ [])) → (front rest : List X) → P front → P (front ++ rest)
from_front P step front [] p = subst P (sym (append-nil front)) p
from_front P step front (x ∷ rest) p = subst P (append_assoc front (x ∷ []) rest) (from_front P step (front ++ x ∷ []) rest (step front x p))

-- an induction that adds elements at the end
pub from_the_end : {X : Type 0} (P : List X → Type 0) → P [] → ((xs : List X) (x : X) → P xs → P (xs ++ x ∷ [])) → (xs : List X) → P xs
from_the_end P none step xs = from_front P step [] xs none
