-- The rules that machines break are one list.
use Rattle.std.proofs.Common.{◌≡◌, ◌⊎◌, suc, List, [], ◌∷◌, ◌++◌, refl, sym, ap, subst, ◌∙◌, inl, inr, ⊎_elim, arith, Contains}
use Rattle.std.specs.Prelude.{map, AllPairs}
use Rattle.std.proofs.lemmas.List.Elements.{Contains-append_right, Contains-append_cases}
use Rattle.pssm_model.specs.declared.elements.DraftMachine.{DraftMachine}
use Rattle.pssm_model.specs.declared.elements.Element.{Element}
use Rattle.pssm_model.specs.declared.elements.Element.TheVariants.{Region, Vertex, Transition}
use Rattle.pssm_model.specs.declared.elements.FaultPlace.{FaultPlace}
use Rattle.pssm_model.specs.declared.elements.FaultPlace.TheVariants.{Top, At}
use Rattle.pssm_model.specs.Shapes.{IsEarlier}
use Rattle.pssm_semantics.specs.declared.setting.Class.{Class}
use Rattle.pssm_heritage.proofs.ChainLaws.{the_one, nothing_in}
use Rattle.pssm_wellformed.specs.declared.fault.Fault.{Fault}
use Rattle.pssm_wellformed.specs.Faults.{IsEarlierPlace, IsEarlierFault}
use Rattle.pssm_load.specs.declared.fault.ClassFault.{ClassFault}
use Rattle.pssm_load.specs.Loads.{AreFaults, in_class, AreClassFaults}

-- ---- lists in one order

-- Each element of the first list is one of the second.
abbrev IsWithin : {X : Type 0} → List X → List X → Type 0
IsWithin {X} xs ys = (z : X) → Contains xs z → Contains ys z

module _ {X : Type 0} (R : X → X → Type 0) (apart : (x y : X) → R x y → R y x → ⊥) where
  in_cons : (x : X) (xs : List X) (y : X) → Contains (x ∷ xs) y → (y ≡ x) ⊎ Contains xs y
  in_cons x xs y h = ⊎_elim (λ here. inl (the_one x y here)) (λ there. inr there) (Contains-append_cases (x ∷ []) xs y h)

  in_head : (x : X) (xs : List X) → Contains (x ∷ xs) x
  in_head x xs = (0, omega arith, refl)

  head_before : (x : X) (xs : List X) (y : X) → AllPairs R (x ∷ xs) → Contains xs y → R x y
  head_before x xs y p (k, lt, e) = subst (R x) e (p 0 (suc k) y (omega arith) (omega arith))

  tail_ordered : (x : X) (xs : List X) → AllPairs R (x ∷ xs) → AllPairs R xs
  tail_ordered x xs p = λ i j d lt within. p (suc i) (suc j) d (omega arith) (omega arith)

  tail_has : (x y : X) (xs ys : List X) → x ≡ y → AllPairs R (x ∷ xs) → IsWithin (x ∷ xs) (y ∷ ys) → IsWithin xs ys
  tail_has x y xs ys same p f z on =
      ⊎_elim
      (λ is.
      let before = head_before x xs z p on in
      let itself : R x x = subst (R x) (is ∙ sym same) before in
      absurd (apart x x itself itself))
      (λ there. there)
      (in_cons y ys z (f z (Contains-append_right (x ∷ []) xs z on)))

  same_head : (x y : X) (xs ys : List X) → AllPairs R (x ∷ xs) → AllPairs R (y ∷ ys) → (x ≡ y) ⊎ Contains ys x → (y ≡ x) ⊎ Contains xs y → x ≡ y
  same_head x y xs ys p q (inl is) on = is
  same_head x y xs ys p q (inr behind) (inl is) = sym is
  same_head x y xs ys p q (inr behind) (inr after) = absurd (apart x y (head_before x xs y p after) (head_before y ys x q behind))

  -- Lists in one order that have the same elements are one list.
  ordered_once : (xs ys : List X) → AllPairs R xs → AllPairs R ys → IsWithin xs ys → IsWithin ys xs → xs ≡ ys
  ordered_once [] [] p q f g = refl
  ordered_once [] (y ∷ ys) p q f g = absurd (nothing_in y (g y (in_head y ys)))
  ordered_once (x ∷ xs) [] p q f g = absurd (nothing_in x (f x (in_head x xs)))
  ordered_once (x ∷ xs) (y ∷ ys) p q f g =
      let same = same_head x y xs ys p q (in_cons y ys x (f x (in_head x xs))) (in_cons x xs y (g y (in_head y ys))) in
      ap (λ z. z ∷ xs) same
      ∙ ap (λ zs. y ∷ zs) (ordered_once xs ys (tail_ordered x xs p) (tail_ordered y ys q) (tail_has x y xs ys same p f) (tail_has y x ys xs (sym same) q g))

-- ---- the order of faults

element_apart : (d e : Element) → IsEarlier d e → IsEarlier e d → ⊥
element_apart (Region r) (Region q) a b = omega (arith, a, b)
element_apart (Region r) (Vertex v) a b = b
element_apart (Region r) (Transition t) a b = b
element_apart (Vertex v) (Region q) a b = a
element_apart (Vertex v) (Vertex w) a b = omega (arith, a, b)
element_apart (Vertex v) (Transition t) a b = b
element_apart (Transition t) (Region q) a b = a
element_apart (Transition t) (Vertex v) a b = a
element_apart (Transition t) (Transition u) a b = omega (arith, a, b)

place_apart : (p q : FaultPlace) → IsEarlierPlace p q → IsEarlierPlace q p → ⊥
place_apart Top Top a b = a
place_apart Top (At e) a b = b
place_apart (At d) Top a b = a
place_apart (At d) (At e) a b = element_apart d e a b

-- A place is not earlier than one that is the same.
same_place : (p q : FaultPlace) → p ≡ q → IsEarlierPlace p q → ⊥
same_place p q same a = let itself : IsEarlierPlace p p = subst (IsEarlierPlace p) (sym same) a in place_apart p p itself itself

fault_apart : (f g : Fault) → IsEarlierFault f g → IsEarlierFault g f → ⊥
fault_apart f g (inl a) (inl b) = place_apart f.element g.element a b
fault_apart f g (inl a) (inr b) = same_place f.element g.element (sym b.0) a
fault_apart f g (inr a) (inl b) = same_place g.element f.element (sym a.0) b
fault_apart f g (inr a) (inr b) = let p = a.1 in let q = b.1 in omega (arith, p, q)

-- ---- the rules that are broken

-- The rules that a machine breaks are one list.
faults_once : (m : DraftMachine) (fs gs : List Fault) → AreFaults m fs → AreFaults m gs → fs ≡ gs
faults_once m fs gs p q =
    ordered_once IsEarlierFault fault_apart fs gs p.ascending q.ascending
    (λ f on. (q.exact f).1 ((p.exact f).0 on))
    (λ f on. (p.exact f).1 ((q.exact f).0 on))

-- The rules that the machines of classes break are one list.
pub class_faults_once : (classes : List Class) (list others : List ClassFault) → AreClassFaults classes list → AreClassFaults classes others → list ≡ others
class_faults_once [] list others are also = are ∙ sym also
class_faults_once (x ∷ xs) list others are also =
    let first = faults_once x.machine are.0 also.0 are.2 also.2 in
    let rest = class_faults_once xs are.1 also.1 are.3 also.3 in
    are.4
    ∙ ap (λ (t : List ClassFault). map (in_class x.name) are.0 ++ t) rest
    ∙ ap (λ (fs : List Fault). map (in_class x.name) fs ++ also.1) first
    ∙ sym also.4
