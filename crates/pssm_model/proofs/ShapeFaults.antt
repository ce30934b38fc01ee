-- A machine has at most one fault of shape.
use Rattle.std.proofs.Common.{◌≡◌, inl, inr, sym, ap, subst, ◌∙◌, arith}
use Rattle.std.proofs.lemmas.Bool.{cases_lt}
use Rattle.pssm_model.specs.declared.ids.RegionId.{RegionId}
use Rattle.pssm_model.specs.declared.ids.VertexId.{VertexId}
use Rattle.pssm_model.specs.declared.ids.TransId.{TransId}
use Rattle.pssm_model.specs.declared.elements.DraftMachine.{DraftMachine}
use Rattle.pssm_model.specs.declared.elements.Element.{Element}
use Rattle.pssm_model.specs.declared.elements.Element.TheVariants as elements
use Rattle.pssm_model.specs.declared.elements.Shape.{Shape}
use Rattle.pssm_model.specs.declared.elements.Shape.TheVariants as shapes
use Rattle.pssm_model.specs.Shapes.{HasBadOwner, HasBadEnd, IsPastLimit, IsEarlier, IsFirstMisshapen, IsWrongBy, IsNamedBy, IsShapeFault}

data InOrder (d e : Element) : Type 0 where
  equal : d ≡ e → InOrder d e
  before : IsEarlier d e → InOrder d e
  after : IsEarlier e d → InOrder d e

in_order : (d e : Element) → InOrder d e
in_order (elements.Region r) (elements.Region q) =
    elim (cases_lt r.0 q.0) [
      | inl lt ↦ before lt
      | inr ge ↦ elim (cases_lt q.0 r.0) [
        | inl lt ↦ after lt
        | inr le ↦ equal (let same : r.0 ≡ q.0 = omega arith in ap (λ n. let x : RegionId = record { 0 = n } in elements.Region x) same)
      ]
    ]
in_order (elements.Region r) (elements.Vertex v) = before tt
in_order (elements.Region r) (elements.Transition t) = before tt
in_order (elements.Vertex v) (elements.Region r) = after tt
in_order (elements.Vertex v) (elements.Vertex w) =
    elim (cases_lt v.0 w.0) [
      | inl lt ↦ before lt
      | inr ge ↦ elim (cases_lt w.0 v.0) [
        | inl lt ↦ after lt
        | inr le ↦ equal (let same : v.0 ≡ w.0 = omega arith in ap (λ n. let x : VertexId = record { 0 = n } in elements.Vertex x) same)
      ]
    ]
in_order (elements.Vertex v) (elements.Transition t) = before tt
in_order (elements.Transition t) (elements.Region r) = after tt
in_order (elements.Transition t) (elements.Vertex v) = after tt
in_order (elements.Transition t) (elements.Transition u) =
    elim (cases_lt t.0 u.0) [
      | inl lt ↦ before lt
      | inr ge ↦ elim (cases_lt u.0 t.0) [
        | inl lt ↦ after lt
        | inr le ↦ equal (let same : t.0 ≡ u.0 = omega arith in ap (λ n. let x : TransId = record { 0 = n } in elements.Transition x) same)
      ]
    ]

first_is_one : (m : DraftMachine) (d e : Element) → IsFirstMisshapen m d → IsFirstMisshapen m e → d ≡ e
first_is_one m d e p q = elim (in_order d e) [ equal same ↦ same | before lt ↦ absurd (q.1 d lt p.0) | after lt ↦ absurd (p.1 e lt q.0) ]

pub named_is_one : (f : Shape) (d e : Element) → IsNamedBy f d → IsNamedBy f e → d ≡ e
named_is_one (shapes.BadOwner x) d e p q = sym p ∙ q
named_is_one (shapes.BadEnd x) d e p q = sym p ∙ q
named_is_one (shapes.TooMany x) d e p q = sym p ∙ q
named_is_one (shapes.TooDeep x) d e p q = sym p ∙ q
named_is_one shapes.NoMemory d e p q = absurd p

-- what is wrong with an element is one thing
wrong_is_one : (m : DraftMachine) (f g : Shape) (e : Element) → IsWrongBy m f → IsWrongBy m g → IsNamedBy f e → IsNamedBy g e → f ≡ g
wrong_is_one m (shapes.BadOwner x) (shapes.BadOwner y) e p q n k = ap shapes.BadOwner (n ∙ sym k)
wrong_is_one m (shapes.BadOwner x) (shapes.BadEnd y) e p q n k = absurd (q.1 (subst (HasBadOwner m) (n ∙ sym k) p))
wrong_is_one m (shapes.BadOwner x) (shapes.TooMany y) e p q n k = absurd (q.1 (subst (HasBadOwner m) (n ∙ sym k) p))
wrong_is_one m (shapes.BadOwner x) (shapes.TooDeep y) e p q n k = absurd (q.1 (subst (HasBadOwner m) (n ∙ sym k) p))
wrong_is_one m (shapes.BadOwner x) shapes.NoMemory e p q n k = absurd q
wrong_is_one m (shapes.BadEnd x) (shapes.BadOwner y) e p q n k = absurd (p.1 (subst (HasBadOwner m) (k ∙ sym n) q))
wrong_is_one m (shapes.BadEnd x) (shapes.BadEnd y) e p q n k = ap shapes.BadEnd (n ∙ sym k)
wrong_is_one m (shapes.BadEnd x) (shapes.TooMany y) e p q n k = absurd (q.2 (subst (HasBadEnd m) (n ∙ sym k) p.0))
wrong_is_one m (shapes.BadEnd x) (shapes.TooDeep y) e p q n k = absurd (q.2 (subst (HasBadEnd m) (n ∙ sym k) p.0))
wrong_is_one m (shapes.BadEnd x) shapes.NoMemory e p q n k = absurd q
wrong_is_one m (shapes.TooMany x) (shapes.BadOwner y) e p q n k = absurd (p.1 (subst (HasBadOwner m) (k ∙ sym n) q))
wrong_is_one m (shapes.TooMany x) (shapes.BadEnd y) e p q n k = absurd (p.2 (subst (HasBadEnd m) (k ∙ sym n) q.0))
wrong_is_one m (shapes.TooMany x) (shapes.TooMany y) e p q n k = ap shapes.TooMany (n ∙ sym k)
wrong_is_one m (shapes.TooMany x) (shapes.TooDeep y) e p q n k = absurd (q.3 (subst (IsPastLimit m) (n ∙ sym k) p.0))
wrong_is_one m (shapes.TooMany x) shapes.NoMemory e p q n k = absurd q
wrong_is_one m (shapes.TooDeep x) (shapes.BadOwner y) e p q n k = absurd (p.1 (subst (HasBadOwner m) (k ∙ sym n) q))
wrong_is_one m (shapes.TooDeep x) (shapes.BadEnd y) e p q n k = absurd (p.2 (subst (HasBadEnd m) (k ∙ sym n) q.0))
wrong_is_one m (shapes.TooDeep x) (shapes.TooMany y) e p q n k = absurd (p.3 (subst (IsPastLimit m) (k ∙ sym n) q.0))
wrong_is_one m (shapes.TooDeep x) (shapes.TooDeep y) e p q n k = ap shapes.TooDeep (n ∙ sym k)
wrong_is_one m (shapes.TooDeep x) shapes.NoMemory e p q n k = absurd q
wrong_is_one m shapes.NoMemory g e p q n k = absurd p

pub fault_is_one : (m : DraftMachine) (f g : Shape) → IsShapeFault m f → IsShapeFault m g → f ≡ g
fault_is_one m f g p q =
    let same : p.1.0 ≡ q.1.0 = first_is_one m p.1.0 q.1.0 p.1.2 q.1.2 in
    wrong_is_one m f g q.1.0 p.0 q.0 (subst (IsNamedBy f) same p.1.1) q.1.1
