-- A draft has the shape of a machine or has a fault of it: never neither.
use Rattle.std.proofs.Common.{◌≡◌, ℕ, zero, suc, length, Option, Some, None, refl, subst, inl, inr, arith}
use Rattle.std.proofs.lemmas.Bool.{cases_lt}
use Rattle.pssm_model.specs.declared.elements.DraftMachine.{DraftMachine}
use Rattle.pssm_model.specs.declared.elements.Owner.{Owner}
use Rattle.pssm_model.specs.declared.elements.Element.{Element}
use Rattle.pssm_model.specs.declared.elements.Shape.{Shape}
use Rattle.pssm_model.specs.declared.elements.Shape.TheVariants as shapes
use Rattle.pssm_model.specs.declared.shape.PlaceKind.TheVariants.{Regions, Vertices}
use Rattle.pssm_model.specs.Forest.{owner_of, HasRegionsAbove}
use Rattle.pssm_model.specs.Shapes.{place_of, MayHaveOwner, HasShape, HasBadOwner, HasBadEnd, IsPastLimit, IsTooDeep, IsShapeFault}
use Rattle.pssm_model.specs.inner.Faultless.{IsFaultless, IsFaultOf, place_element, transition_element, AreFaultless, IsFirstFault}
use Rattle.pssm_model.proofs.OwnerChains.{one_owner}
use Rattle.pssm_model.proofs.FirstFault.{first_region_fault, first_vertex_fault, first_transition_fault, sound_has_shape}

module _ (m : DraftMachine) where
  -- An element has a fault or is faultless.
  fault_or_none : (e : Element) → ((fault : Shape) → IsFaultOf m e fault → ⊥) → (IsFaultless m e → ⊥) → ⊥
  fault_or_none e no_fault not_faultless = by_owner (owner_of m (place_of e)) refl where
    well_owned : HasBadOwner m e → ⊥
    well_owned bad = no_fault (shapes.BadOwner e) (bad, refl)

    well_ended : HasBadEnd m e → ⊥
    well_ended bad = no_fault (shapes.BadEnd e) ((bad, well_owned), refl)

    within : IsPastLimit m e → ⊥
    within past = no_fault (shapes.TooMany e) ((past, well_owned, well_ended), refl)

    shallow : IsTooDeep m e → ⊥
    shallow deep = no_fault (shapes.TooDeep e) ((deep, well_owned, well_ended, within), refl)

    by_depth : (p : Owner) → owner_of m (place_of e) ≡ Some p → MayHaveOwner m e p → (n : ℕ) → HasRegionsAbove m (place_of e) n → ⊥
    by_depth p is may n above =
        elim (cases_lt 32 n) [
          | inl deep ↦ shallow (n, deep, above)
          | inr few ↦ not_faultless (record {
            owner = λ q at. (subst (MayHaveOwner m e) (one_owner m (place_of e) p q is at) may, (n, few, above));
            ends = well_ended;
            limit = within;
          })
        ]

    by_owner : (o : Option Owner) → owner_of m (place_of e) ≡ o → ⊥
    by_owner None none = not_faultless (record { owner = λ p is. absurd (cc); ends = well_ended; limit = within })
    by_owner (Some p) is = well_owned (p, is, inl (λ may. well_owned (p, is, inr (by_depth p is may))))

  -- The elements below a number are faultless, or one of them is the first with a fault.
  first_or_none : (element_at : ℕ → Element) → ((fault : Shape) → IsFirstFault m element_at fault → ⊥) → (n : ℕ) → (AreFaultless m element_at n → ⊥) → ⊥
  first_or_none element_at no_first zero some = some (λ k lt. absurd (omega (arith, lt)))
  first_or_none element_at no_first (suc n) some =
      first_or_none element_at no_first n (λ before.
      fault_or_none (element_at n) (λ fault here. no_first fault (record { number = n; before = before; here = here }))
      (λ fine. some (λ k lt. elim (cases_lt k n) [
        | inl below ↦ before k below
        | inr ge ↦ let same : n ≡ k = omega (arith, lt, ge) in subst (λ i. IsFaultless m (element_at i)) same fine
      ])))

  pub shape_or_fault : ((shape : Shape) → IsShapeFault m shape → ⊥) → (HasShape m → ⊥) → ⊥
  shape_or_fault no_fault no_shape =
      first_or_none (place_element Regions) (λ f h. no_fault f (first_region_fault m f h)) (length m.regions) (λ regions.
      first_or_none (place_element Vertices) (λ f h. no_fault f (first_vertex_fault m f regions h)) (length m.vertices) (λ vertices.
      first_or_none transition_element (λ f h. no_fault f (first_transition_fault m f regions vertices h)) (length m.transitions) (λ transitions.
      no_shape (sound_has_shape m regions vertices transitions))))
