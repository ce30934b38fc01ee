-- What is wrong with an element, and when nothing is.
use Rattle.std.proofs.Common.{◌≡◌, ◌≢◌, ℕ, Some, refl, subst, inl, inr, ⊎_elim, arith}
use Rattle.pssm_model.specs.declared.elements.DraftMachine.{DraftMachine}
use Rattle.pssm_model.specs.declared.elements.Owner.{Owner}
use Rattle.pssm_model.specs.declared.elements.Element.{Element}
use Rattle.pssm_model.specs.declared.elements.Shape.{Shape}
use Rattle.pssm_model.specs.declared.elements.Shape.TheVariants as shapes
use Rattle.pssm_model.specs.declared.depths.Depth.{Depth}
use Rattle.pssm_model.specs.declared.depths.Depth.TheVariants.{Unknown, Within, Beyond, Nowhere}
use Rattle.pssm_model.specs.Forest.{owner_of, HasRegionsAbove}
use Rattle.pssm_model.specs.Shapes.{place_of, MayHaveOwner, HasBadOwner, IsTooDeep, IsMisshapen}
use Rattle.pssm_model.specs.inner.Depths.{IsDepthOf}
use Rattle.pssm_model.specs.inner.Faultless.{IsFaultless, IsFaultOf}
use Rattle.pssm_model.proofs.OwnerChains.{one_owner, one_count, owner_above}

module _ (m : DraftMachine) where
  -- a depth that is not nowhere is a number of regions
  pub counted : (p : Owner) (d : Depth) → IsDepthOf m p d → d ≢ Nowhere → (n : ℕ) × HasRegionsAbove m p n
  counted p Unknown h found = absurd h
  counted p (Within n) h found = (n, h.1)
  counted p Beyond h found = (h.0, h.2)
  counted p Nowhere h found = absurd (found refl)

  fine_owner : (e : Element) (p : Owner) (n : ℕ) → owner_of m (place_of e) ≡ Some p → MayHaveOwner m e p → HasRegionsAbove m (place_of e) n
      → HasBadOwner m e → ⊥
  fine_owner e p n owner may above bad =
      ⊎_elim
      (λ wrong. wrong (subst (MayHaveOwner m e) (one_owner m (place_of e) p bad.0 owner bad.1) may))
      (λ never. never n above)
      bad.2

  sound_owner : (e : Element) → IsFaultless m e → HasBadOwner m e → ⊥
  sound_owner e sound bad =
      let fine = sound.owner bad.0 bad.1 in
      fine_owner e bad.0 fine.1.0 bad.1 fine.0 fine.1.2 bad

  sound_depth : (e : Element) → IsFaultless m e → IsTooDeep m e → ⊥
  sound_depth e sound deep =
      let owned = owner_above m (place_of e) deep.0 deep.2 in
      let fine = sound.owner owned.0 owned.1 in
      let same = one_count {m = m} fine.1.2 deep.2 in
      omega (arith, same, fine.1.1, deep.1)

  -- A sound element is not misshapen.
  pub sound_is_shapely : (e : Element) → IsFaultless m e → IsMisshapen m e → ⊥
  sound_is_shapely e sound wrong =
      ⊎_elim
      (sound_owner e sound)
      (λ rest. ⊎_elim sound.ends (λ more. ⊎_elim sound.limit (sound_depth e sound) more) rest)
      wrong

  named_is_misshapen : (e d : Element) → e ≡ d → IsMisshapen m e → IsMisshapen m d
  named_is_misshapen e d same wrong = subst (IsMisshapen m) same wrong

  -- An element with a fault is misshapen.
  pub faulty_is_misshapen : (e : Element) (fault : Shape) → IsFaultOf m e fault → IsMisshapen m e
  faulty_is_misshapen e (shapes.BadOwner d) h = named_is_misshapen d e h.1 (inl h.0)
  faulty_is_misshapen e (shapes.BadEnd d) h = named_is_misshapen d e h.1 (inr (inl h.0.0))
  faulty_is_misshapen e (shapes.TooMany d) h = named_is_misshapen d e h.1 (inr (inr (inl h.0.0)))
  faulty_is_misshapen e (shapes.TooDeep d) h = named_is_misshapen d e h.1 (inr (inr (inr h.0.0)))
  faulty_is_misshapen e shapes.NoMemory h = absurd h.0
