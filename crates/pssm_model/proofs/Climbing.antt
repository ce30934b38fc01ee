-- Climbing owner chains, each place once: at the start, one place more, and settled place by place.
use Rattle.std.proofs.Common.{◌≡◌, ◌≢◌, ◌⊎◌, ◌<◌, ◌≤◌, ℕ, zero, suc, List, [], ◌∷◌, ◌++◌, length, Some, get_or, refl, sym, ap, subst, ◌∙◌, inl, inr, ⊎_elim, arith, Contains, replicate}
use Rattle.std.proofs.lemmas.Bool.{cases_lt}
use Rattle.std.proofs.lemmas.List.{get_or_past, get_or_default, get_or-replicate, length-replicate}
use Rattle.std.proofs.lemmas.List.Elements.{Contains-append_left, Contains-append_right, Contains-append_cases}
use Rattle.pssm_model.specs.declared.elements.DraftMachine.{DraftMachine}
use Rattle.pssm_model.specs.declared.elements.Owner.{Owner}
use Rattle.pssm_model.specs.declared.elements.Owner.TheVariants.{Top, Region, State}
use Rattle.pssm_model.specs.declared.depths.Depth.{Depth}
use Rattle.pssm_model.specs.declared.depths.Depth.TheVariants.{Unknown, Nowhere}
use Rattle.pssm_model.specs.declared.depths.Depths.{Depths}
use Rattle.pssm_model.specs.Forest.{owner_of, LiesUnder}
use Rattle.pssm_model.specs.inner.Depths.{noted, depth_under, IsPlace, HasNote, IsDepthOf, IsRight, Covers, AreDepths, IsClimbed, HasClimbed, Notes, KeepsKnown}
use Rattle.pssm_model.proofs.OwnerChains.{one_owner, circle_is_endless, path_under, path_push, path_pop, owned_is_place, counted_is_place, depth_follows}

-- a list of notes in which nothing is noted
fresh_note : (n k : ℕ) → (get_or (replicate n Unknown) k Nowhere ≡ Unknown) ⊎ (n ≤ k)
fresh_note n k = ⊎_elim (λ lt. inl (get_or-replicate n k Unknown Nowhere lt)) (λ ge. inr ge) (cases_lt k n)

-- past the end of the notes nothing leads to the machine
past_note : (n k : ℕ) → n ≤ k → get_or (replicate n Unknown) k Nowhere ≡ Nowhere
past_note n k ge = get_or_past (replicate n Unknown) k Nowhere (let e = length-replicate n Unknown in omega arith)

fresh_right : (m : DraftMachine) (p : Owner) (n k : ℕ) → (n ≤ k → IsPlace m p → ⊥) → IsRight m p (get_or (replicate n Unknown) k Nowhere)
fresh_right m p n k out =
    ⊎_elim
    (λ e. inl e)
    (λ ge. inr (subst (IsDepthOf m p) (sym (past_note n k ge)) (λ i above. out ge (counted_is_place m above))))
    (fresh_note n k)

-- at the start nothing is noted
pub nothing_noted : (m : DraftMachine) (depths : Depths) → depths.regions.items ≡ replicate (length m.regions) Unknown
    → depths.vertices.items ≡ replicate (length m.vertices) Unknown → AreDepths m depths
nothing_noted m depths regions vertices = record {
  covers = record {
    regions = ap length regions ∙ length-replicate (length m.regions) Unknown;
    vertices = ap length vertices ∙ length-replicate (length m.vertices) Unknown;
  };
  right = right;
}
  where
    right : (p : Owner) → IsRight m p (noted depths p)
    right Top = inr (λ n above. counted_is_place m above)
    right (Region r) = rw regions (fresh_right m (Region r) (length m.regions) r.0 (λ ge lt. omega arith))
    right (State v) = rw vertices (fresh_right m (State v) (length m.vertices) v.0 (λ ge lt. omega arith))

-- a place of the draft has a note
pub place_has_note : (m : DraftMachine) (depths : Depths) (p : Owner) → Covers m depths → IsPlace m p → HasNote depths p
place_has_note m depths Top covers h = h
place_has_note m depths (Region r) covers h = let same = covers.regions in omega arith
place_has_note m depths (State v) covers h = let same = covers.vertices in omega arith

covers_after : (m : DraftMachine) (p : Owner) (depth : Depth) (old new : Depths) → Covers m old → Notes p depth old new → Covers m new
covers_after m p depth old new covers notes = record {
  regions = notes.regions ∙ covers.regions;
  vertices = notes.vertices ∙ covers.vertices;
}

-- one place more
pub climb_goes_on : (m : DraftMachine) (path : List Owner) (p at : Owner) (old new : Depths)
    → IsClimbed m path p old → owner_of m p ≡ Some at → Notes p Nowhere old new → IsClimbed m (path ++ p ∷ []) at new
climb_goes_on m path p at old new h e notes = record {
  covers = covers_after m p Nowhere old new h.covers notes;
  leads = path_push m path p at h.leads e;
  right = λ q. ⊎_elim
      (λ same. inr (subst (λ x. Contains (path ++ p ∷ []) x × (noted new x ≡ Nowhere)) (sym same)
      (Contains-append_right path (p ∷ []) p (0, omega arith, refl), notes.here)))
      (λ kept. ⊎_elim
      (λ right. inl (subst (IsRight m q) (sym kept) right))
      (λ on. inr (Contains-append_left path (p ∷ []) q on.0, kept ∙ on.1))
      (h.right q))
      (notes.others q);
}

-- the end of a climb is at a depth that is noted: where it was climbed before, it leads round in a circle
pub end_depth : (m : DraftMachine) (path : List Owner) (at : Owner) (depths : Depths)
    → IsClimbed m path at depths → noted depths at ≢ Unknown → IsDepthOf m at (noted depths at)
end_depth m path at depths h known =
    ⊎_elim
    (λ right. ⊎_elim (λ unknown. absurd (known unknown)) (λ is. is) right)
    (λ on. subst (IsDepthOf m at) (sym on.1) (λ n above.
    let under = path_under path at on.0.0 on.0.1 h.leads in
    let here = get_or_default path on.0.0 Top at on.0.1 ∙ on.0.2 in
    circle_is_endless (subst (λ q. LiesUnder m q at) here under) above))
    (h.right at)

the_one : {X : Type 0} (x y : X) (k : ℕ) → k < length (x ∷ []) → get_or (x ∷ []) k y ≡ y → y ≡ x
the_one x y zero lt e = sym e
the_one x y (suc k) lt e = absurd (omega arith)

-- one place is settled
pub settles : (m : DraftMachine) (path : List Owner) (p owner : Owner) (old new : Depths)
    → HasClimbed m (path ++ p ∷ []) old → owner_of m p ≡ Some owner → Notes p (depth_under owner (noted old owner)) old new
    → HasClimbed m path new × KeepsKnown old new
settles m path p owner old new h e notes =
    let popped = path_pop m path p h.end h.climbed.leads in
    let above : IsDepthOf m owner (noted old owner) =
    subst (λ q. IsDepthOf m q (noted old q)) (one_owner m p h.end owner popped.1 e) h.depth in
    let here : IsDepthOf m p (noted new p) =
    subst (IsDepthOf m p) (sym notes.here) (depth_follows m owner (noted old owner) above p e) in
    let at_p = λ (q : Owner) (same : q ≡ p). subst (λ x. IsDepthOf m x (noted new x)) (sym same) here in (
      record {
        end = p;
        climbed = record {
          covers = covers_after m p (depth_under owner (noted old owner)) old new h.climbed.covers notes;
          leads = popped.0;
          right = λ q. ⊎_elim
              (λ same. inl (inr (at_p q same)))
              (λ kept. ⊎_elim
              (λ right. inl (subst (IsRight m q) (sym kept) right))
              (λ on. ⊎_elim
              (λ front. inr (front, kept ∙ on.1))
              (λ last. inl (inr (at_p q (the_one p q last.0 last.1 last.2))))
              (Contains-append_cases path (p ∷ []) q on.0))
              (h.climbed.right q))
              (notes.others q);
        };
        depth = here;
      },
      λ q unknown. ⊎_elim
          (λ same. absurd (subst (IsDepthOf m q) unknown (at_p q same)))
          (λ kept. sym kept ∙ unknown)
          (notes.others q),
    )

-- the place that is settled next has an owner and a note
pub settled_next : (m : DraftMachine) (path : List Owner) (p : Owner) (depths : Depths) → HasClimbed m (path ++ p ∷ []) depths
    → IsPlace m p × HasNote depths p
settled_next m path p depths h =
    let popped = path_pop m path p h.end h.climbed.leads in
    let place = owned_is_place m p h.end popped.1 in
    (place, place_has_note m depths p h.climbed.covers place)

-- all places are settled
pub all_settled : (m : DraftMachine) (depths : Depths) → HasClimbed m [] depths → AreDepths m depths
all_settled m depths h = record {
  covers = h.climbed.covers;
  right = λ p. ⊎_elim (λ right. right) (λ on. absurd (omega (arith, on.0.1))) (h.climbed.right p);
}

-- How far a climb from a place has come.
pub record IsClimbing (m : DraftMachine) (from : Owner) (path : List Owner) (at : Owner) (depths : Depths) : Type 0 where
  pub climbed : IsClimbed m path at depths
  pub known : (at ≡ from) ⊎ (noted depths from ≢ Unknown)

pub climbing_goes_on : (m : DraftMachine) (from : Owner) (path : List Owner) (p at : Owner) (old new : Depths)
    → IsClimbing m from path p old → owner_of m p ≡ Some at → Notes p Nowhere old new → IsClimbing m from (path ++ p ∷ []) at new
climbing_goes_on m from path p at old new h e notes = record {
  climbed = climb_goes_on m path p at old new h.climbed e notes;
  known = inr (λ unknown. ⊎_elim
      (λ same. absurd (let there = subst (λ q. noted new q ≡ Nowhere) same notes.here in cc))
      (λ was. ⊎_elim
      (λ same. absurd (let there = subst (λ q. noted new q ≡ Nowhere) (sym same) notes.here in cc))
      (λ kept. was (sym kept ∙ unknown))
      (notes.others from))
      h.known);
}

pub climbing_ends : (m : DraftMachine) (from : Owner) (path : List Owner) (at : Owner) (depths : Depths)
    → IsClimbing m from path at depths → noted depths at ≢ Unknown → HasClimbed m path depths × (noted depths from ≢ Unknown)
climbing_ends m from path at depths h known = (
  record { end = at; climbed = h.climbed; depth = end_depth m path at depths h.climbed known },
  λ unknown. ⊎_elim (λ same. known (subst (λ q. noted depths q ≡ Unknown) (sym same) unknown)) (λ was. was unknown) h.known,
)
