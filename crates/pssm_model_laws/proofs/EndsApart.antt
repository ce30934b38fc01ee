-- Two different vertices on which a route ends lie in different regions of one State.
use Rattle.std.proofs.Common.{◌≡◌, ◌≢◌, ◌<◌, ℕ, length, Option, Some, None, refl, sym, subst, ◌∙◌, inr, ⊎_elim}
use Rattle.std.proofs.lemmas.Option.{slice_get_within}
use Rattle.pssm_model.specs.declared.ids.VertexId.{VertexId}
use Rattle.pssm_model.specs.declared.ids.RegionId.{RegionId}
use Rattle.pssm_model.specs.declared.ids.TransId.{TransId}
use Rattle.pssm_model.specs.declared.elements.DraftMachine.{DraftMachine}
use Rattle.pssm_model.specs.declared.elements.VertexKind.TheVariants as kinds
use Rattle.pssm_model.specs.declared.elements.Owner.{Owner}
use Rattle.pssm_model.specs.declared.elements.Owner.TheVariants.{Top, Region, State}
use Rattle.pssm_model.specs.declared.steps.Route.{Route}
use Rattle.pssm_model.specs.Forest.{owner_of, HasKind, LiesInRegion}
use Rattle.pssm_model.specs.Legs.{Leaves, Enters, On}
use Rattle.pssm_model.specs.Routes.{IsRoute, EndsAt}
use Rattle.pssm_model.specs.Shapes.{HasShape}
use Rattle.pssm_model.specs.WellFormed.{KeepsModelRules}
use Rattle.pssm_model.specs.RouteWords.{IsStepRoute}
use Rattle.pssm_model_laws.specs.inner.RouteWords.{EndsOn}
use Rattle.pssm_model.proofs.ElementLaws.{enters_one}
use Rattle.pssm_model.proofs.Nesting.{region_cases, lies_within}
use Rattle.pssm_model_laws.proofs.Known.{Known, sure, known_as, known_both, known_not, known_below, known_region, known_vertex, known_transition}
use Rattle.pssm_model_laws.proofs.KnownPlaces.{known_owner, known_in_region, region_of}
use Rattle.pssm_model_laws.proofs.InnerPaths.{regions_apart}
use Rattle.pssm_model_laws.proofs.Branches.{GoesNext, LiesApart, along_cases, stand, branch_apart, next_no_way_back}

-- a step's route is a route
pub step_is_route : {m : DraftMachine} {p : Route} → IsStepRoute m p → IsRoute m p
step_is_route step = ⊎_elim (λ states. states.0) (λ within. within.3) step

-- Two regions are parts of one State, and one of the vertices lies in each.
abbrev ArePartsAround : DraftMachine → VertexId → VertexId → ℕ → ℕ → Type 0
ArePartsAround m v w i j =
    (region_of i ≢ region_of j) × LiesInRegion m v (region_of i) × LiesInRegion m w (region_of j)
    × ((s : VertexId) × (owner_of m (Region (region_of i)) ≡ Some (State s)) × (owner_of m (Region (region_of j)) ≡ Some (State s)))

module _ {m : DraftMachine} (shape : HasShape m) where
  -- what owns a region is there, and so is the region
  region_owned : (r : RegionId) (k : Owner) → owner_of m (Region r) ≡ Some k → r.0 < length m.regions
  region_owned r k e = slice_get_within m.regions r.0 k e

  known_state : (r q : RegionId) → Known ((s : VertexId) × (owner_of m (Region r) ≡ Some (State s)) × (owner_of m (Region q) ≡ Some (State s)))
  known_state r q = by (owner_of m (Region r)) refl
    where
      by : (o : Option Owner) → owner_of m (Region r) ≡ o
          → Known ((s : VertexId) × (owner_of m (Region r) ≡ Some (State s)) × (owner_of m (Region q) ≡ Some (State s)))
      by None e = inr (λ h. let f = h.1 in cc)
      by (Some Top) e = inr (λ h. let f = h.1 in cc)
      by (Some (Region k)) e = inr (λ h. let f = h.1 in cc)
      by (Some (State s)) e =
          known_as
          (λ f. (s, e, f))
          (λ h. let f = h.1 in let g = h.2 in cc)
          (known_owner m (Region q) (State s))

  known_parts : (v w : VertexId) (i j : ℕ) → Known (ArePartsAround m v w i j)
  known_parts v w i j =
      known_as
      (λ h. (h.0, h.1.0, h.1.1.0, h.1.1.1))
      (λ h. (h.0, (h.1, (h.2, h.3))))
      (known_both
      (known_not (known_region (region_of i) (region_of j)))
      (known_both (known_in_region shape v (region_of i)) (known_both (known_in_region shape w (region_of j)) (known_state (region_of i) (region_of j)))))

  -- whether two vertices lie apart
  pub known_apart : (v w : VertexId) → Known (LiesApart m v w)
  known_apart v w =
      known_as
      (λ h. record {
        state = h.2.2.3.0;
        first = region_of h.0;
        second = region_of h.2.0;
        apart = h.2.2.0;
        owns_first = h.2.2.3.1;
        owns_second = h.2.2.3.2;
        lies_first = h.2.2.1;
        lies_second = h.2.2.2;
      })
      (λ h. (
        h.first.0,
        region_owned h.first (State h.state) h.owns_first,
        (
          h.second.0,
          region_owned h.second (State h.state) h.owns_second,
          (h.apart, h.lies_first, h.lies_second, (h.state, h.owns_first, h.owns_second)),
        ),
      ))
      (known_below
      (λ i. (j : ℕ) × (j < length m.regions) × ArePartsAround m v w i j)
      (λ i. known_below (ArePartsAround m v w i) (λ j. known_parts v w i j) (length m.regions))
      (length m.regions))

module _ {m : DraftMachine} (shape : HasShape m) (rules : KeepsModelRules m) (p : Route) (step : IsStepRoute m p) where
  -- one transition of the route enters a vertex, but for a join
  pub one_way_in : (v : VertexId) (t u : TransId) → (HasKind m v kinds.Join → ⊥) → On p t → On p u → Enters m t v → Enters m u v → t ≡ u
  one_way_in v t u no_join first second e f =
      let route = step_is_route step in
      sure (known_transition t u) (λ apart. ⊎_elim
      (λ a. ⊎_elim (λ same. apart same) (λ more. next_no_way_back shape p route rules t u v more first e f) (along_cases m p a))
      (⊎_elim
      (λ a. ⊎_elim (λ same. apart (sym same)) (λ more. next_no_way_back shape p route rules u t v more second f e) (along_cases m p a))
      (⊎_elim
      (λ beside. no_join (subst (λ x. HasKind m x kinds.Join) (enters_one m t beside.0 v beside.2 e) beside.1))
      (λ b. branch_apart shape p route rules t u v v b e f (λ h. h.apart (regions_apart shape v h.state h.first h.second h.owns_first h.owns_second
      h.lies_first h.lies_second)))))
      (stand shape p route rules t u first second))

  no_more : (t u : TransId) (v : VertexId) → Enters m t v → EndsAt m p v → GoesNext m p t u → ⊥
  no_more t u v e ends more = ends more.next more.in_rest (subst (Leaves m more.next) (enters_one m t more.at v more.enters e) more.leaves)

  -- ends that are two lie apart
  pub ends_apart : (v w : VertexId) → EndsOn m p v → EndsOn m p w → v ≢ w → LiesApart m v w
  ends_apart v w first second apart =
      let route = step_is_route step in
      sure (known_apart shape v w) (λ none. ⊎_elim
      (λ a. ⊎_elim
      (λ same. apart (enters_one m second.0 v w (subst (λ x. Enters m x v) same first.2) second.2))
      (λ more. no_more first.0 second.0 v first.2 first.3 more)
      (along_cases m p a))
      (⊎_elim
      (λ a. ⊎_elim
      (λ same. apart (enters_one m first.0 v w first.2 (subst (λ x. Enters m x w) same second.2)))
      (λ more. no_more second.0 first.0 w second.2 second.3 more)
      (along_cases m p a))
      (⊎_elim
      (λ beside. apart (enters_one m first.0 v beside.0 first.2 beside.2 ∙ enters_one m second.0 beside.0 w beside.3 second.2))
      (λ b. branch_apart shape p route rules first.0 second.0 v w b first.2 second.2 none)))
      (stand shape p route rules first.0 second.0 first.1 second.1))

  -- so in the region that directly owns an end no other lies
  pub alone_at_home : (v w : VertexId) (r : RegionId) → EndsOn m p v → EndsOn m p w → owner_of m (State v) ≡ Some (Region r) → LiesInRegion m w r → v ≡ w
  alone_at_home v w r first second owner lies =
      sure (known_vertex v w) (λ apart. (
      let h = ends_apart v w first second apart in
      let around = lies_within m w r h.first lies (region_cases m (State v) r h.first owner h.lies_first) in
      h.apart (regions_apart shape w h.state h.first h.second h.owns_first h.owns_second around h.lies_second)))
