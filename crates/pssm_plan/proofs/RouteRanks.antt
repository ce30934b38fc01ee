-- An exit, effect or entry that a leg calls has a rank: so many legs before it, and so far into its leg, exits from within, then effects along the
-- paths, and then entries from without. What waits and comes before it has a lower one.
use Rattle.std.proofs.Common.{◌≡◌, ◌⊎◌, ◌<◌, ◌≤◌, ◌+◌, ◌-◌, ◌++◌, ℕ, List, [], ◌∷◌, length, Bool, true, false, Contains, refl, sym, subst, inl, inr, ⊎_elim, arith, eqb}
use Rattle.std.specs.List.{list_any, IsDistinct}
use Rattle.std.proofs.lemmas.Option.{slice_get_within}
use Rattle.std.proofs.lemmas.Cmp.{nat_eq_equiv}
use Rattle.std.proofs.lemmas.Bool.{eqb-true}
use Rattle.std.proofs.lemmas.List.{length-append}
use Rattle.std.proofs.lemmas.List.Elements.{Contains-append_cases, All-contains}
use Rattle.std.proofs.lemmas.Map.Keys.{IsDistinct-push}
use Rattle.std.proofs.lemmas.Map.Views.{Contains-from_any}
use Rattle.std.proofs.lemmas.Map.Steps.{length-le_from_distinct_below}
use Rattle.pssm_model.specs.declared.ids.VertexId.{VertexId}
use Rattle.pssm_model.specs.declared.ids.TransId.{TransId}
use Rattle.pssm_model.specs.declared.elements.DraftMachine.{DraftMachine}
use Rattle.pssm_model.specs.declared.elements.Vertex.{Vertex}
use Rattle.pssm_model.specs.declared.elements.VertexKind.TheVariants as kinds
use Rattle.pssm_model.specs.declared.elements.Owner.TheVariants.{Region, State}
use Rattle.pssm_model.specs.declared.elements.FaultPlace.TheVariants as places
use Rattle.pssm_model.specs.declared.elements.Element.TheVariants as elements
use Rattle.pssm_model.specs.declared.steps.Route.{Route}
use Rattle.pssm_model.specs.declared.steps.How.{How}
use Rattle.pssm_model.specs.declared.steps.Item.{Item}
use Rattle.pssm_model.specs.declared.steps.Item.TheVariants as items
use Rattle.pssm_model.specs.Shapes.{HasShape}
use Rattle.pssm_model.specs.WellFormed.{KeepsModelRules}
use Rattle.pssm_model.specs.Forest.{vertex_at, HasKind, LiesInRegion, LiesInState, HasRegionsAbove}
use Rattle.pssm_model.specs.Forest.LiesUnder.{further}
use Rattle.pssm_model.specs.Legs.{Leaves, Enters, transitions_of, SameLeg, LaterLeg}
use Rattle.pssm_model.specs.Legs.SameLeg.{itself as itself_leg, joined}
use Rattle.pssm_model.specs.Paths.{LeadsOn}
use Rattle.pssm_model.specs.WellFormed.Breaks.{E19}
use Rattle.pssm_model.specs.Configuration.{Configuration}
use Rattle.pssm_model.specs.Course.{Head, Course, Leg, IsLeg}
use Rattle.pssm_model.specs.Items.{CanExit, Before, PathBefore, IsWaiting, IsExit, IsEffect, IsEnter, LegEnds, LegOpens, IsCalledInLeg, IsItemOfLeg}
use Rattle.pssm_model.specs.Items.Before.{inner_exit, outer_enter, exit_effect, path as effect_path, effect_enter, effect_end, enter_end, later as by_later}
use Rattle.pssm_model.specs.Items.PathBefore.{next as path_next, after as path_on}
use Rattle.pssm_model.specs.Order.{HasGone, course_by}
use Rattle.pssm_model.specs.RouteWords.{IsStepRoute}
use Rattle.pssm_model_laws.specs.inner.RouteWords.{IsEnteredBy}
use Rattle.pssm_plan.specs.Steadiness.{BeginsWell}
use Rattle.pssm_plan.specs.inner.OverRoutes.{GoesByRoutes, IsExitedOver, IsRestoredOver}
use Rattle.pssm_model.proofs.ElementLaws.{mapped_some, same_vertex, same_transition, nothing_in_nil}
use Rattle.pssm_model.proofs.RouteLaws.{is_one}
use Rattle.pssm_model.proofs.OwnerChains.{one_count}
use Rattle.pssm_model.proofs.Nesting.{shallower}
use Rattle.pssm_model_laws.proofs.Through.{step_leads, then_leads}
use Rattle.pssm_model_laws.proofs.RouteTree.{not_after_itself}
use Rattle.pssm_model_laws.proofs.EndsApart.{step_is_route}
use Rattle.pssm_model_laws.proofs.LegRoots.{leg_turned, legs_meet, later_to, later_further}
use Rattle.pssm_model_laws.proofs.LegShapes.{later_begins_on, later_ends_on}
use Rattle.pssm_model_laws.proofs.RouteAreas.{nested_exits}
use Rattle.pssm_plan.proofs.Stations.{nested_entries}
use Rattle.pssm_model_laws.proofs.KnownPlaces.{depth_under}
use Rattle.pssm_plan.proofs.Depths.{state_down_region, depth_in_scope}
use Rattle.pssm_plan.proofs.RouteItems.{leg_at, exit_is, exit_of, enter_is, enter_of, called_is}
use Rattle.pssm_plan.proofs.RouteSteps.{gone_by_routes}
use Rattle.pssm_plan.proofs.SteadyPlaces.{no_circle, around_in_scope}
use Rattle.pssm_plan.proofs.RoutePlaces.{entered_in_area}
use Rattle.pssm_plan.proofs.Arrivals.{EntersBy, enterer_of}
use Rattle.pssm_plan.proofs.Arrivals.Arrival.{Along, Back}
use Rattle.pssm_plan.proofs.OneCaller.{one_enterer, one_nest, one_leg}

-- a chain of transitions over junctions that ends with the transition, by the numbers of the junctions
pub data LeadsBack (m : DraftMachine) : TransId → List ℕ → Type 0 where
  none : {t : TransId} → LeadsBack m t []
  step : {t u : TransId} {vs : List ℕ} (v : VertexId) → HasKind m v kinds.Junction → Enters m t v → Leaves m u v → LeadsBack m t vs
      → LeadsBack m u (vs ++ v.0 ∷ [])

module _ {m : DraftMachine} (rules : KeepsModelRules m) where
  -- a junction of a chain leads on to the one that its last transition leaves
  record Passed (u : TransId) (n : ℕ) : Type 0 where
    first : VertexId
    last : VertexId
    number : first.0 ≡ n
    first_kind : HasKind m first kinds.Junction
    last_kind : HasKind m last kinds.Junction
    leaves : Leaves m u last
    leads : (first ≡ last) ⊎ LeadsOn m first last

  passed : (u : TransId) (vs : List ℕ) (n : ℕ) → LeadsBack m u vs → Contains vs n → Passed u n
  passed u _ n none h = absurd (nothing_in_nil n h)
  passed u _ n (step {t = t} {vs = vs} v k e l before) h =
      ⊎_elim
      (λ earlier.
      let at = passed t vs n before earlier in
      record {
        first = at.first;
        last = v;
        number = at.number;
        first_kind = at.first_kind;
        last_kind = k;
        leaves = l;
        leads = inr (then_leads m at.first at.last v at.leads (step_leads m at.last v t (inl at.last_kind) (inl k) at.leaves e));
      })
      (λ here. record {
        first = v;
        last = v;
        number = sym (is_one v.0 n here);
        first_kind = k;
        last_kind = k;
        leaves = l;
        leads = inl refl;
      })
      (Contains-append_cases vs (v.0 ∷ []) n h)

  -- so it stands on the chain once
  is_new : (t : TransId) (vs : List ℕ) (v : VertexId) → LeadsBack m t vs → HasKind m v kinds.Junction → Enters m t v → Contains vs v.0 → ⊥
  is_new t vs v before k e h =
      let at = passed t vs v.0 before h in
      let on = then_leads m at.first at.last v at.leads (step_leads m at.last v t (inl at.last_kind) (inl k) at.leaves e) in
      rules (places.At (elements.Vertex v)) 19
      (E19 (subst (λ w. LeadsOn m w v) (same_vertex at.first v at.number) on))

  distinct : (t : TransId) (vs : List ℕ) → LeadsBack m t vs → IsDistinct eqb vs
  unfolding IsDistinct
  distinct t _ none = tt
  distinct u _ (step {t = t} {vs = vs} v k enters l before) =
      IsDistinct-push nat_eq_equiv vs v.0 (distinct t vs before) (by (list_any (eqb v.0) vs) refl)
    where
      by : (found : Bool) → list_any (eqb v.0) vs ≡ found → list_any (eqb v.0) vs ≡ false
      by true e = absurd (is_new t vs v before k enters (Contains-from_any eqb-true v.0 vs e))
      by false e = e

  -- and a chain is no longer than the machine has vertices
  chain_length : (t : TransId) (vs : List ℕ) → LeadsBack m t vs → length vs ≤ length m.vertices
  chain_length t vs h =
      length-le_from_distinct_below vs (length m.vertices) (distinct t vs h)
      (λ q found.
      let at = passed t vs q h (Contains-from_any eqb-true q vs found) in
      let x = mapped_some (λ (y : Vertex). y.kind) (vertex_at m at.first) kinds.Junction at.first_kind in
      subst (λ n. n < length m.vertices) at.number (slice_get_within m.vertices at.first.0 x.0 x.1))

-- a path makes a chain longer
further_back : (m : DraftMachine) (p : Route) (t u : TransId) (vs : List ℕ) → PathBefore m p t u → LeadsBack m t vs
    → (ws : List ℕ) × LeadsBack m u ws × (length vs < length ws)
further_back m p t u vs (path_next is there v k e l) before =
    let longer = length-append vs (v.0 ∷ []) in
    (vs ++ v.0 ∷ [], step v k e l before, omega (arith, longer))
further_back m p t u vs (path_on {u = w} first rest) before =
    let one = further_back m p t w vs first before in
    let two = further_back m p w u one.0 rest one.1 in
    let a = one.2 in let c = two.2 in
    (two.0, two.1, omega (arith, a, c))

-- a chain of legs that ends with that of the transition, by the numbers of transitions of those before it
pub data LegsBack (m : DraftMachine) (p : Route) : TransId → List ℕ → Type 0 where
  no_leg : {t : TransId} → LegsBack m p t []
  leg_before : {t u : TransId} {ts : List ℕ} → LaterLeg m p t u → LegsBack m p t ts → LegsBack m p u (ts ++ t.0 ∷ [])

-- So many legs at most come before that of the transition.
abbrev pub HasHeight : DraftMachine → Route → TransId → ℕ → Type 0
HasHeight m p t l = (l ≤ length m.transitions) × ((ts : List ℕ) → LegsBack m p t ts → length ts ≤ l)

module _ {m : DraftMachine} (shape : HasShape m) (rules : KeepsModelRules m) (p : Route) (step : IsStepRoute m p) where
  -- each leg of a chain comes before the last one
  later_passed : (t : TransId) (ts : List ℕ) (n : ℕ) → LegsBack m p t ts → Contains ts n → (k : TransId) × (k.0 ≡ n) × LaterLeg m p k t
  later_passed t _ n no_leg h = absurd (nothing_in_nil n h)
  later_passed t _ n (leg_before {t = u} {ts = ts} more before) h =
      ⊎_elim
      (λ earlier. (let at = later_passed u ts n before earlier in (at.0, at.1, later_further m p at.2 more)))
      (λ here. (u, sym (is_one u.0 n here), more))
      (Contains-append_cases ts (u.0 ∷ []) n h)

  -- so it stands on the chain once
  leg_is_new : (t : TransId) (ts : List ℕ) → LegsBack m p t ts → Contains ts t.0 → ⊥
  leg_is_new t ts before h =
      let at = later_passed t ts t.0 before h in
      not_after_itself shape rules p step t (subst (λ k. LaterLeg m p k t) (same_transition at.0 t at.1) at.2)

  legs_distinct : (t : TransId) (ts : List ℕ) → LegsBack m p t ts → IsDistinct eqb ts
  unfolding IsDistinct
  legs_distinct t _ no_leg = tt
  legs_distinct u _ (leg_before {t = t} {ts = ts} more before) =
      IsDistinct-push nat_eq_equiv ts t.0 (legs_distinct t ts before) (by (list_any (eqb t.0) ts) refl)
    where
      by : (found : Bool) → list_any (eqb t.0) ts ≡ found → list_any (eqb t.0) ts ≡ false
      by true e = absurd (leg_is_new t ts before (Contains-from_any eqb-true t.0 ts e))
      by false e = e

  -- and no more legs come before one than the machine has transitions
  legs_length : (t : TransId) (ts : List ℕ) → LegsBack m p t ts → length ts ≤ length m.transitions
  legs_length t ts h =
      length-le_from_distinct_below ts (length m.transitions) (legs_distinct t ts h)
      (λ q found.
      let at = later_passed t ts q h (Contains-from_any eqb-true q ts found) in
      let on = later_begins_on m p at.0 t at.2 in
      let there = All-contains (λ (w : TransId). w.0 < length m.transitions) (transitions_of p) at.0 (step_is_route step).in_range on in
      subst (λ n. n < length m.transitions) at.1 there)

  pub some_height : (t : TransId) → HasHeight m p t (length m.transitions)
  some_height t = (omega arith, λ ts h. legs_length t ts h)

  -- an earlier leg has fewer before it, and a leg as many by whichever transition it is named
  pub earlier_height : (t u : TransId) (l : ℕ) → LaterLeg m p u t → HasHeight m p t l → (k : ℕ) × HasHeight m p u k × (k < l)
  earlier_height t u l more h =
      let longer = λ (ts : List ℕ) (before : LegsBack m p u ts). (
      let most : length (ts ++ u.0 ∷ []) ≤ l = h.1 (ts ++ u.0 ∷ []) (leg_before more before) in
      let one = length-append ts (u.0 ∷ []) in
      let less : length ts < l = omega (arith, most, one) in less) in
      let some : 0 < l = longer [] no_leg in
      let bound : l ≤ length m.transitions = h.0 in
      (l - 1, (omega (arith, bound), λ ts before. (let less = longer ts before in omega (arith, less))), omega (arith, some))

  back_in : {t u : TransId} {ts : List ℕ} → SameLeg m p t u → LegsBack m p u ts → LegsBack m p t ts
  back_in leg no_leg = no_leg
  back_in leg (leg_before more before) = leg_before (later_to m p more (leg_turned m p leg)) before

  pub leg_height : (t u : TransId) (l : ℕ) → SameLeg m p t u → HasHeight m p t l → HasHeight m p u l
  leg_height t u l leg h = (h.0, λ ts before. h.1 ts (back_in leg before))

-- what a path leads to is of one leg with that from which it leads
path_leg : (m : DraftMachine) (p : Route) (t u : TransId) → PathBefore m p t u → SameLeg m p t u
path_leg m p t u (path_next is there v k e l) = joined is (inl (v, k, e, l)) (itself_leg there)
path_leg m p t u (path_on {u = w} first rest) = legs_meet m p (path_leg m p t w first) (path_leg m p w u rest)

-- So far into its leg the item stands; for an effect this is bounded by the chains that end with it.
abbrev pub HasOrder : DraftMachine → Item → ℕ → Type 0
HasOrder m (items.Exit s) n = (d : ℕ) × HasRegionsAbove m (State s) d × (n + d ≡ 32)
HasOrder m (items.Effect t) n = (d : ℕ) × (n ≡ 33 + d) × (d ≤ length m.vertices) × ((vs : List ℕ) → LeadsBack m t vs → length vs ≤ d)
HasOrder m (items.Enter s) n = (d : ℕ) × HasRegionsAbove m (State s) d × (n ≡ 34 + length m.vertices + d)
HasOrder m _ n = ⊥

module _ {m : DraftMachine} (rules : KeepsModelRules m) (shape : HasShape m) where
  exit_order : (s : VertexId) → (d : ℕ) × (d ≤ 32) × HasRegionsAbove m (State s) d → (n : ℕ) × HasOrder m (items.Exit s) n × (n ≤ 32)
  exit_order s h = let le = h.1 in (32 - h.0, (h.0, h.2, omega arith), omega arith)

  enter_order : (s : VertexId) → (d : ℕ) × (d ≤ 32) × HasRegionsAbove m (State s) d
      → (n : ℕ) × HasOrder m (items.Enter s) n × (n < 67 + length m.vertices)
  enter_order s h = let le = h.1 in (34 + length m.vertices + h.0, (h.0, h.2, refl), omega (arith, le))

  effect_order : (t : TransId) → HasOrder m (items.Effect t) (33 + length m.vertices)
  effect_order t = (length m.vertices, refl, omega arith, λ vs h. chain_length rules t vs h)

  -- the exit of a State has a higher rank than the exits in it, and its entry a lower one than the entries in it
  inner_exit_order : (s q : VertexId) (k : ℕ) → LiesInState m s q → HasOrder m (items.Exit q) k
      → (n : ℕ) × HasOrder m (items.Exit s) n × (n < k)
  inner_exit_order s q k lies rank =
      let at = depth_under shape s (Region lies.0) lies.2 in
      let less = shallower m (State s) lies.0 at.0 lies.2 at.2 in
      let same : less.0 ≡ rank.0 = one_count {m = m} (state_down_region q lies.0 lies.1 less.0 less.2) rank.1 in
      let le : at.0 ≤ 32 = at.1 in
      let lt : less.0 < at.0 = less.1 in
      let sum : k + rank.0 ≡ 32 = rank.2 in
      (32 - at.0, (at.0, at.2, omega arith), omega arith)

  outer_enter_order : (s q : VertexId) (k : ℕ) → LiesInState m q s → HasOrder m (items.Enter q) k
      → (n : ℕ) × HasOrder m (items.Enter s) n × (n < k)
  outer_enter_order s q k lies rank =
      let less = shallower m (State q) lies.0 rank.0 lies.2 rank.1 in
      let lt : less.0 < rank.0 = less.1 in
      let is : k ≡ 34 + length m.vertices + rank.0 = rank.2 in
      (34 + length m.vertices + less.0, (less.0, state_down_region s lies.0 lies.1 less.0 less.2, refl), omega (arith, lt, is))

  path_order : (p : Route) (t u : TransId) (k : ℕ) → PathBefore m p t u → HasOrder m (items.Effect u) k
      → (n : ℕ) × HasOrder m (items.Effect t) n × (n < k)
  path_order p t u k way rank =
      let d = rank.0 in
      let is : k ≡ 33 + d = rank.1 in
      let le : d ≤ length m.vertices = rank.2 in
      let one = further_back m p t u [] way none in
      let above : 0 < length one.0 = one.2 in
      let within : length one.0 ≤ d = rank.3 one.0 one.1 in (
        33 + (d - 1),
        (
          d - 1,
          refl,
          omega (arith, le),
          λ vs h. (let longer = further_back m p t u vs way h in
              let more : length vs < length longer.0 = longer.2 in
              let most : length longer.0 ≤ d = rank.3 longer.0 longer.1 in
              omega (arith, more, most)),
        ),
        omega (arith, is, above, within),
      )

-- The leg calls the item, with so many legs before it at most, and so far into it.
pub record HasRank (m : DraftMachine) (course : Course) (leg : Leg) (item : Item) (l j : ℕ) : Type 0 where
  pub is : IsLeg course leg
  pub calls : IsCalledInLeg m course leg item
  pub height : HasHeight m leg.route leg.named_by l
  pub order : HasOrder m item j

-- The item has a lower rank: fewer legs before it, or as many, and not so far into its leg.
pub record HasLower (m : DraftMachine) (course : Course) (item : Item) (l j : ℕ) : Type 0 where
  pub leg : Leg
  pub fewer : ℕ
  pub place : ℕ
  pub rank : HasRank m course leg item fewer place
  pub less : (fewer < l) ⊎ ((fewer ≡ l) × (place < j))

-- an exit, an effect or an entry: what legs call that is not at their end
abbrev pub IsStrong : Item → Type 0
IsStrong (items.Exit s) = Unit {0}
IsStrong (items.Effect t) = Unit {0}
IsStrong (items.Enter s) = Unit {0}
IsStrong _ = ⊥

strong_called : (m : DraftMachine) (course : Course) (leg : Leg) (x : Item) → IsCalledInLeg m course leg x → IsStrong x
strong_called m course leg (items.Exit s) h = tt
strong_called m course leg (items.Effect t) h = tt
strong_called m course leg (items.Enter s) h = tt
strong_called m course leg (items.Opened r mode) h = absurd h
strong_called m course leg (items.Pick c) h = absurd h

-- what comes before another is one
pub strong_before : (m : DraftMachine) (course : Course) (x y : Item) → Before m course x y → IsStrong x
strong_before m course _ _ (inner_exit lies) = tt
strong_before m course _ _ (outer_enter lies) = tt
strong_before m course _ _ (exit_effect {x = x} {y = y} leg is a c h k) = strong_called m course leg x h
strong_before m course _ _ (effect_path leg is same h) = tt
strong_before m course _ _ (effect_enter {x = x} {y = y} leg is a c h k) = strong_called m course leg x h
strong_before m course _ _ (effect_end {x = x} {y = y} leg is a h k) = strong_called m course leg x h
strong_before m course _ _ (enter_end {x = x} {y = y} leg is a h k) = strong_called m course leg x h
strong_before m course _ _ (by_later {x = x} {y = y} leg next is more h k) = strong_called m course leg x h

-- and what a leg calls at its end is none
end_not_called : (m : DraftMachine) (p : Route) (a : TransId) (y : Item) → IsStrong y → LegEnds m p a y ⊎ LegOpens m p a y → ⊥
end_not_called m p a (items.Exit s) is h = ⊎_elim (λ none. none) (λ none. none) h
end_not_called m p a (items.Effect t) is h = ⊎_elim (λ none. none) (λ none. none) h
end_not_called m p a (items.Enter s) is h = ⊎_elim (λ none. none) (λ none. none) h
end_not_called m p a (items.Opened r mode) is h = is
end_not_called m p a (items.Pick c) is h = is

called_of_leg : (m : DraftMachine) (course : Course) (leg : Leg) (y : Item) → IsStrong y → IsItemOfLeg m course leg y → IsCalledInLeg m course leg y
called_of_leg m course leg y is h = ⊎_elim (λ calls. calls) (λ ends. absurd (end_not_called m leg.route leg.named_by y is ends)) h

module _ {m : DraftMachine} (shape : HasShape m) (rules : KeepsModelRules m) (head : Head) (now : Configuration)
    (begins : BeginsWell m head now) (ran : List (Item × How)) (gone : HasGone m head now ran) where
  abbrev this : Course
  this = course_by head now ran

  routes_of : GoesByRoutes m this
  routes_of = gone_by_routes rules shape head now ran gone

  step_by : (leg : Leg) → IsLeg this leg → IsStepRoute m leg.route
  step_by leg is = routes_of.routes leg.route is.0

  -- what a leg calls has a rank
  order_of : (leg : Leg) → IsLeg this leg → (x : Item) → IsCalledInLeg m this leg x → (j : ℕ) × HasOrder m x j
  order_of leg is (items.Exit s) h =
      let area = (exit_is rules shape this routes_of leg is s h).2 in
      let order = exit_order rules shape s (depth_in_scope shape s area.0 area.2) in
      (order.0, order.1)
  order_of leg is (items.Effect t) h = (33 + length m.vertices, effect_order rules shape t)
  order_of leg is (items.Enter s) h =
      let area = entered_in_area shape rules leg.route (step_by leg is) s (enter_is rules shape this routes_of leg is s h) in
      let order = enter_order rules shape s (depth_in_scope shape s area.0 area.2) in
      (order.0, order.1)
  order_of leg is (items.Opened r mode) h = absurd h
  order_of leg is (items.Pick c) h = absurd h

  -- by the leg with the same height
  lower_in : (leg : Leg) (x : Item) (l i j : ℕ) → IsLeg this leg → IsCalledInLeg m this leg x → HasHeight m leg.route leg.named_by l → HasOrder m x i
      → i < j → HasLower m this x l j
  lower_in leg x l i j is calls height order lt = record {
    leg = leg;
    fewer = l;
    place = i;
    rank = record { is = is; calls = calls; height = height; order = order };
    less = inr (refl, lt);
  }

  -- by an earlier leg
  lower_by : (leg : Leg) (x : Item) (l k j : ℕ) → IsLeg this leg → IsCalledInLeg m this leg x → HasHeight m leg.route leg.named_by k → k < l
      → HasLower m this x l j
  lower_by leg x l k j is calls height lt =
      let order = order_of leg is x calls in
      record {
        leg = leg;
        fewer = k;
        place = order.0;
        rank = record { is = is; calls = calls; height = height; order = order.1 };
        less = inl lt;
      }

  -- the height of an item that waits is that of each leg that calls it
  height_in : (y : Item) (leg other : Leg) (l j : ℕ) → IsWaiting m this y → HasRank m this leg y l j → IsLeg this other → IsCalledInLeg m this other y
      → HasHeight m other.route other.named_by l
  height_in y leg other l j waits rank is calls =
      let one = one_leg shape rules head now begins ran gone y leg other waits.not_run rank.is is rank.calls calls in
      subst (λ p. HasHeight m p other.named_by l) one.0
      (leg_height shape rules leg.route (step_by leg rank.is) leg.named_by other.named_by l one.1 rank.height)

  -- what comes before an item that waits, and waits itself, has a lower rank: an exit or entry by nesting
  inner_exit_lower : (s q : VertexId) → LiesInState m s q → IsWaiting m this (items.Exit s) → (leg : Leg) (l j : ℕ)
      → HasRank m this leg (items.Exit q) l j → HasLower m this (items.Exit s) l j
  inner_exit_lower s q lies waits leg l j rank =
      let mine = called_is rules shape this routes_of (items.Exit s) waits.called in
      let outer = exit_is rules shape this routes_of leg rank.is q rank.calls in
      let area = outer.2 in
      let over : IsExitedOver m this leg.route s = (outer.0, mine.1.1, (area.0, area.1, around_in_scope m s q lies.0 area.0 lies.2 lies.1 area.2)) in
      let inner = exit_of rules shape this routes_of leg.route s over in
      let step = step_by leg rank.is in
      ⊎_elim
      (λ same. (
      let order = inner_exit_order rules shape s q j lies rank.order in
      lower_in (leg_at leg.route inner.0) (items.Exit s) l order.0 j inner.1 inner.2
      (leg_height shape rules leg.route step leg.named_by inner.0 l same rank.height) order.1 order.2
      ))
      (λ more. (
      let height = earlier_height shape rules leg.route step leg.named_by inner.0 l more rank.height in
      lower_by (leg_at leg.route inner.0) (items.Exit s) l height.0 j inner.1 inner.2 height.1 height.2
      ))
      (nested_exits shape rules leg.route step (CanExit this leg.route) leg.named_by inner.0 q s rank.calls inner.2 lies)

  outer_enter_lower : (s q : VertexId) → LiesInState m q s → IsWaiting m this (items.Enter s) → (leg : Leg) (l j : ℕ)
      → HasRank m this leg (items.Enter q) l j → HasLower m this (items.Enter s) l j
  outer_enter_lower s q lies waits leg l j rank =
      let mine = enterer_of m this s (called_is rules shape this routes_of (items.Enter s) waits.called) in
      let inner = enter_is rules shape this routes_of leg rank.is q rank.calls in
      let one = one_nest shape rules head now begins ran gone mine.0 (Along leg.route) s q mine.1 rank.is.0 mine.2 waits.not_run inner lies in
      let enters : IsEnteredBy m leg.route s = subst (λ z. EntersBy m z s) one mine.2 in
      let outer = enter_of rules shape this routes_of leg.route rank.is.0 s enters in
      let step = step_by leg rank.is in
      ⊎_elim
      (λ same. (
      let order = outer_enter_order rules shape s q j lies rank.order in
      lower_in (leg_at leg.route outer.0) (items.Enter s) l order.0 j outer.1 outer.2
      (leg_height shape rules leg.route step leg.named_by outer.0 l (leg_turned m leg.route same) rank.height) order.1 order.2
      ))
      (λ more. (
      let height = earlier_height shape rules leg.route step leg.named_by outer.0 l more rank.height in
      lower_by (leg_at leg.route outer.0) (items.Enter s) l height.0 j outer.1 outer.2 height.1 height.2
      ))
      (nested_entries shape rules leg.route step outer.0 leg.named_by s q outer.2 rank.calls lies)

  -- what is before it in its leg
  exit_effect_lower : (x y : Item) (other : Leg) → IsLeg this other → IsExit x → IsEffect y → IsCalledInLeg m this other x → IsCalledInLeg m this other y
      → IsWaiting m this y → (leg : Leg) (l j : ℕ) → HasRank m this leg y l j → HasLower m this x l j
  exit_effect_lower (items.Exit s) (items.Effect t) other is a c h k waits leg l j rank =
      let order = order_of other is (items.Exit s) h in
      let sum = order.1.2 in
      let at = rank.order.1 in
      lower_in other (items.Exit s) l order.0 j is h (height_in (items.Effect t) leg other l j waits rank is k) order.1 (omega (arith, sum, at))
  exit_effect_lower (items.Exit s) (items.Exit q) other is a c h k waits leg l j rank = absurd c
  exit_effect_lower (items.Exit s) (items.Enter q) other is a c h k waits leg l j rank = absurd c
  exit_effect_lower (items.Exit s) (items.Opened r mode) other is a c h k waits leg l j rank = absurd c
  exit_effect_lower (items.Exit s) (items.Pick v) other is a c h k waits leg l j rank = absurd c
  exit_effect_lower (items.Effect t) y other is a c h k waits leg l j rank = absurd a
  exit_effect_lower (items.Enter s) y other is a c h k waits leg l j rank = absurd a
  exit_effect_lower (items.Opened r mode) y other is a c h k waits leg l j rank = absurd a
  exit_effect_lower (items.Pick v) y other is a c h k waits leg l j rank = absurd a

  path_lower : (t u : TransId) (other : Leg) → IsLeg this other → SameLeg m other.route other.named_by t → PathBefore m other.route t u
      → IsWaiting m this (items.Effect u) → (leg : Leg) (l j : ℕ) → HasRank m this leg (items.Effect u) l j → HasLower m this (items.Effect t) l j
  path_lower t u other is same way waits leg l j rank =
      let calls : IsCalledInLeg m this other (items.Effect u) = legs_meet m other.route same (path_leg m other.route t u way) in
      let order = path_order rules shape other.route t u j way rank.order in
      lower_in other (items.Effect t) l order.0 j is same (height_in (items.Effect u) leg other l j waits rank is calls) order.1 order.2

  effect_enter_lower : (x y : Item) (other : Leg) → IsLeg this other → IsEffect x → IsEnter y → IsCalledInLeg m this other x
      → IsCalledInLeg m this other y → IsWaiting m this y → (leg : Leg) (l j : ℕ) → HasRank m this leg y l j → HasLower m this x l j
  effect_enter_lower (items.Effect t) (items.Enter s) other is a c h k waits leg l j rank =
      let at = rank.order.2 in
      lower_in other (items.Effect t) l (33 + length m.vertices) j is h (height_in (items.Enter s) leg other l j waits rank is k)
      (effect_order rules shape t) (omega (arith, at))
  effect_enter_lower (items.Effect t) (items.Exit q) other is a c h k waits leg l j rank = absurd c
  effect_enter_lower (items.Effect t) (items.Effect u) other is a c h k waits leg l j rank = absurd c
  effect_enter_lower (items.Effect t) (items.Opened r mode) other is a c h k waits leg l j rank = absurd c
  effect_enter_lower (items.Effect t) (items.Pick v) other is a c h k waits leg l j rank = absurd c
  effect_enter_lower (items.Exit s) y other is a c h k waits leg l j rank = absurd a
  effect_enter_lower (items.Enter s) y other is a c h k waits leg l j rank = absurd a
  effect_enter_lower (items.Opened r mode) y other is a c h k waits leg l j rank = absurd a
  effect_enter_lower (items.Pick v) y other is a c h k waits leg l j rank = absurd a

  -- and what is of an earlier leg
  later_lower : (x y : Item) (other : Leg) (next : TransId) → IsLeg this other → LaterLeg m other.route other.named_by next
      → IsCalledInLeg m this other x → IsItemOfLeg m this (leg_at other.route next) y → IsWaiting m this y → (leg : Leg) (l j : ℕ)
      → HasRank m this leg y l j → HasLower m this x l j
  later_lower x y other next is more h k waits leg l j rank =
      let there : IsLeg this (leg_at other.route next) = (is.0, later_ends_on m other.route other.named_by next more) in
      let calls = called_of_leg m this (leg_at other.route next) y (strong_called m this leg y rank.calls) k in
      let height = height_in y leg (leg_at other.route next) l j waits rank there calls in
      let less = earlier_height shape rules other.route (step_by other is) next other.named_by l more height in
      lower_by other x l less.0 j is h less.1 less.2

  pub rank_of_earlier : (x y : Item) → Before m this x y → IsWaiting m this x → IsWaiting m this y → (leg : Leg) (l j : ℕ) → HasRank m this leg y l j
      → HasLower m this x l j
  rank_of_earlier _ _ (inner_exit {s = s} {q = q} lies) mine yours leg l j rank = inner_exit_lower s q lies mine leg l j rank
  rank_of_earlier _ _ (outer_enter {s = s} {q = q} lies) mine yours leg l j rank = outer_enter_lower s q lies mine leg l j rank
  rank_of_earlier _ _ (exit_effect {x = x} {y = y} other is a c h k) mine yours leg l j rank = exit_effect_lower x y other is a c h k yours leg l j rank
  rank_of_earlier _ _ (effect_path {t = t} {u = u} other is same way) mine yours leg l j rank = path_lower t u other is same way yours leg l j rank
  rank_of_earlier _ _ (effect_enter {x = x} {y = y} other is a c h k) mine yours leg l j rank = effect_enter_lower x y other is a c h k yours leg l j rank
  rank_of_earlier _ _ (effect_end {x = x} {y = y} other is a h k) mine yours leg l j rank =
      absurd (end_not_called m other.route other.named_by y (strong_called m this leg y rank.calls) k)
  rank_of_earlier _ _ (enter_end {x = x} {y = y} other is a h k) mine yours leg l j rank =
      absurd (end_not_called m other.route other.named_by y (strong_called m this leg y rank.calls) (inl k))
  rank_of_earlier _ _ (by_later {x = x} {y = y} other next is more h k) mine yours leg l j rank = later_lower x y other next is more h k yours leg l j rank

  -- nothing that waits comes before the entry of a State that has been restored
  not_by_leg : (q : VertexId) (other : Leg) → IsLeg this other → IsCalledInLeg m this other (items.Enter q) → IsRestoredOver this q → ⊥
  not_by_leg q other is calls back =
      let enters = enter_is rules shape this routes_of other is q calls in
      let one = one_enterer shape rules head now begins ran gone (Along other.route) (Back back.1.0 back.0 q) q is.0 back.1.1 enters refl in
      cc

  not_around : (s q : VertexId) → LiesInState m q s → IsWaiting m this (items.Enter s) → IsRestoredOver this q → ⊥
  not_around s q lies waits back =
      let mine = enterer_of m this s (called_is rules shape this routes_of (items.Enter s) waits.called) in
      let one = one_nest shape rules head now begins ran gone mine.0 (Back back.1.0 back.0 q) s q mine.1 back.1.1 mine.2 waits.not_run refl lies in
      let same : q ≡ s = subst (λ z. EntersBy m z s) one mine.2 in
      no_circle shape lies.0 (further lies.1 (subst (λ v. LiesInRegion m v lies.0) same lies.2))

  restored_first : (x y : Item) → Before m this x y → (q : VertexId) → y ≡ items.Enter q → IsRestoredOver this q → IsWaiting m this x → ⊥
  restored_first _ _ (inner_exit lies) q e back waits = cc
  restored_first _ _ (outer_enter {s = s} {q = o} lies) q e back waits =
      let same : o ≡ q = cc in not_around s q (subst (λ v. LiesInState m v s) same lies) waits back
  restored_first _ _ (exit_effect {x = x} {y = y} other is a c h k) q e back waits = subst (λ z. IsEffect z) e c
  restored_first _ _ (effect_path other is same way) q e back waits = cc
  restored_first _ _ (effect_enter {x = x} {y = y} other is a c h k) q e back waits =
      not_by_leg q other is (subst (λ z. IsCalledInLeg m this other z) e k) back
  restored_first _ _ (effect_end {x = x} {y = y} other is a h k) q e back waits =
      end_not_called m other.route other.named_by (items.Enter q) tt
      (subst (λ z. LegEnds m other.route other.named_by z ⊎ LegOpens m other.route other.named_by z) e k)
  restored_first _ _ (enter_end {x = x} {y = y} other is a h k) q e back waits =
      end_not_called m other.route other.named_by (items.Enter q) tt (inl (subst (λ z. LegEnds m other.route other.named_by z) e k))
  restored_first _ _ (by_later {x = x} {y = y} other next is more h k) q e back waits =
      let there : IsLeg this (leg_at other.route next) = (is.0, later_ends_on m other.route other.named_by next more) in
      not_by_leg q (leg_at other.route next) there
      (called_of_leg m this (leg_at other.route next) (items.Enter q) tt (subst (λ z. IsItemOfLeg m this (leg_at other.route next) z) e k)) back

  -- The item has a rank, or nothing that waits comes before it.
  abbrev pub IsPlaced : Item → Type 0
  IsPlaced y =
      ((leg : Leg) × (l : ℕ) × (j : ℕ) × HasRank m this leg y l j)
      ⊎ ((x : Item) → IsWaiting m this x → Before m this x y → ⊥)

  ranked : (leg : Leg) (y : Item) → IsLeg this leg → IsCalledInLeg m this leg y → IsPlaced y
  ranked leg y is calls =
      let order = order_of leg is y calls in
      inl (
        leg,
        length m.transitions,
        order.0,
        record {
          is = is;
          calls = calls;
          height = some_height shape rules leg.route (step_by leg is) leg.named_by;
          order = order.1;
        },
      )

  pub placed : (y : Item) → IsWaiting m this y → IsStrong y → IsPlaced y
  placed (items.Exit s) waits is =
      let mine = called_is rules shape this routes_of (items.Exit s) waits.called in
      let leg = exit_of rules shape this routes_of mine.0 s mine.1 in
      ranked (leg_at mine.0 leg.0) (items.Exit s) leg.1 leg.2
  placed (items.Effect t) waits is =
      let mine = called_is rules shape this routes_of (items.Effect t) waits.called in
      ranked (leg_at mine.0 t) (items.Effect t) (mine.1, mine.2) (itself_leg mine.2)
  placed (items.Enter s) waits is =
      ⊎_elim
      (λ over. (let leg = enter_of rules shape this routes_of over.0 over.1.0 s over.1.1 in ranked (leg_at over.0 leg.0) (items.Enter s) leg.1 leg.2))
      (λ back. inr (λ x x_waits before. restored_first x (items.Enter s) before s refl back x_waits))
      (called_is rules shape this routes_of (items.Enter s) waits.called)
  placed (items.Opened r mode) waits is = absurd is
  placed (items.Pick c) waits is = absurd is
