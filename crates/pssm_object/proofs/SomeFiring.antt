-- Some routes always fire: transition after transition, a route that starts with it is chosen where one can join those that were chosen before it.
use Rattle.std.proofs.Common.{◌≡◌, ◌⊎◌, ◌↔◌, ◌<◌, ◌≤◌, ◌∙◌, ℕ, zero, suc, List, [], ◌∷◌, ◌++◌, length, get_or, All, Contains, refl, sym, ap, subst, inl, inr, ⊎_elim, arith}
use Rattle.std.proofs.lemmas.Bool.{cases_lt}
use Rattle.std.proofs.lemmas.List.Elements.{All-contains, Contains-get_or, Contains-push_cases}
use Rattle.std.proofs.lemmas.List.Quantifiers.{all_pairs_push}
use Rattle.pssm_model.specs.declared.ids.VertexId.{VertexId}
use Rattle.pssm_model.specs.declared.ids.TransId.{TransId}
use Rattle.pssm_model.specs.declared.elements.DraftMachine.{DraftMachine}
use Rattle.pssm_model.specs.declared.steps.Route.{Route}
use Rattle.pssm_model.specs.declared.steps.Event.{Event}
use Rattle.pssm_model.specs.Shapes.{HasShape}
use Rattle.pssm_model.specs.Legs.{Leaves}
use Rattle.pssm_model.specs.Configuration.{Configuration, IsComplete}
use Rattle.pssm_model.specs.Routes.{Truth, IsAscending}
use Rattle.pssm_model.specs.FiringSets.{StartsBefore, IsListed, IsFiring}
use Rattle.pssm_model.specs.WellFormed.{KeepsModelRules}
use Rattle.pssm_model.specs.inner.Listed.{vertex_number, transition_number}
use Rattle.pssm_model.proofs.ElementLaws.{same_vertex, same_transition, nothing_in_nil}
use Rattle.pssm_model_laws.proofs.RouteKinds.{some_start}
use Rattle.pssm_model.proofs.RouteLaws.{none_in_order}
use Rattle.pssm_model_laws.proofs.StateRoutes.{leaves_some}
use Rattle.pssm_routes.specs.declared.areas.Footprint.{Footprint}
use Rattle.pssm_routes.specs.inner.Footprints.{IsFootprintOf, ClashesWithSome}
use Rattle.pssm_routes.specs.inner.Starts.{IsCandidate}
use Rattle.pssm_routes.specs.inner.Sets.{IsFull, HasJoiner}
use Rattle.pssm_routes.specs.inner.Picks.{first_number, IsFreeRoute, IsChosen, IsGrown}
use Rattle.pssm_routes.proofs.Conflicts.{one_footprint}
use Rattle.pssm_routes.proofs.Fruitless.{reacts_there}
use Rattle.pssm_routes.proofs.Joiners.{joins_with}
use Rattle.pssm_enabled.proofs.Members.{in_front, in_rest, front_or_rest}
use Rattle.pssm_routes.proofs.Picking.{chosen_none, grown_by}
use Rattle.pssm_routes.proofs.Settling.{fires_settled}
use Rattle.pssm_enabled.proofs.StartLaws.{start_there}
use Rattle.pssm_model_laws.proofs.Known.{Known, known_both, known_not}
use Rattle.pssm_object.proofs.KnownStarts.{known_reacts, known_outranked}
use Rattle.pssm_object.proofs.KnownJoiners.{known_joiner}

is_last : (n : ℕ) (s : VertexId) → s.0 < suc n → n ≤ s.0 → s ≡ vertex_number n
is_last n s lt ge = same_vertex s (vertex_number n) (let same : s.0 ≡ n = omega (arith, lt, ge) in same)

-- the vertices below a number of which something holds
module _ (P : VertexId → Type 0) where
  -- Exactly these are in the list.
  abbrev AreThose : ℕ → List VertexId → Type 0
  AreThose n states = (s : VertexId) → Contains states s ↔ ((s.0 < n) × P s)

  those_none : AreThose 0 []
  those_none s = (λ h. absurd (nothing_in_nil s h), λ h. absurd (let lt : s.0 < 0 = h.0 in omega (arith, lt)))

  those_with : (n : ℕ) (states : List VertexId) → P (vertex_number n) → AreThose n states → AreThose (suc n) (vertex_number n ∷ states)
  those_with n states is are s = (
    λ h. ⊎_elim
        (λ same. (let last : n < suc n = omega arith in subst (λ (v : VertexId). (v.0 < suc n) × P v) same (last, is)))
        (λ more. (let at = (are s).0 more in let lt = at.0 in (omega (arith, lt), at.1)))
        (front_or_rest (vertex_number n) s states h),
    λ h. ⊎_elim
        (λ less. in_rest (vertex_number n) s states ((are s).1 (less, h.1)))
        (λ ge. (let same = is_last n s h.0 ge in subst (Contains (vertex_number n ∷ states)) (sym same) (in_front (vertex_number n) states)))
        (cases_lt s.0 n),
  )

  those_without : (n : ℕ) (states : List VertexId) → (P (vertex_number n) → ⊥) → AreThose n states → AreThose (suc n) states
  those_without n states not are s = (
    λ h. (let at = (are s).0 h in let lt = at.0 in (omega (arith, lt), at.1)),
    λ h. ⊎_elim
        (λ less. (are s).1 (less, h.1))
        (λ ge. absurd (not (subst P (is_last n s h.0 ge) h.1)))
        (cases_lt s.0 n),
  )

  those_below : ((s : VertexId) → Known (P s)) → (n : ℕ) → (states : List VertexId) × AreThose n states
  those_below known zero = ([], those_none)
  those_below known (suc n) =
      let before = those_below known n in
      ⊎_elim
      (λ is. (vertex_number n ∷ before.0, those_with n before.0 is before.1))
      (λ not. (before.0, those_without n before.0 not before.1))
      (known (vertex_number n))

-- the first of some starts in order
first_least : (f : TransId) (ts : List TransId) (t : TransId) → IsAscending (f ∷ ts) → Contains (f ∷ ts) t → f.0 ≤ t.0
first_least f ts t ascending inside =
    ⊎_elim
    (λ (same : f ≡ t). (let one : f.0 ≡ t.0 = ap (λ (x : TransId). x.0) same in omega (arith, one)))
    (λ later.
    let above : All (λ (u : TransId). f.0 < u.0) ts = (λ k d lt. ascending 0 (suc k) d (omega arith) (omega (arith, lt))) in
    let less = All-contains (λ (u : TransId). f.0 < u.0) ts t above later in
    omega (arith, less))
    (front_or_rest f t ts inside)

first_of : (ts : List TransId) (t : TransId) → IsAscending ts → Contains ts t
    → (f : TransId) × Contains ts f × (first_number ts ≡ f.0) × (f.0 ≤ t.0)
first_of [] t ascending inside = absurd (nothing_in_nil t inside)
first_of (f ∷ ts) t ascending inside = (f, in_front f ts, refl, first_least f ts t ascending inside)

module _ {m : DraftMachine} (rules : KeepsModelRules m) (shape : HasShape m) (now : Configuration) (known : (s : VertexId) → Known (now.Active s))
    (complete : (s : VertexId) → Known (IsComplete m now s)) (truth : Truth) (event : Event) where
  known_candidate : (s : VertexId) → Known (IsCandidate m now truth event s)
  known_candidate s =
      known_both
      (known_reacts rules shape now known complete truth event s)
      (known_not (known_outranked rules shape now known complete truth event s))

  -- Exactly the States that react, and in which none does, are in the list.
  abbrev AreCandidates : List VertexId → Type 0
  AreCandidates states = (s : VertexId) → Contains states s ↔ IsCandidate m now truth event s

  candidates : (states : List VertexId) × AreCandidates states
  candidates =
      let those = those_below (IsCandidate m now truth event) known_candidate (length m.vertices) in (
        those.0,
        λ s. (
          λ h. ((those.1 s).0 h).1,
          λ h. (those.1 s).1 (reacts_there m now truth event shape s h.0, h),
        ),
      )

  module _ (states : List VertexId) (some : AreCandidates states) where
    -- A route with this start can join.
    abbrev Joins : List Footprint → TransId → Type 0
    Joins footprints t = HasJoiner m now truth event states footprints t

    -- the routes that are chosen of those that start before a transition, in order
    record AreChosen (k : ℕ) (routes : List Route) (footprints : List Footprint) : Type 0 where
      pub chosen : IsChosen m now truth event routes footprints
      pub listed : IsListed routes
      pub before : (p : Route) → Contains routes p → first_number p.starts < k
      pub spent : (t : TransId) → t.0 < k → Joins footprints t → ⊥

    none_chosen : AreChosen 0 [] []
    none_chosen = record {
      chosen = chosen_none rules shape now truth event states;
      listed = none_in_order StartsBefore;
      before = λ p inside. absurd (nothing_in_nil p inside);
      spent = λ t lt joins. absurd (omega (arith, lt));
    }

    -- one transition more is looked at
    module _ (t : TransId) (routes : List Route) (footprints : List Footprint) (chosen : AreChosen t.0 routes footprints) where
      last_or_before : (u : TransId) → u.0 < suc t.0 → (u ≡ t) ⊎ (u.0 < t.0)
      last_or_before u lt = ⊎_elim (λ less. inr less) (λ ge. inl (same_transition u t (omega (arith, lt, ge)))) (cases_lt u.0 t.0)

      -- no route joins
      chosen_still : (Joins footprints t → ⊥) → AreChosen (suc t.0) routes footprints
      chosen_still none = record {
        chosen = chosen.chosen;
        listed = chosen.listed;
        before = λ p inside. (let lt = chosen.before p inside in omega (arith, lt));
        spent = λ u lt joins. ⊎_elim
            (λ same. none (subst (Joins footprints) same joins))
            (λ less. chosen.spent u less joins)
            (last_or_before u lt);
      }

      -- a route joins
      module _ (q : Route) (g : Footprint) (s : VertexId) (leaves : Leaves m t s) (is : IsFreeRoute m now truth event states footprints t q)
          (footprint : IsFootprintOf m q g) where
        grown : IsGrown m now truth event states (λ v. v ≡ s) footprints (routes ++ q ∷ []) (footprints ++ g ∷ [])
        grown =
            grown_by rules shape now truth event states routes footprints t s q g chosen.chosen (λ x inside. ((some x).0 inside).1) leaves is footprint

        -- the transition is its first start: with an earlier one it would have been chosen before
        begins_here : first_number q.starts ≡ t.0
        begins_here =
            let first = first_of q.starts t is.enabled.route_of_states.0.ascending.0 is.starts in
            let low = first.3 in
            ⊎_elim
            (λ less. absurd (chosen.spent first.0 less (q, g, is.enabled, first.1, is.among, footprint, is.free g footprint)))
            (λ ge. (let here : first.0.0 ≡ t.0 = omega (arith, low, ge) in first.2 ∙ here))
            (cases_lt first.0.0 t.0)

        starts_before : (p : Route) → Contains routes p → StartsBefore p q
        starts_before p inside u w us ws first second =
            let lt = chosen.before p inside in
            let here : first_number p.starts ≡ u.0 = ap first_number first in
            let there : first_number q.starts ≡ w.0 = ap first_number second in
            let last : first_number q.starts ≡ t.0 = begins_here in
            omega (arith, lt, here, there, last)

        fewer : (u : TransId) → Joins (footprints ++ g ∷ []) u → Joins footprints u
        fewer u (p, c, enabled, begun, among, of_route, free) =
            (p, c, enabled, begun, among, of_route, λ (a, inside, clash). free (a, grown.kept a inside, clash))

        chosen_more : AreChosen (suc t.0) (routes ++ q ∷ []) (footprints ++ g ∷ [])
        chosen_more = record {
          chosen = grown.chosen;
          listed = all_pairs_push StartsBefore routes q chosen.listed (λ k d lt. starts_before (get_or routes k d) (Contains-get_or routes k d lt));
          before = λ p inside. ⊎_elim
              (λ old. (let lt = chosen.before p old in omega (arith, lt)))
              (λ (same : q ≡ p). subst (λ (x : Route). first_number x.starts < suc t.0) same
              (let last : first_number q.starts ≡ t.0 = begins_here in omega (arith, last)))
              (Contains-push_cases routes q p inside);
          spent = λ u lt joins. ⊎_elim
              (λ same. grown.spent s refl t leaves (subst (Joins (footprints ++ g ∷ [])) same joins))
              (λ less. chosen.spent u less (fewer u joins))
              (last_or_before u lt);
        }

      chosen_too : (s : VertexId) → Leaves m t s → Joins footprints t → (more : List Route) × (wider : List Footprint) × AreChosen (suc t.0) more wider
      chosen_too s leaves (q, g, enabled, starts, among, footprint, free) =
          let apart : (c : Footprint) → IsFootprintOf m q c → ClashesWithSome m footprints c → ⊥ = λ c other. subst
          (λ x. ClashesWithSome m footprints x → ⊥) (one_footprint shape rules q g c enabled.route_of_states footprint other) free in
          let is : IsFreeRoute m now truth event states footprints t q = record { enabled = enabled; starts = starts; among = among; free = apart } in
          (routes ++ q ∷ [], footprints ++ g ∷ [], chosen_more q g s leaves is footprint)

      one_more : t.0 < length m.transitions → (more : List Route) × (wider : List Footprint) × AreChosen (suc t.0) more wider
      one_more lt =
          let s = leaves_some m t lt in
          ⊎_elim
          (λ joins. chosen_too s.0 s.1 joins)
          (λ none. (routes, footprints, chosen_still none))
          (known_joiner rules shape now known complete truth event states footprints t lt)

    choose_before : (k : ℕ) → k ≤ length m.transitions → (routes : List Route) × (footprints : List Footprint) × AreChosen k routes footprints
    choose_before zero le = ([], [], none_chosen)
    choose_before (suc k) le =
        let (routes, footprints, chosen) = choose_before k (omega (arith, le)) in
        one_more (transition_number k) routes footprints chosen (omega (arith, le))

    -- no route can join all that were chosen
    chosen_full : (routes : List Route) (footprints : List Footprint) → AreChosen (length m.transitions) routes footprints
        → IsFull m now truth event routes
    chosen_full routes footprints all q joins =
        let route = joins.enabled.route_of_states in
        let start = some_start shape rules q (inl route) in
        all.spent start.0 (start_there m q start.0 route.0 start.1)
        (joins_with rules shape now truth event routes footprints all.chosen.footprints_are all.chosen.settled.enabled states some q joins start.0 start.1)

    chosen_fire : (routes : List Route) (footprints : List Footprint) → AreChosen (length m.transitions) routes footprints
        → IsFiring m now truth event routes
    chosen_fire routes footprints all =
        ((fires_settled rules shape now truth event routes).1 (all.chosen.settled, chosen_full routes footprints all), all.listed)

    some_chosen : (routes : List Route) × IsFiring m now truth event routes
    some_chosen =
        let (routes, footprints, all) = choose_before (length m.transitions) (omega arith) in
        (routes, chosen_fire routes footprints all)

  some_fire : (routes : List Route) × IsFiring m now truth event routes
  some_fire = some_chosen candidates.0 candidates.1

-- so something fires
pub some_firing : {m : DraftMachine} → HasShape m → KeepsModelRules m → (now : Configuration) → ((s : VertexId) → Known (now.Active s))
    → ((s : VertexId) → Known (IsComplete m now s)) → (truth : Truth) (event : Event) → (routes : List Route) × IsFiring m now truth event routes
some_firing shape rules now known complete truth event = some_fire rules shape now known complete truth event
