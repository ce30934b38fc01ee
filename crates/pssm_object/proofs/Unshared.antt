-- Routes that fire share no transition, so they have at most as many in all as the machine has.
use Rattle.std.proofs.Common.{◌≡◌, ◌≢◌, ◌⊎◌, ◌<◌, ◌≤◌, ◌++◌, ℕ, suc, List, [], ◌∷◌, length, map, eqb, false, All, Contains, refl, sym, ap, subst, inl, ⊎_elim, arith}
use Rattle.std.specs.List.{AllByRecursion, IsDistinct, sum_by}
use Rattle.std.proofs.lemmas.Bool.{eqb-true}
use Rattle.std.proofs.lemmas.Bool.Decides.{eqb_tells}
use Rattle.std.proofs.lemmas.List.{length-append, length-map}
use Rattle.std.proofs.lemmas.List.Elements.{All-contains, Contains-append_cases, recursion_from_All}
use Rattle.std.proofs.lemmas.List.Sums.{sum_by-cons}
use Rattle.std.proofs.lemmas.Map.Views.{Contains-from_any}
use Rattle.std.proofs.lemmas.Map.Steps.{length-le_from_distinct_below}
use Rattle.pssm_model.specs.declared.ids.VertexId.{VertexId}
use Rattle.pssm_model.specs.declared.ids.TransId.{TransId}
use Rattle.pssm_model.specs.declared.elements.DraftMachine.{DraftMachine}
use Rattle.pssm_model.specs.declared.elements.TransKind.TheVariants.{Internal}
use Rattle.pssm_model.specs.declared.steps.Route.{Route}
use Rattle.pssm_model.specs.declared.steps.Firing.{Firing}
use Rattle.pssm_model.specs.declared.steps.Event.{Event}
use Rattle.pssm_model.specs.Shapes.{HasShape}
use Rattle.pssm_model.specs.WellFormed.{KeepsModelRules}
use Rattle.pssm_model.specs.Configuration.{Configuration}
use Rattle.pssm_model.specs.Legs.{transitions_of, Enters, On, Scope, LiesInScope}
use Rattle.pssm_model.specs.Routes.{Truth, IsAscending, IsRoute, IsStateRoute, IsSource, IsEnabled, Conflict}
use Rattle.pssm_model.specs.RouteWords.{IsStepRoute}
use Rattle.pssm_model.specs.FiringSets.{StartsBefore, IsListed, IsFiring}
use Rattle.pssm_model_laws.specs.inner.RouteWords.{IsAreaOf, GoesAs}
use Rattle.pssm_model.proofs.ElementLaws.{nothing_in_nil, same_transition}
use Rattle.pssm_model.proofs.RouteLaws.{conflict_from_source}
use Rattle.pssm_model_laws.proofs.RouteOrder.{route_of, of_start, of_rest, start_or_rest, source_of, target_of}
use Rattle.pssm_model_laws.proofs.RouteKinds.{state_start, some_start, internal_alone}
use Rattle.pssm_model_laws.proofs.LegScopes.{shared_touch}
use Rattle.pssm_model_laws.proofs.RouteAreas.{has_area}
use Rattle.pssm_model_laws.proofs.Anchors.{anchor_around, conflict_is}
use Rattle.pssm_model_laws.proofs.SomeAnchor.{some_anchor}
use Rattle.pssm_plan.proofs.RoutePlaces.{target_in_area}
use Rattle.pssm_semantics.specs.Forms.{IsRunRoute, IsShortRoute, IsShortFiring}
use Rattle.pssm_semantics_laws.proofs.Members.{first_in, later_in, in_cases}
use Rattle.pssm_object.proofs.Fired.{active_source}

-- ---- transitions that are listed once

-- No transition of the list is in what follows it.
abbrev ListsOnce : List TransId → Type 0
ListsOnce [] = Unit {0}
ListsOnce (t ∷ ts) = (Contains ts t → ⊥) × ListsOnce ts

once_append : (ts us : List TransId) → ListsOnce ts → ListsOnce us → ((t : TransId) → Contains ts t → Contains us t → ⊥) → ListsOnce (ts ++ us)
once_append [] us first second apart = second
once_append (t ∷ ts) us first second apart = (
  λ inside. ⊎_elim first.0 (apart t (first_in t ts)) (Contains-append_cases ts us t inside),
  once_append ts us first.1 second (λ u here there. apart u (later_in t ts u here) there),
)

once_ascending : (ts : List TransId) → IsAscending ts → ListsOnce ts
once_ascending [] ascending = tt
once_ascending (t ∷ ts) ascending = (
  λ inside.
      (let above : All (λ (u : TransId). t.0 < u.0) ts = (λ k d lt. ascending 0 (suc k) d (omega arith) (omega (arith, lt))) in
      let less = All-contains (λ (u : TransId). t.0 < u.0) ts t above inside in
      omega (arith, less)),
  once_ascending ts (λ i j d before within. ascending (suc i) (suc j) d (omega (arith, before)) (omega (arith, within))),
)

abbrev number_of : TransId → ℕ
number_of t = t.0

numbers_apart : (t : TransId) (ts : List TransId) → (Contains ts t → ⊥) → AllByRecursion (λ n. eqb t.0 n ≡ false) (map number_of ts)
numbers_apart t [] none = tt
numbers_apart t (u ∷ us) none = (
  ⊎_elim
      (λ same. absurd (none (subst (Contains (u ∷ us)) (sym (same_transition t u same.1)) (first_in u us))))
      (λ apart. apart.0)
      (eqb_tells t.0 u.0),
  numbers_apart t us (λ inside. none (later_in u us t inside)),
)

numbers_distinct : (ts : List TransId) → ListsOnce ts → IsDistinct eqb (map number_of ts)
unfolding IsDistinct
numbers_distinct [] once = tt
numbers_distinct (t ∷ ts) once = (numbers_apart t ts once.0, numbers_distinct ts once.1)

numbered : (ts : List TransId) (n : ℕ) → Contains (map number_of ts) n → (t : TransId) × Contains ts t × (t.0 ≡ n)
numbered [] n h = absurd (nothing_in_nil n h)
numbered (t ∷ ts) n h =
    ⊎_elim
    (λ first. (t, first_in t ts, sym first))
    (λ later. let at = numbered ts n later in (at.0, later_in t ts at.0 at.1, at.2))
    (in_cases t.0 (map number_of ts) n h)

-- they are at most as many as there are numbers for them
few_once : (n : ℕ) (ts : List TransId) → ListsOnce ts → ((t : TransId) → Contains ts t → t.0 < n) → length ts ≤ n
few_once n ts once below =
    let most = length-le_from_distinct_below (map number_of ts) n (numbers_distinct ts once)
    (λ k found.
    let at = numbered ts k (Contains-from_any eqb-true k (map number_of ts) found) in
    subst (λ j. j < n) at.2 (below at.0 at.1)) in
    subst (λ k. k ≤ n) (length-map ts number_of) most

-- ---- the transitions of some routes

abbrev all_of : List Route → List TransId
all_of [] = []
all_of (p ∷ routes) = transitions_of p ++ all_of routes

all_length : (routes : List Route) → sum_by (λ route. length (transitions_of route)) routes ≡ length (all_of routes)
all_length [] = refl
all_length (p ∷ routes) =
    let rest = all_length routes in
    omega (arith, rest, sum_by-cons (λ (route : Route). length (transitions_of route)) p routes, length-append (transitions_of p) (all_of routes))

of_some : (routes : List Route) (t : TransId) → Contains (all_of routes) t → (p : Route) × Contains routes p × On p t
of_some [] t inside = absurd (nothing_in_nil t inside)
of_some (p ∷ routes) t inside =
    ⊎_elim
    (λ here. (p, first_in p routes, here))
    (λ later. let at = of_some routes t later in (at.0, later_in p routes at.0 at.1, at.2))
    (Contains-append_cases (transitions_of p) (all_of routes) t inside)

-- two different routes of the list have none in common
abbrev ShareNone : List Route → Type 0
ShareNone routes = (p q : Route) → Contains routes p → Contains routes q → p ≢ q → (t : TransId) → On p t → On q t → ⊥

-- the first start of a route
record HasFirst (p : Route) : Type 0 where
  first : TransId
  more : List TransId
  starts : p.starts ≡ first ∷ more

first_start : (p : Route) → 0 < length p.starts → HasFirst p
first_start p some = by p.starts refl
  where
    by : (ts : List TransId) → p.starts ≡ ts → HasFirst p
    by [] e = absurd (let none : length p.starts ≡ 0 = ap length e in omega (arith, some, none))
    by (t ∷ ts) e = record { first = t; more = ts; starts = e }

-- a route that starts somewhere comes not again in a list in order
first_differs : (p : Route) (routes : List Route) → HasFirst p → IsListed (p ∷ routes) → (q : Route) → Contains routes q → p ≢ q
first_differs p routes h listed q inside = λ same.
    let before : All (StartsBefore p) routes = (λ k d lt. listed 0 (suc k) d (omega arith) (omega (arith, lt))) in
    let less = All-contains (StartsBefore p) routes q before inside in
    let own : StartsBefore p p = subst (StartsBefore p) (sym same) less in
    let clash = own h.first h.first h.more h.more h.starts h.starts in
    omega (arith, clash)

all_once : (routes : List Route) → IsListed routes → ((p : Route) → Contains routes p → HasFirst p)
    → ((p : Route) → Contains routes p → ListsOnce (transitions_of p)) → ShareNone routes → ListsOnce (all_of routes)
all_once [] listed start once none = tt
all_once (p ∷ routes) listed start once none =
    once_append (transitions_of p) (all_of routes)
    (once p (first_in p routes))
    (all_once routes
    (λ i j d before within. listed (suc i) (suc j) d (omega (arith, before)) (omega (arith, within)))
    (λ q inside. start q (later_in p routes q inside))
    (λ q inside. once q (later_in p routes q inside))
    (λ q r here there. none q r (later_in p routes q here) (later_in p routes r there)))
    (λ t here later.
    let at = of_some routes t later in
    none p at.0 (first_in p routes) (later_in p routes at.0 at.1) (first_differs p routes (start p (first_in p routes)) listed at.0 at.1) t here at.2)

-- ---- routes that share a transition conflict

module _ {m : DraftMachine} (shape : HasShape m) (rules : KeepsModelRules m) where
  -- a transition after the starts ends where the route exits and enters
  rest_in_area : (p : Route) (step : IsStepRoute m p) (t : TransId) (v : VertexId) (area : Scope) → Contains p.rest t → Enters m t v → IsAreaOf m p area
      → LiesInScope m v area
  rest_in_area p step t v area inside enters is =
      let on : On p t = of_rest m p t inside in
      let outward : GoesAs m p Internal → ⊥ = λ kind. (
      let only = internal_alone shape rules p step kind.0 t kind.1 kind.2 on in
      (route_of m p step).apart t (subst (Contains p.starts) (sym only) kind.1) inside) in
      target_in_area shape rules p step v area t on enters outward is

  -- a start of one route is a start of each that has it, so they leave one State
  start_of_both : (p q : Route) → IsStateRoute m p → IsStateRoute m q → (t : TransId) → Contains p.starts t → On q t
      → (s : VertexId) × IsSource m p s × IsSource m q s
  start_of_both p q first second t start on =
      let s = source_of shape rules p first.0 t (of_start m p t start) in
      let other = state_start shape rules q (inl second) t s.0 on s.1 (first.1 s.0 (t, start, s.1)) in
      (s.0, (t, start, s.1), (t, other, s.1))

  module _ (Active : VertexId → Type 0) (p q : Route) (first : IsStateRoute m p) (second : IsStateRoute m q)
      (active : (x : VertexId) → IsSource m p x ⊎ IsSource m q x → Active x) (apart : p ≢ q) where
    -- where both exit and enter around one vertex
    covered_conflict : (v : VertexId) (a b : Scope) → IsAreaOf m p a → IsAreaOf m q b → LiesInScope m v a → LiesInScope m v b → Conflict m Active p q
    covered_conflict v a b is other lies more =
        let s = some_anchor shape rules p first in
        let r = some_anchor shape rules q second in
        (conflict_is shape rules p q first second Active a b s.0 r.0 s.1 r.1 is other active apart).1
        (shared_touch m v s.0 r.0 a b (anchor_around shape rules p first s.0 a s.1 is) (anchor_around shape rules q second r.0 b r.1 other) lies more)

    -- where both go on with one transition
    rest_conflict : (t : TransId) → Contains p.rest t → Contains q.rest t → Conflict m Active p q
    rest_conflict t here there =
        let v = target_of shape rules p first.0 t (of_rest m p t here) in
        let a = has_area shape rules p (inl first) in
        let b = has_area shape rules q (inl second) in
        covered_conflict v.0 a.0 b.0 a.1 b.1
        (rest_in_area p (inl first) t v.0 a.0 here v.1 a.1)
        (rest_in_area q (inl second) t v.0 b.0 there v.1 b.1)

    shared_conflict : (t : TransId) → On p t → On q t → Conflict m Active p q
    shared_conflict t here there =
        ⊎_elim
        (λ start. (let s = start_of_both p q first second t start there in conflict_from_source m Active p q s.0 apart s.1 s.2))
        (λ inside. ⊎_elim
        (λ begins. (let s = start_of_both q p second first t begins here in conflict_from_source m Active p q s.0 apart s.2 s.1))
        (λ further. rest_conflict t inside further)
        (start_or_rest m q t there))
        (start_or_rest m p t here)

-- ---- the lengths of routes

some_length : (ts : List TransId) (t : TransId) → Contains ts t → 0 < length ts
some_length [] t inside = absurd (nothing_in_nil t inside)
some_length (u ∷ us) t inside = omega arith

module _ {m : DraftMachine} (shape : HasShape m) (p : Route) (route : IsRoute m p) where
  -- the transitions of a route are in range
  route_below : AllByRecursion (λ u. u.0 < 8192) (transitions_of p)
  route_below =
      let few = shape.limits.transitions in
      recursion_from_All (λ (u : TransId). u.0 < 8192) (transitions_of p)
      (λ k d lt. (let there = route.in_range k d lt in omega (arith, there, few)))

  -- and it has each once
  route_once : ListsOnce (transitions_of p)
  route_once = once_append p.starts p.rest (once_ascending p.starts route.ascending.0) (once_ascending p.rest route.ascending.1) route.apart

  -- so it is short, if it starts somewhere
  pub short_route : 0 < length p.starts → IsShortRoute p
  short_route some =
      let most = few_once (length m.transitions) (transitions_of p) route_once
      (λ u inside. All-contains (λ (w : TransId). w.0 < length m.transitions) (transitions_of p) u route.in_range inside) in
      ((some, route_below), omega (arith, most, shape.limits.transitions))

-- ---- what fires

module _ {m : DraftMachine} (shape : HasShape m) (rules : KeepsModelRules m) (now : Configuration) (truth : Truth) (event : Event) where
  -- an enabled route starts somewhere, and its transitions are in range
  enabled_starts : (p : Route) → IsEnabled m now truth event p → 0 < length p.starts
  enabled_starts p enabled =
      let start = some_start shape rules p (inl enabled.route_of_states) in some_length p.starts start.0 start.1

  enabled_runs : (p : Route) → IsEnabled m now truth event p → IsRunRoute p
  enabled_runs p enabled = (enabled_starts p enabled, route_below shape p enabled.route_of_states.0)

  -- and each transition once
  enabled_once : (p : Route) → IsEnabled m now truth event p → ListsOnce (transitions_of p)
  enabled_once p enabled = route_once shape p enabled.route_of_states.0

  module _ (routes : List Route) (fires : IsFiring m now truth event routes) where
    is_enabled : (p : Route) → Contains routes p → IsEnabled m now truth event p
    is_enabled p inside = All-contains (IsEnabled m now truth event) routes p fires.0.sound.enabled inside

    share_none : ShareNone routes
    share_none p q here there apart t on also =
        let first = is_enabled p here in
        let second = is_enabled q there in
        fires.0.sound.agree p q here there
        (shared_conflict shape rules now.Active p q first.route_of_states second.route_of_states
        (λ x source. ⊎_elim
        (λ one. active_source m now event p first.by_event x one)
        (λ two. active_source m now event q second.by_event x two)
        source)
        apart t on also)

    fired_once : ListsOnce (all_of routes)
    fired_once =
        all_once routes fires.1
        (λ p inside. first_start p (enabled_starts p (is_enabled p inside)))
        (λ p inside. enabled_once p (is_enabled p inside))
        share_none

    fired_below : (t : TransId) → Contains (all_of routes) t → t.0 < length m.transitions
    fired_below t inside =
        let at = of_some routes t inside in
        All-contains (λ (u : TransId). u.0 < length m.transitions) (transitions_of at.0) t (is_enabled at.0 at.1).route_of_states.0.in_range at.2

    -- in all at most as many as the machine has
    pub few_transitions : sum_by (λ route. length (transitions_of route)) routes ≤ 8192
    few_transitions =
        let most = few_once (length m.transitions) (all_of routes) fired_once fired_below in
        omega (arith, most, all_length routes, shape.limits.transitions)

    pub routes_start : AllByRecursion IsRunRoute routes
    routes_start =
        recursion_from_All IsRunRoute routes (λ k p lt. enabled_runs _ (fires.0.sound.enabled k p lt))

-- so what fires is short
pub short_firing : {m : DraftMachine} → HasShape m → KeepsModelRules m → (now : Configuration) (truth : Truth) (event : Event) (firing : Firing)
    → IsFiring m now truth event firing.routes → IsShortFiring firing
short_firing shape rules now truth event firing fires = (
  routes_start shape rules now truth event firing.routes fires,
  few_transitions shape rules now truth event firing.routes fires,
)
