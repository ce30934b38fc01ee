-- When enabled routes in order are what fires, told by their footprints and the States that react.
use Rattle.std.proofs.Common.{◌≡◌, ◌≢◌, ◌↔◌, suc, List, [], ◌∷◌, get_or, All, Contains, refl, sym, ap, subst, inl, ⊎_elim, ◌∙◌, arith}
use Rattle.std.proofs.lemmas.List.Elements.{All-contains}
use Rattle.pssm_model.specs.declared.ids.VertexId.{VertexId}
use Rattle.pssm_model.specs.declared.ids.TransId.{TransId}
use Rattle.pssm_model.specs.declared.elements.DraftMachine.{DraftMachine}
use Rattle.pssm_model.specs.declared.steps.Route.{Route}
use Rattle.pssm_model.specs.declared.steps.Event.{Event}
use Rattle.pssm_model.specs.Shapes.{HasShape}
use Rattle.pssm_model.specs.Configuration.{Configuration}
use Rattle.pssm_model.specs.Routes.{Truth, IsSource, IsStateRoute, IsEnabled}
use Rattle.pssm_model.specs.FiringSets.{StartsBefore, IsListed, IsFiring}
use Rattle.pssm_model.proofs.ElementLaws.{nothing_in_nil}
use Rattle.pssm_routes.specs.declared.areas.Footprint.{Footprint}
use Rattle.pssm_model.specs.WellFormed.{KeepsModelRules}
use Rattle.pssm_routes.specs.inner.Footprints.{IsFootprintOf, AreFootprints, Clash}
use Rattle.pssm_routes.specs.inner.Starts.{IsCandidate}
use Rattle.pssm_routes.specs.inner.Sets.{IsSettled, IsFull, HasJoinerFrom, AreApart, AreComplete}
use Rattle.pssm_enabled.proofs.Members.{in_front, in_rest, front_or_rest}
use Rattle.pssm_routes.proofs.Settling.{fires_settled}
use Rattle.pssm_model_laws.proofs.RouteOrder.{of_start}
use Rattle.pssm_model_laws.proofs.RouteKinds.{some_start}
use Rattle.pssm_model_laws.proofs.UpAndDown.{source_of}
use Rattle.pssm_routes.proofs.Joiners.{clash_turns, footprint_in, route_in, enabled_conflict, joiner_can_join, joiner_sources, joins_with}

-- the first of a list in order starts before each later one
listed_front : (p q : Route) (ps : List Route) → IsListed (p ∷ ps) → Contains ps q → StartsBefore p q
listed_front p q ps listed there =
    let lt = there.1 in
    subst (StartsBefore p) there.2 (listed 0 (suc there.0) q (omega arith) (omega arith))

listed_rest : (p : Route) (ps : List Route) → IsListed (p ∷ ps) → IsListed ps
listed_rest p ps listed i j d lt inside = listed (suc i) (suc j) d (omega arith) (omega arith)

module _ (m : DraftMachine) where
  -- routes whose first starts differ are not the same
  ordered_differ : (p q : Route) → p.starts ≢ [] → StartsBefore p q → p ≢ q
  ordered_differ p q some before same = at p.starts refl
    where
      at : (ts : List TransId) → p.starts ≡ ts → ⊥
      at [] e = some e
      at (t ∷ ts) e =
          let again : q.starts ≡ t ∷ ts = sym (ap (λ (r : Route). r.starts) same) ∙ e in
          let lt = before t t ts ts e again in omega (arith, lt)

  -- routes that agree have footprints that do not clash
  pub agreeing_apart : (ps : List Route) (gs : List Footprint) → AreFootprints m ps gs → IsListed ps → ((p : Route) → Contains ps p → p.starts ≢ [])
      → ((p q : Route) (a c : Footprint) → Contains ps p → Contains ps q → p ≢ q → IsFootprintOf m p a → IsFootprintOf m q c → Clash m a c → ⊥)
      → AreApart m gs
  agreeing_apart [] [] footprints listed some agree = tt
  agreeing_apart [] (g ∷ gs) footprints listed some agree = absurd footprints
  agreeing_apart (p ∷ ps) [] footprints listed some agree = absurd footprints
  agreeing_apart (p ∷ ps) (g ∷ gs) footprints listed some agree = (
    λ clash. (let found = route_in m ps gs clash.0 footprints.1 clash.1 in
        agree p found.0 g clash.0 (in_front p ps) (in_rest p found.0 ps found.1)
        (ordered_differ p found.0 (some p (in_front p ps)) (listed_front p found.0 ps listed found.1))
        footprints.0
        found.2
        (clash_turns m clash.0 g clash.2)),
    agreeing_apart ps gs footprints.1 (listed_rest p ps listed) (λ q there. some q (in_rest p q ps there)) (λ q r a c one two. agree q r a c (in_rest p q ps one) (in_rest p r ps two)),
  )

  -- of footprints that do not clash, those of two different routes do not
  pub apart_agreeing : (ps : List Route) (gs : List Footprint) → AreFootprints m ps gs → AreApart m gs → (p q : Route) → Contains ps p → Contains ps q
      → p ≢ q → (a c : Footprint) × IsFootprintOf m p a × IsFootprintOf m q c × (Clash m a c → ⊥)
  apart_agreeing [] [] footprints apart p q one two other = absurd (nothing_in_nil p one)
  apart_agreeing [] (g ∷ gs) footprints apart p q one two other = absurd footprints
  apart_agreeing (r ∷ ps) [] footprints apart p q one two other = absurd footprints
  apart_agreeing (r ∷ ps) (g ∷ gs) footprints apart p q one two other =
      ⊎_elim
      (λ (first : r ≡ p). ⊎_elim
      (λ (second : r ≡ q). absurd (other (sym first ∙ second)))
      (λ there. let found = footprint_in m ps gs q footprints.1 there in (
        g,
        found.0,
        subst (λ x. IsFootprintOf m x g) first footprints.0,
        found.2,
        λ clash. apart.0 (found.0, found.1, clash_turns m g found.0 clash),
      ))
      (front_or_rest r q ps two))
      (λ here. ⊎_elim
      (λ (second : r ≡ q). let found = footprint_in m ps gs p footprints.1 here in (
        found.0,
        g,
        found.2,
        subst (λ x. IsFootprintOf m x g) second footprints.0,
        λ clash. apart.0 (found.0, found.1, clash),
      ))
      (λ there. apart_agreeing ps gs footprints.1 apart.1 p q here there other)
      (front_or_rest r q ps two))
      (front_or_rest r p ps one)

-- a route of States has a start
pub starts_somewhere : {m : DraftMachine} → HasShape m → KeepsModelRules m → (p : Route) → IsStateRoute m p → p.starts ≢ []
starts_somewhere shape rules p route none =
    let start = some_start shape rules p (inl route) in nothing_in_nil start.0 (subst (λ ts. Contains ts start.0) none start.1)

-- where all of them are routes of States, each has one
pub all_start : {m : DraftMachine} → HasShape m → KeepsModelRules m → (routes : List Route) → All (IsStateRoute m) routes
    → All (λ (p : Route). p.starts ≢ []) routes
all_start {m} shape rules routes all k d lt = starts_somewhere shape rules (get_or routes k d) (all k d lt)

module _ {m : DraftMachine} (rules : KeepsModelRules m) (shape : HasShape m) (now : Configuration) (truth : Truth) (event : Event)
    (routes : List Route) (footprints : List Footprint) (states : List VertexId) (are : AreFootprints m routes footprints)
    (some : (s : VertexId) → Contains states s ↔ IsCandidate m now truth event s) (all : All (IsEnabled m now truth event) routes) where
  enabled : (p : Route) → Contains routes p → IsEnabled m now truth event p
  enabled p = All-contains (IsEnabled m now truth event) routes p all

  -- The sources of all the routes are among the States.
  abbrev AreAmong : Type 0
  AreAmong = (p : Route) (s : VertexId) → Contains routes p → IsSource m p s → Contains states s

  settled_starts : IsSettled m now truth event routes → AreAmong
  settled_starts settled p s there source = (some s).1 ((p, enabled p there, source), settled.first p s there source)

  settled_apart : IsListed routes → IsSettled m now truth event routes → AreApart m footprints
  settled_apart listed settled =
      agreeing_apart m routes footprints are listed (λ p there. starts_somewhere shape rules p (enabled p there).route_of_states)
      (λ p q a c one two apart first second clash. settled.agree p q one two
      ((enabled_conflict rules shape now truth event p q a c (enabled p one) (enabled q two) first second apart).1 clash))

  apart_settled : AreAmong → AreApart m footprints → IsSettled m now truth event routes
  apart_settled among apart = record {
    enabled = enabled;
    agree = λ p q one two conflict. (let found = apart_agreeing m routes footprints are apart p q one two conflict.0 in
        found.4 ((enabled_conflict rules shape now truth event p q found.0 found.1 (enabled p one) (enabled q two) found.2 found.3 conflict.0).0 conflict));
    first = λ p s there source out. ((some s).0 (among p s there source)).1 out;
  }

  full_closed : IsFull m now truth event routes → HasJoinerFrom m now truth event states footprints → ⊥
  full_closed full h =
      let joiner = h.4 in
      full joiner.0 (joiner_can_join rules shape now truth event routes footprints are enabled joiner.0 joiner.1
      (λ s source. ((some s).0 (joiner.4 s source)).1) joiner.2 joiner.5 joiner.6)

  pub closed_full : (HasJoinerFrom m now truth event states footprints → ⊥) → IsFull m now truth event routes
  closed_full closed q joins =
      let route = joins.enabled.route_of_states in
      let start = some_start shape rules q (inl route) in
      let source = source_of shape rules q (inl route) start.0 (of_start m q start.0 start.1) in
      closed (
        source.0,
        start.0,
        (some source.0).1 (joiner_sources rules shape now truth event routes footprints are enabled q joins source.0 (start.0, start.1, source.1)),
        source.1,
        joins_with rules shape now truth event routes footprints are enabled states some q joins start.0 start.1,
      )

  -- enabled routes in order are what fires
  pub fires_complete : IsListed routes → IsFiring m now truth event routes ↔ AreComplete m now truth event states routes footprints
  fires_complete listed = (
    λ h. (let is = (fires_settled rules shape now truth event routes).0 h.0 in
        record { among = settled_starts is.0; apart = settled_apart listed is.0; closed = full_closed is.1 }),
    λ h. ((fires_settled rules shape now truth event routes).1 (apart_settled h.among h.apart, closed_full h.closed), listed),
  )
