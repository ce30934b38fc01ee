-- Which routes can join settled ones, told by their footprints.
use Rattle.std.proofs.Common.{◌≡◌, ◌≢◌, ◌↔◌, List, [], ◌∷◌, ◌++◌, Contains, refl, sym, subst, inl, inr, ⊎_elim, ◌∙◌}
use Rattle.std.proofs.lemmas.List.Elements.{Contains-push_cases}
use Rattle.pssm_model.specs.declared.ids.VertexId.{VertexId}
use Rattle.pssm_model.specs.declared.ids.TransId.{TransId}
use Rattle.pssm_model.specs.declared.elements.DraftMachine.{DraftMachine}
use Rattle.pssm_model.specs.declared.steps.Route.{Route}
use Rattle.pssm_model.specs.declared.steps.Event.{Event}
use Rattle.pssm_model.specs.Shapes.{HasShape}
use Rattle.pssm_model.specs.Configuration.{Configuration}
use Rattle.pssm_model.specs.Routes.{Truth, IsEnabled, IsSource, Conflict}
use Rattle.pssm_model.proofs.ElementLaws.{nothing_in_nil}
use Rattle.pssm_routes.specs.declared.areas.Footprint.{Footprint}
use Rattle.pssm_model.specs.WellFormed.{KeepsModelRules}
use Rattle.pssm_routes.specs.inner.Footprints.{IsFootprintOf, AreFootprints, Clash, ClashesWithSome}
use Rattle.pssm_routes.specs.inner.Starts.{IsOutranked, IsCandidate}
use Rattle.pssm_routes.specs.inner.Sets.{CanJoin, IsSettled, HasJoiner}
use Rattle.pssm_enabled.proofs.Members.{in_front, in_rest, front_or_rest}
use Rattle.pssm_routes.proofs.Enabled.{enabled_active}
use Rattle.pssm_routes.proofs.Conflicts.{some_footprint, one_footprint, conflict_clashes}
use Rattle.pssm_routes.proofs.Settling.{conflict_turns}

module _ (m : DraftMachine) where
  -- clashes are of both
  pub clash_turns : (a b : Footprint) → Clash m a b → Clash m b a
  clash_turns a b h =
      ⊎_elim
      (λ first. inr (inl first))
      (λ more. ⊎_elim
      (λ second. inl second)
      (λ chain. inr (inr (⊎_elim (λ up. inr up) (λ down. inl down) chain)))
      more)
      h

  pub clash_itself : (a : Footprint) → Clash m a a
  clash_itself a = inr (inr (inl (inl refl)))

  -- each route has its footprint among them, and each footprint is that of a route
  pub footprint_in : (ps : List Route) (gs : List Footprint) (p : Route) → AreFootprints m ps gs → Contains ps p
      → (g : Footprint) × Contains gs g × IsFootprintOf m p g
  footprint_in [] [] p footprints there = absurd (nothing_in_nil p there)
  footprint_in [] (g ∷ gs) p footprints there = absurd footprints
  footprint_in (q ∷ ps) [] p footprints there = absurd footprints
  footprint_in (q ∷ ps) (g ∷ gs) p footprints there =
      ⊎_elim
      (λ same. (g, in_front g gs, subst (λ x. IsFootprintOf m x g) same footprints.0))
      (λ more. let found = footprint_in ps gs p footprints.1 more in (found.0, in_rest g found.0 gs found.1, found.2))
      (front_or_rest q p ps there)

  pub route_in : (ps : List Route) (gs : List Footprint) (g : Footprint) → AreFootprints m ps gs → Contains gs g
      → (p : Route) × Contains ps p × IsFootprintOf m p g
  route_in [] [] g footprints there = absurd (nothing_in_nil g there)
  route_in [] (a ∷ gs) g footprints there = absurd footprints
  route_in (q ∷ ps) [] g footprints there = absurd footprints
  route_in (q ∷ ps) (a ∷ gs) g footprints there =
      ⊎_elim
      (λ same. (q, in_front q ps, subst (λ x. IsFootprintOf m q x) same footprints.0))
      (λ more. let found = route_in ps gs g footprints.1 more in (found.0, in_rest q found.0 ps found.1, found.2))
      (front_or_rest a g gs there)

  -- one route more, and its footprint
  pub footprints_more : (ps : List Route) (gs : List Footprint) (p : Route) (g : Footprint) → AreFootprints m ps gs → IsFootprintOf m p g
      → AreFootprints m (ps ++ p ∷ []) (gs ++ g ∷ [])
  footprints_more [] [] p g footprints one = (one, tt)
  footprints_more [] (a ∷ gs) p g footprints one = absurd footprints
  footprints_more (q ∷ ps) [] p g footprints one = absurd footprints
  footprints_more (q ∷ ps) (a ∷ gs) p g footprints one = (footprints.0, footprints_more ps gs p g footprints.1 one)

module _ {m : DraftMachine} (rules : KeepsModelRules m) (shape : HasShape m) (now : Configuration) (truth : Truth) (event : Event) where
  pub enabled_conflict : (p q : Route) (a c : Footprint) → IsEnabled m now truth event p → IsEnabled m now truth event q → IsFootprintOf m p a
      → IsFootprintOf m q c → p ≢ q → Conflict m now.Active p q ↔ Clash m a c
  enabled_conflict p q a c first second footprint other apart =
      conflict_clashes shape rules now.Active p q a c first.route_of_states second.route_of_states footprint other
      (λ x source. ⊎_elim (λ one. enabled_active now truth event p x first one) (λ two. enabled_active now truth event q x second two) source)
      apart

  module _ (routes : List Route) (footprints : List Footprint) (are : AreFootprints m routes footprints)
      (enabled : (p : Route) → Contains routes p → IsEnabled m now truth event p) where
    -- an enabled route in whose sources none reacts and that clashes with none can join
    pub joiner_can_join : (q : Route) (c : Footprint) → ((s : VertexId) → IsSource m q s → IsOutranked m now truth event s → ⊥)
        → IsEnabled m now truth event q → IsFootprintOf m q c → (ClashesWithSome m footprints c → ⊥) → CanJoin m now truth event routes q
    joiner_can_join q c first able footprint free = record {
      enabled = able;
      other = λ there. (let found = footprint_in m routes footprints q are there in
          let same = one_footprint shape rules q found.0 c able.route_of_states found.2 footprint in
          free (c, subst (Contains footprints) same found.1, clash_itself m c));
      agrees = λ p there conflict. (let found = footprint_in m routes footprints p are there in
          free (found.0, found.1, (enabled_conflict p q found.0 c (enabled p there) able found.2 footprint conflict.0).0 conflict));
      first = first;
    }

    -- the sources of what can join react, and none in them does
    pub joiner_sources : (q : Route) → CanJoin m now truth event routes q → (s : VertexId) → IsSource m q s → IsCandidate m now truth event s
    joiner_sources q joins s source = ((q, joins.enabled, source), joins.first s source)

    -- what can join clashes with none
    pub joins_by : (q : Route) → CanJoin m now truth event routes q
        → (c : Footprint) × IsFootprintOf m q c × (ClashesWithSome m footprints c → ⊥)
    joins_by q joins =
        let footprint = some_footprint shape rules q joins.enabled.route_of_states in (
          footprint.0,
          footprint.1,
          λ clash. (let found = route_in m routes footprints clash.0 are clash.1 in
              joins.agrees found.0 found.1 ((enabled_conflict found.0 q clash.0 footprint.0 (enabled found.0 found.1) joins.enabled found.2 footprint.1
              (λ same. joins.other (subst (Contains routes) same found.1))).1 clash.2)),
        )

    -- it has a start, and with each of its starts it is one that can join from the States that react and in which none does
    pub joins_with : (states : List VertexId) → ((s : VertexId) → Contains states s ↔ IsCandidate m now truth event s) → (q : Route)
        → CanJoin m now truth event routes q → (t : TransId) → Contains q.starts t → HasJoiner m now truth event states footprints t
    joins_with states some q joins t start =
        let by = joins_by q joins in
        (q, by.0, joins.enabled, start, λ s source. (some s).1 (joiner_sources q joins s source), by.1, by.2)

  -- nothing is settled, and stays so with what can join
  pub settled_none : IsSettled m now truth event []
  settled_none = record {
    enabled = λ p there. absurd (nothing_in_nil p there);
    agree = λ p q there. absurd (nothing_in_nil p there);
    first = λ p s there. absurd (nothing_in_nil p there);
  }

  pub settled_more : (routes : List Route) (q : Route) → IsSettled m now truth event routes → CanJoin m now truth event routes q
      → IsSettled m now truth event (routes ++ q ∷ [])
  settled_more routes q settled joins = record {
    enabled = λ p there. ⊎_elim
        (λ here. settled.enabled p here)
        (λ same. subst (IsEnabled m now truth event) same joins.enabled)
        (Contains-push_cases routes q p there);
    agree = λ p r one two conflict. ⊎_elim
        (λ here. ⊎_elim
        (λ there. settled.agree p r here there conflict)
        (λ (second : q ≡ r). joins.agrees p here (subst (λ x. Conflict m now.Active p x) (sym second) conflict))
        (Contains-push_cases routes q r two))
        (λ (first : q ≡ p). ⊎_elim
        (λ there. joins.agrees r there (conflict_turns m now.Active q r (subst (λ x. Conflict m now.Active x r) (sym first) conflict)))
        (λ (second : q ≡ r). conflict.0 (sym first ∙ second))
        (Contains-push_cases routes q r two))
        (Contains-push_cases routes q p one);
    first = λ p s there source. ⊎_elim
        (λ here. settled.first p s here source)
        (λ same. joins.first s (subst (λ x. IsSource m x s) (sym same) source))
        (Contains-push_cases routes q p there);
  }
