-- In a calm machine each triggered transition of an active State is an enabled route, no two enabled routes conflict, and so each of them fires.
use Rattle.std.proofs.Common.{◌≡◌, ◌<◌, ℕ, List, [], ◌∷◌, length, Contains, All, Some, refl, sym, ap, subst, ◌∙◌, inl, inr, ⊎_elim}
use Rattle.std.proofs.lemmas.List.Elements.{All-cons, All-contains, Contains-append_right}
use Rattle.std.proofs.lemmas.Option.{slice_get_within}
use Rattle.pssm_model.specs.declared.ids.VertexId.{VertexId}
use Rattle.pssm_model.specs.declared.ids.TransId.{TransId}
use Rattle.pssm_model.specs.declared.ids.SignalId.{SignalId}
use Rattle.pssm_model.specs.declared.elements.DraftMachine.{DraftMachine}
use Rattle.pssm_model.specs.declared.elements.Transition.{Transition}
use Rattle.pssm_model.specs.declared.elements.VertexKind.{VertexKind}
use Rattle.pssm_model.specs.declared.elements.VertexKind.TheVariants as kinds
use Rattle.pssm_model.specs.declared.elements.Owner.TheVariants.{Region, State}
use Rattle.pssm_model.specs.declared.steps.Route.{Route}
use Rattle.pssm_model.specs.declared.steps.Event.TheVariants.{Signal}
use Rattle.pssm_model.specs.Forest.{transition_at, HasKind, owner_of, IsOrLiesIn}
use Rattle.pssm_model.specs.Forest.LiesUnder.{owned, further}
use Rattle.pssm_model.specs.Legs.{Leaves, Enters, On, Exits}
use Rattle.pssm_model.specs.Configuration.{Configuration}
use Rattle.pssm_model.specs.Routes.{Truth, GoesOnAt, IsRoute, IsSource, IsTrueAt, Lists, IsEnabled, Conflict}
use Rattle.pssm_model.specs.Routes.IsReached.{start}
use Rattle.pssm_model.specs.FiringSets.{IsSound, IsFiringSet}
use Rattle.pssm_model.proofs.ElementLaws.{mapped_some, mapped_at, kind_unique, leaves_one, lists_at, nothing_in_nil}
use Rattle.pssm_model.proofs.RouteLaws.{in_one, is_one, nil_from_nothing, one_in_order, none_in_order, all_of_one, same_route}
use Rattle.pssm_model_laws.proofs.StateRoutes.{is_start, source_is_left}
use Rattle.pssm_semantics_laws.proofs.Members.{first_in, later_in}
use Rattle.pssm_plan.specs.Steadiness.{IsConsistent}
use Rattle.pssm_suite.proofs.PlainMachines.{no_other, not_both, enters_state}
use Rattle.pssm_suite.proofs.LoneRoutes.{IsLone, lone_route, exits_direct}
use Rattle.pssm_suite.proofs.CalmMachines.{IsCalm}
use Rattle.pssm_suite.proofs.FiredSteps.{FiresAt}

-- the route of one transition
abbrev pub route_of : TransId → Route
route_of t = record { starts = t ∷ []; rest = [] }

-- the signal `Go`
abbrev pub go_signal : SignalId
go_signal = record { 0 = 0 }

module _ (m : DraftMachine) (first count : ℕ) (calm : IsCalm m first count) (now : Configuration) (truth : Truth) where
  -- ---- what is enabled

  module _ (t : TransId) (s : VertexId) (l : Leaves m t s) (state : HasKind m s kinds.State) (active : now.Active s) where
    found : (x : Transition) × (transition_at m t ≡ Some x) × (x.source ≡ s)
    found = mapped_some (λ (x : Transition). x.source) (transition_at m t) s l

    goes_on : (u : TransId) (v : VertexId) (kind : VertexKind) → On (route_of t) u → Enters m u v → HasKind m v kind → GoesOnAt m (route_of t) v kind
    goes_on u v kind is e k =
        subst (λ j. GoesOnAt m (route_of t) v j) (kind_unique m v kinds.State kind (enters_state m calm.plain u v e) k) (λ w inside left. nothing_in_nil w inside)

    is_route : IsRoute m (route_of t)
    is_route = record {
      in_range = all_of_one (λ u. u.0 < length m.transitions) t (slice_get_within m.transitions t.0 found.0 found.1);
      starts = inl (t, refl, λ v e k. no_other m calm.plain v kinds.Join (λ e. cc) (λ e. cc) k);
      ascending = (one_in_order (λ u w. u.0 < w.0) t, none_in_order (λ u w. u.0 < w.0));
      apart = λ u inside rest. nothing_in_nil u rest;
      reached = λ u is. start is;
      goes_on = goes_on;
    }

    source_is : (q : VertexId) → IsSource m (route_of t) q → q ≡ s
    source_is q source = leaves_one m t q s (source_is_left (route_of t) t refl m q source) l

    triggers : Lists m t go_signal
    triggers =
        (lists_at m t found.0 go_signal found.1).1
        (⊎_elim
        (λ initial. absurd (not_both m calm.plain s state (subst (λ v. HasKind m v kinds.Initial) found.2 initial)))
        (λ go. subst (λ ts. Contains ts go_signal) (sym go) (in_one go_signal))
        (calm.triggered t found.0 found.1))

    guard : (u : TransId) → On (route_of t) u → IsTrueAt m truth u
    guard u is =
        let same = is_one t u is in
        subst (λ w. IsTrueAt m truth w) (sym same)
        (inl (inl (mapped_at (λ (x : Transition). x.guard) (transition_at m t) found.0 found.1 ∙ ap Some (calm.plain.transitions t found.0 found.1).unguarded)))

    pub is_enabled : IsEnabled m now truth (Signal go_signal) (route_of t)
    is_enabled = record {
      route_of_states = (is_route, λ q source. subst (λ v. HasKind m v kinds.State) (sym (source_is q source)) state);
      by_event = (t, refl, triggers, λ q source. subst now.Active (sym (source_is q source)) active);
      guards = guard;
    }

  -- ---- enabled routes do not conflict

  pub enabled_at : (signal : SignalId) (p : Route) → IsEnabled m now truth (Signal signal) p → FiresAt m now p
  enabled_at signal p e =
      let lone = lone_route m calm.plain p e.route_of_states.0 in
      let t = lone.0 in
      let source : IsSource m p lone.1.source = (t, is_start p t lone.1.starts, lone.1.leaves) in
      let state = e.route_of_states.1 lone.1.source source in
      record {
        at = t;
        lone = lone.1;
        source = source;
        state = state;
        active = e.by_event.3 lone.1.source source;
        bottom = calm.bottom t lone.1.source lone.1.home lone.1.leaves state lone.1.source_home;
      }

  rest_none : (p : Route) → IsRoute m p → (t : TransId) → IsLone m p t → p.rest ≡ []
  rest_none p route t lone =
      nil_from_nothing p.rest
      (λ u inside.
      let same : u ≡ t = lone.only u (Contains-append_right p.starts p.rest u inside) in
      route.apart u (subst (λ w. Contains p.starts w) (sym same) (is_start p t lone.starts)) inside)

  -- routes of one source are the same
  pub one_route : (p q : Route) → IsRoute m p → IsRoute m q → (f : FiresAt m now p) (g : FiresAt m now q) → f.lone.source ≡ g.lone.source → p ≡ q
  one_route p q a b f g same =
      let at : f.at ≡ g.at = calm.one_step f.at g.at g.lone.source (subst (λ v. Leaves m f.at v) same f.lone.leaves) g.lone.leaves in
      same_route p q
      (f.lone.starts ∙ ap (λ t. t ∷ []) at ∙ sym g.lone.starts)
      (rest_none p a f.at f.lone ∙ sym (rest_none q b g.at g.lone))

  module _ (consistent : IsConsistent m now) where
    exited_is : (p : Route) (f : FiresAt m now p) (s : VertexId) → Exits m now.Active p s → s ≡ f.lone.source
    exited_is p f s (u, is, exits) =
        let at = exits_direct m calm.plain p f.at f.lone f.bottom now.Active u s exits in
        consistent.one_each f.lone.home s f.lone.source
        (at.1, consistent.states s at.0) (f.lone.source_home, consistent.states f.lone.source f.active) at.0 f.active

    left_is : (p : Route) (f : FiresAt m now p) (s : VertexId) → IsSource m p s → s ≡ f.lone.source
    left_is p f s source = leaves_one m f.at s f.lone.source (source_is_left p f.at f.lone.starts m s source) f.lone.leaves

    -- nothing lies in the source of a route
    near_is : (q : Route) (g : FiresAt m now q) (s r : VertexId) → r ≡ g.lone.source → IsOrLiesIn m s r → s ≡ r
    near_is q g s r at (inl same) = same
    near_is q g s r at (inr (k, owner, lies)) =
        absurd (g.bottom k (further (subst (λ v. owner_of m (Region k) ≡ Some (State v)) at owner) (owned g.lone.source_home)))

    pub no_conflict : (p q : Route) → IsRoute m p → IsRoute m q → FiresAt m now p → FiresAt m now q → Conflict m now.Active p q → ⊥
    no_conflict p q a b f g (apart, inl (s, exits, also)) = apart (one_route p q a b f g (sym (exited_is p f s exits) ∙ exited_is q g s also))
    no_conflict p q a b f g (apart, inr (inl (s, exits, source))) = apart (one_route p q a b f g (sym (exited_is p f s exits) ∙ left_is q g s source))
    no_conflict p q a b f g (apart, inr (inr (inl (s, exits, source)))) = apart (one_route p q a b f g (sym (left_is p f s source) ∙ exited_is q g s exits))
    no_conflict p q a b f g (apart, inr (inr (inr (s, r, source, other, inl near)))) =
        let same = near_is q g s r (left_is q g r other) near in
        apart (one_route p q a b f g (sym (left_is p f s source) ∙ same ∙ left_is q g r other))
    no_conflict p q a b f g (apart, inr (inr (inr (s, r, source, other, inr near)))) =
        let same = near_is p f r s (left_is p f s source) near in
        apart (one_route p q a b f g (sym (left_is p f s source) ∙ sym same ∙ left_is q g r other))

    -- ---- so each fires

    module _ (signal : SignalId) where
      clash : (p q : Route) → IsEnabled m now truth (Signal signal) p → IsEnabled m now truth (Signal signal) q → Conflict m now.Active p q → ⊥
      clash p q e d = no_conflict p q e.route_of_states.0 d.route_of_states.0 (enabled_at signal p e) (enabled_at signal q d)

      pub sound : (routes : List Route) → All (IsEnabled m now truth (Signal signal)) routes → IsSound m now truth (Signal signal) routes
      sound routes all =
          let Enabled : Route → Type 0 = IsEnabled m now truth (Signal signal) in
          record {
            enabled = all;
            agree = λ p q here also. clash p q (All-contains Enabled routes p all here) (All-contains Enabled routes q all also);
            ranked = λ p q here enabled conflict prior. clash p q (All-contains Enabled routes p all here) enabled conflict;
          }

      pub fires_all : (routes : List Route) → IsFiringSet m now truth (Signal signal) routes → (p : Route) → IsEnabled m now truth (Signal signal) p → Contains routes p
      fires_all routes fires p enabled =
          fires.largest (p ∷ routes)
          (sound (p ∷ routes) (All-cons (IsEnabled m now truth (Signal signal)) p routes enabled fires.sound.enabled))
          (λ q inside. later_in p routes q inside) p (first_in p routes)
