-- In a calm machine of which it is known what is active, the enabled routes, in the order of their transitions, are what a signal fires.
use Rattle.std.proofs.Common.{◌≡◌, ◌⊎◌, ◌≤◌, ◌<◌, ℕ, zero, suc, List, [], ◌∷◌, ◌++◌, length, get_or, Contains, All, Some, sym, ap, subst, ◌∙◌, inl, inr, ⊎_elim, arith}
use Rattle.std.proofs.lemmas.Bool.{cases_lt}
use Rattle.std.proofs.lemmas.Option.{slice_get_within}
use Rattle.std.proofs.lemmas.List.Elements.{All-contains, All-push, Contains-get_or, Contains-push, Contains-push_cases, Contains-append_left}
use Rattle.std.proofs.lemmas.List.Quantifiers.{all_pairs_push}
use Rattle.pssm_model.specs.declared.ids.VertexId.{VertexId}
use Rattle.pssm_model.specs.declared.ids.TransId.{TransId}
use Rattle.pssm_model.specs.declared.elements.DraftMachine.{DraftMachine}
use Rattle.pssm_model.specs.declared.elements.Vertex.{Vertex}
use Rattle.pssm_model.specs.declared.elements.Transition.{Transition}
use Rattle.pssm_model.specs.declared.elements.VertexKind.TheVariants as kinds
use Rattle.pssm_model.specs.declared.elements.Owner.TheVariants.{Region}
use Rattle.pssm_model.specs.declared.steps.Route.{Route}
use Rattle.pssm_model.specs.declared.steps.Event.TheVariants.{Signal}
use Rattle.pssm_model.specs.Forest.{vertex_at, transition_at, HasKind}
use Rattle.pssm_model.specs.Legs.{Leaves}
use Rattle.pssm_model.specs.Configuration.{Configuration}
use Rattle.pssm_model.specs.Routes.{Truth, IsEnabled}
use Rattle.pssm_model.specs.FiringSets.{StartsBefore, IsListed, IsFiring}
use Rattle.pssm_model.proofs.ElementLaws.{same_transition, some_at, mapped_some, mapped_at, leaves_one, nothing_in_nil}
use Rattle.pssm_model.proofs.RouteLaws.{none_in_order}
use Rattle.pssm_plan.specs.Steadiness.{IsConsistent}
use Rattle.pssm_suite.proofs.PlainMachines.{not_both}
use Rattle.pssm_suite.proofs.CalmMachines.{IsCalm}
use Rattle.pssm_suite.proofs.EnabledRoutes.{route_of, go_signal, is_enabled, enabled_at, one_route, sound}

-- the first starts of routes
first_is : (t u : TransId) (ts us : List TransId) → t ∷ ts ≡ u ∷ us → t ≡ u
first_is t u ts us e = cc

module _ (m : DraftMachine) (first count : ℕ) (calm : IsCalm m first count) (now : Configuration) (consistent : IsConsistent m now) (truth : Truth)
    (known : (s : VertexId) → now.Active s ⊎ (now.Active s → ⊥)) where
  abbrev Enabled : Route → Type 0
  Enabled = IsEnabled m now truth (Signal go_signal)

  -- a transition leads from an active State
  abbrev IsLed : TransId → Type 0
  IsLed t = (s : VertexId) × Leaves m t s × HasKind m s kinds.State × now.Active s

  -- the enabled routes of the transitions below a number, in order
  pub record AreBelow (k : ℕ) (routes : List Route) : Type 0 where
    pub enabled : All Enabled routes
    pub listed : IsListed routes
    pub before : (p : Route) → Contains routes p → (t : TransId) × (p ≡ route_of t) × (t.0 < k)
    pub every : (t : TransId) → t.0 < k → IsLed t → Contains routes (route_of t)

  none_below : AreBelow 0 []
  none_below = record {
    enabled = λ k d lt. absurd (omega (arith, lt));
    listed = none_in_order StartsBefore;
    before = λ p inside. absurd (nothing_in_nil p inside);
    every = λ t lt led. absurd (omega (arith, lt));
  }

  last_or_before : (t u : TransId) → u.0 < suc t.0 → (u ≡ t) ⊎ (u.0 < t.0)
  last_or_before t u lt = ⊎_elim (λ less. inr less) (λ ge. inl (same_transition u t (omega (arith, lt, ge)))) (cases_lt u.0 t.0)

  module _ (t : TransId) (routes : List Route) (are : AreBelow t.0 routes) where
    with_one : IsLed t → AreBelow (suc t.0) (routes ++ route_of t ∷ [])
    with_one led = record {
      enabled = All-push Enabled routes (route_of t) are.enabled (is_enabled m first count calm now truth t led.0 led.1 led.2 led.3);
      listed = all_pairs_push StartsBefore routes (route_of t) are.listed (λ k d lt a b ts us here there. (
          let p = get_or routes k d in
          let at = are.before p (Contains-get_or routes k d lt) in
          let first_start : a ≡ at.0 = first_is a at.0 ts [] (sym here ∙ ap (λ (q : Route). q.starts) at.1) in
          let second_start : t ≡ b = first_is t b [] us there in
          let less = at.2 in
          let x = ap (λ (u : TransId). u.0) first_start in
          let y = ap (λ (u : TransId). u.0) second_start in
          omega (arith, less, x, y)
          ));
      before = λ p inside.
          ⊎_elim
          (λ was. (let at = are.before p was in let less = at.2 in (at.0, at.1, omega (arith, less))))
          (λ same. (t, sym same, omega arith))
          (Contains-push_cases routes (route_of t) p inside);
      every = λ u lt is.
          ⊎_elim
          (λ same. subst (λ w. Contains (routes ++ route_of t ∷ []) (route_of w)) (sym same) (Contains-push routes (route_of t)))
          (λ less. Contains-append_left routes (route_of t ∷ []) (route_of u) (are.every u less is))
          (last_or_before t u lt);
    }

    without : (IsLed t → ⊥) → AreBelow (suc t.0) routes
    without none = record {
      enabled = are.enabled;
      listed = are.listed;
      before = λ p inside. (let at = are.before p inside in let less = at.2 in (at.0, at.1, omega (arith, less)));
      every = λ u lt is.
          ⊎_elim (λ same. absurd (none (subst IsLed same is))) (λ less. are.every u less is) (last_or_before t u lt);
    }

  -- whether a transition leads from an active State
  known_led : (t : TransId) → t.0 < length m.transitions → IsLed t ⊎ (IsLed t → ⊥)
  known_led t lt =
      let x = some_at m.transitions t.0 lt in
      let left : Leaves m t x.0.source = mapped_at (λ (y : Transition). y.source) (transition_at m t) x.0 x.1 in
      let home = (calm.plain.transitions t x.0 x.1).source_home in
      let v = mapped_some (λ (y : Vertex). y.owner) (vertex_at m x.0.source) (Region (calm.plain.transitions t x.0 x.1).home) home in
      let kind = mapped_at (λ (y : Vertex). y.kind) (vertex_at m x.0.source) v.0 v.1 in
      ⊎_elim
      (λ initial. inr (λ led.
      not_both m calm.plain x.0.source (subst (λ s. HasKind m s kinds.State) (leaves_one m t led.0 x.0.source led.1 left) led.2) (kind ∙ ap Some initial)))
      (λ state.
      ⊎_elim
      (λ active. inl (x.0.source, left, kind ∙ ap Some state, active))
      (λ idle. inr (λ led. idle (subst now.Active (leaves_one m t led.0 x.0.source led.1 left) led.3)))
      (known x.0.source))
      (calm.plain.vertices x.0.source v.0 v.1).kind_is

  below : (k : ℕ) → k ≤ length m.transitions → (routes : List Route) × AreBelow k routes
  below zero le = ([], none_below)
  below (suc k) le =
      let t : TransId = record { 0 = k } in
      let so_far = below k (omega (arith, le)) in
      ⊎_elim
      (λ led. (so_far.0 ++ route_of t ∷ [], with_one t so_far.0 so_far.1 led))
      (λ none. (so_far.0, without t so_far.0 so_far.1 none))
      (known_led t (omega (arith, le)))

  -- an enabled route is that of a transition which leads from an active State
  led_by : (p : Route) → Enabled p → (t : TransId) × (p ≡ route_of t) × (t.0 < length m.transitions) × IsLed t
  led_by p e =
      let f = enabled_at m first count calm now truth go_signal p e in
      let x = mapped_some (λ (y : Transition). y.source) (transition_at m f.at) f.lone.source f.lone.leaves in
      let lone_enabled = is_enabled m first count calm now truth f.at f.lone.source f.lone.leaves f.state f.active in
      let g = enabled_at m first count calm now truth go_signal (route_of f.at) lone_enabled in
      let source : f.lone.source ≡ g.lone.source =
      leaves_one m f.at f.lone.source g.lone.source f.lone.leaves
      (subst (λ t. Leaves m t g.lone.source) (sym (first_is f.at g.at [] [] g.lone.starts)) g.lone.leaves) in (
        f.at,
        one_route m first count calm now truth p (route_of f.at) e.route_of_states.0 lone_enabled.route_of_states.0 f g source,
        slice_get_within m.transitions f.at.0 x.0 x.1,
        (f.lone.source, f.lone.leaves, f.state, f.active),
      )

  pub calm_firing : (routes : List Route) × IsFiring m now truth (Signal go_signal) routes
  calm_firing =
      let all = below (length m.transitions) (omega arith) in (
        all.0,
        (
          record {
            sound = sound m first count calm now truth consistent go_signal all.0 all.1.enabled;
            largest = λ others so wider p inside. (
                let led = led_by p (All-contains Enabled others p so.enabled inside) in
                subst (Contains all.0) (sym led.1) (all.1.every led.0 led.2 led.3));
          },
          all.1.listed,
        ),
      )
