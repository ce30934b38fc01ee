-- Each exit, effect, entry, pick and opening is called by at most one leg of a route.
use Rattle.std.proofs.Common.{◌≡◌, ◌⊎◌, Some, sym, subst, inl, inr, ⊎_elim}
use Rattle.pssm_model.specs.declared.ids.VertexId.{VertexId}
use Rattle.pssm_model.specs.declared.ids.RegionId.{RegionId}
use Rattle.pssm_model.specs.declared.ids.TransId.{TransId}
use Rattle.pssm_model.specs.declared.elements.DraftMachine.{DraftMachine}
use Rattle.pssm_model.specs.declared.elements.VertexKind.TheVariants as kinds
use Rattle.pssm_model.specs.declared.elements.TransKind.TheVariants.{Local}
use Rattle.pssm_model.specs.declared.elements.Owner.TheVariants.{Region, State}
use Rattle.pssm_model.specs.declared.steps.Route.{Route}
use Rattle.pssm_model.specs.declared.steps.Mode.TheVariants.{Plain, Shallow, Deep}
use Rattle.pssm_model.specs.declared.steps.Item.{Item}
use Rattle.pssm_model.specs.declared.steps.Item.TheVariants as items
use Rattle.pssm_model.specs.Forest.{owner_of, HasKind}
use Rattle.pssm_model.specs.Forest.LiesUnder.{owned}
use Rattle.pssm_model.specs.Legs.{SameLeg, IsLastVertex, IsLocalFrom, LegExits}
use Rattle.pssm_model.specs.Items.{LegCalls, LegEnds, LegOpens}
use Rattle.pssm_model.specs.Shapes.{HasShape}
use Rattle.pssm_model.specs.WellFormed.{KeepsModelRules}
use Rattle.pssm_model.specs.RouteWords.{IsStepRoute}
use Rattle.pssm_model_laws.specs.inner.RouteWords.{EndsOn}
use Rattle.pssm_model.proofs.ElementLaws.{kind_unique}
use Rattle.pssm_model_laws.proofs.Branches.{stand}
use Rattle.pssm_model_laws.proofs.EndsApart.{step_is_route, one_way_in, alone_at_home}
use Rattle.pssm_model_laws.proofs.LegRoots.{leg_ends, leg_turned, legs_meet, begin_leg, along_leg}
use Rattle.pssm_model_laws.proofs.UpAndDown.{up_along, up_no_down, height}
use Rattle.pssm_model_laws.proofs.RouteKinds.{state_start, one_start}
use Rattle.pssm_model_laws.proofs.RouteAreas.{scope_on, below_exits_nothing}
use Rattle.pssm_legs.proofs.LegEntries.{one_entering}

-- what a leg calls: its exits, effects and entries, and what it calls at its end
abbrev pub IsOfLegHere : DraftMachine → (VertexId → Type 0) → Route → TransId → Item → Type 0
IsOfLegHere m Active p t item = LegCalls m Active p t item ⊎ LegEnds m p t item ⊎ LegOpens m p t item

first_case : {A : Type 0} → A ⊎ ⊥ ⊎ ⊥ → A
first_case h = ⊎_elim (λ a. a) (λ none. ⊎_elim (λ b. absurd b) (λ b. absurd b) none) h

second_case : {A : Type 0} → ⊥ ⊎ A ⊎ ⊥ → A
second_case h = ⊎_elim (λ b. absurd b) (λ more. ⊎_elim (λ a. a) (λ b. absurd b) more) h

third_case : {A : Type 0} → ⊥ ⊎ ⊥ ⊎ A → A
third_case h = ⊎_elim (λ b. absurd b) (λ more. ⊎_elim (λ b. absurd b) (λ a. a) more) h

module _ {m : DraftMachine} (shape : HasShape m) (rules : KeepsModelRules m) (p : Route) (step : IsStepRoute m p) where
  one_exiting : (Active : VertexId → Type 0) (t u : TransId) (s : VertexId) → LegExits m Active p t s → LegExits m Active p u s → SameLeg m p t u
  one_exiting Active t u s first second =
      let t_on = scope_on shape rules p step first.0.1.1 in
      let u_on = scope_on shape rules p step second.0.1.1 in
      ⊎_elim
      (λ a. ⊎_elim (λ leg. leg) (λ later. absurd (second.1 t later first.0)) (along_leg shape rules p step a))
      (⊎_elim
      (λ a. ⊎_elim (λ leg. leg_turned m p leg) (λ later. absurd (first.1 u later second.0)) (along_leg shape rules p step a))
      (⊎_elim
      (λ beside. begin_leg shape rules p step t u t_on u_on (inr (inl beside)))
      (λ b. ⊎_elim
      (λ up. absurd (up_no_down shape rules p step b.at (up_along shape rules p step b.to_first up) b.leaves_first b.kind))
      (λ below. absurd (below_exits_nothing shape rules p step Active t s t_on below first))
      (height shape rules p step t t_on))))
      (stand shape p (step_is_route step) rules t u t_on u_on)

  -- one vertex, one leg that ends there
  one_ending : (t u : TransId) (v : VertexId) → (HasKind m v kinds.Join → ⊥) → IsLastVertex m p t v → IsLastVertex m p u v → SameLeg m p t u
  one_ending t u v no_join first second =
      let here = one_way_in shape rules p step v first.0 second.0 no_join (leg_ends m p first.1) (leg_ends m p second.1) first.2 second.2 in
      legs_meet m p first.1 (subst (λ x. SameLeg m p x u) (sym here) (leg_turned m p second.1))

  one_history : (t u : TransId) (v w : VertexId) (r : RegionId) → (HasKind m v kinds.Join → ⊥) → EndsOn m p v → EndsOn m p w
      → owner_of m (State v) ≡ Some (Region r) → owner_of m (State w) ≡ Some (Region r) → IsLastVertex m p t v → IsLastVertex m p u w → SameLeg m p t u
  one_history t u v w r no_join v_ends w_ends e f first second =
      let here = alone_at_home shape rules p step v w r v_ends w_ends e (owned f) in
      one_ending t u v no_join first (subst (IsLastVertex m p u) (sym here) second)

  shallow_ends : (t : TransId) (v : VertexId) → IsLastVertex m p t v → HasKind m v kinds.ShallowHistory → EndsOn m p v
  shallow_ends t v last k =
      let a_on = leg_ends m p last.1 in
      (last.0, a_on, last.2, (step_is_route step).goes_on last.0 v kinds.ShallowHistory a_on last.2 k)

  deep_ends : (t : TransId) (v : VertexId) → IsLastVertex m p t v → HasKind m v kinds.DeepHistory → EndsOn m p v
  deep_ends t v last k =
      let a_on = leg_ends m p last.1 in
      (last.0, a_on, last.2, (step_is_route step).goes_on last.0 v kinds.DeepHistory a_on last.2 k)

  one_local : (t u : TransId) (s q : VertexId) → IsLocalFrom m p t s → IsLocalFrom m p u q → SameLeg m p t u
  one_local t u s q first second =
      let t_start = state_start shape rules p step first.0 s (leg_ends m p first.1) first.2 first.3 in
      let u_start = state_start shape rules p step second.0 q (leg_ends m p second.1) second.2 second.3 in
      let here = one_start shape rules p step first.0 second.0 Local t_start first.4 (λ e. cc) u_start in
      legs_meet m p first.1 (subst (λ x. SameLeg m p x u) here (leg_turned m p second.1))

  module _ (Active : VertexId → Type 0) (t u : TransId) where
    pub once : (item : Item) → IsOfLegHere m Active p t item → IsOfLegHere m Active p u item → SameLeg m p t u
    once (items.Exit s) h g = one_exiting Active t u s (first_case h) (first_case g)
    once (items.Effect w) h g = legs_meet m p (first_case h) (leg_turned m p (first_case g))
    once (items.Enter s) h g = one_entering shape rules p step t u s (first_case h) (first_case g)
    once (items.Opened r Plain) h g = let a = third_case h in let b = third_case g in one_local t u a.0 b.0 a.1 b.1
    once (items.Opened r Shallow) h g =
        let a = second_case h in
        let b = second_case g in
        one_history t u a.0 b.0 r (λ j. let clash = kind_unique m a.0 kinds.ShallowHistory kinds.Join a.2 j in cc)
        (shallow_ends t a.0 a.1 a.2) (shallow_ends u b.0 b.1 b.2) a.3 b.3 a.1 b.1
    once (items.Opened r Deep) h g =
        let a = second_case h in
        let b = second_case g in
        one_history t u a.0 b.0 r (λ j. let clash = kind_unique m a.0 kinds.DeepHistory kinds.Join a.2 j in cc)
        (deep_ends t a.0 a.1 a.2) (deep_ends u b.0 b.1 b.2) a.3 b.3 a.1 b.1
    once (items.Pick c) h g =
        let a = second_case h in
        let b = second_case g in
        one_ending t u c (λ j. let clash = kind_unique m c kinds.Choice kinds.Join a.1 j in cc) a.0 b.0
