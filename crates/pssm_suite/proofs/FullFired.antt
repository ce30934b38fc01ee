-- A step of a calm machine that fires routes and has run out: all three items of each route have run, and their targets are active.
use Rattle.std.proofs.Common.{◌≡◌, ◌⊎◌, ◌≤◌, ◌<◌, ◌+◌, ◌*◌, ◌++◌, ℕ, zero, suc, List, [], ◌∷◌, length, map, Contains, refl, sym, ap, subst, ◌∙◌, inl, inr, ⊎_elim, arith}
use Rattle.std.proofs.lemmas.List.{length-map}
use Rattle.std.proofs.lemmas.List.Elements.{Contains-push, Contains-push_cases, Contains-append_left}
use Rattle.pssm_model.specs.declared.ids.VertexId.{VertexId}
use Rattle.pssm_model.specs.declared.ids.TransId.{TransId}
use Rattle.pssm_model.specs.declared.elements.DraftMachine.{DraftMachine}
use Rattle.pssm_model.specs.declared.steps.Route.{Route}
use Rattle.pssm_model.specs.declared.steps.How.{How}
use Rattle.pssm_model.specs.declared.steps.How.TheVariants.{By, Restore, Nothing}
use Rattle.pssm_model.specs.declared.steps.Item.{Item}
use Rattle.pssm_model.specs.declared.steps.Item.TheVariants as items
use Rattle.pssm_model.specs.Legs.SameLeg.{itself}
use Rattle.pssm_model.specs.Configuration.{Configuration}
use Rattle.pssm_model.specs.Course.{HasRun, IsLeg}
use Rattle.pssm_model.specs.Course.Head.{Fires}
use Rattle.pssm_model.specs.Items.{CanExit, IsEffect, IsEnter, IsCalledInLeg, HasRunOut}
use Rattle.pssm_model.specs.Items.Before.{exit_effect, effect_enter}
use Rattle.pssm_model.specs.Routes.{IsStateRoute}
use Rattle.pssm_model.specs.Order.{HasGone, course_by}
use Rattle.pssm_model.specs.Order.HasGone.{begun, more}
use Rattle.pssm_model.proofs.ElementLaws.{nothing_in_nil}
use Rattle.pssm_plan.specs.Steadiness.{BeginsWell, changed_by_item, changed_along}
use Rattle.pssm_plan.proofs.SteadyChanges.{changed_along-push}
use Rattle.pssm_suite.proofs.CalmMachines.{IsCalm}
use Rattle.pssm_suite.proofs.FiredSteps.{IsItemOf, FiresAt, IsFired, is_source, gone_fired}
use Rattle.pssm_suite.proofs.StepPlaces.{kind_of, place_from, item_home}
use Rattle.pssm_suite.proofs.LoneItems.{leg_of, is_on, exits_source, enters_it, exit_called, effect_called, enter_called}
use Rattle.pssm_suite.proofs.LongLists.{long_from_thirds, in_map}

-- what is active stays so unless it is exited
pub still_active : (m : DraftMachine) (now : Configuration) (item : Item) (how : How) (v : VertexId) → now.Active v → (item ≡ items.Exit v → ⊥)
    → (changed_by_item m now item how).Active v
still_active m now (items.Exit s) how v active other = ((λ same. other (ap items.Exit (sym same))), active)
still_active m now (items.Enter s) how v active other = inr active
still_active m now (items.Effect t) how v active other = active
still_active m now (items.Pick c) how v active other = active
still_active m now (items.Opened r mode) Nothing v active other = active
still_active m now (items.Opened r mode) (By route) v active other = active
still_active m now (items.Opened r mode) (Restore s) v active other = active

-- an exit is no other item
pub exit_one : (s q : VertexId) → items.Exit s ≡ items.Exit q → s ≡ q
exit_one s q e = cc

pub no_exit_effect : (s : VertexId) (t : TransId) → items.Exit s ≡ items.Effect t → ⊥
no_exit_effect s t e = cc

pub no_exit_enter : (s q : VertexId) → items.Exit s ≡ items.Enter q → ⊥
no_exit_enter s q e = cc

-- what the last item has run, and what ran before
pub ran_last : (ran : List (Item × How)) (item x : Item) (how h : How) → Contains (ran ++ (item, how) ∷ []) (x, h) → Contains ran (x, h) ⊎ (item ≡ x)
ran_last ran item x how h inside =
    ⊎_elim (λ was. inl was) (λ same. inr (ap (λ (y : Item × How). y.0) same)) (Contains-push_cases ran (item, how) (x, h) inside)

module _ (m : DraftMachine) (first count : ℕ) (calm : IsCalm m first count) (routes : List Route) (now : Configuration) (begins : BeginsWell m (Fires routes) now)
    (of_states : (route : Route) → Contains routes route → IsStateRoute m route) where
  module _ (p : Route) (fires : Contains routes p) (f : FiresAt m now p) where
    is_leg : (ran : List (Item × How)) → IsLeg (course_by (Fires routes) now ran) (leg_of m calm.plain p f.at f.lone)
    is_leg ran = (inl fires, is_on m calm.plain p f.at f.lone)

    -- the effect comes after the exit, and the entry after the effect
    exit_first : (ran : List (Item × How)) → HasGone m (Fires routes) now ran → HasRun (course_by (Fires routes) now ran) (items.Effect f.at)
        → HasRun (course_by (Fires routes) now ran) (items.Exit f.lone.source)
    exit_first _ (begun is) (h, inside) = absurd (nothing_in_nil (items.Effect f.at, h) inside)
    exit_first _ (more {ran = ran} item how before ready truth way) (h, inside) =
        let course = course_by (Fires routes) now ran in
        let can : CanExit course p f.lone.source = (fires, f.active) in
        let exit : HasRun course (items.Exit f.lone.source) =
        ⊎_elim
        (λ was. exit_first ran before (h, was))
        (λ same.
        ready.cleared (items.Exit f.lone.source) (exit_called m calm.plain p f.at f.lone course (is_leg ran) can)
        (exit_effect (leg_of m calm.plain p f.at f.lone) (is_leg ran) tt (subst (λ x. IsEffect x) (sym same) tt)
        (exits_source m calm.plain p f.at f.lone (CanExit course p) can)
        (subst (λ x. IsCalledInLeg m course (leg_of m calm.plain p f.at f.lone) x) (sym same) (itself (is_on m calm.plain p f.at f.lone)))))
        (ran_last ran item (items.Effect f.at) how h inside) in
        (exit.0, Contains-append_left ran ((item, how) ∷ []) (items.Exit f.lone.source, exit.0) exit.1)

    effect_first : (ran : List (Item × How)) → HasGone m (Fires routes) now ran → HasRun (course_by (Fires routes) now ran) (items.Enter f.lone.target)
        → HasRun (course_by (Fires routes) now ran) (items.Effect f.at)
    effect_first _ (begun is) (h, inside) = absurd (nothing_in_nil (items.Enter f.lone.target, h) inside)
    effect_first _ (more {ran = ran} item how before ready truth way) (h, inside) =
        let course = course_by (Fires routes) now ran in
        let effect : HasRun course (items.Effect f.at) =
        ⊎_elim
        (λ was. effect_first ran before (h, was))
        (λ same.
        ready.cleared (items.Effect f.at) (effect_called m calm.plain p f.at f.lone course (is_leg ran))
        (effect_enter (leg_of m calm.plain p f.at f.lone) (is_leg ran) tt (subst (λ x. IsEnter x) (sym same) tt)
        (itself (is_on m calm.plain p f.at f.lone))
        (subst (λ x. IsCalledInLeg m course (leg_of m calm.plain p f.at f.lone) x) (sym same) (enters_it m calm.plain p f.at f.lone))))
        (ran_last ran item (items.Enter f.lone.target) how h inside) in
        (effect.0, Contains-append_left ran ((item, how) ∷ []) (items.Effect f.at, effect.0) effect.1)

    -- an exit of the target is the exit of the source
    exit_is : (x : Item) (g : IsFired m now routes x) → x ≡ items.Exit f.lone.target → f.lone.target ≡ f.lone.source
    exit_is x g e =
        let at : f.lone.target ≡ g.there.lone.source =
        ⊎_elim
        (λ (exit : x ≡ items.Exit g.there.lone.source). (let same : items.Exit f.lone.target ≡ items.Exit g.there.lone.source = sym e ∙ exit in exit_one f.lone.target g.there.lone.source same))
        (λ more_forms.
        ⊎_elim
        (λ (effect : x ≡ items.Effect g.there.at). absurd (no_exit_effect f.lone.target g.there.at (sym e ∙ effect)))
        (λ (enter : x ≡ items.Enter g.there.lone.target). absurd (no_exit_enter f.lone.target g.there.lone.target (sym e ∙ enter)))
        more_forms)
        g.form in
        is_source m first count calm routes now begins of_states p f f.lone.target (subst now.Active (sym at) g.there.active) f.lone.target_home

    -- once entered, the target is active
    target_active : (ran : List (Item × How)) → HasGone m (Fires routes) now ran → HasRun (course_by (Fires routes) now ran) (items.Enter f.lone.target)
        → (changed_along m now ran).Active f.lone.target
    target_active _ (begun is) (h, inside) = absurd (nothing_in_nil (items.Enter f.lone.target, h) inside)
    target_active _ (more {ran = ran} item how before ready truth way) (h, inside) =
        let fired = (gone_fired m first count calm routes now begins of_states (ran ++ (item, how) ∷ []) (more item how before ready truth way) (item, how)
        (Contains-push ran (item, how))).1 in
        subst (λ (c : Configuration). c.Active f.lone.target) (sym (changed_along-push m now ran item how))
        (⊎_elim
        (λ was.
        still_active m (changed_along m now ran) item how f.lone.target (target_active ran before (h, was))
        (λ exit.
        let same : f.lone.target ≡ f.lone.source = exit_is item fired exit in
        let gone = exit_first ran before (effect_first ran before (h, was)) in
        let here : items.Exit f.lone.source ≡ item = ap items.Exit (sym same) ∙ sym exit in
        ready.waiting.not_run (gone.0, subst (λ y. Contains ran (y, gone.0)) here gone.1)))
        (λ same. subst (λ x. (changed_by_item m (changed_along m now ran) x how).Active f.lone.target) (sym same) (inl refl))
        (ran_last ran item (items.Enter f.lone.target) how h inside))

  -- ---- a step that has run out

  module _ (ran : List (Item × How)) (gone : HasGone m (Fires routes) now ran) (out : HasRunOut m (course_by (Fires routes) now ran)) where
    module _ (p : Route) (fires : Contains routes p) (f : FiresAt m now p) where
      exit_ran : HasRun (course_by (Fires routes) now ran) (items.Exit f.lone.source)
      exit_ran =
          out (items.Exit f.lone.source)
          (exit_called m calm.plain p f.at f.lone (course_by (Fires routes) now ran) (is_leg p fires f ran) (fires, f.active))

      pub effect_ran : HasRun (course_by (Fires routes) now ran) (items.Effect f.at)
      effect_ran = out (items.Effect f.at) (effect_called m calm.plain p f.at f.lone (course_by (Fires routes) now ran) (is_leg p fires f ran))

      enter_ran : HasRun (course_by (Fires routes) now ran) (items.Enter f.lone.target)
      enter_ran = out (items.Enter f.lone.target) (enter_called m calm.plain p f.at f.lone (course_by (Fires routes) now ran) (is_leg p fires f ran))

      pub now_active : (changed_along m now ran).Active f.lone.target
      now_active = target_active p fires f ran gone enter_ran

      -- the number of one of its items
      at_place : (item : Item) (j k : ℕ) → f.lone.home.0 ≡ first + j → HasRun (course_by (Fires routes) now ran) item → IsItemOf f.lone.source f.at f.lone.target item
          → kind_of item ≡ k → Contains (map (λ (x : Item × How). place_from first m x.0) ran) (3 * j + k)
      at_place item j k home (how, inside) form kind =
          let is = item_home m p f.at f.lone item form in
          let number : place_from first m item ≡ 3 * j + k = omega (arith, home, is, kind) in
          subst (λ q. Contains (map (λ (x : Item × How). place_from first m x.0) ran) q) number
          (in_map (λ (x : Item × How). place_from first m x.0) ran (item, how) inside)

      pub has_places : (j k : ℕ) → f.lone.home.0 ≡ first + j → k < 3 → Contains (map (λ (x : Item × How). place_from first m x.0) ran) (3 * j + k)
      has_places j zero home lt = at_place (items.Exit f.lone.source) j 0 home exit_ran (inl refl) refl
      has_places j (suc zero) home lt = at_place (items.Effect f.at) j 1 home effect_ran (inr (inl refl)) refl
      has_places j (suc (suc zero)) home lt = at_place (items.Enter f.lone.target) j 2 home enter_ran (inr (inr refl)) refl
      has_places j (suc (suc (suc k))) home lt = absurd (omega (arith, lt))

    -- where a route fires in each of the regions, it has all its items
    pub fired_many : ((j : ℕ) → j < count → (p : Route) × (fires : Contains routes p) × (f : FiresAt m now p) × (f.lone.home.0 ≡ first + j)) → 3 * count ≤ length ran
    fired_many each =
        let long = long_from_thirds count (map (λ (x : Item × How). place_from first m x.0) ran)
        (λ j k lt below. (let at = each j lt in has_places at.0 at.1 at.2 j k at.3 below)) in
        let same = length-map ran (λ (x : Item × How). place_from first m x.0) in
        omega (arith, long, same)
