-- The first step of a plain machine that has run out: of each region that was opened the items have run, the target is active, and its regions were opened too.
use Rattle.std.proofs.Common.{◌≡◌, ◌≤◌, ◌<◌, ◌+◌, ◌*◌, ◌++◌, ℕ, zero, suc, List, [], ◌∷◌, length, map, Contains, Some, refl, sym, ap, subst, ◌∙◌, inl, inr, ⊎_elim, arith}
use Rattle.std.proofs.lemmas.List.{length-map}
use Rattle.std.proofs.lemmas.List.Elements.{Contains-push, Contains-push_cases}
use Rattle.pssm_model.specs.declared.ids.VertexId.{VertexId}
use Rattle.pssm_model.specs.declared.ids.RegionId.{RegionId}
use Rattle.pssm_model.specs.declared.ids.TransId.{TransId}
use Rattle.pssm_model.specs.declared.elements.DraftMachine.{DraftMachine}
use Rattle.pssm_model.specs.declared.elements.Owner.TheVariants.{Top, Region, State}
use Rattle.pssm_model.specs.declared.steps.Route.{Route}
use Rattle.pssm_model.specs.declared.steps.Mode.TheVariants.{Plain}
use Rattle.pssm_model.specs.declared.steps.How.{How}
use Rattle.pssm_model.specs.declared.steps.How.TheVariants.{By, Restore, Nothing}
use Rattle.pssm_model.specs.declared.steps.Item.{Item}
use Rattle.pssm_model.specs.declared.steps.Item.TheVariants as items
use Rattle.pssm_model.specs.Forest.{owner_of}
use Rattle.pssm_model.specs.Legs.{Leaves}
use Rattle.pssm_model.specs.Configuration.{Configuration}
use Rattle.pssm_model.specs.Course.{HasRun, IsLeg, RemembersSoFar}
use Rattle.pssm_model.specs.Course.Head.{Starts}
use Rattle.pssm_model.specs.Items.{HasRunOut}
use Rattle.pssm_model.specs.Items.Called.{start, entered}
use Rattle.pssm_model.specs.Routes.{Truth, IsSource}
use Rattle.pssm_model.specs.Ways.{OpensByDefault, IsWay}
use Rattle.pssm_model.specs.Paths.{IsInitialOf}
use Rattle.pssm_model.specs.Order.{HasGone, course_by}
use Rattle.pssm_model.specs.Order.HasGone.{begun, more}
use Rattle.pssm_model.proofs.ElementLaws.{nothing_in_nil, leaves_one}
use Rattle.pssm_model.proofs.OwnerChains.{one_owner}
use Rattle.pssm_model_laws.proofs.StateRoutes.{is_start, source_is_left}
use Rattle.pssm_plan.specs.Steadiness.{changed_by_item, changed_along}
use Rattle.pssm_plan.proofs.SteadyChanges.{changed_along-push}
use Rattle.pssm_suite.proofs.PlainMachines.{IsPlain}
use Rattle.pssm_suite.proofs.LoneRoutes.{IsLone, lone_route}
use Rattle.pssm_suite.proofs.StartSteps.{IsStarted, gone_started}
use Rattle.pssm_suite.proofs.StepPlaces.{home_of, kind_of, place_from, item_home}
use Rattle.pssm_suite.proofs.LoneItems.{leg_of, is_on, enters_it, aims_nowhere, effect_called, enter_called}
use Rattle.pssm_suite.proofs.FullFired.{still_active, ran_last, no_exit_effect, no_exit_enter}
use Rattle.pssm_suite.proofs.LongLists.{long_from_thirds, in_map}

region_one : (r q : RegionId) → Region r ≡ Region q → r ≡ q
region_one r q e = cc

module _ (m : DraftMachine) (plain : IsPlain m) (now : Configuration) where
  -- an opening that has run went by a default way
  opened_way : (ran : List (Item × How)) → HasGone m Starts now ran → (r : RegionId) (how : How) → Contains ran (items.Opened r Plain, how)
      → (truth : Truth) × OpensByDefault m truth r how
  opened_way _ (begun is) r how inside = absurd (nothing_in_nil (items.Opened r Plain, how) inside)
  opened_way _ (more {ran = ran} item h before ready truth way) r how inside =
      ⊎_elim
      (λ was. opened_way ran before r how was)
      (λ same.
      (truth, subst (λ (y : Item × How). IsWay m truth (RemembersSoFar m (course_by Starts now ran)) y.0 y.1) same way))
      (Contains-push_cases ran (item, h) (items.Opened r Plain, how) inside)

  -- nothing is exited
  no_exit : (v : VertexId) (x : Item) → IsStarted m x → x ≡ items.Exit v → ⊥
  no_exit v x (inl (r, there, e)) exit = let same : items.Exit v ≡ items.Opened r Plain = sym exit ∙ e in cc
  no_exit v x (inr f) exit =
      ⊎_elim (λ effect. no_exit_effect v f.at (sym exit ∙ effect)) (λ enter. no_exit_enter v f.lone.target (sym exit ∙ enter)) f.form

  -- so what was entered is active
  entered_active : (ran : List (Item × How)) → HasGone m Starts now ran → (v : VertexId) → HasRun (course_by Starts now ran) (items.Enter v)
      → (changed_along m now ran).Active v
  entered_active _ (begun is) v (h, inside) = absurd (nothing_in_nil (items.Enter v, h) inside)
  entered_active _ (more {ran = ran} item how before ready truth way) v (h, inside) =
      let is = (gone_started m plain now (ran ++ (item, how) ∷ []) (more item how before ready truth way) (item, how) (Contains-push ran (item, how))).0 in
      subst (λ (c : Configuration). c.Active v) (sym (changed_along-push m now ran item how))
      (⊎_elim
      (λ was. still_active m (changed_along m now ran) item how v (entered_active ran before v (h, was)) (no_exit v item is))
      (λ same. subst (λ x. (changed_by_item m (changed_along m now ran) x how).Active v) (sym same) (inl refl))
      (ran_last ran item (items.Enter v) how h inside))

  -- ---- a step that has run out

  module _ (ran : List (Item × How)) (gone : HasGone m Starts now ran) (out : HasRunOut m (course_by Starts now ran)) where
    -- what comes of an opened region
    pub record IsOpened (r : RegionId) : Type 0 where
      pub opening : HasRun (course_by Starts now ran) (items.Opened r Plain)
      pub route : Route
      pub at : TransId
      pub lone : IsLone m route at
      pub initial : IsInitialOf m r lone.source
      pub home : lone.home ≡ r
      pub effect : HasRun (course_by Starts now ran) (items.Effect at)
      pub enter : HasRun (course_by Starts now ran) (items.Enter lone.target)
      pub leg : IsLeg (course_by Starts now ran) (leg_of m plain route at lone)

    by_way : (r : RegionId) (v : VertexId) → IsInitialOf m r v → (how : How) → Contains ran (items.Opened r Plain, how) → (truth : Truth) → OpensByDefault m truth r how
        → IsOpened r
    by_way r v initial (By route) inside truth (w, first, late) =
        let found = lone_route m plain route late.route_is in
        let t = found.0 in
        let lone = found.1 in
        let source : IsSource m route lone.source = (t, is_start route t lone.starts, lone.leaves) in
        let left : Leaves m late.leaves.0 lone.source = source_is_left route late.leaves.0 late.leaves.1 m lone.source source in
        let same : w ≡ lone.source = leaves_one m late.leaves.0 w lone.source late.leaves.2 left in
        let begins : IsInitialOf m r lone.source = subst (λ k. IsInitialOf m r k) same first in
        let leg : IsLeg (course_by Starts now ran) (leg_of m plain route t lone) = (inr (items.Opened r Plain, inside), is_on m plain route t lone) in
        record {
          opening = (By route, inside);
          route = route;
          at = t;
          lone = lone;
          initial = begins;
          home = region_one lone.home r (one_owner m (State lone.source) (Region lone.home) (Region r) lone.source_home begins.1);
          effect = out (items.Effect t) (effect_called m plain route t lone (course_by Starts now ran) leg);
          enter = out (items.Enter lone.target) (enter_called m plain route t lone (course_by Starts now ran) leg);
          leg = leg;
        }
    by_way r v initial (Restore s) inside truth h = absurd h
    by_way r v initial Nothing inside truth h = absurd (h v initial)

    pub opened : (r : RegionId) (v : VertexId) → IsInitialOf m r v → HasRun (course_by Starts now ran) (items.Opened r Plain) → IsOpened r
    opened r v initial (how, inside) = let at = opened_way ran gone r how inside in by_way r v initial how inside at.0 at.1

    -- the top regions are opened, and those of the targets
    pub top_opened : (r : RegionId) → owner_of m (Region r) ≡ Some Top → HasRun (course_by Starts now ran) (items.Opened r Plain)
    top_opened r owner = out (items.Opened r Plain) (start owner)

    pub inner_opened : (r q : RegionId) (is : IsOpened r) → owner_of m (Region q) ≡ Some (State is.lone.target) → HasRun (course_by Starts now ran) (items.Opened q Plain)
    inner_opened r q is owner =
        out (items.Opened q Plain)
        (entered is.lone.target is.enter
        (owner, inl (leg_of m plain is.route is.at is.lone, is.leg, enters_it m plain is.route is.at is.lone, refl, aims_nowhere m plain is.route is.at is.lone q owner)))

    pub target_active : (r : RegionId) (is : IsOpened r) → (changed_along m now ran).Active is.lone.target
    target_active r is = entered_active ran gone is.lone.target is.enter

    -- the numbers of its items
    at_place : (r : RegionId) (item : Item) (k : ℕ) → home_of m item ≡ r.0 → HasRun (course_by Starts now ran) item → kind_of item ≡ k
        → Contains (map (λ (x : Item × How). place_from 0 m x.0) ran) (3 * r.0 + k)
    at_place r item k home (how, inside) kind =
        let number : place_from 0 m item ≡ 3 * r.0 + k = omega (arith, home, kind) in
        subst (λ q. Contains (map (λ (x : Item × How). place_from 0 m x.0) ran) q) number
        (in_map (λ (x : Item × How). place_from 0 m x.0) ran (item, how) inside)

    has_places : (r : RegionId) (is : IsOpened r) (k : ℕ) → k < 3 → Contains (map (λ (x : Item × How). place_from 0 m x.0) ran) (3 * r.0 + k)
    has_places r is zero lt = at_place r (items.Opened r Plain) 0 refl is.opening refl
    has_places r is (suc zero) lt =
        let home = item_home m is.route is.at is.lone (items.Effect is.at) (inr (inl refl)) in
        at_place r (items.Effect is.at) 1 (home ∙ ap (λ (q : RegionId). q.0) is.home) is.effect refl
    has_places r is (suc (suc zero)) lt =
        let home = item_home m is.route is.at is.lone (items.Enter is.lone.target) (inr (inr refl)) in
        at_place r (items.Enter is.lone.target) 2 (home ∙ ap (λ (q : RegionId). q.0) is.home) is.enter refl
    has_places r is (suc (suc (suc k))) lt = absurd (omega (arith, lt))

    -- where each region was opened, the step has all its items
    pub started_many : ((j : ℕ) → j < length m.regions → IsOpened (record { 0 = j })) → 3 * length m.regions ≤ length ran
    started_many each =
        let long = long_from_thirds (length m.regions) (map (λ (x : Item × How). place_from 0 m x.0) ran)
        (λ j k lt below. has_places (record { 0 = j }) (each j lt) k below) in
        let same = length-map ran (λ (x : Item × How). place_from 0 m x.0) in
        omega (arith, long, same)
