-- The items of the first step of a plain machine: openings, and the effects and entries of the transitions out of initial vertices.
use Rattle.std.proofs.Common.{◌≡◌, ◌⊎◌, ◌<◌, List, length, Contains, Some, refl, sym, ap, subst, ◌∙◌, inl, inr, ⊎_elim}
use Rattle.std.proofs.lemmas.List.Elements.{Contains-push_cases}
use Rattle.std.proofs.lemmas.Option.{slice_get_within}
use Rattle.pssm_model.specs.declared.ids.VertexId.{VertexId}
use Rattle.pssm_model.specs.declared.ids.RegionId.{RegionId}
use Rattle.pssm_model.specs.declared.ids.TransId.{TransId}
use Rattle.pssm_model.specs.declared.elements.DraftMachine.{DraftMachine}
use Rattle.pssm_model.specs.declared.elements.VertexKind.TheVariants as kinds
use Rattle.pssm_model.specs.declared.elements.Owner.TheVariants.{Top, Region, State}
use Rattle.pssm_model.specs.declared.steps.Route.{Route}
use Rattle.pssm_model.specs.declared.steps.Mode.{Mode}
use Rattle.pssm_model.specs.declared.steps.Mode.TheVariants.{Plain, Shallow, Deep}
use Rattle.pssm_model.specs.declared.steps.How.{How}
use Rattle.pssm_model.specs.declared.steps.How.TheVariants.{By, Restore, Nothing}
use Rattle.pssm_model.specs.declared.steps.Item.{Item}
use Rattle.pssm_model.specs.declared.steps.Item.TheVariants as items
use Rattle.pssm_model.specs.Forest.{HasKind}
use Rattle.pssm_model.specs.Legs.{Leaves, Enters}
use Rattle.pssm_model.specs.Configuration.{Configuration}
use Rattle.pssm_model.specs.Course.{RemembersSoFar}
use Rattle.pssm_model.specs.Course.Head.{Starts}
use Rattle.pssm_model.specs.Items.{Called, LegCalls, CanExit, StartOpens, EnterOpens}
use Rattle.pssm_model.specs.Items.Called.{start, run, ends, opens, restored, entered}
use Rattle.pssm_model.specs.Routes.{Truth, IsRoute, IsSource}
use Rattle.pssm_model.specs.Ways.{Memory, OpensByDefault, IsWay}
use Rattle.pssm_model.specs.Order.{HasGone, course_by}
use Rattle.pssm_model.specs.Order.HasGone.{begun, more}
use Rattle.pssm_model.proofs.ElementLaws.{nothing_in_nil, leaves_one, enters_one}
use Rattle.pssm_model_laws.proofs.StateRoutes.{is_start, source_is_left}
use Rattle.pssm_suite.proofs.PlainMachines.{IsPlain}
use Rattle.pssm_suite.proofs.LoneRoutes.{IsLone, lone_route, ends_nothing, opens_nothing, leg_is, enters_target}

-- the effect or the entry of a transition out of an initial vertex
pub record IsMoved (m : DraftMachine) (item : Item) : Type 0 where
  pub route : Route
  pub at : TransId
  pub lone : IsLone m route at
  pub initial : HasKind m lone.source kinds.Initial
  pub form : (item ≡ items.Effect at) ⊎ (item ≡ items.Enter lone.target)

-- the default opening of a region, or such an item
abbrev pub IsStarted : DraftMachine → Item → Type 0
IsStarted m item = ((r : RegionId) × (r.0 < length m.regions) × (item ≡ items.Opened r Plain)) ⊎ IsMoved m item

-- a route out of initial vertices, or nothing
abbrev pub IsFirstWay : DraftMachine → How → Type 0
IsFirstWay m (By route) = IsRoute m route × ((s : VertexId) → IsSource m route s → HasKind m s kinds.Initial)
IsFirstWay m (Restore s) = ⊥
IsFirstWay m Nothing = Unit {0}

module _ (m : DraftMachine) (plain : IsPlain m) (now : Configuration) where
  -- what has run so far: such items, in such ways
  abbrev pub RanStarted : List (Item × How) → Type 0
  RanStarted ran = (x : Item × How) → Contains ran x → IsStarted m x.0 × IsFirstWay m x.1

  -- what a leg of such a route calls
  called_in_leg : (route : Route) → IsFirstWay m (By route) → (ran : List (Item × How)) (u : TransId) (item : Item)
      → LegCalls m (CanExit (course_by Starts now ran) route) route u item → IsStarted m item
  called_in_leg route way ran u (items.Exit s) h = absurd h.0.0.0
  called_in_leg route way ran u (items.Effect w) h =
      let found = lone_route m plain route way.0 in
      let lone = found.1 in
      inr (record {
        route = route;
        at = found.0;
        lone = lone;
        initial = way.1 lone.source (found.0, is_start route found.0 lone.starts, lone.leaves);
        form = inl (ap items.Effect (leg_is m plain route found.0 lone u w h).1);
      })
  called_in_leg route way ran u (items.Enter s) h =
      let found = lone_route m plain route way.0 in
      let lone = found.1 in
      inr (record {
        route = route;
        at = found.0;
        lone = lone;
        initial = way.1 lone.source (found.0, is_start route found.0 lone.starts, lone.leaves);
        form = inr (ap items.Enter (enters_target m plain route found.0 lone u s h));
      })
  called_in_leg route way ran u (items.Opened r mode) h = absurd h
  called_in_leg route way ran u (items.Pick c) h = absurd h

  -- what the start and entered States open
  start_opens : (item : Item) → StartOpens m Starts item → IsStarted m item
  start_opens (items.Opened r Plain) h = inl (r, slice_get_within m.regions r.0 Top h, refl)
  start_opens (items.Opened r Shallow) h = absurd h
  start_opens (items.Opened r Deep) h = absurd h
  start_opens (items.Exit s) h = absurd h
  start_opens (items.Effect t) h = absurd h
  start_opens (items.Enter s) h = absurd h
  start_opens (items.Pick c) h = absurd h

  enter_opens : (ran : List (Item × How)) → RanStarted ran → (s : VertexId) (item : Item) → EnterOpens m (course_by Starts now ran) s item → IsStarted m item
  enter_opens ran all s (items.Opened r mode) (owner, how) =
      let there : r.0 < length m.regions = slice_get_within m.regions r.0 (State s) owner in
      ⊎_elim
      (λ by. inl (r, there, ap (λ (k : Mode). items.Opened r k) by.3))
      (λ again. absurd (all (items.Opened again.1.0 again.0, Restore s) again.1.1).1)
      how
  enter_opens ran all s (items.Exit q) h = absurd h
  enter_opens ran all s (items.Effect t) h = absurd h
  enter_opens ran all s (items.Enter q) h = absurd h
  enter_opens ran all s (items.Pick c) h = absurd h

  pub called_is_started : (ran : List (Item × How)) → RanStarted ran → (item : Item) → Called m (course_by Starts now ran) item → IsStarted m item
  called_is_started ran all item (start h) = start_opens item h
  called_is_started ran all item (run leg (inl fires, on) called) = absurd fires
  called_is_started ran all item (run leg (inr (x, gone), on) called) = called_in_leg leg.route (all (x, By leg.route) gone).1 ran leg.named_by item called
  called_is_started ran all item (ends leg is h) = absurd (ends_nothing m plain leg.route leg.named_by item h)
  called_is_started ran all item (opens leg is h) = absurd (opens_nothing m plain leg.route leg.named_by item h)
  called_is_started ran all item (restored mode s (r, inside) same) = absurd (all (items.Opened r mode, Restore s) inside).1
  called_is_started ran all item (entered s is h) = enter_opens ran all s item h

  -- the way of such an item
  default_way : (truth : Truth) (r : RegionId) (how : How) → OpensByDefault m truth r how → IsFirstWay m how
  default_way truth r (By route) (v, initial, late) = (
    late.route_is,
    λ s source.
        let left : Leaves m late.leaves.0 s = source_is_left route late.leaves.0 late.leaves.1 m s source in
        subst (λ k. HasKind m k kinds.Initial) (leaves_one m late.leaves.0 v s late.leaves.2 left) initial.0,
  )
  default_way truth r (Restore s) h = absurd h
  default_way truth r Nothing h = tt

  first_way : (truth : Truth) (memory : Memory) (item : Item) (how : How) → IsStarted m item → IsWay m truth memory item how → IsFirstWay m how
  first_way truth memory item how (inl (r, there, same)) way = default_way truth r how (subst (λ x. IsWay m truth memory x how) same way)
  first_way truth memory item how (inr moved) way =
      let none : how ≡ Nothing =
      ⊎_elim (λ effect. subst (λ x. IsWay m truth memory x how) effect way) (λ enter. subst (λ x. IsWay m truth memory x how) enter way) moved.form in
      subst (IsFirstWay m) (sym none) tt

  -- so each item that has run is one of these
  pub gone_started : (ran : List (Item × How)) → HasGone m Starts now ran → RanStarted ran
  gone_started _ (begun is) x inside = absurd (nothing_in_nil x inside)
  gone_started _ (more {ran = ran} item how before ready truth way) x inside =
      let is = called_is_started ran (gone_started ran before) item ready.waiting.called in
      let memory : Memory = RemembersSoFar m (course_by Starts now ran) in
      let first : IsFirstWay m how = first_way truth memory item how is way in
      ⊎_elim
      (λ was. gone_started ran before x was)
      (λ same. subst (λ (y : Item × How). IsStarted m y.0 × IsFirstWay m y.1) same (is, first))
      (Contains-push_cases ran (item, how) x inside)

-- transitions out of initial vertices of one home are one
module _ (m : DraftMachine) (plain : IsPlain m) (x y : Item) (f : IsMoved m x) (g : IsMoved m y) where
  pub one_first : f.lone.home ≡ g.lone.home → (f.at ≡ g.at) × (f.lone.target ≡ g.lone.target)
  one_first home =
      let source : f.lone.source ≡ g.lone.source =
      plain.one_initial f.lone.source g.lone.source g.lone.home
      (f.initial, f.lone.source_home ∙ ap (λ r. Some (Region r)) home) (g.initial, g.lone.source_home) in
      let out = plain.one_out g.lone.source g.initial in
      let at : f.at ≡ g.at = out.2 f.at (subst (λ v. Leaves m f.at v) source f.lone.leaves) ∙ sym (out.2 g.at g.lone.leaves) in
      let target : f.lone.target ≡ g.lone.target =
      enters_one m g.at f.lone.target g.lone.target (subst (λ t. Enters m t f.lone.target) at f.lone.enters) g.lone.enters in
      (at, target)
