-- The items of a step of a calm machine that fires routes: of each of their transitions the exit, the effect and the entry.
use Rattle.std.proofs.Common.{◌≡◌, ◌⊎◌, ℕ, List, Contains, Some, ap, subst, ◌∙◌, inl, inr, ⊎_elim}
use Rattle.std.proofs.lemmas.List.Elements.{Contains-push_cases}
use Rattle.pssm_model.specs.declared.ids.VertexId.{VertexId}
use Rattle.pssm_model.specs.declared.ids.TransId.{TransId}
use Rattle.pssm_model.specs.declared.elements.DraftMachine.{DraftMachine}
use Rattle.pssm_model.specs.declared.elements.VertexKind.TheVariants as kinds
use Rattle.pssm_model.specs.declared.elements.Owner.TheVariants.{Region, State}
use Rattle.pssm_model.specs.declared.steps.Route.{Route}
use Rattle.pssm_model.specs.declared.steps.How.{How}
use Rattle.pssm_model.specs.declared.steps.How.TheVariants.{By, Restore, Nothing}
use Rattle.pssm_model.specs.declared.steps.Item.{Item}
use Rattle.pssm_model.specs.declared.steps.Item.TheVariants as items
use Rattle.pssm_model.specs.Forest.{HasKind, owner_of}
use Rattle.pssm_model.specs.Forest.LiesUnder.{owned, further}
use Rattle.pssm_model.specs.Legs.{Leaves, Enters}
use Rattle.pssm_model.specs.Configuration.{Configuration}
use Rattle.pssm_model.specs.Course.{Head, FiresBy, RemembersSoFar}
use Rattle.pssm_model.specs.Course.Head.{Fires}
use Rattle.pssm_model.specs.Items.{Called, LegCalls, CanExit, EnterOpens}
use Rattle.pssm_model.specs.Items.Called.{start, run, ends, opens, restored, entered}
use Rattle.pssm_model.specs.Routes.{Truth, IsStateRoute, IsSource}
use Rattle.pssm_model.specs.Ways.{Memory, IsWay}
use Rattle.pssm_model.specs.Order.{HasGone, course_by}
use Rattle.pssm_model.specs.Order.HasGone.{begun, more}
use Rattle.pssm_model.proofs.ElementLaws.{nothing_in_nil, enters_one}
use Rattle.pssm_model_laws.proofs.StateRoutes.{is_start}
use Rattle.pssm_plan.specs.Steadiness.{BeginsWell}
use Rattle.pssm_suite.proofs.LoneRoutes.{IsLone, IsBottom, lone_route, ends_nothing, opens_nothing, leg_is, exits_direct, enters_target}
use Rattle.pssm_suite.proofs.CalmMachines.{IsCalm}

-- the exit, the effect or the entry of a transition
abbrev pub IsItemOf : VertexId → TransId → VertexId → Item → Type 0
IsItemOf source t target item = (item ≡ items.Exit source) ⊎ ((item ≡ items.Effect t) ⊎ (item ≡ items.Enter target))

-- a route that fires: its transition leads from an active State, in a region under which none lies
pub record FiresAt (m : DraftMachine) (now : Configuration) (route : Route) : Type 0 where
  pub at : TransId
  pub lone : IsLone m route at
  pub source : IsSource m route lone.source
  pub state : HasKind m lone.source kinds.State
  pub active : now.Active lone.source
  pub bottom : IsBottom m lone.home

-- an item of a route that fires
pub record IsFired (m : DraftMachine) (now : Configuration) (routes : List Route) (item : Item) : Type 0 where
  pub route : Route
  pub fires : Contains routes route
  pub there : FiresAt m now route
  pub form : IsItemOf there.lone.source there.at there.lone.target item

-- no such item has a way
no_way : (m : DraftMachine) (truth : Truth) (memory : Memory) (source target : VertexId) (t : TransId) (item : Item) (how : How) → IsItemOf source t target item
    → IsWay m truth memory item how → how ≡ Nothing
no_way m truth memory source target t item how (inl e) way = subst (λ x. IsWay m truth memory x how) e way
no_way m truth memory source target t item how (inr (inl e)) way = subst (λ x. IsWay m truth memory x how) e way
no_way m truth memory source target t item how (inr (inr e)) way = subst (λ x. IsWay m truth memory x how) e way

-- how a step has begun
pub routes_begun : (m : DraftMachine) (head : Head) (now : Configuration) (ran : List (Item × How)) → HasGone m head now ran
    → (route : Route) → FiresBy head route → IsStateRoute m route
routes_begun m head now _ (begun routes) = routes
routes_begun m head now _ (more {ran = ran} item how before ready truth way) = routes_begun m head now ran before

module _ (m : DraftMachine) (first count : ℕ) (calm : IsCalm m first count) (routes : List Route) (now : Configuration) (begins : BeginsWell m (Fires routes) now)
    (of_states : (route : Route) → Contains routes route → IsStateRoute m route) where
  pub fires_at : (route : Route) → Contains routes route → FiresAt m now route
  fires_at route fires =
      let is = of_states route fires in
      let found = lone_route m calm.plain route is.0 in
      let t = found.0 in
      let lone = found.1 in
      let source : IsSource m route lone.source = (t, is_start route t lone.starts, lone.leaves) in
      let state : HasKind m lone.source kinds.State = is.1 lone.source source in
      record {
        at = t;
        lone = lone;
        source = source;
        state = state;
        active = begins.from_active route lone.source fires source;
        bottom = calm.bottom t lone.source lone.home lone.leaves state lone.source_home;
      }

  -- what is active directly in the home of a route that fires is its source
  pub is_source : (route : Route) (f : FiresAt m now route) (s : VertexId) → now.Active s → owner_of m (State s) ≡ Some (Region f.lone.home) → s ≡ f.lone.source
  is_source route f s active home =
      begins.consistent.one_each f.lone.home s f.lone.source
      (home, begins.consistent.states s active) (f.lone.source_home, begins.consistent.states f.lone.source f.active) active f.active

  -- what one of its legs calls
  called_in_leg : (route : Route) → Contains routes route → (f : FiresAt m now route) (Active : VertexId → Type 0) → ((s : VertexId) → Active s → now.Active s)
      → (u : TransId) (item : Item) → LegCalls m Active route u item → IsFired m now routes item
  called_in_leg route fires f Active is u (items.Exit s) h =
      let at = exits_direct m calm.plain route f.at f.lone f.bottom Active u s h in
      record { route = route; fires = fires; there = f; form = inl (ap items.Exit (is_source route f s (is s at.0) at.1)) }
  called_in_leg route fires f Active is u (items.Effect w) h =
      record { route = route; fires = fires; there = f; form = inr (inl (ap items.Effect (leg_is m calm.plain route f.at f.lone u w h).1)) }
  called_in_leg route fires f Active is u (items.Enter s) h =
      record { route = route; fires = fires; there = f; form = inr (inr (ap items.Enter (enters_target m calm.plain route f.at f.lone u s h))) }
  called_in_leg route fires f Active is u (items.Opened r mode) h = absurd h
  called_in_leg route fires f Active is u (items.Pick c) h = absurd h

  -- what has run so far: such items, none of which has a way
  abbrev pub RanFired : List (Item × How) → Type 0
  RanFired ran = (x : Item × How) → Contains ran x → (x.1 ≡ Nothing) × IsFired m now routes x.0

  -- an entered State has no region that could open
  entered_is : (s : VertexId) (is : IsFired m now routes (items.Enter s)) → s ≡ is.there.lone.target
  entered_is s is =
      let lone = is.there.lone in
      ⊎_elim
      (λ (e : items.Enter s ≡ items.Exit lone.source). absurd (cc))
      (λ more.
      ⊎_elim
      (λ (e : items.Enter s ≡ items.Effect is.there.at). absurd (cc))
      (λ (e : items.Enter s ≡ items.Enter lone.target). (let same : s ≡ lone.target = cc in same))
      more)
      is.form

  no_opening : (ran : List (Item × How)) (s : VertexId) (item : Item) → IsFired m now routes (items.Enter s) → EnterOpens m (course_by (Fires routes) now ran) s item → ⊥
  no_opening ran s (items.Opened r mode) is h =
      let lone = is.there.lone in
      let owner : owner_of m (Region r) ≡ Some (State lone.target) = subst (λ v. owner_of m (Region r) ≡ Some (State v)) (entered_is s is) h.0 in
      is.there.bottom r (further owner (owned lone.target_home))
  no_opening ran s (items.Exit q) is h = h
  no_opening ran s (items.Effect t) is h = h
  no_opening ran s (items.Enter q) is h = h
  no_opening ran s (items.Pick c) is h = h

  no_restoring : (s : VertexId) → Restore s ≡ Nothing → ⊥
  no_restoring s e = cc

  no_late_route : (route : Route) → By route ≡ Nothing → ⊥
  no_late_route route e = cc

  pub called_is_fired : (ran : List (Item × How)) → RanFired ran → (item : Item) → Called m (course_by (Fires routes) now ran) item → IsFired m now routes item
  called_is_fired ran all item (start h) = absurd h
  called_is_fired ran all item (run leg (inl fires, on) called) =
      called_in_leg leg.route fires (fires_at leg.route fires) (CanExit (course_by (Fires routes) now ran) leg.route) (λ s can. can.1) leg.named_by item called
  called_is_fired ran all item (run leg (inr (x, gone), on) called) = absurd (no_late_route leg.route (all (x, By leg.route) gone).0)
  called_is_fired ran all item (ends leg is h) = absurd (ends_nothing m calm.plain leg.route leg.named_by item h)
  called_is_fired ran all item (opens leg is h) = absurd (opens_nothing m calm.plain leg.route leg.named_by item h)
  called_is_fired ran all item (restored mode s (r, inside) same) = absurd (no_restoring s (all (items.Opened r mode, Restore s) inside).0)
  called_is_fired ran all item (entered s (how, inside) h) = absurd (no_opening ran s item (all (items.Enter s, how) inside).1 h)

  -- so each item that has run is one of these
  pub gone_fired : (ran : List (Item × How)) → HasGone m (Fires routes) now ran → RanFired ran
  gone_fired _ (begun is) x inside = absurd (nothing_in_nil x inside)
  gone_fired _ (more {ran = ran} item how before ready truth way) x inside =
      let is = called_is_fired ran (gone_fired ran before) item ready.waiting.called in
      let lone = is.there.lone in
      let memory : Memory = RemembersSoFar m (course_by (Fires routes) now ran) in
      let none : how ≡ Nothing = no_way m truth memory lone.source lone.target is.there.at item how is.form way in
      ⊎_elim
      (λ was. gone_fired ran before x was)
      (λ same. subst (λ (y : Item × How). (y.1 ≡ Nothing) × IsFired m now routes y.0) same (none, is))
      (Contains-push_cases ran (item, how) x inside)

  -- routes of one home have one transition
  pub one_transition : (p q : Route) (f : FiresAt m now p) (g : FiresAt m now q) → f.lone.home ≡ g.lone.home
      → (f.at ≡ g.at) × (f.lone.source ≡ g.lone.source) × (f.lone.target ≡ g.lone.target)
  one_transition p q f g home =
      let source : f.lone.source ≡ g.lone.source =
      is_source q g f.lone.source f.active (f.lone.source_home ∙ ap (λ r. Some (Region r)) home) in
      let at : f.at ≡ g.at = calm.one_step f.at g.at g.lone.source (subst (λ v. Leaves m f.at v) source f.lone.leaves) g.lone.leaves in
      let target : f.lone.target ≡ g.lone.target =
      enters_one m g.at f.lone.target g.lone.target (subst (λ t. Enters m t f.lone.target) at f.lone.enters) g.lone.enters in
      (at, source, target)
