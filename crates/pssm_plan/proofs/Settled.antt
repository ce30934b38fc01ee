-- A settled roster of what a step calls is its plan; the plans of a start, of routes that fire, and of one more item that runs.
use Rattle.std.proofs.Common.{◌≡◌, ◌⊎◌, ◌↔◌, ◌<◌, ◌++◌, ℕ, List, [], ◌∷◌, length, get_or, Contains, IsTrue, refl, sym, ap, subst, inl, inr, ⊎_elim, arith, ◌∙◌}
use Rattle.std.proofs.lemmas.Bool.{false≢true}
use Rattle.std.proofs.lemmas.Option.{slice_get_within}
use Rattle.std.proofs.lemmas.List.{get_or_default}
use Rattle.std.proofs.lemmas.List.Elements.{Contains-get_or}
use Rattle.pssm_model.specs.declared.ids.VertexId.{VertexId}
use Rattle.pssm_model.specs.declared.ids.RegionId.{RegionId}
use Rattle.pssm_model.specs.declared.elements.DraftMachine.{DraftMachine}
use Rattle.pssm_model.specs.declared.elements.Vertex.{Vertex}
use Rattle.pssm_model.specs.declared.elements.VertexKind.{VertexKind}
use Rattle.pssm_model.specs.declared.elements.VertexKind.TheVariants as kinds
use Rattle.pssm_model.specs.declared.steps.Route.{Route}
use Rattle.pssm_model.specs.declared.steps.Mode.{Mode}
use Rattle.pssm_model.specs.declared.steps.Mode.TheVariants.{Plain, Shallow, Deep}
use Rattle.pssm_model.specs.declared.steps.How.{How}
use Rattle.pssm_model.specs.declared.steps.How.TheVariants.{By, Restore, Nothing}
use Rattle.pssm_model.specs.declared.steps.Item.{Item}
use Rattle.pssm_model.specs.declared.steps.Item.TheVariants as items
use Rattle.pssm_model.specs.Forest.{HasKind, vertex_at}
use Rattle.pssm_model.specs.Shapes.{HasShape}
use Rattle.pssm_model.specs.Routes.{Truth, IsStateRoute}
use Rattle.pssm_model.specs.Course.{Head, Course, FiresBy, HasRun}
use Rattle.pssm_model.specs.Course.Head.{Starts, Fires}
use Rattle.pssm_model.specs.Items.{StartOpens, Called, Before}
use Rattle.pssm_model.specs.Items.Called.{start}
use Rattle.pssm_model.specs.Order.{HasGone, IsReady, IsWayNow, course_by}
use Rattle.pssm_model.specs.Order.HasGone.{begun, more}
use Rattle.pssm_model.specs.Ways.{Memory, IsWay}
use Rattle.pssm_model.specs.Changes.{Agree, nothing_yet}
use Rattle.pssm_model.proofs.ElementLaws.{nothing_in_nil, mapped_some}
use Rattle.pssm_config.specs.Tables.{Tables, configuration_of}
use Rattle.pssm_plan.specs.declared.ways.Way.{Way}
use Rattle.pssm_plan.specs.declared.roster.Call.{Call}
use Rattle.pssm_plan.specs.declared.progress.Restored.{Restored}
use Rattle.pssm_plan.specs.declared.progress.Progress.{Progress}
use Rattle.pssm_plan.specs.Agenda.{Agenda, course_of}
use Rattle.pssm_plan.specs.Waiting.{HoldsUp, IsMetBefore, IsExact}
use Rattle.pssm_plan.specs.Ways.{AreWaysOf}
use Rattle.pssm_plan.specs.Plans.{IsPlanOf}
use Rattle.pssm_plan.specs.inner.Marks.{IsListed, IsMarked, IsNoted, IsAlike, ArePairwise}
use Rattle.pssm_plan.specs.inner.Sequence.{IsSequence, IsRoster, IsExtended}
use Rattle.pssm_plan.specs.inner.Calling.{IsTopOpening, MayRun, IsNoExit, IsOfWays, IsLate, IsOfRestored, IsEntered}
use Rattle.pssm_plan.specs.inner.Going.{IsMadeOf, AreFired, AreCovered, CanRunSo, IsFollowedRestoring, IsFollowedSo, IsRunSo}
use Rattle.pssm_plan.specs.inner.Views.{nothing_held, shown}
use Rattle.pssm_plan.proofs.MoreRan.{gone_on, nothing_ran, run_more}
use Rattle.pssm_plan.proofs.WayLaws.{called_is, called_of, before_both, called_there}
use Rattle.pssm_plan.proofs.RouteSteps.{late_is_step}
use Rattle.pssm_plan.proofs.CalledNext.{restored_one, called_kept, called_by, called_restoring, called_plainly, ways_by, ways_restoring, ways_plainly}
use Rattle.pssm_plan.proofs.Rewriting.{marked_along, listed_along, alike_back, roster_along}
use Rattle.pssm_plan.proofs.Settling.{set_or_not, exact_same}
use Rattle.pssm_plan.proofs.Passes.{pairs_further}
use Rattle.pssm_plan.proofs.Shown.{shown_pairs, shown_exact, shown_listed, shown_marked}
use Rattle.pssm_plan.proofs.StandingItems.{one_call}

-- a settled roster of what the step calls is its plan
module _ {m : DraftMachine} (head : Head) (tables : Tables) (ran : List (Item × How)) (gone : HasGone m head (configuration_of tables) ran)
    (ways : List Way) (states : List Restored) (are : AreWaysOf m (course_by head (configuration_of tables) ran) ways states) where
  pub settled_plan : (calls new : List Call) → IsRoster m calls
      → ((x : Item) → IsListed calls x ↔ Called m (course_by head (configuration_of tables) ran) x)
      → ((x : Item) → IsMarked calls x ↔ HasRun (course_by head (configuration_of tables) ran) x)
      → ArePairwise IsAlike calls new → ((k : ℕ) (d : Call) → k < length new → IsExact (IsSequence m ways) new k (get_or new k d))
      → IsPlanOf m (record { head = head; at_head = tables; ran = ran; calls = new; ways = ways; restored = states })
  settled_plan calls new r listed marked settled sure = record {
    step = gone;
    called = λ x. (λ h. (listed x).0 (back x h), λ h. on x ((listed x).1 h));
    once = (roster_along m calls new settled.0 same_items r).once;
    ran = λ x. (
      λ h. (marked x).0 (marked_along new calls x (alike_back calls new alike) h),
      λ h. marked_along calls new x alike ((marked x).1 h),
    );
    blocked = λ call inside. (is_blocked call inside, blocks call inside);
    exact = exact;
    ways = are;
  }
    where
      course : Course
      course = course_by head (configuration_of tables) ran

      same_items : (k : ℕ) (d : Call) → k < length calls → (get_or new k d).item ≡ (get_or calls k d).item
      same_items k d lt = (settled.1 k d lt).item_is

      alike : (length new ≡ length calls)
          × ((k : ℕ) (d : Call) → k < length calls → ((get_or new k d).item ≡ (get_or calls k d).item) × ((get_or new k d).ran ≡ (get_or calls k d).ran))
      alike = (settled.0, λ k d lt. ((settled.1 k d lt).item_is, (settled.1 k d lt).ran))

      on : (x : Item) → IsListed calls x → IsListed new x
      on x h = listed_along calls new x settled.0 same_items h

      back : (x : Item) → IsListed new x → IsListed calls x
      back x h = listed_along new calls x (sym settled.0) (λ k d lt. sym (same_items k d (omega (arith, settled.0)))) h

      called_at : (call : Call) → Contains new call → Called m course call.item
      called_at call inside = (listed call.item).0 (back call.item (call, inside, refl))

      exact : (k : ℕ) (d : Call) → k < length new → IsExact (Before m course) new k (get_or new k d)
      exact k d lt =
          let call = get_or new k d in
          let inside : Contains new call = Contains-get_or new k d lt in
          exact_same (IsSequence m ways) (Before m course) new k call
          (λ j e less. before_both course ways states are (get_or new j e).item call.item
          (called_at (get_or new j e) (Contains-get_or new j e less)) (called_at call inside))
          (sure k d lt)

      exact_of : (call : Call) (inside : Contains new call) → IsExact (Before m course) new inside.0 call
      exact_of call inside = subst (λ (c : Call). IsExact (Before m course) new inside.0 c) inside.2 (exact inside.0 call inside.1)

      run_at : (call : Call) → Contains new call → (IsTrue call.ran → ⊥) → HasRun course call.item → ⊥
      run_at call inside not run =
          let mark = marked_along calls new call.item alike ((marked call.item).1 run) in
          not (subst (λ (c : Call). IsTrue c.ran)
          (one_call new (roster_along m calls new settled.0 same_items r).once mark.0 call mark.1 inside mark.2) mark.3)

      is_blocked : (call : Call) → Contains new call → IsTrue call.blocked
          → (x : Item) × Called m course x × Before m course x call.item × (HasRun course x → ⊥)
      is_blocked call inside true =
          let waits = (exact_of call inside).waits true in
          let on = get_or new call.seen call in
          let here : Contains new on = Contains-get_or new call.seen call waits.0 in
          let up = waits.1 call in
          (on.item, called_at on here, up.0, run_at on here up.1)

      blocks : (call : Call) → Contains new call → (x : Item) × Called m course x × Before m course x call.item × (HasRun course x → ⊥)
          → IsTrue call.blocked
      blocks call inside h =
          ⊎_elim
          (λ is. is)
          (λ free. (
          let is = exact_of call inside in
          let at = on h.0 ((listed h.0).1 h.1) in
          let all = is.through free in
          let low : IsMetBefore inside.0 call.seen at.1.0 = inr (omega (arith, all, inside.1), omega (arith, all, at.1.1)) in
          let before = subst (λ (i : Item). Before m course i call.item) (sym at.2) h.2 in
          let waiting : IsTrue (at.0).ran → ⊥ = (λ ran. h.3 ((marked h.0).0 (marked_along new calls h.0 (alike_back calls new alike) (at.0, at.1, at.2, ran)))) in
          absurd (is.passed at.1.0 at.0 low at.1.1
          (subst (λ (c : Call). HoldsUp (Before m course) c call.item) (sym at.1.2) (before, waiting)))
          ))
          (set_or_not call.blocked)

-- a roster of what the head calls is its plan
made_plan : {m : DraftMachine} (head : Head) (tables : Tables) (ways : List Way) (Added : Item → Type 0) (calls : List Call)
    → ((route : Route) → FiresBy head route → IsStateRoute m route) → AreWaysOf m (course_by head (configuration_of tables) []) ways []
    → ((x : Item) → Added x ↔ Called m (course_by head (configuration_of tables) []) x) → IsMadeOf m ways Added calls
    → IsPlanOf m (record { head = head; at_head = tables; ran = []; calls = shown calls; ways = ways; restored = [] })
made_plan {m} head tables ways Added calls fires are same made =
    settled_plan head tables [] (begun fires) ways [] are calls (shown calls) made.roster
    (λ x. (λ h. (same x).0 ((made.listed x).0 h), λ h. (made.listed x).1 ((same x).1 h)))
    (λ x. (λ h. absurd (made.marked x h), λ h. absurd (nothing_ran head (configuration_of tables) x h)))
    (shown_pairs calls) (shown_exact (IsSequence m ways) calls made.sure)

-- the roster of a plan
module _ (m : DraftMachine) (shape : HasShape m) (plan : Agenda) (h : IsPlanOf m plan) where
  pub plan_roster : IsRoster m plan.calls
  plan_roster = record {
    items = λ x listed. called_there (course_of plan) plan.ways plan.restored h.ways shape h.step x ((h.called x).0 listed);
    once = h.once;
  }

  -- its calls say exactly for which they wait, as its ways say it
  pub plan_exact : (k : ℕ) (d : Call) → k < length plan.calls → IsExact (IsSequence m plan.ways) plan.calls k (get_or plan.calls k d)
  plan_exact k d lt =
      exact_same (Before m (course_of plan)) (IsSequence m plan.ways) plan.calls k (get_or plan.calls k d)
      (λ j e less. ((both j e less).1, (both j e less).0)) (h.exact k d lt)
    where
      both : (j : ℕ) (e : Call) → j < length plan.calls
          → IsSequence m plan.ways (get_or plan.calls j e).item (get_or plan.calls k d).item
          ↔ Before m (course_of plan) (get_or plan.calls j e).item (get_or plan.calls k d).item
      both j e less =
          let on = get_or plan.calls j e in
          let call = get_or plan.calls k d in
          before_both (course_of plan) plan.ways plan.restored h.ways on.item call.item
          ((h.called on.item).0 (on, Contains-get_or plan.calls j e less, refl))
          ((h.called call.item).0 (call, Contains-get_or plan.calls k d lt, refl))

may_run : (course : Course) (x : Item) → IsNoExit x → MayRun course.at_head x
may_run course (items.Exit s) none = absurd none
may_run course (items.Effect t) none = tt
may_run course (items.Enter s) none = tt
may_run course (items.Opened r mode) none = tt
may_run course (items.Pick c) none = tt

-- what its ways call is listed, but for exits
pub plan_covered : (m : DraftMachine) (plan : Agenda) → IsPlanOf m plan → AreCovered m plan.ways plan.calls
plan_covered m plan h way x inside none calls =
    (h.called x).1 (called_of (course_of plan) plan.ways plan.restored h.ways x (inr (inl (way, inside, may_run (course_of plan) x none, calls))))

-- the tables of a start hold the configuration before anything has happened
pub nothing_at_start : Agree (configuration_of nothing_held) nothing_yet
nothing_at_start = record {
  active = λ s. (λ h. absurd (false≢true h), λ h. absurd h);
  remembered = λ r s. (λ h. cc, λ h. absurd h);
  stepped = λ s k. (λ h. (let lt : k < 0 = h in omega arith), λ h. absurd h);
  left_empty = λ r. (λ h. absurd (false≢true h), λ h. absurd h);
}

-- the plan of a start
pub start_plan : {m : DraftMachine} (calls : List Call) → IsMadeOf m [] (IsTopOpening m) calls
    → IsPlanOf m (record { head = Starts; at_head = nothing_held; ran = []; calls = shown calls; ways = []; restored = [] })
start_plan {m} calls made =
    made_plan Starts nothing_held [] (IsTopOpening m) calls (λ route is. absurd is) none_yet (λ x. (up x, down x)) made
  where
    course : Course
    course = course_by Starts (configuration_of nothing_held) []

    none_yet : AreWaysOf m course [] []
    none_yet = record {
      legs = λ way h. absurd (nothing_in_nil way h);
      taken = λ p. (
        λ h. absurd (nothing_in_nil h.0 h.1),
        λ h. ⊎_elim (λ fires. absurd fires) (λ gone. absurd (nothing_in_nil (gone.0, By p) gone.1)) h,
      );
      fired = λ p. (λ h. absurd (nothing_in_nil h.0 h.1), λ fires. absurd fires);
      restored = λ mode s. (
        λ h. absurd (nothing_in_nil (restored_one mode s) h),
        λ was. absurd (nothing_in_nil (items.Opened was.0 mode, Restore s) was.1),
      );
    }

    up : (x : Item) → IsTopOpening m x → Called m course x
    up x h = start (subst (λ (y : Item). StartOpens m Starts y) (sym h.1) h.2)

    top : (x : Item) → StartOpens m Starts x → IsTopOpening m x
    top (items.Opened r Plain) h = (r, refl, h)
    top (items.Opened r Shallow) h = absurd h
    top (items.Opened r Deep) h = absurd h
    top (items.Exit s) h = absurd h
    top (items.Effect t) h = absurd h
    top (items.Enter s) h = absurd h
    top (items.Pick c) h = absurd h

    down : (x : Item) → Called m course x → IsTopOpening m x
    down x h =
        ⊎_elim
        (λ starts. top x starts)
        (⊎_elim
        (λ of. absurd (nothing_in_nil of.0 of.1))
        (⊎_elim
        (λ entry. absurd (nothing_in_nil (items.Opened entry.2.0 entry.0, Restore entry.1) entry.2.1))
        (λ after. absurd (nothing_ran Starts (configuration_of nothing_held) (items.Enter after.0) after.1))))
        (called_is course [] [] none_yet x h)

-- the plan of routes that fire
pub firing_plan : {m : DraftMachine} (tables : Tables) (routes : List Route) (ways : List Way) (calls : List Call)
    → ((route : Route) → Contains routes route → IsStateRoute m route) → AreFired m routes ways
    → IsMadeOf m ways (IsOfWays m (configuration_of tables) ways) calls
    → IsPlanOf m (record { head = Fires routes; at_head = tables; ran = []; calls = shown calls; ways = ways; restored = [] })
firing_plan {m} tables routes ways calls fires fired made =
    made_plan (Fires routes) tables ways (IsOfWays m (configuration_of tables) ways) calls fires are (λ x. (up x, down x)) made
  where
    course : Course
    course = course_by (Fires routes) (configuration_of tables) []

    are : AreWaysOf m course ways []
    are = record {
      legs = fired.inside;
      taken = λ p. (
        λ h. inl ((fired.taken p).0 h),
        λ h. ⊎_elim (λ is. (fired.taken p).1 is) (λ gone. absurd (nothing_in_nil (gone.0, By p) gone.1)) h,
      );
      fired = fired.fired;
      restored = λ mode s. (
        λ h. absurd (nothing_in_nil (restored_one mode s) h),
        λ was. absurd (nothing_in_nil (items.Opened was.0 mode, Restore s) was.1),
      );
    }

    up : (x : Item) → IsOfWays m (configuration_of tables) ways x → Called m course x
    up x h = called_of course ways [] are x (inr (inl h))

    down : (x : Item) → Called m course x → IsOfWays m (configuration_of tables) ways x
    down x h =
        ⊎_elim
        (λ starts. absurd starts)
        (⊎_elim
        (λ of. of)
        (⊎_elim
        (λ entry. absurd (nothing_in_nil (items.Opened entry.2.0 entry.0, Restore entry.1) entry.2.1))
        (λ after. absurd (nothing_ran (Fires routes) (configuration_of tables) (items.Enter after.0) after.1))))
        (called_is course ways [] are x h)

-- what is of a kind is there
kind_there : (m : DraftMachine) (s : VertexId) (kind : VertexKind) → HasKind m s kind → s.0 < length m.vertices
kind_there m s kind h =
    let at = mapped_some (λ (x : Vertex). x.kind) (vertex_at m s) kind h in
    slice_get_within m.vertices s.0 at.0 at.1

-- a way of an item is one in which it may run
pub can_run_so : (m : DraftMachine) (truth : Truth) (memory : Memory) (item : Item) (how : How) → IsWay m truth memory item how → CanRunSo m item how
can_run_so m truth memory (items.Exit s) how way = subst (λ (w : How). CanRunSo m (items.Exit s) w) (sym way) tt
can_run_so m truth memory (items.Effect t) how way = subst (λ (w : How). CanRunSo m (items.Effect t) w) (sym way) tt
can_run_so m truth memory (items.Enter s) how way = subst (λ (w : How). CanRunSo m (items.Enter s) w) (sym way) tt
can_run_so m truth memory (items.Pick c) (By p) way = late_is_step m truth c p way
can_run_so m truth memory (items.Pick c) (Restore s) way = absurd way
can_run_so m truth memory (items.Pick c) Nothing way = absurd way
can_run_so m truth memory (items.Opened r Plain) (By p) way = late_is_step m truth way.0 p way.2
can_run_so m truth memory (items.Opened r Plain) (Restore s) way = absurd way
can_run_so m truth memory (items.Opened r Plain) Nothing way = tt
can_run_so m truth memory (items.Opened r Shallow) (By p) way =
    ⊎_elim (λ by. late_is_step m truth by.0 p by.2) (λ default. late_is_step m truth default.1.0 p default.1.2) way.1
can_run_so m truth memory (items.Opened r Shallow) (Restore s) way = (kind_there m s kinds.State way.1, (r, Shallow, refl))
can_run_so m truth memory (items.Opened r Shallow) Nothing way = tt
can_run_so m truth memory (items.Opened r Deep) (By p) way =
    ⊎_elim (λ by. late_is_step m truth by.0 p by.2) (λ default. late_is_step m truth default.1.0 p default.1.2) way.1
can_run_so m truth memory (items.Opened r Deep) (Restore s) way = (kind_there m s kinds.State way.1, (r, Deep, refl))
can_run_so m truth memory (items.Opened r Deep) Nothing way = tt

-- an item that goes by a route is no entry
no_entry : (m : DraftMachine) (truth : Truth) (memory : Memory) (item : Item) (how : How) → IsWay m truth memory item how
    → (p : Route) → how ≡ By p → (s : VertexId) → items.Enter s ≡ item → ⊥
no_entry m truth memory (items.Enter q) how way p e s same = let clash = way in absurd (cc)
no_entry m truth memory (items.Exit q) how way p e s same = let clash = same in absurd (cc)
no_entry m truth memory (items.Effect t) how way p e s same = let clash = same in absurd (cc)
no_entry m truth memory (items.Opened r mode) how way p e s same = let clash = same in absurd (cc)
no_entry m truth memory (items.Pick c) how way p e s same = let clash = same in absurd (cc)

-- what is listed is what the step calls that has gone on, and what is marked is what had run before
record IsGoneOn (m : DraftMachine) (course next : Course) (grown : Progress) : Type 0 where
  roster : IsRoster m grown.roster.calls.items
  listed : (x : Item) → IsListed grown.roster.calls.items x ↔ Called m next x
  marked : (x : Item) → IsMarked grown.roster.calls.items x ↔ HasRun course x
  ways : AreWaysOf m next grown.ways.items grown.restored.items

-- what an item calls is listed
module _ {m : DraftMachine} (course next : Course) (calls : List Call) (listed : (x : Item) → IsListed calls x ↔ Called m course x)
    (ran : (x : Item) → IsMarked calls x ↔ HasRun course x) (Added : Item → Type 0)
    (same : (x : Item) → Called m next x ↔ (Called m course x ⊎ Added x)) (grown : Progress) where
  goes_on : IsExtended m calls Added grown.roster.calls.items → AreWaysOf m next grown.ways.items grown.restored.items
      → IsGoneOn m course next grown
  goes_on extended are = record {
    roster = extended.roster;
    listed = λ x. (
      λ h. (same x).1 (⊎_elim (λ was. inl ((listed x).0 was)) (λ added. inr added) ((extended.listed x).0 h)),
      λ h. (extended.listed x).1 (⊎_elim (λ was. inl ((listed x).1 was)) (λ added. inr added) ((same x).0 h)),
    );
    marked = λ x. (λ h. (ran x).0 ((extended.marked x).0 h), λ h. (extended.marked x).1 ((ran x).1 h));
    ways = are;
  }

module _ {m : DraftMachine} (course : Course) where
  followed_restoring : (old new : Progress) (r : RegionId) (mode : Mode) (s : VertexId)
      → AreWaysOf m course old.ways.items old.restored.items
      → ((x : Item) → IsListed old.roster.calls.items x ↔ Called m course x)
      → ((x : Item) → IsMarked old.roster.calls.items x ↔ HasRun course x) → IsFollowedRestoring m old mode s new
      → IsGoneOn m course (gone_on course (items.Opened r mode) (Restore s)) new
  followed_restoring old new r mode s are listed ran h =
      goes_on course (gone_on course (items.Opened r mode) (Restore s)) old.roster.calls.items listed ran
      (IsOfRestored m old.roster.calls.items mode s)
      (called_restoring course old.ways.items old.restored.items are old.roster.calls.items (λ v. ran (items.Enter v)) r mode s)
      new h.extended
      (subst (λ (l : List Way). AreWaysOf m (gone_on course (items.Opened r mode) (Restore s)) l new.restored.items) (sym h.ways)
      (subst (λ (l : List Restored). AreWaysOf m (gone_on course (items.Opened r mode) (Restore s)) old.ways.items l) (sym h.restored)
      (ways_restoring course old.ways.items old.restored.items are r mode s)))

  followed_so : (item : Item) (how : How) (old new : Progress) → AreWaysOf m course old.ways.items old.restored.items
      → ((x : Item) → IsListed old.roster.calls.items x ↔ Called m course x)
      → ((x : Item) → IsMarked old.roster.calls.items x ↔ HasRun course x)
      → ((p : Route) → how ≡ By p → (s : VertexId) → items.Enter s ≡ item → ⊥) → IsFollowedSo m old item how new
      → IsGoneOn m course (gone_on course item how) new
  followed_so item (By p) old new are listed ran none h =
      goes_on course (gone_on course item (By p)) old.roster.calls.items listed ran (IsLate m old.roster.calls.items h.way)
      (called_by course old.ways.items old.restored.items are old.roster.calls.items (λ v. ran (items.Enter v)) item p h.way h.inside h.route h.late
      (none p refl))
      new h.extended
      (subst (λ (l : List Way). AreWaysOf m (gone_on course item (By p)) l new.restored.items) (sym h.ways)
      (subst (λ (l : List Restored). AreWaysOf m (gone_on course item (By p)) (old.ways.items ++ h.way ∷ []) l) (sym h.restored)
      (ways_by course old.ways.items old.restored.items are item p h.way h.inside h.route h.late)))
  followed_so item (Restore s) old new are listed ran none h =
      subst (λ (i : Item). IsGoneOn m course (gone_on course i (Restore s)) new) (sym h.2)
      (followed_restoring old new h.0 h.1 s are listed ran h.3)
  followed_so item Nothing old new are listed ran none h =
      goes_on course (gone_on course item Nothing) old.roster.calls.items listed ran
      (IsEntered m old.ways.items old.restored.items item)
      (called_plainly course old.ways.items old.restored.items are item) new h.extended
      (subst (λ (l : List Way). AreWaysOf m (gone_on course item Nothing) l new.restored.items) (sym h.ways)
      (subst (λ (l : List Restored). AreWaysOf m (gone_on course item Nothing) old.ways.items l) (sym h.restored)
      (ways_plainly course old.ways.items old.restored.items are item)))

-- what is marked once an item is noted
noted_marks : (grown now : List Call) (item : Item) → ArePairwise (IsNoted item) grown now → IsListed grown item
    → (x : Item) → IsMarked now x ↔ (IsMarked grown x ⊎ (x ≡ item))
noted_marks grown now item noted listed x = (down, up)
  where
    down : IsMarked now x → IsMarked grown x ⊎ (x ≡ item)
    down h =
        let k = h.1.0 in
        let lt : k < length grown = omega (arith, noted.0, h.1.1) in
        let at = get_or grown k h.0 in
        let s = noted.1 k h.0 lt in
        let same : at.item ≡ x = sym s.item_is ∙ ap (λ (c : Call). c.item) h.1.2 ∙ h.2 in
        ⊎_elim
        (λ ran. inl (at, (k, lt, get_or_default grown k at h.0 lt), same, ran))
        (λ is. inr (sym same ∙ is))
        (s.ran.0 (subst (λ (c : Call). IsTrue c.ran) (sym h.1.2) h.3))

    marked_at : (c : Call) (inside : Contains grown c) → c.item ≡ x → (IsTrue c.ran ⊎ (c.item ≡ item)) → IsMarked now x
    marked_at c inside same ran =
        let k = inside.0 in
        let s = noted.1 k c inside.1 in
        let lt : k < length now = omega (arith, noted.0, inside.1) in
        let at = get_or now k c in (
          at,
          (k, lt, get_or_default now k at c lt),
          s.item_is ∙ ap (λ (c : Call). c.item) inside.2 ∙ same,
          s.ran.1 (subst (λ (c : Call). IsTrue c.ran ⊎ (c.item ≡ item)) (sym inside.2) ran),
        )

    up : IsMarked grown x ⊎ (x ≡ item) → IsMarked now x
    up h =
        ⊎_elim
        (λ m. marked_at m.0 m.1 m.2 (inl m.3))
        (λ e. marked_at listed.0 listed.1 (listed.2 ∙ sym e) (inr listed.2))
        h

-- what progress shows of a step
abbrev pub agenda_of : Head → Tables → List (Item × How) → Progress → Agenda
agenda_of head tables ran p =
    record { head = head; at_head = tables; ran = ran; calls = shown p.roster.calls.items; ways = p.ways.items; restored = p.restored.items }

-- the plan once a ready item has run
pub run_plan : {m : DraftMachine} (head : Head) (tables : Tables) (ran : List (Item × How)) (old new : Progress) (item : Item) (how : How)
    → IsPlanOf m (agenda_of head tables ran old) → IsReady m (course_by head (configuration_of tables) ran) item
    → (truth : Truth) → IsWayNow m truth (course_by head (configuration_of tables) ran) item how → IsRunSo m old item how new
    → IsPlanOf m (agenda_of head tables (ran ++ (item, how) ∷ []) new)
run_plan {m} head tables ran old new item how h ready truth way run =
    settled_plan head tables (ran ++ (item, how) ∷ []) (more item how h.step ready truth way) new.ways.items new.restored.items are
    now (shown new.roster.calls.items)
    (roster_along m grown now run.finished.noted.0 same_items next.roster) (λ x. (down x, up x)) marked
    (pairs_further now new.roster.calls.items (shown new.roster.calls.items) run.finished.alike (shown_pairs new.roster.calls.items))
    (shown_exact (IsSequence m new.ways.items) new.roster.calls.items run.finished.sure)
  where
    course : Course
    course = course_by head (configuration_of tables) ran

    grown : List Call
    grown = run.grown.roster.calls.items

    now : List Call
    now = run.finished.now

    called_raw : (x : Item) → IsListed old.roster.calls.items x ↔ Called m course x
    called_raw x = (
      λ l. (h.called x).0 ((shown_listed old.roster.calls.items x).1 l),
      λ c. (shown_listed old.roster.calls.items x).0 ((h.called x).1 c),
    )

    ran_raw : (x : Item) → IsMarked old.roster.calls.items x ↔ HasRun course x
    ran_raw x = (
      λ l. (h.ran x).0 ((shown_marked old.roster.calls.items x).1 l),
      λ c. (shown_marked old.roster.calls.items x).0 ((h.ran x).1 c),
    )

    next : IsGoneOn m course (gone_on course item how) run.grown
    next = followed_so course item how old run.grown h.ways called_raw ran_raw (no_entry m truth _ item how way) run.followed

    are : AreWaysOf m (gone_on course item how) new.ways.items new.restored.items
    are =
        subst (λ (l : List Way). AreWaysOf m (gone_on course item how) l new.restored.items) (sym run.ways)
        (subst (λ (l : List Restored). AreWaysOf m (gone_on course item how) run.grown.ways.items l) (sym run.restored) next.ways)

    same_items : (k : ℕ) (d : Call) → k < length grown → (get_or now k d).item ≡ (get_or grown k d).item
    same_items k d lt = (run.finished.noted.1 k d lt).item_is

    down : (x : Item) → IsListed now x → Called m (gone_on course item how) x
    down x l =
        (next.listed x).0
        (listed_along now grown x (sym run.finished.noted.0) (λ k d lt. sym (same_items k d (omega (arith, run.finished.noted.0)))) l)

    up : (x : Item) → Called m (gone_on course item how) x → IsListed now x
    up x c = listed_along grown now x run.finished.noted.0 same_items ((next.listed x).1 c)

    here : IsListed grown item
    here = (next.listed item).1 (called_kept course item how item ready.waiting.called)

    marked : (x : Item) → IsMarked now x ↔ HasRun (gone_on course item how) x
    marked x = (
      λ mk. (run_more course item how x).1
          (⊎_elim
          (λ was. inl ((next.marked x).0 was))
          (λ e. inr e)
          ((noted_marks grown now item run.finished.noted here x).0 mk)),
      λ r. (noted_marks grown now item run.finished.noted here x).1
          (⊎_elim
          (λ was. inl ((next.marked x).1 was))
          (λ e. inr e)
          ((run_more course item how x).0 r)),
    )
