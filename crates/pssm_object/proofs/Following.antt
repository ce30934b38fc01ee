-- What the code asks of an entry that is accepted.
use Rattle.std.proofs.Common.{◌≡◌, ℕ, List, IfSome, IsSomeAnd, Option, Some, None, refl, inl, inr}
use Rattle.pssm_model.specs.declared.ids.VertexId.{VertexId}
use Rattle.pssm_model.specs.declared.ids.RegionId.{RegionId}
use Rattle.pssm_model.specs.declared.elements.DraftMachine.{DraftMachine}
use Rattle.pssm_model.specs.declared.steps.Firing.{Firing}
use Rattle.pssm_model.specs.declared.steps.Event.TheVariants.{Signal, Completion}
use Rattle.pssm_model.specs.declared.steps.Mode.{Mode}
use Rattle.pssm_model.specs.declared.steps.How.{How}
use Rattle.pssm_model.specs.declared.steps.How.TheVariants.{By, Nothing}
use Rattle.pssm_model.specs.declared.steps.Item.{Item}
use Rattle.pssm_model.specs.declared.steps.Item.TheVariants as items
use Rattle.pssm_model.specs.Configuration.{Configuration}
use Rattle.pssm_model.specs.Order.{IsReady, IsWayNow}
use Rattle.pssm_model.specs.Routes.{Truth}
use Rattle.pssm_config.specs.Tables.{CanEnter, configuration_of}
use Rattle.pssm_plan.specs.Agenda.{Agenda, course_of}
use Rattle.pssm_plan.specs.Steadiness.{changed_along}
use Rattle.pssm_plan.proofs.RouteSteps.{gone_by_routes}
use Rattle.pssm_plan.proofs.RouteItems.{called_is}
use Rattle.pssm_plan.proofs.StepLengths.{IsThere, called_there}
use Rattle.pssm_plan.proofs.SteadyChanges.{exit_is_active}
use Rattle.pssm_plan.proofs.Steadiness.{may_enter}
use Rattle.pssm_semantics.specs.declared.entry.Entry.{Entry}
use Rattle.pssm_semantics.specs.declared.entry.Entry.TheVariants.{Post, Start, Take, Done, Exit, Effect, Enter, Opened, Pick, DoStep}
use Rattle.pssm_semantics.specs.declared.setting.Class.{Class}
use Rattle.pssm_semantics.specs.Journal.{IsMemory}
use Rattle.pssm_semantics.specs.Values.{eight_of, no_params}
use Rattle.pssm_semantics.specs.Behaviours.{guards_under}
use Rattle.pssm_semantics.specs.Classes.{IsWellFormedClass}
use Rattle.pssm_pool.specs.declared.pools.Waiting.{Waiting}
use Rattle.pssm_object.specs.Standing.{Standing, AreActiveAlike, IsUnderWay, StandsAfter}
use Rattle.pssm_object.specs.Following.{NamesSignal}
use Rattle.pssm_object.specs.inner.Choosing.{IsItemThere}
use Rattle.pssm_object.specs.inner.Firing.{IsOpeningWay}
use Rattle.pssm_object.specs.inner.Working.{HasPlace}
use Rattle.pssm_object.specs.inner.Judging.{FiresHere, JudgesItem, JudgesLiving, Judges}
use Rattle.pssm_object.specs.inner.Advancing.{CanChange, CanRunIn, CanTake, CanFollow}
use Rattle.pssm_object.proofs.Fired.{fired_state_route}
use Rattle.pssm_object.proofs.Rules.{called_item_there}
use Rattle.pssm_object.proofs.Remembering.{ways_alike, way_in_step}
use Rattle.pssm_object.proofs.Standings.{plan_of, step_of, along_of}

-- what may be entered in a configuration may be where as much is active
enter_alike : (m : DraftMachine) (a b : Configuration) (s : VertexId) → AreActiveAlike b a → CanEnter m a s → CanEnter m b s
enter_alike m a b s same h = record { state = h.state; vacant = λ r v here there active. h.vacant r v here there ((same v).0 active) }

module _ (class : Class) (b : IsWellFormedClass class) {J : List Entry} {x : Standing} (s : StandsAfter class J x) where
  abbrev m : DraftMachine
  m = class.machine

  -- a ready item is of the machine
  pub ready_there : (p : Agenda) → x.plan ≡ Some p → (y : Item) → IsReady m (course_of p) y → IsThere m y
  ready_there p is y ready =
      let u = step_of s p is in
      called_there s.fits.shape b.rules p.head (configuration_of p.at_head) p.ran u.gone y
      (called_is b.rules s.fits.shape (course_of p)
      (gone_by_routes b.rules s.fits.shape p.head (configuration_of p.at_head) p.ran u.gone) y ready.waiting.called)

  pub ready_item_there : (p : Agenda) → x.plan ≡ Some p → (y : Item) → IsReady m (course_of p) y → IsItemThere m y
  ready_item_there p is y ready =
      let u = step_of s p is in called_item_there s.fits.shape b.rules p.head (configuration_of p.at_head) p.ran u.gone y ready.waiting.called

  place_of : (y : Item) → IsThere m y → HasPlace m y
  place_of (items.Exit v) there = there
  place_of (items.Effect t) there = there
  place_of (items.Enter v) there = there.0
  place_of (items.Opened r mode) there = tt
  place_of (items.Pick c) there = tt

  -- the configuration may change as a ready item does
  change_by : (p : Agenda) → x.plan ≡ Some p → (y : Item) → IsReady m (course_of p) y → IsItemThere m y → CanChange m (configuration_of x.config) y
  change_by p is y ready there = by y ready there
    where
      u : IsUnderWay m J x.own p.head (configuration_of p.at_head) p.ran
      u = step_of s p is

      by : (z : Item) → IsReady m (course_of p) z → IsItemThere m z → CanChange m (configuration_of x.config) z
      by (items.Exit v) ready there =
          (along_of s p is v).1
          (exit_is_active s.fits.shape b.rules p.head (configuration_of p.at_head) u.begins p.ran u.gone v ready.waiting)
      by (items.Enter v) ready there =
          enter_alike m (changed_along m (configuration_of p.at_head) p.ran) (configuration_of x.config) v (along_of s p is)
          (may_enter s.fits.shape b.rules p.head (configuration_of p.at_head) u.begins p.ran u.gone v ready)
      by (items.Opened r mode) ready there = there
      by (items.Effect t) ready there = tt
      by (items.Pick c) ready there = tt

  -- the way of an item has guards that are true where the object stands
  pub can_run_here : (truth : Truth) (y : Item) (how : How)
      → ((p : Agenda) → IsReady m (course_of p) y → x.plan ≡ Some p → IsWayNow m truth (course_of p) y how)
      → JudgesItem m x.plan y None → CanRunIn class x y how
  can_run_here truth y how way (p, is, ready) = record {
    can_run = record { here = p; here_is = is; is_plan = plan_of s p is; ready = ready; way = (truth, way p ready is) };
    can_change = change_by p is y ready (ready_item_there p is y ready);
    place = place_of y (ready_there p is y ready);
  }

  -- the guards where the object stands
  abbrev pub here : Truth
  here = guards_under class x.store x.params

  -- a way in which a region opens there is one by what the step remembers
  pub opens_now : (r : RegionId) (mode : Mode) (how : How) → IsOpeningWay class x.config x.store x.params r mode how → (p : Agenda)
      → IsReady m (course_of p) (items.Opened r mode) → x.plan ≡ Some p → IsWayNow m here (course_of p) (items.Opened r mode) how
  opens_now r mode how opens p ready is =
      way_in_step (step_of s p is) here (items.Opened r mode) how
      (ways_alike m here (configuration_of x.config).Remembers (IsMemory m J x.own) (items.Opened r mode) how s.now_is.remembered opens)

  -- a take has a signal, and fires routes of States
  can_take : (signal : Option Waiting) (number : ℕ) (firing : Firing) → IsSomeAnd signal (λ w. number ≡ w.number)
      → IfSome signal (FiresHere class x firing.routes) → CanTake m firing.routes signal
  can_take None number firing named fires = named
  can_take (Some w) number firing named fires = λ route inside.
      fired_state_route m (configuration_of x.config) (guards_under class x.store (eight_of w.args)) (Signal w.signal) firing.routes fires route inside

  can_follow_living : (signal : Option Waiting) (e : Entry) → NamesSignal signal e → JudgesLiving class x signal e None → CanFollow class x signal e
  can_follow_living signal (Post o g args) named h = tt
  can_follow_living signal (Start o) named h = tt
  can_follow_living signal (Take o number firing) named h = can_take signal number firing named h.2
  can_follow_living signal (Done o v firing) named h = (
    λ route inside.
        fired_state_route m (configuration_of x.config) (guards_under class x.store no_params) (Completion v) firing.routes h.2 route inside,
    h.1,
  )
  can_follow_living signal (Exit o v outs) named h = can_run_here here (items.Exit v) Nothing (λ p ready is. refl) h.0
  can_follow_living signal (Effect o t outs) named h = can_run_here here (items.Effect t) Nothing (λ p ready is. refl) h.0
  can_follow_living signal (Enter o v outs) named h = can_run_here here (items.Enter v) Nothing (λ p ready is. refl) h.0
  can_follow_living signal (Opened o r mode how) named h = can_run_here here (items.Opened r mode) how (opens_now r mode how h.1) h.0
  can_follow_living signal (Pick o v route) named h = can_run_here here (items.Pick v) (By route) (λ p ready is. h.1) h.0
  can_follow_living signal (DoStep o v k outs) named (inl (none, clash)) = absurd (cc)
  can_follow_living signal (DoStep o v k outs) named (inr (started, h)) = h.0

  pub can_follow : (signal : Option Waiting) (e : Entry) → NamesSignal signal e → Judges class x signal e None → CanFollow class x signal e
  can_follow signal e named (inl (past, clash)) = absurd (cc)
  can_follow signal e named (inr (lives, h)) = can_follow_living signal e named h
