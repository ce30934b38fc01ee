-- The verdict on one more entry is that of the rules.
use Rattle.std.proofs.Common.{◌≡◌, ◌↔◌, ◌+◌, ℕ, ℤ, List, Contains, IfSome, IsSomeAnd, Option, Some, None, refl, sym, ap, subst, ◌∙◌, inl, inr}
use Rattle.std.specs.Option.{option_map_or}
use Rattle.pssm_model.specs.declared.ids.VertexId.{VertexId}
use Rattle.pssm_model.specs.declared.ids.RegionId.{RegionId}
use Rattle.pssm_model.specs.declared.ids.TransId.{TransId}
use Rattle.pssm_model.specs.declared.ids.SignalId.{SignalId}
use Rattle.pssm_model.specs.declared.steps.Route.{Route}
use Rattle.pssm_model.specs.declared.steps.Firing.{Firing}
use Rattle.pssm_model.specs.declared.steps.Event.{Event}
use Rattle.pssm_model.specs.declared.steps.Event.TheVariants.{Signal, Completion}
use Rattle.pssm_model.specs.declared.steps.Mode.{Mode}
use Rattle.pssm_model.specs.declared.steps.How.{How}
use Rattle.pssm_model.specs.declared.steps.How.TheVariants.{By, Nothing}
use Rattle.pssm_model.specs.declared.steps.Item.{Item}
use Rattle.pssm_model.specs.declared.steps.Item.TheVariants as items
use Rattle.pssm_model.specs.declared.elements.DraftMachine.{DraftMachine}
use Rattle.pssm_model.specs.Configuration.{IsNextDoStep}
use Rattle.pssm_model.specs.Routes.{Truth}
use Rattle.pssm_model.specs.FiringSets.{IsFiring, IsLateRoute}
use Rattle.pssm_model.specs.Ways.{Memory, CanOpen}
use Rattle.pssm_model.specs.Items.{IsWaiting, IsCleared}
use Rattle.pssm_object.proofs.Agreeing.{Agree-symm}
use Rattle.pssm_object.proofs.AgreeingRoutes.{firing_agrees}
use Rattle.pssm_config.specs.Tables.{configuration_of}
use Rattle.pssm_plan.specs.Agenda.{Agenda, course_of}
use Rattle.pssm_semantics.specs.declared.entry.ObjectId.{ObjectId}
use Rattle.pssm_semantics.specs.declared.entry.Out.{Out}
use Rattle.pssm_semantics.specs.declared.entry.Entry.{Entry}
use Rattle.pssm_semantics.specs.declared.entry.Entry.TheVariants.{Post, Start, Take, Done, Exit, Effect, Enter, Opened, Pick, DoStep}
use Rattle.pssm_semantics.specs.declared.entry.Rule.{Rule}
use Rattle.pssm_semantics.specs.declared.entry.Rule.TheVariants.{A1, A2, A3, A4, A5, A6, A7, A8, A9, A10, A11, A12}
use Rattle.pssm_semantics.specs.declared.tree.Act.{Act}
use Rattle.pssm_semantics.specs.declared.setting.Class.{Class}
use Rattle.pssm_semantics.specs.declared.setting.Outcome.{Outcome}
use Rattle.pssm_semantics.specs.declared.stimulus.Stimulus.{Stimulus}
use Rattle.pssm_semantics.specs.Journal.{IsMemory, IsStart, object_of, configuration_after}
use Rattle.pssm_semantics.specs.Steps.{item_of}
use Rattle.pssm_semantics.specs.Completion.{HasEnded, IsStepFinished}
use Rattle.pssm_semantics.specs.Values.{Store, Params, eight_of, no_params, outcome_of}
use Rattle.pssm_semantics.specs.Pool.{told_by, outs_of}
use Rattle.pssm_semantics.specs.Behaviours.{store_of, params_of, outcome_at, guards_under, guards_at}
use Rattle.pssm_semantics.specs.Rules.{IsCalledItem, IsClearedItem, IsWhatFires}
use Rattle.pssm_semantics.specs.Verdict.{number_of, IsFirstBroken}
use Rattle.pssm_semantics.specs.Classes.{IsWellFormedClass}
use Rattle.pssm_pool.specs.declared.pools.Waiting.{Waiting}
use Rattle.pssm_object.specs.Standing.{Standing, StandsAfter}
use Rattle.pssm_object.specs.Following.{stimulus_of, stimulus_for, KeepsRule, KeepsRules}
use Rattle.pssm_object.specs.inner.Firing.{Fires, IsWayFrom, IsOpeningWay}
use Rattle.pssm_object.specs.inner.Situations.{IsAtRest, first_waiting}
use Rattle.pssm_object.specs.inner.Working.{act_for, nothing_from, outcome_for}
use Rattle.pssm_object.specs.inner.Doing.{IsNextHere, JudgesDoStep, step_act, step_outcome}
use Rattle.pssm_object.specs.inner.Judging.{IsBusy, FiresHere, Completes, FiresOther, IsWayHere, HasStarted, JudgesStart, JudgesTake, JudgesDone, JudgesItem, JudgesWork, JudgesWay, JudgesDoing, IsPastEnd, JudgesLiving, Judges}
use Rattle.pssm_object.proofs.Kept.{IsKeptBelow, kept_more, kept_first, follows, first_broken}
use Rattle.pssm_object.proofs.Standings.{only_posts, step_of}
use Rattle.pssm_object.proofs.UnderWay.{called_item, called_item_waits, cleared_item, cleared_item_is, step_finished, finished_step}
use Rattle.pssm_object.proofs.DoingNext.{next_alike}
use Rattle.pssm_object.proofs.QueueHeads.{head_of_queue, end_of_queue}
use Rattle.pssm_object.proofs.Rules.{starts_once, has_started, not_started}
use Rattle.pssm_object.proofs.Remembering.{ways_alike}

-- what a verdict says of an entry
abbrev pub IsJudged : Class → Standing → Option Waiting → List Entry → Entry → Option Rule → Type 0
IsJudged class x signal J e None = KeepsRules class x signal J e
IsJudged class x signal J e (Some rule) = IsFirstBroken (KeepsRule class x signal) J e rule

-- the one value of an option
pub same_some : {X : Type 0} (x y : X) → (let some : Option X = Some x in some) ≡ Some y → x ≡ y
same_some x y e = cc

module _ (class : Class) {J : List Entry} {x : Standing} (s : StandsAfter class J x) where
  -- what a behaviour makes where the object stands is what it makes after the journal
  pub outcome_here : (act : Option Act) → option_map_or (λ (a : Act). outcome_of a x.own x.store x.params) act (nothing_from x.store)
      ≡ option_map_or (λ (a : Act). outcome_of a x.own (store_of class (told_by J) J x.own) (params_of (told_by J) J x.own)) act
      (nothing_from (store_of class (told_by J) J x.own))
  outcome_here act =
      ap (λ store. option_map_or (λ (a : Act). outcome_of a x.own store x.params) act (nothing_from store)) s.store_is
      ∙ ap (λ params. option_map_or (λ (a : Act). outcome_of a x.own (store_of class (told_by J) J x.own) params) act
      (nothing_from (store_of class (told_by J) J x.own))) s.params_is

module _ (class : Class) (b : IsWellFormedClass class) {J : List Entry} {x : Standing} (s : StandsAfter class J x) (signal : Option Waiting) where
  abbrev m : DraftMachine
  m = class.machine

  abbrev o : ObjectId
  o = x.own

  abbrev Holds : Rule → List Entry → Entry → Type 0
  Holds = KeepsRule class x signal

  abbrev Below : Entry → ℕ → Type 0
  Below e n = IsKeptBelow Holds J e n

  abbrev First : Entry → Rule → Type 0
  First e rule = IsFirstBroken Holds J e rule

  more : (e : Entry) (rule : Rule) (n : ℕ) → number_of rule ≡ n → Holds rule J e → Below e n → Below e (n + 1)
  more e rule n is h = kept_more Holds J e rule n is h

  breaks : (e : Entry) (rule : Rule) (n : ℕ) → number_of rule ≡ n → (Holds rule J e → ⊥) → Below e n → First e rule
  breaks e rule n is h = first_broken Holds J e rule n is h

  begun : (e : Entry) → Below e 2
  begun e = kept_first Holds J e tt

  -- an object that has ended refuses everything but posts
  past_end : (e : Entry) → object_of e ≡ o → IsPastEnd x e → Holds A2 J e → ⊥
  past_end (Post q g args) own past kept = past
  past_end (Start q) own past kept = kept (subst (HasEnded m J) (sym own) (s.ended_is.0 past))
  past_end (Take q number firing) own past kept = kept (subst (HasEnded m J) (sym own) (s.ended_is.0 past))
  past_end (Done q v firing) own past kept = kept (subst (HasEnded m J) (sym own) (s.ended_is.0 past))
  past_end (Exit q v outs) own past kept = kept (subst (HasEnded m J) (sym own) (s.ended_is.0 past))
  past_end (Effect q t outs) own past kept = kept (subst (HasEnded m J) (sym own) (s.ended_is.0 past))
  past_end (Enter q v outs) own past kept = kept (subst (HasEnded m J) (sym own) (s.ended_is.0 past))
  past_end (Opened q r mode how) own past kept = kept (subst (HasEnded m J) (sym own) (s.ended_is.0 past))
  past_end (Pick q v route) own past kept = kept (subst (HasEnded m J) (sym own) (s.ended_is.0 past))
  past_end (DoStep q v k outs) own past kept = kept (subst (HasEnded m J) (sym own) (s.ended_is.0 past))

  judged_past : (e : Entry) → object_of e ≡ o → IsPastEnd x e → First e A2
  judged_past e own past = breaks e A2 2 refl (past_end e own past) (begun e)

  -- an entry that runs an item and is asked nothing by the rules of heads
  pub record IsWorkEntry (e : Entry) (y : Item) : Type 0 where
    pub own : object_of e ≡ o
    pub how : How
    pub runs : item_of e ≡ Some (y, how)
    pub ends : Holds A2 J e
    pub starts : (f : Entry) → Contains J f → IsStart f o → Holds A3 J e
    pub started : Holds A3 J e → (f : Entry) × Contains J f × IsStart f o
    pub step : Holds A4 J e
    pub queue : Holds A5 J e
    pub firing : Holds A7 J e

  exit_work : (HasEnded m J o → ⊥) → (v : VertexId) (outs : List Out) → IsWorkEntry (Exit o v outs) (items.Exit v)
  exit_work living v outs = record {
    own = refl;
    how = Nothing;
    runs = refl;
    ends = living;
    starts = λ f is start. (f, is, start);
    started = λ kept. kept;
    step = tt;
    queue = tt;
    firing = tt;
  }

  effect_work : (HasEnded m J o → ⊥) → (t : TransId) (outs : List Out) → IsWorkEntry (Effect o t outs) (items.Effect t)
  effect_work living t outs = record {
    own = refl;
    how = Nothing;
    runs = refl;
    ends = living;
    starts = λ f is start. (f, is, start);
    started = λ kept. kept;
    step = tt;
    queue = tt;
    firing = tt;
  }

  enter_work : (HasEnded m J o → ⊥) → (v : VertexId) (outs : List Out) → IsWorkEntry (Enter o v outs) (items.Enter v)
  enter_work living v outs = record {
    own = refl;
    how = Nothing;
    runs = refl;
    ends = living;
    starts = λ f is start. (f, is, start);
    started = λ kept. kept;
    step = tt;
    queue = tt;
    firing = tt;
  }

  opened_work : (HasEnded m J o → ⊥) → (r : RegionId) (mode : Mode) (how : How) → IsWorkEntry (Opened o r mode how) (items.Opened r mode)
  opened_work living r mode how = record {
    own = refl;
    how = how;
    runs = refl;
    ends = living;
    starts = λ f is start. (f, is, start);
    started = λ kept. kept;
    step = tt;
    queue = tt;
    firing = tt;
  }

  pick_work : (HasEnded m J o → ⊥) → (v : VertexId) (route : Route) → IsWorkEntry (Pick o v route) (items.Pick v)
  pick_work living v route = record {
    own = refl;
    how = By route;
    runs = refl;
    ends = living;
    starts = λ f is start. (f, is, start);
    started = λ kept. kept;
    step = tt;
    queue = tt;
    firing = tt;
  }

  module _ (e : Entry) (y : Item) (w : IsWorkEntry e y) where
    -- the item is called, or it is cleared, as the rules say it of the entry
    calls : IsCalledItem m J o y → Holds A8 J e
    calls called =
        subst (λ r. IfSome r (λ z. IsCalledItem m J (object_of e) z.0)) (sym w.runs) (subst (λ q. IsCalledItem m J q y) (sym w.own) called)

    pub called : Holds A8 J e → IsCalledItem m J o y
    called kept = subst (λ q. IsCalledItem m J q y) w.own (subst (λ r. IfSome r (λ z. IsCalledItem m J (object_of e) z.0)) w.runs kept)

    clears : IsClearedItem m J o y → Holds A9 J e
    clears cleared =
        subst (λ r. IfSome r (λ z. IsClearedItem m J (object_of e) z.0)) (sym w.runs) (subst (λ q. IsClearedItem m J q y) (sym w.own) cleared)

    pub cleared : Holds A9 J e → IsClearedItem m J o y
    cleared kept = subst (λ q. IsClearedItem m J q y) w.own (subst (λ r. IfSome r (λ z. IsClearedItem m J (object_of e) z.0)) w.runs kept)

    work_begun : Below e 3
    work_begun = more e A2 2 refl w.ends (begun e)

    work_started : (p : Agenda) → x.plan ≡ Some p → Below e 8
    work_started p is =
        let f = has_started (step_of s p is) in
        more e A7 7 refl w.firing (more e A6 6 refl tt (more e A5 5 refl w.queue (more e A4 4 refl w.step
        (more e A3 3 refl (w.starts f.0 f.1 f.2) work_begun))))

    work_called : (p : Agenda) → x.plan ≡ Some p → IsWaiting m (course_of p) y → Below e 9
    work_called p is waits = more e A8 8 refl (calls (called_item (step_of s p is) y waits)) (work_started p is)

    work_kept : JudgesItem m x.plan y None → Below e 10
    work_kept (p, is, ready) = more e A9 9 refl (clears (cleared_item (step_of s p is) y ready.cleared)) (work_called p is ready.waiting)

    work_unstarted : x.plan ≡ None → First e A3
    work_unstarted is =
        breaks e A3 3 refl (λ kept. let f = w.started kept in not_started J o (only_posts s is) f.0 f.1 f.2) work_begun

    work_uncalled : (p : Agenda) → x.plan ≡ Some p → (IsWaiting m (course_of p) y → ⊥) → First e A8
    work_uncalled p is none = breaks e A8 8 refl (λ kept. none (called_item_waits (step_of s p is) y (called kept))) (work_started p is)

    work_early : (p : Agenda) → x.plan ≡ Some p → IsWaiting m (course_of p) y → (IsCleared m (course_of p) y → ⊥) → First e A9
    work_early p is waits blocked =
        breaks e A9 9 refl (λ kept. blocked (cleared_item_is (step_of s p is) y (cleared kept))) (work_called p is waits)

    work_refused : (rule : Rule) → JudgesItem m x.plan y (Some rule) → First e rule
    work_refused A3 h = work_unstarted h
    work_refused A8 h = work_uncalled h.0 h.1 h.2
    work_refused A9 h = work_early h.0 h.1 h.2 h.3
    work_refused A1 h = absurd h
    work_refused A2 h = absurd h
    work_refused A4 h = absurd h
    work_refused A5 h = absurd h
    work_refused A6 h = absurd h
    work_refused A7 h = absurd h
    work_refused A10 h = absurd h
    work_refused A11 h = absurd h
    work_refused A12 h = absurd h

  -- an exit, an effect or an entry with its outputs
  module _ (e : Entry) (y : Item) (outs : List Out) (w : IsWorkEntry e y) (outs_is : outs_of e ≡ outs)
      (made : (outcome_at class (told_by J) J e (store_of class (told_by J) J (object_of e))).outs ≡ (outcome_for class x y).outs)
      (way : Holds A10 J e) (steps : Holds A11 J e) where
    work_ways : JudgesItem m x.plan y None → Below e 12
    work_ways h = more e A11 11 refl steps (more e A10 10 refl way (work_kept e y w h))

    judged_work : (answer : Option Rule) → JudgesWork class x y outs answer → IsJudged class x signal J e answer
    judged_work None h = follows Holds J e (more e A12 12 refl (outs_is ∙ h.1 ∙ sym made) (work_ways h.0))
    judged_work (Some A12) h = breaks e A12 12 refl (λ kept. h.1 (sym outs_is ∙ kept ∙ made)) (work_ways h.0)
    judged_work (Some A3) h = work_refused e y w A3 h
    judged_work (Some A8) h = work_refused e y w A8 h
    judged_work (Some A9) h = work_refused e y w A9 h
    judged_work (Some A1) h = absurd h
    judged_work (Some A2) h = absurd h
    judged_work (Some A4) h = absurd h
    judged_work (Some A5) h = absurd h
    judged_work (Some A6) h = absurd h
    judged_work (Some A7) h = absurd h
    judged_work (Some A10) h = absurd h
    judged_work (Some A11) h = absurd h

  -- what their behaviours make
  pub made_so : (act : Option Act)
      → (option_map_or (λ (a : Act). outcome_of a o (store_of class (told_by J) J o) (params_of (told_by J) J o)) act
      (nothing_from (store_of class (told_by J) J o))).outs
      ≡ (option_map_or (λ (a : Act). outcome_of a o x.store x.params) act (nothing_from x.store)).outs
  made_so act = sym (ap (λ (made : Outcome). made.outs) (outcome_here class s act))

  judged_exit : (HasEnded m J o → ⊥) → (v : VertexId) (outs : List Out) (answer : Option Rule) → JudgesWork class x (items.Exit v) outs answer
      → IsJudged class x signal J (Exit o v outs) answer
  judged_exit living v outs =
      judged_work (Exit o v outs) (items.Exit v) outs (exit_work living v outs) refl (made_so (act_for class (items.Exit v))) refl tt

  judged_effect : (HasEnded m J o → ⊥) → (t : TransId) (outs : List Out) (answer : Option Rule) → JudgesWork class x (items.Effect t) outs answer
      → IsJudged class x signal J (Effect o t outs) answer
  judged_effect living t outs =
      judged_work (Effect o t outs) (items.Effect t) outs (effect_work living t outs) refl (made_so (act_for class (items.Effect t))) refl tt

  judged_enter : (HasEnded m J o → ⊥) → (v : VertexId) (outs : List Out) (answer : Option Rule) → JudgesWork class x (items.Enter v) outs answer
      → IsJudged class x signal J (Enter o v outs) answer
  judged_enter living v outs =
      judged_work (Enter o v outs) (items.Enter v) outs (enter_work living v outs) refl (made_so (act_for class (items.Enter v))) refl tt

  -- the guards where the object stands are those after the journal
  pub truth_is : guards_under class x.store x.params ≡ guards_at class (told_by J) J o
  truth_is =
      ap (λ (store : Store). guards_under class store x.params) s.store_is
      ∙ ap (λ (params : Params). guards_under class (store_of class (told_by J) J o) params) s.params_is

  -- the way of an opening: what the tables hold to be remembered is what the journal remembers
  pub opens_as : (r : RegionId) (mode : Mode) (how : How) → IsOpeningWay class x.config x.store x.params r mode how ↔ Holds A10 J (Opened o r mode how)
  opens_as r mode how =
      let truth : Truth = guards_at class (told_by J) J o in
      let kept : Memory = (configuration_of x.config).Remembers in
      let shown : Memory = IsMemory m J o in (
        λ way.
            ways_alike m truth kept shown (items.Opened r mode) how s.now_is.remembered
            (subst (λ (t : Truth). CanOpen m t kept r mode how) truth_is way),
        λ holds.
            subst (λ (t : Truth). CanOpen m t kept r mode how) (sym truth_is)
            (ways_alike m truth shown kept (items.Opened r mode) how (λ q v. ((s.now_is.remembered q v).1, (s.now_is.remembered q v).0)) holds),
      )

  -- and that of a pick
  pub picks_as : (v : VertexId) (route : Route) → IsWayFrom class x.store x.params v route ↔ Holds A10 J (Pick o v route)
  picks_as v route = (
    λ way. subst (λ (t : Truth). IsLateRoute m t v route) truth_is way,
    λ kept. subst (λ (t : Truth). IsLateRoute m t v route) (sym truth_is) kept,
  )

  -- an opening or a pick with its way
  module _ (e : Entry) (y : Item) (how : How) (w : IsWorkEntry e y) (way : JudgesItem m x.plan y None → IsWayHere class x y how ↔ Holds A10 J e)
      (steps : Holds A11 J e) (outs : Holds A12 J e) where
    judged_way : (answer : Option Rule) → JudgesWay class x y how answer → IsJudged class x signal J e answer
    judged_way None h =
        follows Holds J e (more e A12 12 refl outs (more e A11 11 refl steps (more e A10 10 refl ((way h.0).0 h.1) (work_kept e y w h.0))))
    judged_way (Some A10) h = breaks e A10 10 refl (λ kept. h.1 ((way h.0).1 kept)) (work_kept e y w h.0)
    judged_way (Some A3) h = work_refused e y w A3 h
    judged_way (Some A8) h = work_refused e y w A8 h
    judged_way (Some A9) h = work_refused e y w A9 h
    judged_way (Some A1) h = absurd h
    judged_way (Some A2) h = absurd h
    judged_way (Some A4) h = absurd h
    judged_way (Some A5) h = absurd h
    judged_way (Some A6) h = absurd h
    judged_way (Some A7) h = absurd h
    judged_way (Some A11) h = absurd h
    judged_way (Some A12) h = absurd h

  judged_opened : (HasEnded m J o → ⊥) → (r : RegionId) (mode : Mode) (how : How) (answer : Option Rule) → JudgesWay class x (items.Opened r mode) how answer
      → IsJudged class x signal J (Opened o r mode how) answer
  judged_opened living r mode how =
      judged_way (Opened o r mode how) (items.Opened r mode) how (opened_work living r mode how) (λ ready. opens_as r mode how) tt refl

  judged_pick : (HasEnded m J o → ⊥) → (v : VertexId) (route : Route) (answer : Option Rule) → JudgesWay class x (items.Pick v) (By route) answer
      → IsJudged class x signal J (Pick o v route) answer
  judged_pick living v route =
      judged_way (Pick o v route) (items.Pick v) (By route) (pick_work living v route) (λ ready. picks_as v route) tt refl

  -- the next do step where the object stands is that after the journal
  pub next_as : (v : VertexId) (k : ℕ) → IsNextHere m x.config v k ↔ IsNextDoStep m (configuration_after m J o) v k
  next_as v k = (
    next_alike m (configuration_of x.config) (configuration_after m J o) s.now_is v k,
    next_alike m (configuration_after m J o) (configuration_of x.config) (Agree-symm (configuration_of x.config) (configuration_after m J o) s.now_is) v k,
  )

  -- and it makes the same
  pub step_made : (v : VertexId) (k : ℕ) (outs : List Out)
      → step_outcome class x v k ≡ outcome_at class (told_by J) J (DoStep o v k outs) (store_of class (told_by J) J o)
  step_made v k outs = by (step_act class v k)
    where
      by : (act : Option Act) → option_map_or (λ (a : Act). outcome_of a o x.store no_params) act (nothing_from x.store)
          ≡ option_map_or (λ (a : Act). outcome_of a o (store_of class (told_by J) J o) no_params) act (nothing_from (store_of class (told_by J) J o))
      by act = ap (λ (store : Store). option_map_or (λ (a : Act). outcome_of a o store no_params) act (nothing_from store)) s.store_is

  -- a do step
  module _ (living : HasEnded m J o → ⊥) (v : VertexId) (k : ℕ) (outs : List Out) where
    doing_started : HasStarted x → Below (DoStep o v k outs) 11
    doing_started (p, is) =
        let e : Entry = DoStep o v k outs in
        more e A10 10 refl tt (more e A9 9 refl tt (more e A8 8 refl tt
        (more e A7 7 refl tt (more e A6 6 refl tt (more e A5 5 refl tt (more e A4 4 refl tt
        (more e A3 3 refl (has_started (step_of s p is)) (more e A2 2 refl living (begun e)))))))))

    doing_next : HasStarted x → IsNextHere m x.config v k → Below (DoStep o v k outs) 12
    doing_next started next = more (DoStep o v k outs) A11 11 refl ((next_as v k).0 next) (doing_started started)

    made_outs : (step_outcome class x v k).outs ≡ (outcome_at class (told_by J) J (DoStep o v k outs) (store_of class (told_by J) J o)).outs
    made_outs = ap (λ (made : Outcome). made.outs) (step_made v k outs)

    judged_step : HasStarted x → (answer : Option Rule) → JudgesDoStep class x v k outs answer → IsJudged class x signal J (DoStep o v k outs) answer
    judged_step started None h =
        follows Holds J (DoStep o v k outs) (more (DoStep o v k outs) A12 12 refl (h.1 ∙ made_outs) (doing_next started h.0))
    judged_step started (Some A11) h = breaks (DoStep o v k outs) A11 11 refl (λ kept. h ((next_as v k).1 kept)) (doing_started started)
    judged_step started (Some A12) h = breaks (DoStep o v k outs) A12 12 refl (λ kept. h.1 (kept ∙ sym made_outs)) (doing_next started h.0)
    judged_step started (Some A1) h = absurd h
    judged_step started (Some A2) h = absurd h
    judged_step started (Some A3) h = absurd h
    judged_step started (Some A4) h = absurd h
    judged_step started (Some A5) h = absurd h
    judged_step started (Some A6) h = absurd h
    judged_step started (Some A7) h = absurd h
    judged_step started (Some A8) h = absurd h
    judged_step started (Some A9) h = absurd h
    judged_step started (Some A10) h = absurd h

    judged_doing : (answer : Option Rule) → JudgesDoing class x v k outs answer → IsJudged class x signal J (DoStep o v k outs) answer
    judged_doing answer (inl (none, is)) =
        subst (IsJudged class x signal J (DoStep o v k outs)) (sym is)
        (breaks (DoStep o v k outs) A3 3 refl (λ kept. not_started J o (only_posts s none) kept.0 kept.1 kept.2)
        (more (DoStep o v k outs) A2 2 refl living (begun (DoStep o v k outs))))
    judged_doing answer (inr (started, h)) = judged_step started answer h

  -- a start
  judged_start : (HasEnded m J o → ⊥) → (answer : Option Rule) → JudgesStart x.plan answer → IsJudged class x signal J (Start o) answer
  judged_start living None h =
      let e : Entry = Start o in
      follows Holds J e
      (more e A12 12 refl refl (more e A11 11 refl tt (more e A10 10 refl tt (more e A9 9 refl tt (more e A8 8 refl tt
      (more e A7 7 refl tt (more e A6 6 refl tt (more e A5 5 refl tt (more e A4 4 refl tt
      (more e A3 3 refl (only_posts s h) (more e A2 2 refl living (begun e))))))))))))
  judged_start living (Some A3) h =
      breaks (Start o) A3 3 refl (λ kept. starts_once (step_of s h.0 h.1) kept) (more (Start o) A2 2 refl living (begun (Start o)))
  judged_start living (Some A1) h = absurd h
  judged_start living (Some A2) h = absurd h
  judged_start living (Some A4) h = absurd h
  judged_start living (Some A5) h = absurd h
  judged_start living (Some A6) h = absurd h
  judged_start living (Some A7) h = absurd h
  judged_start living (Some A8) h = absurd h
  judged_start living (Some A9) h = absurd h
  judged_start living (Some A10) h = absurd h
  judged_start living (Some A11) h = absurd h
  judged_start living (Some A12) h = absurd h

  -- the rules of a head entry that is no start
  module _ (living : HasEnded m J o → ⊥) (e : Entry) (ends : Holds A2 J e)
      (starts : (f : Entry) → Contains J f → IsStart f o → Holds A3 J e)
      (started : Holds A3 J e → (f : Entry) × Contains J f × IsStart f o)
      (finishes : IsStepFinished m J o → Holds A4 J e)
      (finished : Holds A4 J e → IsStepFinished m J o) where
    head_begun : Below e 3
    head_begun = more e A2 2 refl ends (begun e)

    head_unstarted : x.plan ≡ None → First e A3
    head_unstarted is = breaks e A3 3 refl (λ kept. let f = started kept in not_started J o (only_posts s is) f.0 f.1 f.2) head_begun

    head_started : (p : Agenda) → x.plan ≡ Some p → Below e 4
    head_started p is = let f = has_started (step_of s p is) in more e A3 3 refl (starts f.0 f.1 f.2) head_begun

    head_busy : IsBusy m x.plan → First e A4
    head_busy (p, is, busy) = breaks e A4 4 refl (λ kept. busy (finished_step (step_of s p is) living (finished kept))) (head_started p is)

    head_rests : IsAtRest m x.plan → Below e 5
    head_rests (p, is, out) = more e A4 4 refl (finishes (step_finished (step_of s p is) out)) (head_started p is)

  -- what an event fires where the object stands is what it fires after the journal
  fires_as : (params : Params) (event : Event) (firing : Firing)
      → Fires class x.config x.store params event firing.routes ↔ IsWhatFires class (told_by J) J o params event firing
  fires_as params event firing = (
    λ fires. subst (λ (store : Store). IsFiring m (configuration_after m J o) (guards_under class store params) event firing.routes) s.store_is
        (firing_agrees s.now_is (guards_under class x.store params) event firing.routes fires),
    λ fires. firing_agrees (Agree-symm (configuration_of x.config) (configuration_after m J o) s.now_is) (guards_under class x.store params) event firing.routes
        (subst (λ (store : Store). IsFiring m (configuration_after m J o) (guards_under class store params) event firing.routes) (sym s.store_is) fires),
  )

  pub completes_as : (v : VertexId) (firing : Firing)
      → Completes class x v firing.routes ↔ IsWhatFires class (told_by J) J o no_params (Completion v) firing
  completes_as v firing = fires_as no_params (Completion v) firing

  -- a dispatch of a completion
  module _ (living : HasEnded m J o → ⊥) (v : VertexId) (firing : Firing) where
    done_rests : IsAtRest m x.plan → Below (Done o v firing) 5
    done_rests rests = head_rests living (Done o v firing) living (λ f is start. (f, is, start)) (λ kept. kept) (λ kept. kept) (λ kept. kept) rests

    done_first : IsAtRest m x.plan → first_waiting x ≡ Some v → Below (Done o v firing) 7
    done_first rests first =
        let e : Entry = Done o v firing in
        more e A6 6 refl tt (more e A5 5 refl ((head_of_queue m J x.own x.queue.states s.queue_is v).0 first) (done_rests rests))

    judged_done : (answer : Option Rule) → JudgesDone class x v firing.routes answer → IsJudged class x signal J (Done o v firing) answer
    judged_done None (rests, first, fires) =
        let e : Entry = Done o v firing in
        follows Holds J e
        (more e A12 12 refl refl (more e A11 11 refl tt (more e A10 10 refl tt (more e A9 9 refl tt (more e A8 8 refl tt
        (more e A7 7 refl ((completes_as v firing).0 fires) (done_first rests first)))))))
    judged_done (Some A3) h =
        head_unstarted living (Done o v firing) living (λ f is start. (f, is, start)) (λ kept. kept) (λ kept. kept) (λ kept. kept) h
    judged_done (Some A4) h =
        head_busy living (Done o v firing) living (λ f is start. (f, is, start)) (λ kept. kept) (λ kept. kept) (λ kept. kept) h
    judged_done (Some A5) (rests, other) =
        breaks (Done o v firing) A5 5 refl (λ kept. other ((head_of_queue m J x.own x.queue.states s.queue_is v).1 kept)) (done_rests rests)
    judged_done (Some A7) (rests, first, wrong) =
        breaks (Done o v firing) A7 7 refl (λ kept. wrong ((completes_as v firing).1 kept)) (done_first rests first)
    judged_done (Some A1) h = absurd h
    judged_done (Some A2) h = absurd h
    judged_done (Some A6) h = absurd h
    judged_done (Some A8) h = absurd h
    judged_done (Some A9) h = absurd h
    judged_done (Some A10) h = absurd h
    judged_done (Some A11) h = absurd h
    judged_done (Some A12) h = absurd h

  -- what a signal fires
  pub fires_after : (w : Waiting) (firing : Firing) → FiresHere class x firing.routes w
      → IsWhatFires class (told_by J) J o (eight_of w.args) (Signal w.signal) firing
  fires_after w firing fires = (fires_as (eight_of w.args) (Signal w.signal) firing).0 fires

  pub fires_before : (w : Waiting) (firing : Firing) → IsWhatFires class (told_by J) J o (eight_of w.args) (Signal w.signal) firing
      → FiresHere class x firing.routes w
  fires_before w firing fires = (fires_as (eight_of w.args) (Signal w.signal) firing).1 fires

  fires_other : (w : Waiting) (firing : Firing) → FiresOther class x firing.routes w
      → IsWhatFires class (told_by J) J o (eight_of w.args) (Signal w.signal) firing → ⊥
  fires_other w firing wrong fires = wrong (fires_before w firing fires)

  -- where the signal is handed in
  Told : Firing → Stimulus → Type 0
  Told firing y = IsWhatFires class (told_by J) J o (eight_of y.args) (Signal y.signal) firing

  fires_told : (known : Option Waiting) (firing : Firing) → IfSome known (FiresHere class x firing.routes) → (y : Stimulus) → stimulus_for o known ≡ Some y
      → Told firing y
  unfolding Told
  fires_told None firing h y e = absurd (let clash : None ≡ Some y = e in cc)
  fires_told (Some w) firing h y e = subst (Told firing) (same_some (stimulus_of o w) y e) (fires_after w firing h)

  fires_wrong : (known : Option Waiting) (firing : Firing) → IsSomeAnd known (FiresOther class x firing.routes)
      → ((y : Stimulus) → stimulus_for o known ≡ Some y → Told firing y) → ⊥
  unfolding Told
  fires_wrong None firing h kept = h
  fires_wrong (Some w) firing h kept = fires_other w firing h (kept (stimulus_of o w) refl)

  -- a take
  module _ (living : HasEnded m J o → ⊥) (number : ℕ) (firing : Firing) where
    take_rests : IsAtRest m x.plan → Below (Take o number firing) 5
    take_rests rests = head_rests living (Take o number firing) living (λ f is start. (f, is, start)) (λ kept. kept) (λ kept. kept) (λ kept. kept) rests

    take_next : IsAtRest m x.plan → first_waiting x ≡ None → Below (Take o number firing) 7
    take_next rests none =
        let e : Entry = Take o number firing in
        more e A6 6 refl tt (more e A5 5 refl ((end_of_queue m J x.own x.queue.states s.queue_is).0 none) (take_rests rests))

    judged_take : (answer : Option Rule) → JudgesTake class x signal firing.routes answer → IsJudged class x signal J (Take o number firing) answer
    unfolding Told
    judged_take None (rests, none, fires) =
        let e : Entry = Take o number firing in
        follows Holds J e
        (more e A12 12 refl refl (more e A11 11 refl tt (more e A10 10 refl tt (more e A9 9 refl tt (more e A8 8 refl tt
        (more e A7 7 refl (fires_told signal firing fires) (take_next rests none)))))))
    judged_take (Some A3) h =
        head_unstarted living (Take o number firing) living (λ f is start. (f, is, start)) (λ kept. kept) (λ kept. kept) (λ kept. kept) h
    judged_take (Some A4) h =
        head_busy living (Take o number firing) living (λ f is start. (f, is, start)) (λ kept. kept) (λ kept. kept) (λ kept. kept) h
    judged_take (Some A5) (rests, some) =
        breaks (Take o number firing) A5 5 refl (λ kept. some ((end_of_queue m J x.own x.queue.states s.queue_is).1 kept)) (take_rests rests)
    judged_take (Some A7) (rests, none, wrong) =
        breaks (Take o number firing) A7 7 refl (fires_wrong signal firing wrong) (take_next rests none)
    judged_take (Some A1) h = absurd h
    judged_take (Some A2) h = absurd h
    judged_take (Some A6) h = absurd h
    judged_take (Some A8) h = absurd h
    judged_take (Some A9) h = absurd h
    judged_take (Some A10) h = absurd h
    judged_take (Some A11) h = absurd h
    judged_take (Some A12) h = absurd h

  -- a post
  judged_post : (g : SignalId) (args : List ℤ) → KeepsRules class x signal J (Post o g args)
  judged_post g args =
      let e : Entry = Post o g args in
      follows Holds J e
      (more e A12 12 refl refl (more e A11 11 refl tt (more e A10 10 refl tt (more e A9 9 refl tt (more e A8 8 refl tt
      (more e A7 7 refl tt (more e A6 6 refl tt (more e A5 5 refl tt (more e A4 4 refl tt
      (more e A3 3 refl tt (more e A2 2 refl tt (begun e))))))))))))

  -- the verdict on an entry of an object that has not ended
  judged_living : (HasEnded m J o → ⊥) → (e : Entry) → object_of e ≡ o → (answer : Option Rule) → JudgesLiving class x signal e answer
      → IsJudged class x signal J e answer
  judged_living living (Post q g args) own answer h =
      subst (IsJudged class x signal J (Post q g args)) (sym h) (subst (λ p. KeepsRules class x signal J (Post p g args)) (sym own) (judged_post g args))
  judged_living living (Start q) own answer h = subst (λ p. IsJudged class x signal J (Start p) answer) (sym own) (judged_start living answer h)
  judged_living living (Take q number firing) own answer h =
      subst (λ p. IsJudged class x signal J (Take p number firing) answer) (sym own) (judged_take living number firing answer h)
  judged_living living (Done q v firing) own answer h =
      subst (λ p. IsJudged class x signal J (Done p v firing) answer) (sym own) (judged_done living v firing answer h)
  judged_living living (Exit q v outs) own answer h =
      subst (λ p. IsJudged class x signal J (Exit p v outs) answer) (sym own) (judged_exit living v outs answer h)
  judged_living living (Effect q t outs) own answer h =
      subst (λ p. IsJudged class x signal J (Effect p t outs) answer) (sym own) (judged_effect living t outs answer h)
  judged_living living (Enter q v outs) own answer h =
      subst (λ p. IsJudged class x signal J (Enter p v outs) answer) (sym own) (judged_enter living v outs answer h)
  judged_living living (Opened q r mode how) own answer h =
      subst (λ p. IsJudged class x signal J (Opened p r mode how) answer) (sym own) (judged_opened living r mode how answer h)
  judged_living living (Pick q v route) own answer h =
      subst (λ p. IsJudged class x signal J (Pick p v route) answer) (sym own) (judged_pick living v route answer h)
  judged_living living (DoStep q v k outs) own answer h =
      subst (λ p. IsJudged class x signal J (DoStep p v k outs) answer) (sym own) (judged_doing living v k outs answer h)

  -- an object that has not ended: a post is judged alike whether it has
  judged_open : (e : Entry) → object_of e ≡ o → (IsPastEnd x e → ⊥) → (answer : Option Rule) → JudgesLiving class x signal e answer
      → IsJudged class x signal J e answer
  judged_open (Post q g args) own lives answer h =
      subst (IsJudged class x signal J (Post q g args)) (sym h) (subst (λ p. KeepsRules class x signal J (Post p g args)) (sym own) (judged_post g args))
  judged_open (Start q) own lives answer h = judged_living (λ ended. lives (s.ended_is.1 ended)) (Start q) own answer h
  judged_open (Take q number firing) own lives answer h = judged_living (λ ended. lives (s.ended_is.1 ended)) (Take q number firing) own answer h
  judged_open (Done q v firing) own lives answer h = judged_living (λ ended. lives (s.ended_is.1 ended)) (Done q v firing) own answer h
  judged_open (Exit q v outs) own lives answer h = judged_living (λ ended. lives (s.ended_is.1 ended)) (Exit q v outs) own answer h
  judged_open (Effect q t outs) own lives answer h = judged_living (λ ended. lives (s.ended_is.1 ended)) (Effect q t outs) own answer h
  judged_open (Enter q v outs) own lives answer h = judged_living (λ ended. lives (s.ended_is.1 ended)) (Enter q v outs) own answer h
  judged_open (Opened q r mode how) own lives answer h = judged_living (λ ended. lives (s.ended_is.1 ended)) (Opened q r mode how) own answer h
  judged_open (Pick q v route) own lives answer h = judged_living (λ ended. lives (s.ended_is.1 ended)) (Pick q v route) own answer h
  judged_open (DoStep q v k outs) own lives answer h = judged_living (λ ended. lives (s.ended_is.1 ended)) (DoStep q v k outs) own answer h

  -- the verdict on any entry of the object
  pub judged : (e : Entry) → object_of e ≡ o → (answer : Option Rule) → Judges class x signal e answer → IsJudged class x signal J e answer
  judged e own answer (inl (past, is)) = subst (IsJudged class x signal J e) (sym is) (judged_past e own past)
  judged e own answer (inr (lives, h)) = judged_open e own lives answer h
