-- Where an object stands after one more entry that is accepted.
use Rattle.std.proofs.Common.{◌≡◌, ◌↔◌, ◌≤◌, ◌++◌, ℕ, List, length, IsTrue, [], ◌∷◌, IfSome, IsSomeAnd, Option, Some, None, Bool, true, false, ◌==◌, if◌then◌else◌, slice_index_or, refl, sym, ap, subst, ◌∙◌, inl, inr, ⊎_elim, eq-eqb}
use Rattle.std.specs.List.{AllByRecursion}
use Rattle.std.specs.Option.{option_map_or}
use Rattle.std.proofs.lemmas.List.Elements.{Contains-append_left, Contains-push}
use Rattle.pssm_model.specs.declared.ids.VertexId.{VertexId}
use Rattle.pssm_model.specs.declared.ids.RegionId.{RegionId}
use Rattle.pssm_model.specs.declared.ids.TransId.{TransId}
use Rattle.pssm_model.specs.declared.ids.SignalId.{SignalId}
use Rattle.pssm_model.specs.declared.elements.DraftMachine.{DraftMachine}
use Rattle.pssm_model.specs.declared.steps.Route.{Route}
use Rattle.pssm_model.specs.declared.steps.Firing.{Firing}
use Rattle.pssm_model.specs.declared.steps.Event.{Event}
use Rattle.pssm_model.specs.declared.steps.Event.TheVariants.{Signal, Completion}
use Rattle.pssm_model.specs.declared.steps.Mode.{Mode}
use Rattle.pssm_model.specs.declared.steps.How.{How}
use Rattle.pssm_model.specs.declared.steps.How.TheVariants.{By, Nothing}
use Rattle.pssm_model.specs.declared.steps.Item.{Item}
use Rattle.pssm_model.specs.declared.steps.Item.TheVariants as items
use Rattle.pssm_model.specs.Changes.{Agree, nothing_yet, did_step}
use Rattle.pssm_model.specs.Course.{Head, FiresBy}
use Rattle.pssm_model.specs.Course.Head.{Starts, Fires}
use Rattle.pssm_model.specs.Routes.{Truth, IsStateRoute}
use Rattle.pssm_model.specs.Order.{IsWayNow}
use Rattle.pssm_object.proofs.Agreeing.{Agree-symm, Agree-trans, Agree-did_step}
use Rattle.pssm_config.specs.Tables.{Fits, configuration_of}
use Rattle.pssm_plan.specs.Agenda.{Agenda, course_of}
use Rattle.pssm_plan.specs.Steadiness.{BeginsWell, IsConsistent, changed_by_item, changed_along}
use Rattle.pssm_model_laws.proofs.Known.{Known, known_as, known_number}
use Rattle.pssm_plan.proofs.KnownItems.{known_true}
use Rattle.pssm_plan.proofs.Steadiness.{stays_consistent}
use Rattle.pssm_semantics.specs.declared.entry.ObjectId.{ObjectId}
use Rattle.pssm_semantics.specs.declared.entry.Out.{Out}
use Rattle.pssm_semantics.specs.declared.entry.Entry.{Entry}
use Rattle.pssm_semantics.specs.declared.entry.Entry.TheVariants.{Post, Start, Take, Done, Exit, Effect, Enter, Opened, Pick, DoStep}
use Rattle.pssm_semantics.specs.declared.tree.Act.{Act}
use Rattle.pssm_semantics.specs.declared.setting.Class.{Class}
use Rattle.pssm_semantics.specs.declared.setting.Outcome.{Outcome}
use Rattle.pssm_semantics.specs.declared.stimulus.Stimulus.{Stimulus}
use Rattle.pssm_semantics.specs.Journal.{IsPost, Heads, object_of, configuration_after}
use Rattle.pssm_semantics.specs.Steps.{head_of, item_of, item_by}
use Rattle.pssm_semantics.specs.Values.{Store, Params, eight_of, no_params, outcome_of}
use Rattle.pssm_semantics.specs.Completion.{HasEnded}
use Rattle.pssm_semantics.specs.Pool.{told_by}
use Rattle.pssm_semantics.specs.Behaviours.{last_head, store_of, params_of, params_of_head, outcome_at, guards_under}
use Rattle.pssm_semantics.specs.Classes.{IsWellFormedClass}
use Rattle.pssm_semantics.proofs.Appended.{AllByRecursion-front, AllByRecursion-back, from_the_end}
use Rattle.pssm_semantics_laws.proofs.Appending.{every_push}
use Rattle.pssm_semantics_laws.proofs.LastStep.{last_head-goes_on}
use Rattle.pssm_semantics_laws.proofs.Objects.{same_object}
use Rattle.pssm_object.proofs.Configurations.{configuration-changed, configuration-other}
use Rattle.pssm_semantics_laws.proofs.Stores.{head_own, told_by-more, store_of-own, store_of-other, params_of-begins, params_of-goes_on}
use Rattle.pssm_pool.specs.declared.pools.Waiting.{Waiting}
use Rattle.pssm_object.specs.Queue.{CompletionQueue, IsQueueOf}
use Rattle.pssm_object.specs.Doing.{AreDoersBelow}
use Rattle.pssm_object.specs.Standing.{Standing, IsUnderWay, IsStepOf, StandsAfter}
use Rattle.pssm_object.specs.Following.{stimulus_of, stimulus_for, NamesSignal, IsTold}
use Rattle.pssm_object.specs.inner.Doing.{step_act, step_outcome}
use Rattle.pssm_object.specs.inner.Firing.{Fires as FiresAt, IsWayFrom, IsOpeningWay}
use Rattle.pssm_object.specs.inner.Situations.{IsAtRest}
use Rattle.pssm_object.specs.inner.Working.{act_for, nothing_from, outcome_for}
use Rattle.pssm_object.specs.inner.Judging.{FiresHere, Completes, HasStarted, JudgesItem, IsPastEnd, JudgesLiving, Judges}
use Rattle.pssm_object.specs.inner.Advancing.{HasRunOn, HasBegun, RunsHere, WorksHere, StepsHere, Begins, FiresOn, Takes, Dispatches, Advances}
use Rattle.pssm_object.proofs.Fired.{begins_by_firing, begins_by_start, fired_state_route}
use Rattle.pssm_object.proofs.QueueEntries.{queue_kept, queue_done, queue_other, queue_ran, queue_stepped}
use Rattle.pssm_object.proofs.EndingLaws.{ended_left_is, ended_by_is}
use Rattle.pssm_object.proofs.Judged.{same_some, outcome_here}
use Rattle.pssm_object.proofs.Following.{opens_now}
use Rattle.pssm_object.proofs.KnownMemories.{known_named}
use Rattle.pssm_object.proofs.Signals.{same_takes, signals_taken}
use Rattle.pssm_object.proofs.Standings.{not_begun, only_posts, plan_of, step_of, along_of, consistent_alike}
use Rattle.pssm_object.proofs.UnderWay.{changed_alike, after_item, runs_on, goes_on_same, begins_here}

-- every guard is true
unfoldable all_true : Truth
all_true g = true

-- whether two objects are one is known
pub known_object : (o p : ObjectId) → Known (o ≡ p)
known_object o p = known_as (λ e. ap (λ n. let x : ObjectId = record { 0 = n } in x) e) (λ e. ap (λ (x : ObjectId). x.0) e) (known_number o.0 p.0)

-- no post begins a step or runs an item
pub post_heads : (e : Entry) (o : ObjectId) → IsPost e → Heads e o → ⊥
post_heads (Post q g args) o post heads = cc
post_heads (Start q) o post heads = post
post_heads (Take q n firing) o post heads = post
post_heads (Done q v firing) o post heads = post
post_heads (Exit q v outs) o post heads = post
post_heads (Effect q t outs) o post heads = post
post_heads (Enter q v outs) o post heads = post
post_heads (Opened q r mode how) o post heads = post
post_heads (Pick q v route) o post heads = post
post_heads (DoStep q v k outs) o post heads = post

pub if_other : {X : Type 0} (same : Bool) (y : Option X) → (same ≡ true → y ≡ None) → (if same then y else None) ≡ None
if_other true y none = none refl
if_other false y none = refl

pub no_item : (e : Entry) → IsPost e → item_of e ≡ None
no_item (Post q g args) post = refl
no_item (Start q) post = absurd post
no_item (Take q n firing) post = absurd post
no_item (Done q v firing) post = absurd post
no_item (Exit q v outs) post = absurd post
no_item (Effect q t outs) post = absurd post
no_item (Enter q v outs) post = absurd post
no_item (Opened q r mode how) post = absurd post
no_item (Pick q v route) post = absurd post
no_item (DoStep q v k outs) post = absurd post

-- what an entry runs that runs nothing
own_none : {X : Type 0} {y : Option X} (o : ObjectId) → ((o.0 == o.0) ≡ true → y ≡ None) → (if o.0 == o.0 then y else None) ≡ None
own_none {y = y} o none = if_other (o.0 == o.0) y none

-- before the start the parameters are zeros
no_head_yet : (o : ObjectId) (J : List Entry) → AllByRecursion (λ f. (object_of f ≡ o) → IsPost f) J → last_head J o ≡ None
no_head_yet o J =
    from_the_end (λ xs. AllByRecursion (λ f. (object_of f ≡ o) → IsPost f) xs → last_head xs o ≡ None)
    (λ all. refl)
    (λ xs e before all.
    let last = (AllByRecursion-back (λ f. (object_of f ≡ o) → IsPost f) xs (e ∷ []) all).0 in
    last_head-goes_on xs e o (λ heads. post_heads e o (last (head_own o e heads)) heads)
    ∙ before (AllByRecursion-front (λ f. (object_of f ≡ o) → IsPost f) xs (e ∷ []) all))
    J

-- where an object stands does not turn on by which name it goes
abbrev standing_at : ObjectId → Standing → Standing
standing_at o x = record { own = o; config = x.config; plan = x.plan; store = x.store; params = x.params; queue = x.queue; ended = x.ended; doers = x.doers }

stands_by : (class : Class) (J : List Entry) (x : Standing) (o : ObjectId) → x.own ≡ o → StandsAfter class J (standing_at o x) → StandsAfter class J x
stands_by class J x o own s = subst (λ q. StandsAfter class J (standing_at q x)) (sym own) s

module _ (class : Class) {J : List Entry} {x : Standing} (s : StandsAfter class J x) where
  abbrev m : DraftMachine
  m = class.machine

  abbrev o : ObjectId
  o = x.own

  abbrev with_one : Entry → List Entry
  with_one e = J ++ e ∷ []

  -- an entry that leaves the configuration and the store, begins nothing and runs nothing
  module _ (e : Entry) (other : (object_of e ≡ o) → IsPost e) (same : Agree (configuration_after m (with_one e) o) (configuration_after m J o))
      (store : store_of class (told_by (with_one e)) (with_one e) o ≡ store_of class (told_by J) J o) where
    begins_none : Heads e o → ⊥
    begins_none heads = post_heads e o (other (head_own o e heads)) heads

    runs_none : item_by o e ≡ None
    runs_none = if_other ((object_of e).0 == o.0) (item_of e) (λ is. no_item e (other (same_object (object_of e) o is)))

    step_left : (plan : Option Agenda) → IsStepOf m J o plan → IsStepOf m (with_one e) o plan
    step_left None h = record {
      posts = every_push (λ f. (object_of f ≡ o) → IsPost f) J e h.posts other;
      nothing = Agree-trans (configuration_after m (with_one e) o) (configuration_after m J o) nothing_yet same h.nothing;
    }
    step_left (Some p) h = (h.0, goes_on_same h.1 e begins_none runs_none same.active)

    takes_none : (n : ℕ) (firing : Firing) → e ≡ Take o n firing → (y : Stimulus) × (told_by J n ≡ Some y)
    takes_none n firing is = absurd (subst IsPost is (other (ap object_of is)))

    pub left_so : StandsAfter class (with_one e) x
    left_so = record {
      fits = s.fits;
      now_is = Agree-trans (configuration_of x.config) (configuration_after m J o) (configuration_after m (with_one e) o) s.now_is
          (Agree-symm (configuration_after m (with_one e) o) (configuration_after m J o) same);
      step_is = step_left x.plan s.step_is;
      told = signals_taken J e o s.told takes_none;
      store_is = s.store_is ∙ sym store;
      params_is = s.params_is ∙ sym (params_of-goes_on class J e o (same_takes J e o s.told) begins_none);
      room = s.room;
      queue_is = queue_other s.queue_is e other;
      ended_is = ended_left_is m J o e runs_none x.ended s.ended_is;
      doers_is = s.doers_is;
    }

  -- a post of the object
  pub after_post : (g : SignalId) (args : _) → StandsAfter class (with_one (Post o g args)) x
  after_post g args =
      left_so (Post o g args) (λ own. tt) (configuration-changed m J (Post o g args))
      (store_of-own class J (Post o g args) o (same_takes J (Post o g args) o s.told) refl)

  post_left : (e : Entry) → IsPost e → object_of e ≡ o → StandsAfter class (with_one e) x
  post_left (Post q g args) post own = subst (λ p. StandsAfter class (with_one (Post p g args)) x) (sym own) (after_post g args)
  post_left (Start q) post own = absurd post
  post_left (Take q n firing) post own = absurd post
  post_left (Done q v firing) post own = absurd post
  post_left (Exit q v outs) post own = absurd post
  post_left (Effect q t outs) post own = absurd post
  post_left (Enter q v outs) post own = absurd post
  post_left (Opened q r mode how) post own = absurd post
  post_left (Pick q v route) post own = absurd post
  post_left (DoStep q v k outs) post own = absurd post

  -- an entry of another object, or a post, changes nothing
  pub other_entries : (e : Entry) → ((object_of e ≡ o) → IsPost e) → StandsAfter class (with_one e) x
  other_entries e other =
      ⊎_elim
      (λ own. post_left e (other own) own)
      (λ apart. left_so e other (configuration-other m J o e apart) (store_of-other class J e o (same_takes J e o s.told) apart))
      (known_object (object_of e) o)

  -- an entry that runs an item
  module _ (living : HasEnded m J o → ⊥) (new : Standing) (e : Entry) (y : Item) (how : How) (own : object_of e ≡ o) (no_head : Heads e o → ⊥)
      (runs : item_of e ≡ Some (y, how)) (no_take : (n : ℕ) (firing : Firing) → e ≡ Take o n firing → (z : Stimulus) × (told_by J n ≡ Some z))
      (ready : JudgesItem m x.plan y None) (truth : Truth) (way : IsWayNow m truth (course_of ready.0) y how)
      (now_store : Store) (store : now_store ≡ (outcome_at class (told_by J) J e (store_of class (told_by J) J o)).store)
      (h : RunsHere m x y how now_store new) where
    abbrev plan : HasRunOn m x.plan y how new.plan
    plan = h.plan

    was : ready.0 ≡ plan.was
    was = same_some ready.0 plan.was (sym ready.1 ∙ plan.was_is)

    u : IsUnderWay m (with_one e) o ready.0.head (configuration_of ready.0.at_head) (ready.0.ran ++ (y, how) ∷ [])
    u = runs_on (step_of s ready.0 ready.1) e y how own no_head runs ready.2 truth way

    there : IsUnderWay m (with_one e) o plan.now.head (configuration_of plan.now.at_head) plan.now.ran
    there =
        subst (λ a. IsUnderWay m (with_one e) o a (configuration_of plan.now.at_head) plan.now.ran) (ap (λ (p : Agenda). p.head) was ∙ sym plan.head)
        (subst (λ a. IsUnderWay m (with_one e) o ready.0.head (configuration_of a) plan.now.ran) (ap (λ (p : Agenda). p.at_head) was ∙ sym plan.at_head)
        (subst (IsUnderWay m (with_one e) o ready.0.head (configuration_of ready.0.at_head)) (ap (λ (p : Agenda). p.ran ++ (y, how) ∷ []) was ∙ sym plan.ran) u))

    now : Agree (configuration_of new.config) (configuration_after m (with_one e) o)
    now =
        Agree-trans (configuration_of new.config) (changed_by_item m (configuration_of x.config) y how) (configuration_after m (with_one e) o) h.changed
        (Agree-trans (changed_by_item m (configuration_of x.config) y how) (changed_by_item m (configuration_after m J o) y how)
        (configuration_after m (with_one e) o) (changed_alike m (configuration_of x.config) (configuration_after m J o) y how s.now_is)
        (Agree-symm (configuration_after m (with_one e) o) (changed_by_item m (configuration_after m J o) y how) (after_item m J o e y how own runs)))

    pub ran_so : StandsAfter class (with_one e) new
    ran_so = stands_by class (with_one e) new o h.own (record {
      fits = h.fits;
      now_is = now;
      step_is = subst (IsStepOf m (with_one e) o) (sym plan.now_is) (plan.is_plan, there);
      told = signals_taken J e o s.told no_take;
      store_is = h.store_is ∙ store ∙ sym (store_of-own class J e o (same_takes J e o s.told) own);
      params_is = h.params ∙ s.params_is ∙ sym (params_of-goes_on class J e o (same_takes J e o s.told) no_head);
      room = subst (λ (n : ℕ). length m.vertices ≤ n) (sym h.room) s.room;
      queue_is = queue_ran s.queue_is e y how own runs (configuration_of x.config) (configuration_of new.config) s.now_is now new.queue.states h.queue;
      ended_is = ended_by_is m J o e y how own runs living (configuration_of new.config)
          (Agree-symm (configuration_of new.config) (configuration_after m (with_one e) o) now) new.ended h.ended;
      doers_is = subst (AreDoersBelow m) (sym h.doers) s.doers_is;
    })

  made_so : (act : Option Act) → (option_map_or (λ (a : Act). outcome_of a o x.store x.params) act (nothing_from x.store)).store
      ≡ (option_map_or (λ (a : Act). outcome_of a o (store_of class (told_by J) J o) (params_of (told_by J) J o)) act
      (nothing_from (store_of class (told_by J) J o))).store
  made_so act = ap (λ (made : Outcome). made.store) (outcome_here class s act)

  step_made_so : (v : VertexId) (k : ℕ) (outs : List Out)
      → step_outcome class x v k ≡ outcome_at class (told_by J) J (DoStep o v k outs) (store_of class (told_by J) J o)
  step_made_so v k outs = by (step_act class v k)
    where
      by : (act : Option Act) → option_map_or (λ (a : Act). outcome_of a o x.store no_params) act (nothing_from x.store)
          ≡ option_map_or (λ (a : Act). outcome_of a o (store_of class (told_by J) J o) no_params) act (nothing_from (store_of class (told_by J) J o))
      by act = ap (λ (store : Store). option_map_or (λ (a : Act). outcome_of a o store no_params) act (nothing_from store)) s.store_is

  module _ (living : HasEnded m J o → ⊥) (new : Standing) where
    after_exit : (v : VertexId) (outs : List Out) → JudgesItem m x.plan (items.Exit v) None → WorksHere class x (items.Exit v) new
        → StandsAfter class (with_one (Exit o v outs)) new
    after_exit v outs ready h =
        ran_so living new (Exit o v outs) (items.Exit v) Nothing refl (λ heads. cc) refl (λ n firing is. absurd (cc)) ready all_true refl
        (outcome_for class x (items.Exit v)).store (made_so (act_for class (items.Exit v))) h

    after_effect : (t : TransId) (outs : List Out) → JudgesItem m x.plan (items.Effect t) None → WorksHere class x (items.Effect t) new
        → StandsAfter class (with_one (Effect o t outs)) new
    after_effect t outs ready h =
        ran_so living new (Effect o t outs) (items.Effect t) Nothing refl (λ heads. cc) refl (λ n firing is. absurd (cc)) ready all_true refl
        (outcome_for class x (items.Effect t)).store (made_so (act_for class (items.Effect t))) h

    after_enter : (v : VertexId) (outs : List Out) → JudgesItem m x.plan (items.Enter v) None → WorksHere class x (items.Enter v) new
        → StandsAfter class (with_one (Enter o v outs)) new
    after_enter v outs ready h =
        ran_so living new (Enter o v outs) (items.Enter v) Nothing refl (λ heads. cc) refl (λ n firing is. absurd (cc)) ready all_true refl
        (outcome_for class x (items.Enter v)).store (made_so (act_for class (items.Enter v))) h

  -- the start, a take and a dispatch of a completion: an entry that begins a step
  module _ (new : Standing) (e : Entry) (head : Head) (heads : Heads e o) (kept : Agree (configuration_after m (with_one e) o) (configuration_after m J o))
      (runs : item_by o e ≡ None)
      (plan : HasBegun m head new.plan) (u : IsUnderWay m (with_one e) o head (configuration_of plan.now.at_head) [])
      (own_is : new.own ≡ o) (config : new.config ≡ x.config) (store : new.store ≡ x.store)
      (store_left : store_of class (told_by (with_one e)) (with_one e) o ≡ store_of class (told_by J) J o)
      (params : new.params ≡ params_of_head (told_by (with_one e)) (Some e))
      (taken : (n : ℕ) (firing : Firing) → e ≡ Take o n firing → (z : Stimulus) × (told_by J n ≡ Some z))
      (room : new.queue.room ≡ x.queue.room) (queue : IsQueueOf m (with_one e) o new.queue.states) (ended : new.ended ≡ x.ended)
      (doers : new.doers ≡ x.doers) where
    begun_there : IsUnderWay m (with_one e) o plan.now.head (configuration_of plan.now.at_head) plan.now.ran
    begun_there =
        subst (λ a. IsUnderWay m (with_one e) o a (configuration_of plan.now.at_head) plan.now.ran) (sym plan.head_is)
        (subst (IsUnderWay m (with_one e) o head (configuration_of plan.now.at_head)) (sym plan.ran) u)

    begun_at : Agree (configuration_of x.config) (configuration_after m (with_one e) o)
    begun_at =
        Agree-trans (configuration_of x.config) (configuration_after m J o) (configuration_after m (with_one e) o) s.now_is
        (Agree-symm (configuration_after m (with_one e) o) (configuration_after m J o) kept)

    pub begun_so : StandsAfter class (with_one e) new
    begun_so = stands_by class (with_one e) new o own_is (record {
      fits = subst (Fits m) (sym config) s.fits;
      now_is = subst (λ t. Agree (configuration_of t) (configuration_after m (with_one e) o)) (sym config) begun_at;
      step_is = subst (IsStepOf m (with_one e) o) (sym plan.now_is) (plan.is_plan, begun_there);
      told = signals_taken J e o s.told taken;
      store_is = store ∙ s.store_is ∙ sym store_left;
      params_is = params ∙ sym (params_of-begins class J e o (same_takes J e o s.told) heads);
      room = subst (λ (n : ℕ). length m.vertices ≤ n) (sym room) s.room;
      queue_is = queue;
      ended_is = subst (λ (is : Bool). IsTrue is ↔ HasEnded m (with_one e) o) (sym ended) (ended_left_is m J o e runs x.ended s.ended_is);
      doers_is = subst (AreDoersBelow m) (sym doers) s.doers_is;
    })

  -- a do step
  module _ (new : Standing) (v : VertexId) (k : ℕ) (outs : List Out) (started : HasStarted x) (h : StepsHere class x v k new) where
    stepped_after : Agree (configuration_after m (with_one (DoStep o v k outs)) o) (did_step (configuration_after m J o) v k)
    stepped_after = configuration-changed m J (DoStep o v k outs)

    stepped_here : Agree (configuration_of new.config) (configuration_after m (with_one (DoStep o v k outs)) o)
    stepped_here =
        Agree-trans (configuration_of new.config) (did_step (configuration_of x.config) v k) (configuration_after m (with_one (DoStep o v k outs)) o) h.changed
        (Agree-trans (did_step (configuration_of x.config) v k) (did_step (configuration_after m J o) v k)
        (configuration_after m (with_one (DoStep o v k outs)) o) (Agree-did_step (configuration_of x.config) (configuration_after m J o) s.now_is v k)
        (Agree-symm (configuration_after m (with_one (DoStep o v k outs)) o) (did_step (configuration_after m J o) v k) stepped_after))

    step_runs_none : item_by o (DoStep o v k outs) ≡ None
    step_runs_none = own_none o (λ same. refl)

    step_goes_on : (plan : Option Agenda) → x.plan ≡ plan → IsStepOf m (with_one (DoStep o v k outs)) o plan
    step_goes_on None is = absurd (let clash = sym is ∙ started.1 in cc)
    step_goes_on (Some p) is = (
      plan_of s p is,
      goes_on_same (step_of s p is) (DoStep o v k outs) (λ heads. cc) step_runs_none stepped_after.active,
    )

    pub stepped_so : StandsAfter class (with_one (DoStep o v k outs)) new
    stepped_so = stands_by class (with_one (DoStep o v k outs)) new o h.own (record {
      fits = h.fits;
      now_is = stepped_here;
      step_is = subst (IsStepOf m (with_one (DoStep o v k outs)) o) (sym h.plan) (step_goes_on x.plan refl);
      told = signals_taken J (DoStep o v k outs) o s.told (λ n firing is. absurd (cc));
      store_is = h.store ∙ ap (λ (made : Outcome). made.store) (step_made_so v k outs)
          ∙ sym (store_of-own class J (DoStep o v k outs) o (same_takes J (DoStep o v k outs) o s.told) refl);
      params_is = h.params ∙ s.params_is ∙ sym (params_of-goes_on class J (DoStep o v k outs) o (same_takes J (DoStep o v k outs) o s.told) (λ heads. cc));
      room = subst (λ (n : ℕ). length m.vertices ≤ n) (sym h.room) s.room;
      queue_is = queue_stepped s.queue_is v k outs (configuration_of x.config) (configuration_of new.config) s.now_is stepped_here new.queue.states h.queue;
      ended_is = subst (λ (is : Bool). IsTrue is ↔ HasEnded m (with_one (DoStep o v k outs)) o) (sym h.ended)
          (ended_left_is m J o (DoStep o v k outs) step_runs_none x.ended s.ended_is);
      doers_is = subst (AreDoersBelow m) (sym h.doers) s.doers_is;
    })

module _ (class : Class) (b : IsWellFormedClass class) {J : List Entry} {x : Standing} (s : StandsAfter class J x) where
  abbrev mach : DraftMachine
  mach = class.machine

  -- the start
  module _ (new : Standing) (none : x.plan ≡ None) (h : Begins mach x new) where
    no_active : (v : VertexId) → (configuration_of h.plan.now.at_head).Active v → ⊥
    no_active v active = (h.at_head.active v).0 active

    no_memory : (r : RegionId) (v : VertexId) → (configuration_of h.plan.now.at_head).Remembers r v → ⊥
    no_memory r v remembered = (h.at_head.remembered r v).0 remembered

    starts_here : IsUnderWay mach (J ++ Start x.own ∷ []) x.own Starts (configuration_of h.plan.now.at_head) []
    starts_here =
        begins_here mach J x.own (configuration_of h.plan.now.at_head) (Start x.own) (Start x.own) (eq-eqb x.own.0 x.own.0 refl)
        (Contains-push J (Start x.own), refl)
        (Agree-trans (configuration_of h.plan.now.at_head) nothing_yet (configuration_after mach J x.own) h.at_head
        (Agree-symm (configuration_after mach J x.own) nothing_yet (not_begun s none).nothing))
        (configuration-changed mach J (Start x.own)) (λ route is. absurd is)
        (begins_by_start mach (configuration_of h.plan.now.at_head) no_active no_memory) (λ v. inr (no_active v)) (λ r v. inr (no_memory r v))

    zeros_before : x.params ≡ no_params
    zeros_before = s.params_is ∙ ap (λ head. params_of_head (told_by J) head) (no_head_yet x.own J (only_posts s none))

    after_start : StandsAfter class (J ++ Start x.own ∷ []) new
    after_start =
        begun_so class s new (Start x.own) Starts (eq-eqb x.own.0 x.own.0 refl)
        (configuration-changed mach J (Start x.own)) (own_none x.own (λ same. refl)) h.plan starts_here h.own h.config h.store
        (store_of-own class J (Start x.own) x.own (same_takes J (Start x.own) x.own s.told) refl)
        (h.params ∙ zeros_before) (λ n firing is. absurd (cc)) (ap (λ (q : CompletionQueue). q.room) h.queue)
        (subst (λ (q : CompletionQueue). IsQueueOf mach (J ++ Start x.own ∷ []) x.own q.states) (sym h.queue) (queue_kept s.queue_is (Start x.own) refl refl refl))
        h.ended h.doers

  -- routes that fire where the object rests
  module _ (new : Standing) (e : Entry) (routes : List Route) (params : Params) (event : Event) (rests : IsAtRest mach x.plan)
      (fires : FiresAt class x.config x.store params event routes) (heads : Heads e x.own) (is_head : head_of e ≡ Fires routes)
      (kept : Agree (configuration_after mach (J ++ e ∷ []) x.own) (configuration_after mach J x.own)) (runs : item_by x.own e ≡ None)
      (store_left : store_of class (told_by (J ++ e ∷ [])) (J ++ e ∷ []) x.own ≡ store_of class (told_by J) J x.own)
      (params_told : params ≡ params_of_head (told_by (J ++ e ∷ [])) (Some e))
      (taken : (n : ℕ) (firing : Firing) → e ≡ Take x.own n firing → (z : Stimulus) × (told_by J n ≡ Some z))
      (h : FiresOn mach x routes params new) (room : new.queue.room ≡ x.queue.room) (queue : IsQueueOf mach (J ++ e ∷ []) x.own new.queue.states) where
    was_here : IsUnderWay mach J x.own rests.0.head (configuration_of rests.0.at_head) rests.0.ran
    was_here = step_of s rests.0 rests.1

    consistent_now : IsConsistent mach (configuration_of x.config)
    consistent_now =
        consistent_alike mach (changed_along mach (configuration_of rests.0.at_head) rests.0.ran) (configuration_of x.config)
        (along_of s rests.0 rests.1)
        (stays_consistent s.fits.shape b.rules rests.0.head (configuration_of rests.0.at_head) was_here.begins
        rests.0.ran was_here.gone)

    fires_here : IsUnderWay mach (J ++ e ∷ []) x.own (Fires routes) (configuration_of x.config) []
    fires_here =
        subst (λ a. IsUnderWay mach (J ++ e ∷ []) x.own a (configuration_of x.config) []) is_head
        (begins_here mach J x.own (configuration_of x.config) e was_here.start heads
        (Contains-append_left J (e ∷ []) was_here.start was_here.started.0, was_here.started.1) s.now_is kept
        (subst (λ a. (route : Route) → FiresBy a route → IsStateRoute mach route) (sym is_head)
        (λ route inside. fired_state_route mach (configuration_of x.config) (guards_under class x.store params) event routes fires route inside))
        (subst (λ a. BeginsWell mach a (configuration_of x.config)) (sym is_head)
        (begins_by_firing mach (configuration_of x.config) (guards_under class x.store params) event routes consistent_now s.fits.remembered fires))
        (λ v. known_true (slice_index_or x.config.active v.0 false))
        (λ r v. known_named (slice_index_or x.config.remembered r.0 None) v))

    fired_so : StandsAfter class (J ++ e ∷ []) new
    fired_so =
        begun_so class s new e (Fires routes) heads kept runs h.plan
        (subst (λ a. IsUnderWay mach (J ++ e ∷ []) x.own (Fires routes) (configuration_of a) []) (sym h.at_head) fires_here)
        h.own h.config h.store store_left (h.params_is ∙ params_told) taken room queue h.ended h.doers

  -- a take of this signal
  module _ (new : Standing) (number : ℕ) (firing : Firing) (w : Waiting) (rests : IsAtRest mach x.plan) (fires : FiresHere class x firing.routes w)
      (told : told_by J number ≡ Some (stimulus_of x.own w)) (h : FiresOn mach x firing.routes (eight_of w.args) new) (queue : new.queue ≡ x.queue) where
    params_told : eight_of w.args ≡ params_of_head (told_by (J ++ Take x.own number firing ∷ [])) (Some (Take x.own number firing))
    params_told =
        ap (λ found. eight_of (option_map_or (λ (y : Stimulus). y.args) found []))
        (sym (told_by-more J (Take x.own number firing) number (stimulus_of x.own w) told))

    after_take : StandsAfter class (J ++ Take x.own number firing ∷ []) new
    after_take =
        fired_so new (Take x.own number firing) firing.routes (eight_of w.args) (Signal w.signal) rests fires (eq-eqb x.own.0 x.own.0 refl) refl
        (configuration-changed mach J (Take x.own number firing)) (own_none x.own (λ same. refl))
        (store_of-own class J (Take x.own number firing) x.own (same_takes J (Take x.own number firing) x.own s.told) refl)
        params_told
        (λ n other is. (stimulus_of x.own w, subst (λ k. told_by J k ≡ Some (stimulus_of x.own w)) (let same = is in cc) told))
        h (ap (λ (q : CompletionQueue). q.room) queue)
        (subst (λ (q : CompletionQueue). IsQueueOf mach (J ++ Take x.own number firing ∷ []) x.own q.states) (sym queue)
        (queue_kept s.queue_is (Take x.own number firing) refl refl refl))

  taken : (new : Standing) (number : ℕ) (firing : Firing) (signal : Option Waiting) → IsSomeAnd signal (λ w. number ≡ w.number)
      → IsAtRest mach x.plan → IfSome signal (FiresHere class x firing.routes) → told_by J number ≡ stimulus_for x.own signal
      → Takes mach x firing.routes signal new → StandsAfter class (J ++ Take x.own number firing ∷ []) new
  taken new number firing None named rests fires told h = absurd named
  taken new number firing (Some w) named rests fires told h = after_take new number firing w rests fires told h.fires h.queue

  -- a dispatch of a completion
  served : (new : Standing) (v : VertexId) (firing : Firing) → IsAtRest mach x.plan → Completes class x v firing.routes
      → Dispatches mach x v firing.routes new → StandsAfter class (J ++ Done x.own v firing ∷ []) new
  served new v firing rests fires h =
      fired_so new (Done x.own v firing) firing.routes no_params (Completion v) rests fires (eq-eqb x.own.0 x.own.0 refl) refl
      (configuration-changed mach J (Done x.own v firing)) (own_none x.own (λ same. refl))
      (store_of-own class J (Done x.own v firing) x.own (same_takes J (Done x.own v firing) x.own s.told) refl)
      refl (λ n other is. absurd (cc)) h.fires h.room
      (subst (IsQueueOf mach (J ++ Done x.own v firing ∷ []) x.own) (sym h.queue) (queue_done s.queue_is v firing))

  -- an opening
  opened : (HasEnded mach J x.own → ⊥) → (new : Standing) (r : RegionId) (mode : Mode) (how : How) → JudgesItem mach x.plan (items.Opened r mode) None
      → IsOpeningWay class x.config x.store x.params r mode how → RunsHere mach x (items.Opened r mode) how x.store new
      → StandsAfter class (J ++ Opened x.own r mode how ∷ []) new
  opened living new r mode how ready opens h =
      ran_so class s living new (Opened x.own r mode how) (items.Opened r mode) how refl (λ heads. cc) refl (λ n firing is. absurd (cc)) ready
      (guards_under class x.store x.params) (opens_now class b s r mode how opens ready.0 ready.2 ready.1) x.store s.store_is h

  -- a pick
  picked : (HasEnded mach J x.own → ⊥) → (new : Standing) (v : VertexId) (route : Route) → JudgesItem mach x.plan (items.Pick v) None
      → IsWayFrom class x.store x.params v route → RunsHere mach x (items.Pick v) (By route) x.store new
      → StandsAfter class (J ++ Pick x.own v route ∷ []) new
  picked living new v route ready way h =
      ran_so class s living new (Pick x.own v route) (items.Pick v) (By route) refl (λ heads. cc) refl (λ n firing is. absurd (cc)) ready
      (guards_under class x.store x.params) way x.store s.store_is h

  -- any entry that is accepted, where the object has not ended
  following_living : (new : Standing) (signal : Option Waiting) (e : Entry) → object_of e ≡ x.own → NamesSignal signal e
      → (IsPastEnd x e → ⊥) → JudgesLiving class x signal e None
      → IsTold J (stimulus_for x.own signal) e → Advances class x signal e new → StandsAfter class (J ++ e ∷ []) new
  following_living new signal (Post q g args) own named lives h told next =
      subst (StandsAfter class (J ++ Post q g args ∷ [])) (sym next)
      (subst (λ p. StandsAfter class (J ++ Post p g args ∷ []) x) (sym own) (after_post class s g args))
  following_living new signal (Start q) own named lives h told next = subst (λ p. StandsAfter class (J ++ Start p ∷ []) new) (sym own) (after_start new h next)
  following_living new signal (Take q number firing) own named lives h told next =
      subst (λ p. StandsAfter class (J ++ Take p number firing ∷ []) new) (sym own) (taken new number firing signal named h.0 h.2 told next)
  following_living new signal (Done q v firing) own named lives h told next =
      subst (λ p. StandsAfter class (J ++ Done p v firing ∷ []) new) (sym own) (served new v firing h.0 h.2 next)
  following_living new signal (Exit q v outs) own named lives h told next =
      subst (λ p. StandsAfter class (J ++ Exit p v outs ∷ []) new) (sym own)
      (after_exit class s (λ ended. lives (s.ended_is.1 ended)) new v outs h.0 next)
  following_living new signal (Effect q t outs) own named lives h told next =
      subst (λ p. StandsAfter class (J ++ Effect p t outs ∷ []) new) (sym own)
      (after_effect class s (λ ended. lives (s.ended_is.1 ended)) new t outs h.0 next)
  following_living new signal (Enter q v outs) own named lives h told next =
      subst (λ p. StandsAfter class (J ++ Enter p v outs ∷ []) new) (sym own)
      (after_enter class s (λ ended. lives (s.ended_is.1 ended)) new v outs h.0 next)
  following_living new signal (Opened q r mode how) own named lives h told next =
      subst (λ p. StandsAfter class (J ++ Opened p r mode how ∷ []) new) (sym own)
      (opened (λ ended. lives (s.ended_is.1 ended)) new r mode how h.0 h.1 next)
  following_living new signal (Pick q v route) own named lives h told next =
      subst (λ p. StandsAfter class (J ++ Pick p v route ∷ []) new) (sym own) (picked (λ ended. lives (s.ended_is.1 ended)) new v route h.0 h.1 next)
  following_living new signal (DoStep q v k outs) own named lives (inl (none, clash)) told next = absurd (cc)
  following_living new signal (DoStep q v k outs) own named lives (inr (started, h)) told next =
      subst (λ p. StandsAfter class (J ++ DoStep p v k outs ∷ []) new) (sym own) (stepped_so class s new v k outs started next)

  pub following : (new : Standing) (signal : Option Waiting) (e : Entry) → object_of e ≡ x.own → NamesSignal signal e → Judges class x signal e None
      → IsTold J (stimulus_for x.own signal) e → Advances class x signal e new → StandsAfter class (J ++ e ∷ []) new
  following new signal e own named (inl (past, clash)) told next = absurd (cc)
  following new signal e own named (inr (lives, h)) told next = following_living new signal e own named lives h told next
