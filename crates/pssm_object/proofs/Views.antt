-- What an object tells of itself, from where it stands.
use Rattle.std.proofs.Common.{◌≡◌, ◌↔◌, ◌==◌, ◌≤◌, ◌<◌, ◌++◌, ℕ, List, [], ◌∷◌, length, Contains, Bool, IsTrue, MatchBool, IfSome, IfNone, Option, Some, None, slice_get, refl, sym, ap, subst, ◌∙◌, inl, inr, arith}
use Rattle.std.proofs.lemmas.Bool.{eqb-true}
use Rattle.pssm_model.specs.declared.ids.VertexId.{VertexId}
use Rattle.pssm_model.specs.declared.ids.RegionId.{RegionId}
use Rattle.pssm_model.specs.declared.elements.DraftMachine.{DraftMachine}
use Rattle.pssm_model.specs.declared.elements.Owner.TheVariants.{Top, Region}
use Rattle.pssm_model.specs.Forest.{owner_of}
use Rattle.pssm_plan.specs.Plans.{IsPlanOf}
use Rattle.pssm_model.specs.Changes.{Agree, nothing_yet}
use Rattle.pssm_object.proofs.Agreeing.{Agree-symm, Agree-trans}
use Rattle.pssm_model.proofs.ElementLaws.{nothing_in_nil}
use Rattle.pssm_config.specs.Tables.{Tables, Fits, configuration_of}
use Rattle.pssm_semantics.specs.declared.entry.ObjectId.{ObjectId}
use Rattle.pssm_semantics.specs.declared.entry.Entry.{Entry}
use Rattle.pssm_semantics.specs.declared.entry.Entry.TheVariants.{Take}
use Rattle.pssm_semantics.specs.declared.entry.Rule.{Rule}
use Rattle.pssm_semantics.specs.declared.setting.Class.{Class}
use Rattle.pssm_semantics.specs.declared.stimulus.Task.{Task}
use Rattle.pssm_semantics.specs.Completion.{HasEnded}
use Rattle.pssm_semantics.specs.Journal.{object_of, configuration_after}
use Rattle.pssm_semantics.specs.Values.{Store, Params, no_params}
use Rattle.pssm_semantics.specs.Behaviours.{first_store}
use Rattle.pssm_semantics.specs.Verdict.{IsFirstBroken}
use Rattle.pssm_semantics.specs.Classes.{IsWellFormedClass}
use Rattle.pssm_object.proofs.Configurations.{configuration-nil}
use Rattle.pssm_semantics_laws.proofs.Members.{first_in}
use Rattle.pssm_pool.specs.declared.pools.Waiting.{Waiting}
use Rattle.pssm_object.specs.declared.situation.Situation.{Situation}
use Rattle.pssm_object.specs.Queue.{CompletionQueue, IsQueueOf}
use Rattle.pssm_object.specs.Doing.{AreDoersBelow}
use Rattle.pssm_object.specs.inner.Queueing.{QueueFits}
use Rattle.pssm_object.specs.Standing.{Standing, StandsAfter, Stands}
use Rattle.pssm_object.specs.Following.{NamesPlaces, KeepsRule, KeepsRules, IsCandidate, IsMove, IsQuiet, HasNext, IsHandedIn, IsTold, CanCome, Defers, TellsEnd, TellsWait, IsFirstCompletion, TellsCompletion, TellsReady, stimulus_for, made_by}
use Rattle.pssm_object.specs.Tasks.{ready_tasks, AreReadyTasks, Does}
use Rattle.pssm_object.specs.inner.Situations.{standing_of}
use Rattle.pssm_object.specs.inner.Judging.{Judges, IsTaskReady}
use Rattle.pssm_object.specs.inner.Advancing.{CanFollow, Advances}
use Rattle.pssm_object.specs.inner.Choosing.{Chooses, DoesTask, IsDeferredHere, IsStill, AwaitsHere}
use Rattle.pssm_object.proofs.QueueEntries.{queue_before_all}
use Rattle.pssm_object.proofs.QueueHeads.{head_of_queue, end_of_queue, queue_fits}
use Rattle.pssm_object.proofs.Standings.{plan_fits}
use Rattle.pssm_object.proofs.Judged.{judged}
use Rattle.pssm_object.proofs.Accepted.{accepted}
use Rattle.pssm_object.proofs.Following.{can_follow}
use Rattle.pssm_object.proofs.Deferring.{deferred_is}
use Rattle.pssm_object.proofs.Advancing.{following}
use Rattle.pssm_object.proofs.Eights.{params_eight}
use Rattle.pssm_object.proofs.Awaiting.{wait_told}
use Rattle.pssm_object.proofs.Chosen.{IsGoodMove, good_move, chosen_keeps, quiet_is}
use Rattle.pssm_object.proofs.TaskLists.{lists_tasks, does_task}
use Rattle.pssm_object.proofs.TaskCounts.{few_tasks}
use Rattle.pssm_object.proofs.TasksReady.{task_told}

module _ (situation : Situation) (x : Standing) (view_is : standing_of situation ≡ x) where
  seen : (P : Standing → Type 0) → P (standing_of situation) → P x
  seen P here = subst P view_is here

  unseen : (P : Standing → Type 0) → P x → P (standing_of situation)
  unseen P there = subst P (sym view_is) there

  -- whether it has ended, and which completion is the first that waits
  pub end_seen : (answer : Bool) → answer ≡ situation.ended → (class : Class) → TellsEnd class x answer
  end_seen answer is class J s = subst (λ (ended : Bool). IsTrue ended ↔ HasEnded class.machine J x.own) (sym (is ∙ ap (λ (y : Standing). y.ended) view_is)) s.ended_is

  -- whether it waits for a signal
  pub wait_seen : (answer : Bool) → ((m : DraftMachine) → IfSome situation.plan (IsPlanOf m) → (IsTrue answer ↔ AwaitsHere m (standing_of situation)))
      → (class : Class) → TellsWait class x answer
  wait_seen answer h class J s =
      wait_told class s answer
      (seen (λ y. IsTrue answer ↔ AwaitsHere class.machine y) (h class.machine (unseen (λ y. IfSome y.plan (IsPlanOf class.machine)) (plan_fits s))))

  first_told : (class : Class) (J : List Entry) → StandsAfter class J x → (first : Option VertexId) → slice_get x.queue.states 0 ≡ first
      → IsFirstCompletion class.machine J x.own first
  first_told class J s None is = (end_of_queue class.machine J x.own x.queue.states s.queue_is).0 is
  first_told class J s (Some v) is = (head_of_queue class.machine J x.own x.queue.states s.queue_is v).0 is

  pub completion_seen : (answer : Option VertexId) → answer ≡ slice_get situation.queue.states 0 → (class : Class) → TellsCompletion class x answer
  completion_seen answer is class J s =
      first_told class J s answer (sym (is ∙ ap (λ (y : Standing). slice_get y.queue.states 0) view_is))

  module _ (class : Class) where
    -- the configuration and the plan are of the machine, and there is room in the queue
    pub config_fits : Stands class x → Fits class.machine situation.config
    config_fits stands = unseen (λ y. Fits class.machine y.config) stands.1.fits

    pub plan_known : Stands class x → IfSome situation.plan (IsPlanOf class.machine)
    plan_known stands = unseen (λ y. IfSome y.plan (IsPlanOf class.machine)) (plan_fits stands.1)

    pub doers_seen : Stands class x → AreDoersBelow class.machine situation.doers
    doers_seen stands = unseen (λ y. AreDoersBelow class.machine y.doers) stands.1.doers_is

    pub room_seen : (J : List Entry) → StandsAfter class J x → QueueFits class.machine situation.queue
    room_seen J s = unseen (λ y. QueueFits class.machine y.queue) (queue_fits class.machine J x.own x.queue s.queue_is s.room)

    -- a ready task is ready by what is kept
    pub ready_seen : (task : Task) → Contains (ready_tasks class.machine x) task → Contains (ready_tasks class.machine (standing_of situation)) task
    ready_seen task ready = unseen (λ y. Contains (ready_tasks class.machine y) task) ready

    -- it tells whether a task is ready
    pub task_ready_seen : (task : Task) (answer : Bool) → (IsTrue answer ↔ IsTaskReady class.machine (standing_of situation) task) → TellsReady class x task answer
    task_ready_seen task answer h J s = task_told class s task answer (seen (λ y. IsTrue answer ↔ IsTaskReady class.machine y task) h)

    -- the values that a behaviour makes
    pub made_seen : (e : Entry) (store : Store) → store ≡ (made_by class x e).store → store ≡ (made_by class (standing_of situation) e).store
    made_seen e store made = unseen (λ y. store ≡ (made_by class y e).store) made

    module _ (b : IsWellFormedClass class) where
      -- the verdict is that of the rules
      pub keeps_seen : (signal : Option Waiting) (e : Entry) → object_of e ≡ x.own → (answer : Option Rule)
          → Judges class (standing_of situation) signal e answer
          → IfNone answer ((J : List Entry) → StandsAfter class J x → KeepsRules class x signal J e)
      keeps_seen signal e own None h = λ J s. judged class b s signal e own None (seen (λ y. Judges class y signal e None) h)
      keeps_seen signal e own (Some rule) h = tt

      pub breaks_seen : (signal : Option Waiting) (e : Entry) → object_of e ≡ x.own → (answer : Option Rule)
          → Judges class (standing_of situation) signal e answer
          → IfSome answer (λ broken. (J : List Entry) → StandsAfter class J x → IsFirstBroken (KeepsRule class x signal) J e broken)
      breaks_seen signal e own None h = tt
      breaks_seen signal e own (Some rule) h = λ J s. judged class b s signal e own (Some rule) (seen (λ y. Judges class y signal e (Some rule)) h)

      -- what may come next can be told
      module _ (signal : Option Waiting) (e : Entry) (can : CanCome class x signal e) where
        accepts : Judges class x signal e None
        accepts = accepted class b can.stands signal e can.own can.keeps

        pub follows_seen : CanFollow class (standing_of situation) signal e
        follows_seen = unseen (λ y. CanFollow class y signal e) (can_follow class b can.stands signal e can.names accepts)

        pub fits_seen : Fits class.machine situation.config
        fits_seen = config_fits (can.before, can.stands)

        pub room_fits : QueueFits class.machine situation.queue
        room_fits = room_seen can.before can.stands

        pub eight_seen : length situation.params ≡ 8
        eight_seen = unseen (λ y. length y.params ≡ 8) (params_eight class can.before x can.stands)

        pub advances_seen : (next : Standing) → Advances class (standing_of situation) signal e next → (J : List Entry) → StandsAfter class J x
            → IsTold J (stimulus_for x.own signal) e → StandsAfter class (J ++ e ∷ []) next
        advances_seen next h J s told = following class b s next signal e can.own can.names accepts told (seen (λ y. Advances class y signal e next) h)

      -- it is quiet exactly where nothing may come next
      pub quiet_seen : (signal : Option Waiting) (J : List Entry) → StandsAfter class J x → (answer waiting : Bool)
          → (IsTrue answer ↔ IsStill class.machine (standing_of situation) waiting) → IsHandedIn waiting signal
          → MatchBool answer (IsQuiet class x signal J) (HasNext class x signal J)
      quiet_seen signal J s answer waiting says handed =
          quiet_is class b x signal s answer waiting (seen (λ y. IsTrue answer ↔ IsStill class.machine y waiting) says) handed

      -- it defers a signal exactly where an active State defers it
      pub defers_seen : (w : Waiting) (answer : Bool) → (IsTrue answer ↔ IsDeferredHere class (standing_of situation) w) → Defers class x w answer
      defers_seen w answer h J s =
          let here = seen (λ y. IsTrue answer ↔ IsDeferredHere class y w) h in
          let is = deferred_is class s w in
          (λ yes. is.0 (here.0 yes), λ deferred. here.1 (is.1 deferred))

      -- there are few ready tasks
      pub few_seen : Stands class x → length (ready_tasks class.machine (standing_of situation)) < 4294967296
      few_seen stands =
          unseen (λ y. length (ready_tasks class.machine y) < 4294967296)
          (let few = few_tasks class b stands.1 in
          let limits = stands.1.fits.shape.limits in
          let vertices = limits.vertices in
          let transitions = limits.transitions in
          omega (arith, few, vertices, transitions))

      pub few_there : Stands class x → length (ready_tasks class.machine x) < 4294967296
      few_there stands = seen (λ y. length (ready_tasks class.machine y) < 4294967296) (few_seen stands)

      pub tasks_seen : AreReadyTasks class x (ready_tasks class.machine x)
      tasks_seen = λ J s. lists_tasks class b s

      -- what is chosen is a move that may follow, and nothing is chosen where none may
      module _ (signal : Option Waiting) (stands : Stands class x) where
        good : (chosen : Option Entry) → Chooses class (standing_of situation) signal situation.plan chosen → IsGoodMove class b x signal stands.1 chosen
        good chosen h = good_move class b x signal stands.1 chosen (seen (λ y. Chooses class y signal y.plan chosen) h)

        pub moves_seen : (chosen : Option Entry) → Chooses class (standing_of situation) signal situation.plan chosen → IfSome chosen IsMove
        moves_seen None h = tt
        moves_seen (Some e) h = (good (Some e) h).0

        pub own_seen : (chosen : Option Entry) → Chooses class (standing_of situation) signal situation.plan chosen → IfSome chosen (IsCandidate x.own signal)
        own_seen None h = tt
        own_seen (Some e) h = (good (Some e) h).1.candidate

        pub places_seen : (chosen : Option Entry) → Chooses class (standing_of situation) signal situation.plan chosen
            → IfSome chosen (NamesPlaces class.machine)
        places_seen None h = tt
        places_seen (Some e) h = (good (Some e) h).1.places

        pub chosen_seen : (chosen : Option Entry) → Chooses class (standing_of situation) signal situation.plan chosen
            → IfSome chosen (λ e. (J : List Entry) → StandsAfter class J x → KeepsRules class x signal J e)
        chosen_seen None h = tt
        chosen_seen (Some e) h = λ J s. chosen_keeps class b x signal s e (good (Some e) h).1

        pub none_seen : (chosen : Option Entry) → Chooses class (standing_of situation) signal situation.plan chosen
            → IfNone chosen ((J : List Entry) → StandsAfter class J x → (e : Entry) → IsMove e → IsCandidate x.own signal e → KeepsRules class x signal J e → ⊥)
        none_seen None h = λ J s e move candidate keeps. good None h e move candidate (accepted class b s signal e candidate.own keeps)
        none_seen (Some e) h = tt

      -- the entry of a ready task may follow
      module _ (stands : Stands class x) (task : Task) (ready : Contains (ready_tasks class.machine x) task) (e : Entry)
          (does : DoesTask class (standing_of situation) task e) where
        done : DoesTask class x task e
        done = seen (λ y. DoesTask class y task e) does

        pub does_seen : Does x.own task e
        does_seen = (does_task class b stands.1 task ready e done).2

        pub task_places_seen : NamesPlaces class.machine e
        task_places_seen = (does_task class b stands.1 task ready e done).3

        pub task_seen : (J : List Entry) → StandsAfter class J x → KeepsRules class x None J e
        task_seen J s = let is = does_task class b s task ready e done in judged class b s None e is.1 None is.0

-- before all entries an object has ended exactly where there is no top region
ended_first : (m : DraftMachine) (own : ObjectId) (tops : List RegionId) → ((r : RegionId) → Contains tops r ↔ (owner_of m (Region r) ≡ Some Top))
    → IsTrue (length tops == 0) ↔ HasEnded m [] own
ended_first m own [] are = (λ yes. inr (λ r top. absurd (nothing_in_nil r ((are r).1 top))), λ ended. refl)
ended_first m own (r ∷ rest) are = (λ yes. absurd (let no : length (r ∷ rest) ≡ 0 = eqb-true (length (r ∷ rest)) 0 yes in omega arith), never)
  where
    never : HasEnded m [] own → IsTrue (length (r ∷ rest) == 0)
    never (inl (e, t, v, inside, effect, enters, kind)) = absurd (nothing_in_nil e inside)
    never (inr finals) = let f = finals r ((are r).0 (first_in r rest)) in absurd (((configuration-nil m own).active f.0).0 f.3)

-- a new object stands so after no entries
pub starts_so : (class : Class) (own : ObjectId) (config : Tables) (store : Store) (params : Params) (queue : CompletionQueue) (tops : List RegionId) (ended : Bool)
    (doers : ℕ) → Fits class.machine config
    → Agree (configuration_of config) nothing_yet → store ≡ first_store class → params ≡ no_params
    → queue.states ≡ [] → queue.room ≡ length class.machine.vertices
    → ((r : RegionId) → Contains tops r ↔ (owner_of class.machine (Region r) ≡ Some Top)) → ended ≡ (length tops == 0)
    → AreDoersBelow class.machine doers → StandsAfter class []
    (record { own = own; config = config; plan = None; store = store; params = params; queue = queue; ended = ended; doers = doers })
starts_so class own config store params queue tops ended doers fits nothing first zeros empty room are none_top below =
    let none = configuration-nil class.machine own in
    record {
      fits = fits;
      now_is = Agree-trans (configuration_of config) nothing_yet (configuration_after class.machine [] own) nothing
          (Agree-symm (configuration_after class.machine [] own) nothing_yet none);
      step_is = record { posts = tt; nothing = none };
      told = λ number firing inside. absurd (nothing_in_nil (Take own number firing) inside);
      store_is = first;
      params_is = zeros;
      room = subst (λ (n : ℕ). length class.machine.vertices ≤ n) (sym room) (omega arith);
      queue_is = subst (IsQueueOf class.machine [] own) (sym empty) (queue_before_all class.machine own);
      ended_is = subst (λ (e : Bool). IsTrue e ↔ HasEnded class.machine [] own) (sym none_top) (ended_first class.machine own tops are);
      doers_is = below;
    }
