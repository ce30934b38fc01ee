-- What is chosen may follow, nothing is chosen where nothing may, and an object is quiet exactly where nothing may follow.
use Rattle.std.proofs.Common.{◌≡◌, ◌⊎◌, ◌↔◌, ℕ, List, [], ◌∷◌, Contains, Bool, true, false, IsTrue, MatchBool, IsSome, IsSomeAnd, IfSome, Option, Some, None, slice_get, refl, sym, subst, ◌∙◌, inl, inr, ⊎_elim, slice_index_or}
use Rattle.std.proofs.lemmas.Bool.{false≢true}
use Rattle.pssm_model.specs.declared.ids.VertexId.{VertexId}
use Rattle.pssm_model.specs.declared.ids.RegionId.{RegionId}
use Rattle.pssm_model.specs.declared.elements.DraftMachine.{DraftMachine}
use Rattle.pssm_model.specs.declared.steps.Route.{Route}
use Rattle.pssm_model.specs.declared.steps.Firing.{Firing}
use Rattle.pssm_model.specs.declared.steps.Event.TheVariants.{Signal, Completion}
use Rattle.pssm_model.specs.declared.steps.Mode.{Mode}
use Rattle.pssm_model.specs.declared.steps.How.{How}
use Rattle.pssm_model.specs.declared.steps.How.TheVariants.{By, Restore, Nothing}
use Rattle.pssm_model.specs.declared.steps.Item.{Item}
use Rattle.pssm_model.specs.declared.steps.Item.TheVariants as items
use Rattle.pssm_model.specs.Order.{IsReady}
use Rattle.pssm_config.specs.Tables.{configuration_of}
use Rattle.pssm_plan.specs.Agenda.{Agenda, course_of}
use Rattle.pssm_plan.proofs.KnownItems.{known_true}
use Rattle.pssm_semantics.specs.declared.entry.Entry.{Entry}
use Rattle.pssm_semantics.specs.declared.entry.Entry.TheVariants.{Post, Start, Take, Done, Exit, Effect, Enter, Opened, Pick, DoStep}
use Rattle.pssm_semantics.specs.declared.stimulus.Task.{Task}
use Rattle.pssm_semantics.specs.declared.stimulus.Task.TheVariants as tasks
use Rattle.pssm_semantics.specs.declared.setting.Class.{Class}
use Rattle.pssm_semantics.specs.Journal.{IsPost}
use Rattle.pssm_semantics.specs.Values.{eight_of, no_params}
use Rattle.pssm_semantics.specs.Behaviours.{guards_under}
use Rattle.pssm_semantics.specs.Classes.{IsWellFormedClass}
use Rattle.pssm_pool.specs.declared.pools.Waiting.{Waiting}
use Rattle.pssm_object.specs.Doing.{do_tasks}
use Rattle.pssm_object.specs.Standing.{Standing, StandsAfter}
use Rattle.pssm_object.specs.Following.{NamesPlaces, KeepsRules, IsCandidate, IsMove, IsQuiet, HasNext, IsHandedIn}
use Rattle.pssm_object.specs.inner.Doing.{IsNextHere, step_outcome}
use Rattle.pssm_object.specs.inner.Situations.{IsAtRest, first_waiting}
use Rattle.pssm_object.specs.inner.Working.{outcome_for}
use Rattle.pssm_object.specs.inner.Judging.{FiresHere, Completes, IsWayHere, HasStarted, JudgesItem, IsPastEnd, JudgesLiving, Judges}
use Rattle.pssm_object.specs.inner.Choosing.{HasNoChoice, GoesBy, TakesSignal, ServesCompletion, ChoosesNext, ChoosesWay, ChoosesLiving, Chooses, HasNothingLeft, IsStill}
use Rattle.pssm_object.proofs.Choices.{some_way_entry}
use Rattle.pssm_object.proofs.DoingLists.{in_do_tasks, do_task_listed}
use Rattle.pssm_object.proofs.Fired.{fired_there}
use Rattle.pssm_object.proofs.KnownCompletions.{known_complete}
use Rattle.pssm_object.proofs.QueueHeads.{member_there}
use Rattle.pssm_object.proofs.QueueLists.{nothing_in, is_first}
use Rattle.pssm_object.proofs.SomeFiring.{some_firing}
use Rattle.pssm_object.proofs.Standings.{plan_or_none, step_of}
use Rattle.pssm_object.proofs.Judged.{same_some, judged}
use Rattle.pssm_object.proofs.Accepted.{accepted}
use Rattle.pssm_object.proofs.Following.{ready_there, ready_item_there}
use Rattle.pssm_object.proofs.SomeWays.{way_there}
use Rattle.pssm_object.proofs.Ready.{out_or_ready}
use Rattle.pssm_object.proofs.PlanItems.{rests_where}

-- what comes after the end: every entry but a post
past_of : (x : Standing) (e : Entry) → (IsPost e → ⊥) → IsTrue x.ended → IsPastEnd x e
past_of x (Post o g args) no_post ended = absurd (no_post tt)
past_of x (Start o) no_post ended = ended
past_of x (Take o number firing) no_post ended = ended
past_of x (Done o v firing) no_post ended = ended
past_of x (Exit o v outs) no_post ended = ended
past_of x (Effect o t outs) no_post ended = ended
past_of x (Enter o v outs) no_post ended = ended
past_of x (Opened o r mode how) no_post ended = ended
past_of x (Pick o v route) no_post ended = ended
past_of x (DoStep o v k outs) no_post ended = ended

not_past : (x : Standing) → (IsTrue x.ended → ⊥) → (e : Entry) → IsPastEnd x e → ⊥
not_past x living (Post o g args) past = past
not_past x living (Start o) past = living past
not_past x living (Take o number firing) past = living past
not_past x living (Done o v firing) past = living past
not_past x living (Exit o v outs) past = living past
not_past x living (Effect o t outs) past = living past
not_past x living (Enter o v outs) past = living past
not_past x living (Opened o r mode how) past = living past
not_past x living (Pick o v route) past = living past
not_past x living (DoStep o v k outs) past = living past

-- the first of a list is in it
first_in_list : {X : Type 0} (xs : List X) (x : X) → slice_get xs 0 ≡ Some x → Contains xs x
first_in_list [] x e = absurd (let clash : None ≡ Some x = e in cc)
first_in_list (y ∷ ys) x e = let same : y ≡ x = same_some y x e in subst (Contains (y ∷ ys)) same (is_first y ys)

module _ (class : Class) (b : IsWellFormedClass class) (x : Standing) (signal : Option Waiting) where
  abbrev m : DraftMachine
  m = class.machine

  -- an entry that is accepted, and what is so of it
  pub record IsChosen (e : Entry) : Type 0 where
    pub candidate : IsCandidate x.own signal e
    pub places : NamesPlaces m e
    pub accepts : Judges class x signal e None

  -- after the end nothing is accepted
  ended_none : IsTrue x.ended → (e : Entry) → IsCandidate x.own signal e → Judges class x signal e None → ⊥
  ended_none ended e candidate (inl (past, clash)) = cc
  ended_none ended e candidate (inr (lives, h)) = lives (past_of x e candidate.no_post ended)

  living_of : (e : Entry) → Judges class x signal e None → JudgesLiving class x signal e None
  living_of e (inl (past, clash)) = absurd (cc)
  living_of e (inr (lives, h)) = h

  module _ (living : IsTrue x.ended → ⊥) where
    lives : (e : Entry) → JudgesLiving class x signal e None → Judges class x signal e None
    lives e h = inr (not_past x living e, h)

    start_chosen : x.plan ≡ None → IsChosen (Start x.own)
    start_chosen none = record { candidate = record { own = refl; no_post = λ post. post; names = tt }; places = tt; accepts = lives (Start x.own) none }

    take_chosen : (firing : Firing) (w : Waiting) → signal ≡ Some w → IsAtRest m x.plan → first_waiting x ≡ None → FiresHere class x firing.routes w
        → IsChosen (Take x.own w.number firing)
    take_chosen firing w is rests none fires = record {
      candidate = record {
        own = refl;
        no_post = λ post. post;
        names = subst (λ o. IsSomeAnd o (λ v. w.number ≡ v.number)) (sym is) refl;
      };
      places = fired_there m (configuration_of x.config) (guards_under class x.store (eight_of w.args)) (Signal w.signal) firing.routes fires;
      accepts = lives (Take x.own w.number firing) (rests, none, subst (λ o. IfSome o (FiresHere class x firing.routes)) (sym is) fires);
    }

    module _ {J : List Entry} (s : StandsAfter class J x) where
      done_chosen : (firing : Firing) (v : VertexId) → IsAtRest m x.plan → first_waiting x ≡ Some v → Completes class x v firing.routes
          → IsChosen (Done x.own v firing)
      done_chosen firing v rests first fires = record {
        candidate = record { own = refl; no_post = λ post. post; names = tt };
        places = (
          member_there s.queue_is v (first_in_list x.queue.states v first),
          fired_there m (configuration_of x.config) (guards_under class x.store no_params) (Completion v) firing.routes fires,
        );
        accepts = lives (Done x.own v firing) (rests, first, fires);
      }

      opening_chosen : (p : Agenda) → x.plan ≡ Some p → (r : RegionId) (mode : Mode) (how : How) → IsReady m (course_of p) (items.Opened r mode)
          → IsWayHere class x (items.Opened r mode) how → IsChosen (Opened x.own r mode how)
      opening_chosen p is r mode how ready way = record {
        candidate = record { own = refl; no_post = λ post. post; names = tt };
        places = (
          ready_item_there class b s p is (items.Opened r mode) ready,
          way_there s.fits.shape b.rules (guards_under class x.store x.params) r (configuration_of x.config).Remembers mode how way,
        );
        accepts = lives (Opened x.own r mode how) ((p, is, ready), way);
      }

      pick_chosen : (p : Agenda) → x.plan ≡ Some p → (c : VertexId) (route : Route) → IsReady m (course_of p) (items.Pick c)
          → IsWayHere class x (items.Pick c) (By route) → IsChosen (Pick x.own c route)
      pick_chosen p is c route ready way = record {
        candidate = record { own = refl; no_post = λ post. post; names = tt };
        places = ((ready_there class b s p is (items.Pick c) ready).0, way.route_is.in_range);
        accepts = lives (Pick x.own c route) ((p, is, ready), way);
      }

      -- a ready opening or pick in one of its ways
      goes_chosen : (p : Agenda) → x.plan ≡ Some p → (y : Item) (how : How) (e : Entry) → IsReady m (course_of p) y → IsWayHere class x y how
          → GoesBy x.own y how e → IsMove e × IsChosen e
      goes_chosen p is (items.Opened r mode) how e ready way same =
          subst (λ f. IsMove f × IsChosen f) (sym same) (tt, opening_chosen p is r mode how ready way)
      goes_chosen p is (items.Pick c) (By route) e ready way same =
          subst (λ f. IsMove f × IsChosen f) (sym same) (tt, pick_chosen p is c route ready way)
      goes_chosen p is (items.Pick c) (Restore v) e ready way same = absurd same
      goes_chosen p is (items.Pick c) Nothing e ready way same = absurd same
      goes_chosen p is (items.Exit v) how e ready way same = absurd same
      goes_chosen p is (items.Effect t) how e ready way same = absurd same
      goes_chosen p is (items.Enter v) how e ready way same = absurd same

      -- for each ready item there is an entry
      abbrev Next : Type 0
      Next = (e : Entry) × IsCandidate x.own signal e × Judges class x signal e None

      chosen_next : (e : Entry) → IsChosen e → Next
      chosen_next e h = (e, h.candidate, h.accepts)

      plain_next : (e : Entry) → IsCandidate x.own signal e → JudgesLiving class x signal e None → Next
      plain_next e candidate h = (e, candidate, lives e h)

      item_next : (p : Agenda) → x.plan ≡ Some p → (y : Item) → IsReady m (course_of p) y → Next
      item_next p is (items.Exit v) ready =
          plain_next (Exit x.own v (outcome_for class x (items.Exit v)).outs) (record { own = refl; no_post = λ post. post; names = tt }) ((p, is, ready), refl)
      item_next p is (items.Effect t) ready =
          plain_next (Effect x.own t (outcome_for class x (items.Effect t)).outs) (record { own = refl; no_post = λ post. post; names = tt })
          ((p, is, ready), refl)
      item_next p is (items.Enter v) ready =
          plain_next (Enter x.own v (outcome_for class x (items.Enter v)).outs) (record { own = refl; no_post = λ post. post; names = tt })
          ((p, is, ready), refl)
      item_next p is (items.Opened r mode) ready =
          let e = some_way_entry class s.fits.shape b.rules x (items.Opened r mode) tt (ready_item_there class b s p is (items.Opened r mode) ready) in
          chosen_next e.0 (goes_chosen p is (items.Opened r mode) e.1.0 e.0 ready e.1.1 e.1.2).1
      item_next p is (items.Pick c) ready =
          let e = some_way_entry class s.fits.shape b.rules x (items.Pick c) tt (ready_item_there class b s p is (items.Pick c) ready) in
          chosen_next e.0 (goes_chosen p is (items.Pick c) e.1.0 e.0 ready e.1.1 e.1.2).1

      -- and for each State that has a do step left
      step_next : HasStarted x → (v : VertexId) (k : ℕ) → IsNextHere m x.config v k → Next
      step_next started v k next =
          plain_next (DoStep x.own v k (step_outcome class x v k).outs) (record { own = refl; no_post = λ post. post; names = tt })
          (inr (started, (next, refl)))

      known_active : (v : VertexId) → (IsTrue (slice_index_or x.config.active v.0 false)) ⊎ (IsTrue (slice_index_or x.config.active v.0 false) → ⊥)
      known_active v = known_true (slice_index_or x.config.active v.0 false)

      -- the completion of the first State of the queue is dispatched, and where none waits a signal that waits is taken
      done_next : IsAtRest m x.plan → (v : VertexId) → first_waiting x ≡ Some v → Next
      done_next rests v first =
          let routes = some_firing s.fits.shape b.rules (configuration_of x.config) known_active (known_complete m x.config)
          (guards_under class x.store no_params) (Completion v) in
          let firing : Firing = record { routes = routes.0 } in
          chosen_next (Done x.own v firing) (done_chosen firing v rests first routes.1)

      take_next : IsAtRest m x.plan → first_waiting x ≡ None → (w : Waiting) → signal ≡ Some w → Next
      take_next rests none w is =
          let routes = some_firing s.fits.shape b.rules (configuration_of x.config) known_active (known_complete m x.config)
          (guards_under class x.store (eight_of w.args)) (Signal w.signal) in
          let firing : Firing = record { routes = routes.0 } in
          chosen_next (Take x.own w.number firing) (take_chosen firing w is rests none routes.1)

      some_signal : (o : Option Waiting) → IsSome o → (w : Waiting) × (o ≡ Some w)
      some_signal None h = absurd (false≢true h)
      some_signal (Some w) h = (w, refl)

      -- where the object rests and no completion waits
      left_next : (waiting : Bool) → IsHandedIn waiting signal → IsAtRest m x.plan → first_waiting x ≡ None → (left : List Task) → do_tasks m x.config ≡ left
          → (IsStill m x waiting → ⊥) → Next
      left_next true handed rests none left is moves = let some = some_signal signal (handed.0 refl) in take_next rests none some.0 some.1
      left_next false handed rests none [] is moves = absurd (moves (inr (refl, record { rests = rests; queue = none; steps = is })))
      left_next false handed rests none (task ∷ more) is moves =
          let at = in_do_tasks m x.config task (subst (λ ts. Contains ts task) (sym is) (is_first task more)) in
          step_next (rests.0, rests.1) at.0 at.1 at.3

      rest_next : (waiting : Bool) → IsHandedIn waiting signal → IsAtRest m x.plan → (first : Option VertexId) → first_waiting x ≡ first
          → (IsStill m x waiting → ⊥) → Next
      rest_next waiting handed rests (Some v) is moves = done_next rests v is
      rest_next waiting handed rests None is moves = left_next waiting handed rests is (do_tasks m x.config) refl moves

      moves_on : (waiting : Bool) → IsHandedIn waiting signal → (IsStill m x waiting → ⊥) → Next
      moves_on waiting handed moves =
          ⊎_elim
          (λ none. chosen_next (Start x.own) (start_chosen none))
          (λ some.
          ⊎_elim
          (λ out. rest_next waiting handed (some.0, some.1, out) (first_waiting x) refl moves)
          (λ ready. item_next some.0 some.1 ready.0 ready.1)
          (out_or_ready class b (step_of s some.0 some.1)))
          (plan_or_none x.plan)

  module _ {J : List Entry} (s : StandsAfter class J x) where
    -- a chosen entry may follow
    pub chosen_keeps : (e : Entry) → IsChosen e → KeepsRules class x signal J e
    chosen_keeps e h = judged class b s signal e h.candidate.own None h.accepts

    none_ready : IsAtRest m x.plan → (y : Item) → JudgesItem m x.plan y None → ⊥
    none_ready rests y (p, is, ready) = ready.waiting.not_run (rests_where m x.plan p is rests y ready.waiting.called)

    no_start : IsAtRest m x.plan → x.plan ≡ None → ⊥
    no_start rests none = let clash = sym none ∙ rests.1 in cc

    no_signal : (o : Option Waiting) → (IsSome o → ⊥) → o ≡ None
    no_signal None h = refl
    no_signal (Some w) h = absurd (h refl)

    no_step_left : HasNothingLeft m x → (v : VertexId) (k : ℕ) → IsNextHere m x.config v k → ⊥
    no_step_left left v k next =
        nothing_in (tasks.DoStep v k) (subst (λ ts. Contains ts (tasks.DoStep v k)) left.steps (do_task_listed m x.config s.fits v k next))

    quiet_by : HasNothingLeft m x → signal ≡ None → (e : Entry) → IsCandidate x.own signal e → JudgesLiving class x signal e None → ⊥
    quiet_by left none (Post o g args) candidate h = candidate.no_post tt
    quiet_by left none (Start o) candidate h = no_start left.rests h
    quiet_by left none (Take o number firing) candidate h = subst (λ o. IsSomeAnd o (λ w. number ≡ w.number)) none candidate.names
    quiet_by left none (Done o v firing) candidate h = let clash = sym left.queue ∙ h.1 in cc
    quiet_by left none (Exit o v outs) candidate h = none_ready left.rests (items.Exit v) h.0
    quiet_by left none (Effect o t outs) candidate h = none_ready left.rests (items.Effect t) h.0
    quiet_by left none (Enter o v outs) candidate h = none_ready left.rests (items.Enter v) h.0
    quiet_by left none (Opened o r mode how) candidate h = none_ready left.rests (items.Opened r mode) h.0
    quiet_by left none (Pick o v route) candidate h = none_ready left.rests (items.Pick v) h.0
    quiet_by left none (DoStep o v k outs) candidate (inl (unstarted, clash)) = cc
    quiet_by left none (DoStep o v k outs) candidate (inr (started, h)) = no_step_left left v k h.0

    still_is_quiet : (waiting : Bool) → IsHandedIn waiting signal → IsStill m x waiting → IsQuiet class x signal J
    still_is_quiet waiting handed (inl ended) e candidate keeps = ended_none ended e candidate (accepted class b s signal e candidate.own keeps)
    still_is_quiet waiting handed (inr (not, left)) e candidate keeps =
        quiet_by left (no_signal signal (λ some. false≢true (sym not ∙ handed.1 some))) e candidate
        (living_of e (accepted class b s signal e candidate.own keeps))

    pub quiet_is : (answer waiting : Bool) → (IsTrue answer ↔ IsStill m x waiting) → IsHandedIn waiting signal
        → MatchBool answer (IsQuiet class x signal J) (HasNext class x signal J)
    quiet_is true waiting is handed = still_is_quiet waiting handed (is.0 refl)
    quiet_is false waiting is handed =
        let moves : IsStill m x waiting → ⊥ = λ still. false≢true (is.1 still) in
        let next = moves_on (λ ended. moves (inl ended)) s waiting handed moves in
        (next.0, next.1, judged class b s signal next.0 next.1.own None next.2)

  -- nothing is chosen where no move may follow
  module _ {J : List Entry} (s : StandsAfter class J x) where
    no_move : (p : Agenda) → x.plan ≡ Some p → (IsAtRest m x.plan → (first_waiting x ≡ None) × (signal ≡ None)) → HasNoChoice m p
        → (e : Entry) → IsMove e → IsCandidate x.own signal e → JudgesLiving class x signal e None → ⊥
    no_move p is nothing no_choice (Start o) move candidate h = let clash = sym is ∙ h in cc
    no_move p is nothing no_choice (Take o number firing) move candidate h =
        subst (λ o. IsSomeAnd o (λ w. number ≡ w.number)) (nothing h.0).1 candidate.names
    no_move p is nothing no_choice (Done o v firing) move candidate h = let clash = sym (nothing h.0).0 ∙ h.1 in cc
    no_move p is nothing no_choice (Opened o r mode how) move candidate ((q, is_q, ready), way) =
        let same : q ≡ p = same_some q p (sym is_q ∙ is) in
        no_choice (items.Opened r mode) (tt, subst (λ a. IsReady m (course_of a) (items.Opened r mode)) same ready)
    no_move p is nothing no_choice (Pick o v route) move candidate ((q, is_q, ready), way) =
        let same : q ≡ p = same_some q p (sym is_q ∙ is) in
        no_choice (items.Pick v) (tt, subst (λ a. IsReady m (course_of a) (items.Pick v)) same ready)
    no_move p is nothing no_choice (Post o g args) move candidate h = move
    no_move p is nothing no_choice (Exit o v outs) move candidate h = move
    no_move p is nothing no_choice (Effect o t outs) move candidate h = move
    no_move p is nothing no_choice (Enter o v outs) move candidate h = move
    no_move p is nothing no_choice (DoStep o v k outs) move candidate h = move

    -- what the choice is worth
    abbrev pub IsGoodMove : Option Entry → Type 0
    IsGoodMove None = (e : Entry) → IsMove e → IsCandidate x.own signal e → Judges class x signal e None → ⊥
    IsGoodMove (Some e) = IsMove e × IsChosen e

    none_good : (p : Agenda) → x.plan ≡ Some p → (IsAtRest m x.plan → (first_waiting x ≡ None) × (signal ≡ None)) → HasNoChoice m p → IsGoodMove None
    none_good p is nothing no_choice e move candidate h = no_move p is nothing no_choice e move candidate (living_of e h)

    module _ (living : IsTrue x.ended → ⊥) where
      take_good : (p : Agenda) → x.plan ≡ Some p → IsAtRest m x.plan → first_waiting x ≡ None → (chosen : Option Entry) → TakesSignal class x signal chosen
          → IsGoodMove chosen
      take_good p is rests first None none =
          none_good p is (λ again. (first, none)) (λ y ready. ready.1.waiting.not_run (rests_where m x.plan p is rests y ready.1.waiting.called))
      take_good p is rests first (Some (Take o number firing)) (own, (w, some, number_is, fires)) = (
        tt,
        subst (λ q. IsChosen (Take q number firing)) (sym own)
            (subst (λ n. IsChosen (Take x.own n firing)) (sym number_is) (take_chosen living firing w some rests first fires)),
      )
      take_good p is rests first (Some (Post o g args)) h = absurd h
      take_good p is rests first (Some (Start o)) h = absurd h
      take_good p is rests first (Some (Done o v firing)) h = absurd h
      take_good p is rests first (Some (Exit o v outs)) h = absurd h
      take_good p is rests first (Some (Effect o t outs)) h = absurd h
      take_good p is rests first (Some (Enter o v outs)) h = absurd h
      take_good p is rests first (Some (Opened o r mode how)) h = absurd h
      take_good p is rests first (Some (Pick o v route)) h = absurd h
      take_good p is rests first (Some (DoStep o v k outs)) h = absurd h

      done_good : IsAtRest m x.plan → (v : VertexId) → first_waiting x ≡ Some v → (chosen : Option Entry) → IsSomeAnd chosen (ServesCompletion class x v)
          → IsGoodMove chosen
      done_good rests v first None h = absurd h
      done_good rests v first (Some e) (firing, same, fires) =
          subst (λ f. IsMove f × IsChosen f) (sym same) (tt, done_chosen living s firing v rests first fires)

      next_good : (p : Agenda) → x.plan ≡ Some p → IsAtRest m x.plan → (first : Option VertexId) → first_waiting x ≡ first → (chosen : Option Entry)
          → ChoosesNext class x signal first chosen → IsGoodMove chosen
      next_good p is rests (Some v) first chosen h = done_good rests v first chosen h
      next_good p is rests None first chosen h = take_good p is rests first chosen h

      way_good : (p : Agenda) → x.plan ≡ Some p → (IsAtRest m x.plan → ⊥) → (chosen : Option Entry) → ChoosesWay class x p chosen → IsGoodMove chosen
      way_good p is busy None none = none_good p is (λ rests. absurd (busy rests)) none
      way_good p is busy (Some e) (y, ready, (how, way, goes)) = goes_chosen living s p is y how e ready.1 way goes

      good_living : (plan : Option Agenda) → x.plan ≡ plan → (chosen : Option Entry) → ChoosesLiving class x signal plan chosen → IsGoodMove chosen
      good_living None is None h = absurd (let clash = h in cc)
      good_living None is (Some e) h =
          let same : e ≡ Start x.own = same_some e (Start x.own) h in subst (λ f. IsMove f × IsChosen f) (sym same) (tt, start_chosen living is)
      good_living (Some p) is chosen (inl (rests, next)) = next_good p is rests (first_waiting x) refl chosen next
      good_living (Some p) is chosen (inr (busy, goes)) = way_good p is busy chosen goes

    pub good_move : (chosen : Option Entry) → Chooses class x signal x.plan chosen → IsGoodMove chosen
    good_move chosen (inl (ended, none)) = subst IsGoodMove (sym none) (λ e move candidate h. ended_none ended e candidate h)
    good_move chosen (inr (living, h)) = good_living living x.plan refl chosen h
