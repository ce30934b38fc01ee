-- How far an object has come after one more entry that keeps every rule.
use Rattle.std.proofs.Common.{◌≡◌, ◌⊎◌, ◌++◌, ◌==◌, List, [], ◌∷◌, Contains, IfSome, IsSome, Option, Some, None, refl, sym, ap, subst, inl, inr, ⊎_elim, eq-eqb}
use Rattle.std.proofs.lemmas.List.Elements.{Contains-append_left, Contains-push}
use Rattle.pssm_model.specs.declared.ids.VertexId.{VertexId}
use Rattle.pssm_model.specs.declared.ids.RegionId.{RegionId}
use Rattle.pssm_model.specs.declared.elements.DraftMachine.{DraftMachine}
use Rattle.pssm_model.specs.declared.steps.Route.{Route}
use Rattle.pssm_model.specs.declared.steps.Firing.{Firing}
use Rattle.pssm_model.specs.declared.steps.Event.{Event}
use Rattle.pssm_model.specs.declared.steps.Event.TheVariants.{Signal, Completion}
use Rattle.pssm_model.specs.declared.steps.How.{How}
use Rattle.pssm_model.specs.declared.steps.How.TheVariants.{By, Nothing}
use Rattle.pssm_model.specs.declared.steps.Item.{Item}
use Rattle.pssm_model.specs.declared.steps.Item.TheVariants as items
use Rattle.pssm_model.specs.Configuration.{Configuration, IsDirect}
use Rattle.pssm_model.specs.Changes.{Agree, nothing_yet}
use Rattle.pssm_model.specs.Course.{Head, FiresBy, RemembersSoFar}
use Rattle.pssm_model.specs.Course.Head.{Starts, Fires}
use Rattle.pssm_model.specs.Routes.{Truth, IsStateRoute}
use Rattle.pssm_model.specs.FiringSets.{IsFiring}
use Rattle.pssm_model.specs.Ways.{IsWay}
use Rattle.pssm_model.specs.Order.{HasGone, course_by}
use Rattle.pssm_model.specs.Order.HasGone.{begun, more as gone_more}
use Rattle.pssm_model_laws.proofs.Known.{Known, known_as}
use Rattle.pssm_plan.specs.Steadiness.{IsConsistent, BeginsWell, changed_by_item, changed_along}
use Rattle.pssm_plan.proofs.Steadiness.{stays_consistent}
use Rattle.pssm_semantics.specs.declared.entry.ObjectId.{ObjectId}
use Rattle.pssm_semantics.specs.declared.entry.Entry.{Entry}
use Rattle.pssm_semantics.specs.declared.entry.Entry.TheVariants.{Post, Start, Take, Done, Exit, Effect, Enter, Opened, Pick, DoStep}
use Rattle.pssm_semantics.specs.declared.entry.Rule.TheVariants.{A3, A7, A8, A9, A10}
use Rattle.pssm_semantics.specs.declared.setting.Class.{Class}
use Rattle.pssm_semantics.specs.declared.stimulus.Stimulus.{Stimulus}
use Rattle.pssm_semantics.specs.Journal.{Heads, IsPost, IsStart, IsActive, IsMemory, object_of, configuration_after}
use Rattle.pssm_semantics.specs.Steps.{head_of, item_of}
use Rattle.pssm_semantics.specs.Values.{eight_of, no_params}
use Rattle.pssm_semantics.specs.Pool.{told_by}
use Rattle.pssm_semantics.specs.Behaviours.{store_of, guards_under, guards_at}
use Rattle.pssm_semantics.specs.Rules.{IsWhatFires, KeepsFiring, KeepsOwn, KeepsStart, IsCalledItem, IsClearedItem}
use Rattle.pssm_semantics.specs.Classes.{IsWellFormedClass}
use Rattle.pssm_semantics_laws.proofs.Appending.{every_push}
use Rattle.pssm_semantics_laws.proofs.Objects.{same_object}
use Rattle.pssm_semantics_laws.proofs.Stores.{head_own}
use Rattle.pssm_config.specs.Tables.{configuration_of}
use Rattle.pssm_object.specs.Standing.{Standing, AreActiveAlike, IsUnderWay, HasNotStarted, StandsAfter}
use Rattle.pssm_object.specs.Coming.{HasCourse, HasCome, Continues}
use Rattle.pssm_object.proofs.Advancing.{known_object, post_heads, if_other, no_item}
use Rattle.pssm_object.proofs.Agreeing.{Agree-refl, Agree-symm, Agree-trans}
use Rattle.pssm_object.proofs.AgreeingRoutes.{conflict_too}
use Rattle.pssm_object.proofs.Configurations.{configuration-nil, configuration-changed, configuration-other}
use Rattle.pssm_object.proofs.CourseLaws.{ready_same}
use Rattle.pssm_object.proofs.Fired.{begins_by_firing, begins_by_start, fired_state_route}
use Rattle.pssm_object.proofs.KnownEnds.{known_active}
use Rattle.pssm_object.proofs.Remembering.{so_far_same, ways_alike, known_memory, way_in_step}
use Rattle.pssm_object.proofs.Rules.{not_started, starts_once}
use Rattle.pssm_object.proofs.Standings.{plan_or_none, not_begun, step_of, consistent_alike}
use Rattle.pssm_object.proofs.UnderWay.{active_changed, called_item_waits, cleared_item_is, runs_on, goes_on_same, begins_here}

-- Where the configuration at the head of a step agrees with another, the step is under way from there too.
module _ (m : DraftMachine) (a b : Configuration) (same : Agree a b) where
  active_along : (now then : Configuration) → AreActiveAlike now then → (ran : List (Item × How))
      → AreActiveAlike (changed_along m now ran) (changed_along m then ran)
  active_along now then alike [] = alike
  active_along now then alike (x ∷ ran) =
      active_along (changed_by_item m now x.0 x.1) (changed_by_item m then x.0 x.1) (active_changed m now then x.0 x.1 alike) ran

  gone_alike : (head : Head) (ran : List (Item × How)) → HasGone m head a ran → HasGone m head b ran
  gone_alike head _ (begun fires) = begun fires
  gone_alike head _ (gone_more {ran = ran} item how before ready truth way) =
      gone_more item how (gone_alike head ran before) (ready_same m head ran a b same item ready) truth
      (ways_alike m truth (RemembersSoFar m (course_by head a ran)) (RemembersSoFar m (course_by head b ran)) item how
      (λ r s. (
        so_far_same m head head a b (λ q v. (same.remembered q v).0) ran r s,
        so_far_same m head head b a (λ q v. (same.remembered q v).1) ran r s,
      ))
      way)

  begins_alike : (head : Head) → BeginsWell m head a → BeginsWell m head b
  begins_alike head h = record {
    consistent = consistent_alike m a b (λ s. ((same.active s).1, (same.active s).0)) h.consistent;
    start = λ e s active. h.start e s ((same.active s).1 active);
    agree = λ p q first second clash.
        h.agree p q first second (conflict_too m b.Active a.Active (λ s. ((same.active s).1, (same.active s).0)) p q clash);
    from_active = λ p s fires source. (same.active s).0 (h.from_active p s fires source);
    remembers = λ r s is. h.remembers r s ((same.remembered r s).1 is);
  }

  pub under_way_alike : {J : List Entry} {o : ObjectId} {head : Head} {ran : List (Item × How)} → IsUnderWay m J o head a ran → IsUnderWay m J o head b ran
  under_way_alike {o = o} {head = head} {ran = ran} u = record {
    step = u.step;
    start = u.start;
    started = u.started;
    last = u.last;
    head_is = u.head_is;
    at_head_is = Agree-trans b a (configuration_after m u.step.before o) (Agree-symm a b same) u.at_head_is;
    ran_is = u.ran_is;
    gone = gone_alike head ran u.gone;
    begins = begins_alike head u.begins;
    known = λ s. known_as (same.active s).0 (same.active s).1 (u.known s);
    memory_known = λ r s. known_as (same.remembered r s).0 (same.remembered r s).1 (u.memory_known r s);
    along = λ s.
        let alike = active_along a b same.active ran s in
        ((λ active. alike.0 ((u.along s).0 active)), (λ active. (u.along s).1 (alike.1 active)));
  }

-- Where an object stands it has come so far.
pub stands_come : {class : Class} {J : List Entry} {x : Standing} → StandsAfter class J x → HasCome class.machine J x.own
stands_come {class = class} {x = x} s =
    ⊎_elim
    (λ none. inl (not_begun s none))
    (λ some.
    let u = step_of s some.0 some.1 in
    inr (record {
      head = some.0.head;
      before = u.step.before;
      ran = some.0.ran;
      under_way = under_way_alike class.machine (configuration_of some.0.at_head) (configuration_after class.machine u.step.before x.own) u.at_head_is u;
    }))
    (plan_or_none x.plan)

-- Before all entries it has not started.
pub come_none : (m : DraftMachine) (o : ObjectId) → HasCome m [] o
come_none m o = inl (record { posts = tt; nothing = configuration-nil m o })

-- what an object that has not started has active and remembers
module _ {m : DraftMachine} {J : List Entry} {o : ObjectId} (none : HasNotStarted m J o) where
  none_active : (s : VertexId) → IsActive J o s → ⊥
  none_active s active = (none.nothing.active s).0 active

  none_remembered : (r : RegionId) (s : VertexId) → IsMemory m J o r s → ⊥
  none_remembered r s memory = (none.nothing.remembered r s).0 memory

-- What is active is known.
pub come_known : {m : DraftMachine} {J : List Entry} {o : ObjectId} → HasCome m J o → (s : VertexId) → Known (IsActive J o s)
come_known (inl none) s = inr (none_active none s)
come_known (inr c) s = known_active c.under_way s

-- an object that has started has a course
come_started : {m : DraftMachine} {J : List Entry} {o : ObjectId} → HasCome m J o → (f : Entry) × Contains J f × IsStart f o → HasCourse m J o
come_started {J = J} {o = o} (inl none) start = absurd (not_started J o none.posts start.0 start.1 start.2)
come_started (inr c) start = c

-- What is active is consistent.
pub come_consistent : {class : Class} (b : IsWellFormedClass class) {J : List Entry} {o : ObjectId} → HasCome class.machine J o
    → IsConsistent class.machine (configuration_after class.machine J o)
come_consistent b (inl none) = record {
  states = λ v active. absurd (none_active none v active);
  one_each = λ r v q first second active. absurd (none_active none v active);
  owners = λ r v direct active. absurd (none_active none v active);
}
come_consistent {class = class} b {J = J} {o = o} (inr c) =
    let at = configuration_after class.machine c.before o in
    consistent_alike class.machine (changed_along class.machine at c.ran) (configuration_after class.machine J o) c.under_way.along
    (stays_consistent b.proper.machine.shape b.rules c.head at c.under_way.begins c.ran c.under_way.gone)

-- An entry of another object, or a post, changes nothing.
module _ (m : DraftMachine) (J : List Entry) (o : ObjectId) where
  abbrev now : Configuration
  now = configuration_after m J o

  abbrev after : Entry → Configuration
  after e = configuration_after m (J ++ e ∷ []) o

  -- the configuration after an entry that does not change it, by the object's name
  kept : (e : Entry) → object_of e ≡ o → Agree (configuration_after m (J ++ e ∷ []) (object_of e)) (configuration_after m J (object_of e))
      → Agree (after e) now
  kept e own same = subst (λ q. Agree (configuration_after m (J ++ e ∷ []) q) (configuration_after m J q)) own same

  post_kept : (e : Entry) → IsPost e → object_of e ≡ o → Agree (after e) now
  post_kept (Post q g args) post own = kept (Post q g args) own (configuration-changed m J (Post q g args))
  post_kept (Start q) post own = absurd post
  post_kept (Take q n firing) post own = absurd post
  post_kept (Done q v firing) post own = absurd post
  post_kept (Exit q v outs) post own = absurd post
  post_kept (Effect q t outs) post own = absurd post
  post_kept (Enter q v outs) post own = absurd post
  post_kept (Opened q r mode how) post own = absurd post
  post_kept (Pick q v route) post own = absurd post
  post_kept (DoStep q v k outs) post own = absurd post

  pub come_other : (e : Entry) → ((object_of e ≡ o) → IsPost e) → HasCome m J o → HasCome m (J ++ e ∷ []) o
  come_other e other come = by come
    where
      same : Agree (after e) now
      same = ⊎_elim (λ own. post_kept e (other own) own) (λ apart. configuration-other m J o e apart) (known_object (object_of e) o)

      by : HasCome m J o → HasCome m (J ++ e ∷ []) o
      by (inl none) = inl (record {
        posts = every_push (λ f. (object_of f ≡ o) → IsPost f) J e none.posts other;
        nothing = Agree-trans (after e) now nothing_yet same none.nothing;
      })
      by (inr c) = inr (record {
        head = c.head;
        before = c.before;
        ran = c.ran;
        under_way = goes_on_same c.under_way e (λ heads. post_heads e o (other (head_own o e heads)) heads)
            (if_other ((object_of e).0 == o.0) (item_of e) (λ is. no_item e (other (same_object (object_of e) o is)))) same.active;
      })

-- An entry of the object that keeps every rule.
module _ (class : Class) (b : IsWellFormedClass class) (J : List Entry) (o : ObjectId) where
  abbrev m : DraftMachine
  m = class.machine

  abbrev here : Configuration
  here = configuration_after m J o

  abbrev there : Entry → Configuration
  there e = configuration_after m (J ++ e ∷ []) o

  -- the start
  come_start : (come : HasCome m J o) → KeepsStart J (Start o) → HasCome m (J ++ Start o ∷ []) o
  come_start (inl none) starts = inr (record {
    head = Starts;
    before = J;
    ran = [];
    under_way = begins_here m J o here (Start o) (Start o) (eq-eqb o.0 o.0 refl) (Contains-push J (Start o), refl) (Agree-refl here)
        (configuration-changed m J (Start o)) (λ route is. absurd is)
        (begins_by_start m here (none_active none) (none_remembered none)) (λ v. inr (none_active none v)) (λ r v. inr (none_remembered none r v));
  })
  come_start (inr c) starts = absurd (starts_once c.under_way starts)

  -- routes that fire
  come_fired : (e : Entry) (routes : List Route) (truth : Truth) (event : Event) → Heads e o → head_of e ≡ Fires routes → Agree (there e) here
      → IsFiring m here truth event routes → HasCourse m J o → HasCome m (J ++ e ∷ []) o
  come_fired e routes truth event heads is_head same fires c = inr (record {
    head = head_of e;
    before = J;
    ran = [];
    under_way = begins_here m J o here e c.under_way.start heads
        (Contains-append_left J (e ∷ []) c.under_way.start c.under_way.started.0, c.under_way.started.1) (Agree-refl here) same
        (subst (λ a. (route : Route) → FiresBy a route → IsStateRoute m route) (sym is_head)
        (λ route inside. fired_state_route m here truth event routes fires route inside))
        (subst (λ a. BeginsWell m a here) (sym is_head)
        (begins_by_firing m here truth event routes (come_consistent b (inr c)) (remembered_direct J o) fires))
        (known_active c.under_way) (known_memory c.under_way);
  })
    where
      remembered_direct : (K : List Entry) (q : ObjectId) (r : RegionId) (s : VertexId) → IsMemory m K q r s → IsDirect m s r
      remembered_direct K q r s memory = memory.5

  -- an item
  come_ran : (signal : Option Stimulus) (e : Entry) (y : Item) (how : How) → object_of e ≡ o → (Heads e o → ⊥) → item_of e ≡ Some (y, how)
      → KeepsOwn class (told_by J) signal A8 J e → KeepsOwn class (told_by J) signal A9 J e → KeepsOwn class (told_by J) signal A10 J e
      → HasCourse m J o → HasCome m (J ++ e ∷ []) o
  come_ran signal e y how own no_head runs calls order way c =
      let called : IsCalledItem m J o y =
      subst (λ q. IsCalledItem m J q y) own (subst (λ r. IfSome r (λ z. IsCalledItem m J (object_of e) z.0)) runs calls) in
      let cleared : IsClearedItem m J o y =
      subst (λ q. IsClearedItem m J q y) own (subst (λ r. IfSome r (λ z. IsClearedItem m J (object_of e) z.0)) runs order) in
      let open_way : IsWay m (guards_at class (told_by J) J o) (IsMemory m J o) y how =
      subst (λ q. IsWay m (guards_at class (told_by J) J q) (IsMemory m J q) y how) own
      (subst (λ r. IfSome r (λ z. IsWay m (guards_at class (told_by J) J (object_of e)) (IsMemory m J (object_of e)) z.0 z.1)) runs way) in
      let u = c.under_way in
      inr (record {
        head = c.head;
        before = c.before;
        ran = c.ran ++ (y, how) ∷ [];
        under_way = runs_on u e y how own no_head runs (record { waiting = called_item_waits u y called; cleared = cleared_item_is u y cleared })
            (guards_at class (told_by J) J o) (way_in_step u (guards_at class (told_by J) J o) y how open_way);
      })

  -- an object whose entry comes after its start has a course
  started : (q : ObjectId) → q ≡ o → (f : Entry) × Contains J f × IsStart f q → HasCome m J o → HasCourse m J o
  started q own start come = come_started come (start.0, start.1, subst (IsStart start.0) own start.2)

  -- what the take fires
  taken_fires : (signal : Option Stimulus) (q : ObjectId) (number : _) (firing : Firing) → q ≡ o → IsSome signal
      → KeepsFiring class (told_by J) signal J (Take q number firing)
      → (x : Stimulus) × IsFiring m here (guards_under class (store_of class (told_by J) J o) (eight_of x.args)) (Signal x.signal) firing.routes
  taken_fires None q number firing own known keeps = absurd (cc)
  taken_fires (Some x) q number firing own known keeps =
      (x, subst (λ p. IsWhatFires class (told_by J) J p (eight_of x.args) (Signal x.signal) firing) own (keeps x refl))

  pub come_more : (signal : Option Stimulus) (e : Entry) → HasCome m J o → Continues class J o signal e → HasCome m (J ++ e ∷ []) o
  come_more signal (Post q g args) come h = come_other m J o (Post q g args) (λ own. tt) come
  come_more signal (Start q) come h =
      subst (λ p. HasCome m (J ++ Start p ∷ []) o) (sym h.own) (come_start come (subst (λ p. KeepsStart J (Start p)) h.own (h.keeps A3)))
  come_more signal (Take q number firing) come h =
      let e : Entry = Take q number firing in
      let fires = taken_fires signal q number firing h.own h.knows (h.keeps A7) in
      come_fired e firing.routes (guards_under class (store_of class (told_by J) J o) (eight_of fires.0.args)) (Signal fires.0.signal)
      (eq-eqb q.0 o.0 (ap (λ (p : ObjectId). p.0) h.own)) refl (kept m J o e h.own (configuration-changed m J e)) fires.1 (started q h.own (h.keeps A3) come)
  come_more signal (Done q v firing) come h =
      let e : Entry = Done q v firing in
      come_fired e firing.routes (guards_under class (store_of class (told_by J) J o) no_params) (Completion v)
      (eq-eqb q.0 o.0 (ap (λ (p : ObjectId). p.0) h.own)) refl (kept m J o e h.own (configuration-changed m J e))
      (subst (λ p. IsWhatFires class (told_by J) J p no_params (Completion v) firing) h.own (h.keeps A7)) (started q h.own (h.keeps A3) come)
  come_more signal (Exit q v outs) come h =
      come_ran signal (Exit q v outs) (items.Exit v) Nothing h.own (λ heads. cc) refl (h.keeps A8) (h.keeps A9) (h.keeps A10)
      (started q h.own (h.keeps A3) come)
  come_more signal (Effect q t outs) come h =
      come_ran signal (Effect q t outs) (items.Effect t) Nothing h.own (λ heads. cc) refl (h.keeps A8) (h.keeps A9) (h.keeps A10)
      (started q h.own (h.keeps A3) come)
  come_more signal (Enter q v outs) come h =
      come_ran signal (Enter q v outs) (items.Enter v) Nothing h.own (λ heads. cc) refl (h.keeps A8) (h.keeps A9) (h.keeps A10)
      (started q h.own (h.keeps A3) come)
  come_more signal (Opened q r mode how) come h =
      come_ran signal (Opened q r mode how) (items.Opened r mode) how h.own (λ heads. cc) refl (h.keeps A8) (h.keeps A9) (h.keeps A10)
      (started q h.own (h.keeps A3) come)
  come_more signal (Pick q v route) come h =
      come_ran signal (Pick q v route) (items.Pick v) (By route) h.own (λ heads. cc) refl (h.keeps A8) (h.keeps A9) (h.keeps A10)
      (started q h.own (h.keeps A3) come)
  come_more signal (DoStep q v k outs) come h =
      let e : Entry = DoStep q v k outs in
      let c = started q h.own (h.keeps A3) come in
      inr (record {
        head = c.head;
        before = c.before;
        ran = c.ran;
        under_way = goes_on_same c.under_way e (λ heads. cc) (if_other (q.0 == o.0) None (λ is. refl))
            (subst (λ p. AreActiveAlike (configuration_after m (J ++ e ∷ []) p) (configuration_after m J p)) h.own (configuration-changed m J e).active);
      })
