-- What the rules ask of an item of the last step, where the step is known to be under way, and what one more entry does to it.
use Rattle.std.proofs.Common.{◌≡◌, ◌⊎◌, ◌↔◌, ◌++◌, List, [], ◌∷◌, Contains, Option, Some, None, filter_map, refl, sym, ap, subst, ◌∙◌, inl, inr, ⊎_elim}
use Rattle.std.proofs.lemmas.List.Elements.{Contains-append_left}
use Rattle.pssm_model.specs.declared.elements.DraftMachine.{DraftMachine}
use Rattle.pssm_model.specs.declared.ids.VertexId.{VertexId}
use Rattle.pssm_model.specs.declared.ids.RegionId.{RegionId}
use Rattle.pssm_model.specs.declared.steps.Route.{Route}
use Rattle.pssm_model.specs.declared.steps.How.{How}
use Rattle.pssm_model.specs.declared.steps.How.TheVariants.{By, Restore, Nothing}
use Rattle.pssm_model.specs.declared.steps.Item.{Item}
use Rattle.pssm_model.specs.declared.steps.Item.TheVariants as items
use Rattle.pssm_model.specs.Configuration.{Configuration}
use Rattle.pssm_model.specs.Changes.{Agree, entered, exited, opened_none, opened_way}
use Rattle.pssm_model.specs.Course.{Head}
use Rattle.pssm_model.specs.Routes.{Truth, IsStateRoute}
use Rattle.pssm_model.specs.Course.{FiresBy}
use Rattle.pssm_model.specs.Items.{IsWaiting, IsCleared, HasRunOut}
use Rattle.pssm_model.specs.Order.{course_by, IsReady, IsWayNow}
use Rattle.pssm_model.specs.Order.HasGone.{begun, more as gone_more}
use Rattle.pssm_object.proofs.Agreeing.{Agree-refl, Agree-symm, Agree-trans, Agree-entered, Agree-exited, Agree-opened_none, Agree-opened_way}
use Rattle.pssm_plan.specs.Steadiness.{BeginsWell, changed_by_item, changed_along}
use Rattle.pssm_plan.proofs.SteadyChanges.{changed_along-push}
use Rattle.pssm_semantics.specs.declared.entry.ObjectId.{ObjectId}
use Rattle.pssm_semantics.specs.declared.entry.Entry.{Entry}
use Rattle.pssm_semantics.specs.declared.entry.Entry.TheVariants.{Post, Start, Take, Done, Exit, Effect, Enter, Opened, Pick, DoStep}
use Rattle.pssm_semantics.specs.Journal.{Heads, IsStart, IsActive, object_of, configuration_after}
use Rattle.pssm_semantics.specs.Steps.{head_of, item_of, item_by, course_of}
use Rattle.pssm_semantics.specs.Completion.{HasEnded, IsStepFinished}
use Rattle.pssm_semantics.specs.Rules.{IsCalledItem, IsClearedItem}
use Rattle.pssm_semantics.specs.Tasks.{IsReadyItem}
use Rattle.pssm_semantics_laws.proofs.Appending.{more, one_last_step, goes_on, begins}
use Rattle.pssm_semantics_laws.proofs.Courses.{runs_own, ran_more, ran_same}
use Rattle.pssm_object.proofs.Configurations.{changed_by, configuration-changed}
use Rattle.pssm_object.specs.Standing.{AreActiveAlike, IsUnderWay}
use Rattle.pssm_object.proofs.CourseLaws.{waiting_same, cleared_same, run_out_same, ready_same}

module _ {m : DraftMachine} {J : List Entry} {o : ObjectId} {head : Head} {at_head : Configuration} {ran : List (Item × How)} (u : IsUnderWay m J o head at_head ran) where
  -- what is said of the step as it is known is said of the step that the journal shows, and the other way round
  there : (P : Head → List (Item × How) → Type 0) → P head ran → P (head_of u.step.head) (filter_map (item_by o) u.step.after)
  there P h = subst (λ xs. P (head_of u.step.head) xs) u.ran_is (subst (λ x. P x ran) u.head_is h)

  here : (P : Head → List (Item × How) → Type 0) → P (head_of u.step.head) (filter_map (item_by o) u.step.after) → P head ran
  here P h = subst (λ xs. P head xs) (sym u.ran_is) (subst (λ x. P x (filter_map (item_by o) u.step.after)) (sym u.head_is) h)

  abbrev then : Configuration
  then = configuration_after m u.step.before o

  back : Agree then at_head
  back = Agree-symm at_head then u.at_head_is

  -- an item that is called and has not run
  pub called_item : (item : Item) → IsWaiting m (course_by head at_head ran) item → IsCalledItem m J o item
  called_item item h = record {
    step = u.step;
    last = u.last;
    waits = there (λ x xs. IsWaiting m (course_by x then xs) item) (waiting_same m head ran at_head then u.at_head_is item h);
  }

  pub called_item_waits : (item : Item) → IsCalledItem m J o item → IsWaiting m (course_by head at_head ran) item
  called_item_waits item c =
      let same = one_last_step J o c.step u.step c.last u.last in
      let waits : IsWaiting m (course_of m o u.step) item = subst (λ s. IsWaiting m (course_of m o s) item) same c.waits in
      waiting_same m head ran then at_head back item (here (λ x xs. IsWaiting m (course_by x then xs) item) waits)

  -- an item before which everything called has run
  pub cleared_item : (item : Item) → IsCleared m (course_by head at_head ran) item → IsClearedItem m J o item
  cleared_item item h step last =
      let same = one_last_step J o u.step step u.last last in
      subst (λ s. IsCleared m (course_of m o s) item) same
      (there (λ x xs. IsCleared m (course_by x then xs) item) (cleared_same m head ran at_head then u.at_head_is item h))

  pub cleared_item_is : (item : Item) → IsClearedItem m J o item → IsCleared m (course_by head at_head ran) item
  cleared_item_is item h =
      cleared_same m head ran then at_head back item (here (λ x xs. IsCleared m (course_by x then xs) item) (h u.step u.last))

  -- an item that is ready
  pub item_ready : (item : Item) → IsReady m (course_by head at_head ran) item → IsReadyItem m J o item
  item_ready item h = record {
    step = u.step;
    last = u.last;
    ready = there (λ x xs. IsReady m (course_by x then xs) item) (ready_same m head ran at_head then u.at_head_is item h);
  }

  pub ready_item_is : (item : Item) → IsReadyItem m J o item → IsReady m (course_by head at_head ran) item
  ready_item_is item c =
      let same = one_last_step J o c.step u.step c.last u.last in
      let ready : IsReady m (course_of m o u.step) item = subst (λ s. IsReady m (course_of m o s) item) same c.ready in
      ready_same m head ran then at_head back item (here (λ x xs. IsReady m (course_by x then xs) item) ready)

  -- a step of which everything has run
  pub step_finished : HasRunOut m (course_by head at_head ran) → IsStepFinished m J o
  step_finished h =
      inl (λ step last.
      let same = one_last_step J o u.step step u.last last in
      subst (λ s. HasRunOut m (course_of m o s)) same
      (there (λ x xs. HasRunOut m (course_by x then xs)) (run_out_same m head ran at_head then u.at_head_is h)))

  pub finished_step : (HasEnded m J o → ⊥) → IsStepFinished m J o → HasRunOut m (course_by head at_head ran)
  finished_step never (inl h) = run_out_same m head ran then at_head back (here (λ x xs. HasRunOut m (course_by x then xs)) (h u.step u.last))
  finished_step never (inr ended) = absurd (never ended)

-- an item changes configurations that agree alike
pub changed_alike : (m : DraftMachine) (a b : Configuration) (item : Item) (how : How) → Agree a b → Agree (changed_by_item m a item how) (changed_by_item m b item how)
changed_alike m a b (items.Enter s) how h = Agree-entered a b h m s
changed_alike m a b (items.Exit s) how h = Agree-exited a b h m s
changed_alike m a b (items.Opened r mode) Nothing h = Agree-opened_none a b h r
changed_alike m a b (items.Opened r mode) (By route) h = Agree-opened_way a b h r
changed_alike m a b (items.Opened r mode) (Restore s) h = Agree-opened_way a b h r
changed_alike m a b (items.Effect t) how h = h
changed_alike m a b (items.Pick c) how h = h

-- and what is active, where as much is active
pub active_changed : (m : DraftMachine) (a b : Configuration) (item : Item) (how : How) → AreActiveAlike a b
    → AreActiveAlike (changed_by_item m a item how) (changed_by_item m b item how)
active_changed m a b (items.Enter s) how h v =
    (⊎_elim (λ same. inl same) (λ was. inr ((h v).0 was)), ⊎_elim (λ same. inl same) (λ was. inr ((h v).1 was)))
active_changed m a b (items.Exit s) how h v = ((λ was. (was.0, (h v).0 was.1)), (λ was. (was.0, (h v).1 was.1)))
active_changed m a b (items.Opened r mode) Nothing h v = h v
active_changed m a b (items.Opened r mode) (By route) h v = h v
active_changed m a b (items.Opened r mode) (Restore s) h v = h v
active_changed m a b (items.Effect t) how h v = h v
active_changed m a b (items.Pick c) how h v = h v

some_same : {x y : Item × How} → Some x ≡ Some y → x ≡ y
some_same e = cc

no_item : (item : Item) (how : How) → (let none : Option (Item × How) = None in none) ≡ Some (item, how) → ⊥
no_item item how e = cc

as_pair : (m : DraftMachine) (changed now : Configuration) (x y : Item × How) → x ≡ y → Agree changed (changed_by_item m now x.0 x.1)
    → Agree changed (changed_by_item m now y.0 y.1)
as_pair m changed now x y e h = subst (λ z. Agree changed (changed_by_item m now z.0 z.1)) e h

-- an entry changes a configuration as the item does that it runs
changed_as_item : (m : DraftMachine) (now : Configuration) (e : Entry) (item : Item) (how : How) → item_of e ≡ Some (item, how)
    → Agree (changed_by m now e) (changed_by_item m now item how)
changed_as_item m now (Exit o s outs) item how runs = as_pair m (exited m now s) now (items.Exit s, Nothing) (item, how) (some_same runs) (Agree-refl (exited m now s))
changed_as_item m now (Enter o s outs) item how runs = as_pair m (entered m now s) now (items.Enter s, Nothing) (item, how) (some_same runs) (Agree-refl (entered m now s))
changed_as_item m now (Effect o t outs) item how runs = as_pair m now now (items.Effect t, Nothing) (item, how) (some_same runs) (Agree-refl now)
changed_as_item m now (Pick o c route) item how runs = as_pair m now now (items.Pick c, By route) (item, how) (some_same runs) (Agree-refl now)
changed_as_item m now (Opened o r mode Nothing) item how runs =
    as_pair m (opened_none now r) now (items.Opened r mode, Nothing) (item, how) (some_same runs) (Agree-refl (opened_none now r))
changed_as_item m now (Opened o r mode (By route)) item how runs =
    as_pair m (opened_way now r) now (items.Opened r mode, By route) (item, how) (some_same runs) (Agree-refl (opened_way now r))
changed_as_item m now (Opened o r mode (Restore s)) item how runs =
    as_pair m (opened_way now r) now (items.Opened r mode, Restore s) (item, how) (some_same runs) (Agree-refl (opened_way now r))
changed_as_item m now (Post o g args) item how runs = absurd (no_item item how runs)
changed_as_item m now (Start o) item how runs = absurd (no_item item how runs)
changed_as_item m now (Take o number firing) item how runs = absurd (no_item item how runs)
changed_as_item m now (Done o s firing) item how runs = absurd (no_item item how runs)
changed_as_item m now (DoStep o s k outs) item how runs = absurd (no_item item how runs)

-- so the configuration after an entry of the object is that which its item makes of the one before
pub after_item : (m : DraftMachine) (J : List Entry) (o : ObjectId) (e : Entry) (item : Item) (how : How) → object_of e ≡ o → item_of e ≡ Some (item, how)
    → Agree (configuration_after m (J ++ e ∷ []) o) (changed_by_item m (configuration_after m J o) item how)
after_item m J o e item how own runs =
    let now = configuration_after m J o in
    Agree-trans (configuration_after m (J ++ e ∷ []) o) (changed_by m now e) (changed_by_item m now item how)
    (subst (λ q. Agree (configuration_after m (J ++ e ∷ []) q) (changed_by m (configuration_after m J q) e)) own (configuration-changed m J e))
    (changed_as_item m now e item how runs)

-- the entry runs an item of the last step
module _ {m : DraftMachine} {J : List Entry} {o : ObjectId} {head : Head} {at_head : Configuration} {ran : List (Item × How)} (u : IsUnderWay m J o head at_head ran) where
  along_more : (e : Entry) (item : Item) (how : How) → object_of e ≡ o → item_of e ≡ Some (item, how)
      → AreActiveAlike (configuration_after m (J ++ e ∷ []) o) (changed_along m at_head (ran ++ (item, how) ∷ []))
  along_more e item how own runs v =
      let now = configuration_after m J o in
      let there = (after_item m J o e item how own runs).active v in
      let alike = active_changed m now (changed_along m at_head ran) item how u.along v in
      subst (λ (c : Configuration). IsActive (J ++ e ∷ []) o v ↔ c.Active v) (sym (changed_along-push m at_head ran item how))
      ((λ active. alike.0 (there.0 active)), (λ active. there.1 (alike.1 active)))

  pub runs_on : (e : Entry) (item : Item) (how : How) → object_of e ≡ o → (Heads e o → ⊥) → item_of e ≡ Some (item, how)
      → IsReady m (course_by head at_head ran) item → (truth : Truth) → IsWayNow m truth (course_by head at_head ran) item how
      → IsUnderWay m (J ++ e ∷ []) o head at_head (ran ++ (item, how) ∷ [])
  runs_on e item how own other runs ready truth way = record {
    step = more u.step e;
    start = u.start;
    started = (Contains-append_left J (e ∷ []) u.start u.started.0, u.started.1);
    last = goes_on J o u.step e other u.last;
    head_is = u.head_is;
    at_head_is = u.at_head_is;
    ran_is = ap (λ xs. xs ++ (item, how) ∷ []) u.ran_is
        ∙ sym (ran_more m o u.step e (item, how) (subst (λ q. item_by q e ≡ Some (item, how)) own (runs_own e (item, how) runs)));
    gone = gone_more item how u.gone ready truth way;
    begins = u.begins;
    known = u.known;
    memory_known = u.memory_known;
    along = along_more e item how own runs;
  }

  -- an entry of the object that runs no item and leaves active what is active leaves the step as it is
  pub goes_on_same : (e : Entry) → (Heads e o → ⊥) → item_by o e ≡ None
      → AreActiveAlike (configuration_after m (J ++ e ∷ []) o) (configuration_after m J o)
      → IsUnderWay m (J ++ e ∷ []) o head at_head ran
  goes_on_same e other none same = record {
    step = more u.step e;
    start = u.start;
    started = (Contains-append_left J (e ∷ []) u.start u.started.0, u.started.1);
    last = goes_on J o u.step e other u.last;
    head_is = u.head_is;
    at_head_is = u.at_head_is;
    ran_is = u.ran_is ∙ sym (ran_same m o u.step e none);
    gone = u.gone;
    begins = u.begins;
    known = u.known;
    memory_known = u.memory_known;
    along = λ v. ((λ active. (u.along v).0 ((same v).0 active)), (λ active. (same v).1 ((u.along v).1 active)));
  }

-- an entry begins a step, in a configuration that is that of the journal
pub begins_here : (m : DraftMachine) (J : List Entry) (o : ObjectId) (at_head : Configuration) (e start : Entry) → Heads e o
    → Contains (J ++ e ∷ []) start × IsStart start o → Agree at_head (configuration_after m J o)
    → Agree (configuration_after m (J ++ e ∷ []) o) (configuration_after m J o)
    → ((route : Route) → FiresBy (head_of e) route → IsStateRoute m route)
    → BeginsWell m (head_of e) at_head → ((s : VertexId) → at_head.Active s ⊎ (at_head.Active s → ⊥))
    → ((r : RegionId) (s : VertexId) → at_head.Remembers r s ⊎ (at_head.Remembers r s → ⊥))
    → IsUnderWay m (J ++ e ∷ []) o (head_of e) at_head []
begins_here m J o at_head e start heads started same kept routes well known remembers = record {
  step = record { before = J; head = e; after = [] };
  start = start;
  started = started;
  last = begins J o e heads;
  head_is = refl;
  at_head_is = same;
  ran_is = refl;
  gone = begun routes;
  begins = well;
  known = known;
  memory_known = remembers;
  along = λ v. ((λ active. (same.active v).1 ((kept.active v).0 active)), (λ active. (kept.active v).1 ((same.active v).0 active)));
}
