-- What one more entry does to the completion queue of an object, and what the queue says of the States in it.
use Rattle.std.proofs.Common.{◌≡◌, ◌⊎◌, ◌<◌, ◌≤◌, ◌++◌, ◌∙◌, ℕ, List, [], ◌∷◌, length, Option, Some, Contains, AllPairs, refl, sym, ap, subst, inl, inr, ⊎_elim, arith, length-append}
use Rattle.std.specs.List.{AllByRecursion}
use Rattle.std.proofs.lemmas.List.Elements.{Contains-get_or, Contains-push, Contains-push_cases, Contains-append_left}
use Rattle.std.proofs.lemmas.List.Quantifiers.{all_pairs_push}
use Rattle.pssm_model.specs.declared.ids.VertexId.{VertexId}
use Rattle.pssm_model.specs.declared.elements.DraftMachine.{DraftMachine}
use Rattle.pssm_model.specs.Configuration.{Configuration}
use Rattle.pssm_model.specs.Changes.{Agree}
use Rattle.pssm_object.proofs.Agreeing.{Agree-symm, complete_too}
use Rattle.pssm_semantics.specs.declared.entry.ObjectId.{ObjectId}
use Rattle.pssm_semantics.specs.declared.entry.Entry.{Entry}
use Rattle.pssm_semantics.specs.declared.entry.Entry.TheVariants.{Post, Start, Take, Done, Exit, Effect, Enter, Opened, Pick, DoStep}
use Rattle.pssm_semantics.specs.Journal.{IsActive, EntersAt, ExitsAt, object_of, configuration_after}
use Rattle.pssm_semantics.specs.Completion.{DonesAt, BecomesComplete, HasCompletionTransition, IsQueuedAt}
use Rattle.pssm_semantics_laws.proofs.Active.{IsActive-stays, IsActive-was}
use Rattle.pssm_semantics_laws.proofs.Appending.{EndsAt, IsWithin, split_push, splits_more, every_push, every_init}
use Rattle.pssm_object.specs.Queue.{WaitsSince, WaitsBefore, IsQueueOf}
use Rattle.pssm_object.specs.inner.Queueing.{without, ComesToWait, QueueGoesOn}
use Rattle.pssm_object.proofs.QueueLists.{in_order_too, stays_in, was_in, ordered_without}
use Rattle.pssm_object.proofs.QueueChanges.{completes_of, leaves_of, becomes_by, leaves_at, enters_leaves, exits_leaves, dones_leaves, leaves_entered}

-- the entry takes the State out of no queue of the object
pub record Untouched (e : Entry) (o : ObjectId) (s : VertexId) : Type 0 where
  pub entered : EntersAt e o s → ⊥
  pub exited : ExitsAt e o s → ⊥
  pub done : DonesAt e o s → ⊥

-- an entry dispatches a completion of its own object, and makes none complete
pub dones_own : (e : Entry) (o : ObjectId) (s : VertexId) → DonesAt e o s → object_of e ≡ o
dones_own (Done p v firing) o s h = h.0
dones_own (Enter p v outs) o s h = absurd h
dones_own (Exit p v outs) o s h = absurd h
dones_own (Post p g args) o s h = absurd h
dones_own (Start p) o s h = absurd h
dones_own (Take p n firing) o s h = absurd h
dones_own (Effect p t outs) o s h = absurd h
dones_own (Opened p r mode how) o s h = absurd h
dones_own (Pick p c route) o s h = absurd h
dones_own (DoStep p v k outs) o s h = absurd h

dones_none : (m : DraftMachine) (e : Entry) (o : ObjectId) (s q : VertexId) → DonesAt e o s → completes_of m e ≡ Some q → ⊥
dones_none m (Done p v firing) o s q h is = cc
dones_none m (Enter p v outs) o s q h is = h
dones_none m (Exit p v outs) o s q h is = h
dones_none m (Post p g args) o s q h is = h
dones_none m (Start p) o s q h is = h
dones_none m (Take p n firing) o s q h is = h
dones_none m (Effect p t outs) o s q h is = h
dones_none m (Opened p r mode how) o s q h is = h
dones_none m (Pick p c route) o s q h is = h
dones_none m (DoStep p v k outs) o s q h is = h

pub enters_own : (e : Entry) (o : ObjectId) (s : VertexId) → EntersAt e o s → object_of e ≡ o
enters_own (Enter p v outs) o s h = h.0
enters_own (Exit p v outs) o s h = absurd h
enters_own (Done p v firing) o s h = absurd h
enters_own (Post p g args) o s h = absurd h
enters_own (Start p) o s h = absurd h
enters_own (Take p n firing) o s h = absurd h
enters_own (Effect p t outs) o s h = absurd h
enters_own (Opened p r mode how) o s h = absurd h
enters_own (Pick p c route) o s h = absurd h
enters_own (DoStep p v k outs) o s h = absurd h

pub exits_own : (e : Entry) (o : ObjectId) (s : VertexId) → ExitsAt e o s → object_of e ≡ o
exits_own (Exit p v outs) o s h = h.0
exits_own (Enter p v outs) o s h = absurd h
exits_own (Done p v firing) o s h = absurd h
exits_own (Post p g args) o s h = absurd h
exits_own (Start p) o s h = absurd h
exits_own (Take p n firing) o s h = absurd h
exits_own (Effect p t outs) o s h = absurd h
exits_own (Opened p r mode how) o s h = absurd h
exits_own (Pick p c route) o s h = absurd h
exits_own (DoStep p v k outs) o s h = absurd h

-- a State waits at a position of the journal, counted from 1
pub queued_within : (m : DraftMachine) (J : List Entry) (o : ObjectId) (s : VertexId) (i : ℕ) → IsQueuedAt m J o s i → i ≤ length J
queued_within m J o s i h =
    let position = h.position_is in
    let splits = ap length h.splits in
    let first = length-append h.before (h.entry ∷ []) in
    let all = length-append h.before (h.entry ∷ h.after) in
    omega (arith, position, splits, first, all)

-- one more entry
module _ (m : DraftMachine) (J : List Entry) (e : Entry) (o : ObjectId) (s : VertexId) where
  -- a State waited at the position before, and is not taken out, or it comes to wait
  pub record HasWaited (i : ℕ) : Type 0 where
    pub was : IsQueuedAt m J o s i
    pub untouched : Untouched e o s

  pub record HasCome (i : ℕ) : Type 0 where
    pub position : i ≡ length (J ++ e ∷ [])
    pub transition : HasCompletionTransition m s
    pub becomes : BecomesComplete m J e o s

  pub queued_stays : (i : ℕ) → IsQueuedAt m J o s i → Untouched e o s → IsQueuedAt m (J ++ e ∷ []) o s i
  queued_stays i h none = record {
    active = IsActive-stays J e o s h.active none.exited;
    transition = h.transition;
    before = h.before;
    entry = h.entry;
    after = h.after ++ e ∷ [];
    splits = splits_more J h.before h.after e h.entry h.splits;
    position_is = h.position_is;
    becomes = h.becomes;
    since_entered = every_push (λ f. EntersAt f o s → ⊥) h.after e h.since_entered none.entered;
    since_done = (h.since_done.0, every_push (λ f. DonesAt f o s → ⊥) h.after e h.since_done.1 none.done);
  }

  pub queued_comes : HasCompletionTransition m s → BecomesComplete m J e o s → IsQueuedAt m (J ++ e ∷ []) o s (length (J ++ e ∷ []))
  queued_comes transition becomes = record {
    active = becomes.0.active;
    transition = transition;
    before = J;
    entry = e;
    after = [];
    splits = refl;
    position_is = refl;
    becomes = becomes;
    since_entered = tt;
    since_done = ((λ done. dones_none m e o s s done (becomes_by m J e o s (dones_own e o s done) becomes)), tt);
  }

  within : (i : ℕ) (h : IsQueuedAt m (J ++ e ∷ []) o s i) → IsWithin J h.before h.after e h.entry → HasWaited i
  within i h w =
      let entered = every_init (λ f. EntersAt f o s → ⊥) w.rest e (subst (AllByRecursion (λ f. EntersAt f o s → ⊥)) w.after_is h.since_entered) in
      let done = every_init (λ f. DonesAt f o s → ⊥) w.rest e (subst (AllByRecursion (λ f. DonesAt f o s → ⊥)) w.after_is h.since_done.1) in
      let active : IsActive J o s × (ExitsAt e o s → ⊥) =
      ⊎_elim (λ enters. absurd (entered.1 enters)) (λ was. was) (IsActive-was J e o s h.active) in
      record {
        was = record {
          active = active.0;
          transition = h.transition;
          before = h.before;
          entry = h.entry;
          after = w.rest;
          splits = w.splits;
          position_is = h.position_is;
          becomes = h.becomes;
          since_entered = entered.0;
          since_done = (h.since_done.0, done.0);
        };
        untouched = record { entered = entered.1; exited = active.1; done = done.1 };
      }

  at_end : (i : ℕ) (h : IsQueuedAt m (J ++ e ∷ []) o s i) → EndsAt J h.before h.after e h.entry → HasCome i
  at_end i h w = record {
    position =
        h.position_is ∙ ap (λ (x : List Entry). length (x ++ h.entry ∷ [])) w.before_is ∙ ap (λ (x : Entry). length (J ++ x ∷ [])) w.entry_is;
    transition = h.transition;
    becomes =
        subst (λ x. BecomesComplete m J x o s) w.entry_is (subst (λ xs. BecomesComplete m xs h.entry o s) w.before_is h.becomes);
  }

  pub queued_was : (i : ℕ) → IsQueuedAt m (J ++ e ∷ []) o s i → HasWaited i ⊎ HasCome i
  queued_was i h =
      ⊎_elim
      (λ (w : EndsAt J h.before h.after e h.entry). inr (at_end i h w))
      (λ (w : IsWithin J h.before h.after e h.entry). inl (within i h w))
      (split_push J h.before h.after e h.entry h.splits)

  -- the position is earlier than the new entry's
  pub before_new : (i j : ℕ) → IsQueuedAt m J o s i → j ≡ length (J ++ e ∷ []) → i < j
  before_new i j h is =
      let few = queued_within m J o s i h in
      let all = length-append J (e ∷ []) in
      omega (arith, few, all, is)

  -- since when it waits
  pub since_stays : (i : ℕ) → WaitsSince m J o s i → Untouched e o s → WaitsSince m (J ++ e ∷ []) o s i
  since_stays i h none = (
    queued_stays i h.0 none,
    λ j later. ⊎_elim (λ (was : HasWaited j). h.1 j was.was)
        (λ (new : HasCome j). let lt = before_new i j h.0 new.position in omega (arith, lt)) (queued_was j later),
  )

  pub since_comes : HasCompletionTransition m s → BecomesComplete m J e o s → ((i : ℕ) → HasWaited i → ⊥)
      → WaitsSince m (J ++ e ∷ []) o s (length (J ++ e ∷ []))
  since_comes transition becomes none = (
    queued_comes transition becomes,
    λ j later. ⊎_elim (λ (was : HasWaited j). absurd (none j was))
        (λ (new : HasCome j). let is = new.position in omega (arith, is)) (queued_was j later),
  )

-- a State that is not taken out stays before another that waits or comes to wait
module _ (m : DraftMachine) (J : List Entry) (e : Entry) (o : ObjectId) where
  pub before_stays : (s q : VertexId) → Untouched e o s → WaitsBefore m J o s q → WaitsBefore m (J ++ e ∷ []) o s q
  before_stays s q none h = (
    h.0,
    since_stays m J e o s h.0 h.1 none,
    λ j later. ⊎_elim (λ (was : HasWaited m J e o q j). h.2 j was.was)
        (λ (new : HasCome m J e o q j). before_new m J e o s h.0 j h.1.0 new.position) (queued_was m J e o q j later),
  )

  pub before_comes : (s q : VertexId) (i : ℕ) → Untouched e o s → WaitsSince m J o s i → ((j : ℕ) → HasWaited m J e o q j → ⊥)
      → WaitsBefore m (J ++ e ∷ []) o s q
  before_comes s q i none since never = (
    i,
    since_stays m J e o s i since none,
    λ j later. ⊎_elim (λ (was : HasWaited m J e o q j). absurd (never j was))
        (λ (new : HasCome m J e o q j). before_new m J e o s i j since.0 new.position) (queued_was m J e o q j later),
  )

-- the queue after one more entry, where it is known which State this takes out and which States come to wait
module _ {m : DraftMachine} {J : List Entry} {o : ObjectId} {queue : List VertexId} (h : IsQueueOf m J o queue) (e : Entry) (leaves : Option VertexId)
    (stays : (s : VertexId) → (leaves ≡ Some s → ⊥) → Untouched e o s) (left : (s : VertexId) → Untouched e o s → leaves ≡ Some s → ⊥) where
  abbrev J' : List Entry
  J' = J ++ e ∷ []

  abbrev rest : List VertexId
  rest = without leaves queue

  in_rest : (s : VertexId) → Contains rest s → (Contains queue s) × Untouched e o s
  in_rest s inside = let was = was_in leaves queue s inside in (was.0, stays s was.1)

  rest_waits : (s : VertexId) → Contains rest s → (i : ℕ) × WaitsSince m J' o s i
  rest_waits s inside =
      let was = in_rest s inside in
      let since = h.waiting s was.0 in
      (since.0, since_stays m J e o s since.0 since.1 was.1)

  rest_has : (s : VertexId) (i : ℕ) → HasWaited m J e o s i → Contains rest s
  rest_has s i was = stays_in leaves queue s (h.listed s i was.was) (left s was.untouched)

  rest_order : AllPairs (WaitsBefore m J' o) rest
  rest_order =
      in_order_too (WaitsBefore m J o) (WaitsBefore m J' o) rest
      (λ s q first second before. before_stays m J e o s q (in_rest s first).1 before) (ordered_without (WaitsBefore m J o) leaves queue h.order)

  -- none comes but what waits already
  pub rest_is_queue : ((s : VertexId) → HasCompletionTransition m s → BecomesComplete m J e o s → Contains rest s) → IsQueueOf m J' o rest
  rest_is_queue none = record {
    waiting = rest_waits;
    listed = λ s i later. ⊎_elim (λ (was : HasWaited m J e o s i). rest_has s i was)
        (λ (new : HasCome m J e o s i). none s new.transition new.becomes) (queued_was m J e o s i later);
    order = rest_order;
  }

  -- one State comes
  module _ (s : VertexId) (absent : Contains rest s → ⊥) (transition : HasCompletionTransition m s) (becomes : BecomesComplete m J e o s)
      (alone : (q : VertexId) → BecomesComplete m J e o q → q ≡ s) where
    never : (i : ℕ) → HasWaited m J e o s i → ⊥
    never i was = absent (rest_has s i was)

    with_waits : (q : VertexId) → Contains (rest ++ s ∷ []) q → (i : ℕ) × WaitsSince m J' o q i
    with_waits q inside =
        ⊎_elim
        (λ before. rest_waits q before)
        (λ same. (length J', subst (λ x. WaitsSince m J' o x (length J')) same (since_comes m J e o s transition becomes never)))
        (Contains-push_cases rest s q inside)

    pub with_is_queue : IsQueueOf m J' o (rest ++ s ∷ [])
    with_is_queue = record {
      waiting = with_waits;
      listed = λ q i later. ⊎_elim (λ (was : HasWaited m J e o q i). Contains-append_left rest (s ∷ []) q (rest_has q i was))
          (λ (new : HasCome m J e o q i). subst (Contains (rest ++ s ∷ [])) (sym (alone q new.becomes)) (Contains-push rest s))
          (queued_was m J e o q i later);
      order = all_pairs_push (WaitsBefore m J' o) rest s rest_order (λ k d lt. last_of (Contains-get_or rest k d lt));
    } where
      last_of : {q : VertexId} → Contains rest q → WaitsBefore m J' o q s
      last_of {q} inside =
          let was = in_rest q inside in
          let since = h.waiting q was.0 in
          before_comes m J e o q s since.0 was.1 since.1 never

-- an entry of the object takes out what its kind says
module _ (e : Entry) (o : ObjectId) (own : object_of e ≡ o) (s : VertexId) where
  pub stays_untouched : (leaves_of e ≡ Some s → ⊥) → Untouched e o s
  stays_untouched none = record {
    entered = λ enters. none (enters_leaves e o s enters);
    exited = λ exits. none (exits_leaves e o s exits);
    done = λ dones. none (dones_leaves e o s dones);
  }

  pub untouched_stays : Untouched e o s → leaves_of e ≡ Some s → ⊥
  untouched_stays none is =
      let which : EntersAt e o s ⊎ ExitsAt e o s ⊎ DonesAt e o s =
      subst (λ p. EntersAt e p s ⊎ ExitsAt e p s ⊎ DonesAt e p s) own (leaves_at e s is) in
      ⊎_elim (λ enters. none.entered enters) (λ more. ⊎_elim (λ exits. none.exited exits) (λ dones. none.done dones) more) which

module _ {m : DraftMachine} {J : List Entry} {o : ObjectId} {queue : List VertexId} (h : IsQueueOf m J o queue) (e : Entry) (own : object_of e ≡ o)
    (was now : Configuration) (at_first : Agree was (configuration_after m J o)) (at_last : Agree now (configuration_after m (J ++ e ∷ []) o)) where
  abbrev then : Configuration
  then = configuration_after m J o

  abbrev after : Configuration
  after = configuration_after m (J ++ e ∷ []) o

  -- a State comes to wait exactly where it becomes complete by the entry
  comes : (s : VertexId) → HasCompletionTransition m s → BecomesComplete m J e o s → ComesToWait m was now (leaves_of e) (completes_of m e) s
  comes s transition becomes = record {
    may = becomes_by m J e o s own becomes;
    becomes = ⊎_elim (λ new. inl (λ complete. new (complete_too was then at_first m s complete))) (λ enters. inr (enters_leaves e o s enters)) becomes.1;
    complete = complete_too after now (Agree-symm now after at_last) m s becomes.0;
    transition = transition;
  }

  has_become : (s : VertexId) → ComesToWait m was now (leaves_of e) (completes_of m e) s → BecomesComplete m J e o s
  has_become s c = (
    complete_too now after at_last m s c.complete,
    ⊎_elim (λ new. inl (λ complete. new (complete_too then was (Agree-symm was then at_first) m s complete)))
        (λ leaves. inr (subst (λ p. EntersAt e p s) own (leaves_entered m e s leaves c.may))) c.becomes,
  )

  alone : (s q : VertexId) → completes_of m e ≡ Some s → BecomesComplete m J e o q → q ≡ s
  alone s q is becomes = let other = becomes_by m J e o q own becomes in cc

  -- an entry of the object brings the queue on as its kind says
  pub queue_goes_on : (new : List VertexId) → QueueGoesOn m was now (leaves_of e) (completes_of m e) queue new → IsQueueOf m (J ++ e ∷ []) o new
  queue_goes_on new (inl (s, c, absent, is)) =
      subst (IsQueueOf m (J ++ e ∷ []) o) (sym is)
      (with_is_queue h e (leaves_of e) (λ q none. stays_untouched e o own q none) (λ q none. untouched_stays e o own q none) s absent c.transition
      (has_become s c) (λ q becomes. alone s q c.may becomes))
  queue_goes_on new (inr (none, is)) =
      subst (IsQueueOf m (J ++ e ∷ []) o) (sym is)
      (rest_is_queue h e (leaves_of e) (λ q none. stays_untouched e o own q none) (λ q none. untouched_stays e o own q none)
      (λ s transition becomes. none s (comes s transition becomes)))
