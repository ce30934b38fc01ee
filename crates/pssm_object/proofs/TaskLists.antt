-- The tasks that are listed are the ready ones of the object, each once.
use Rattle.std.proofs.Common.{◌≡◌, ◌≢◌, ◌⊎◌, ◌<◌, ◌++◌, ℕ, suc, length, List, [], ◌∷◌, Bool, true, false, IsTrue, if◌then◌else◌, Contains, All, get_or, Option, Some, None, IfSome, refl, sym, ap, subst, ◌∙◌, inr, ⊎_elim, arith}
use Rattle.std.specs.Prelude.{AllPairs}
use Rattle.std.specs.List.{filter_map, cons_option}
use Rattle.std.proofs.lemmas.List.Elements.{All-contains, Contains-get_or, Contains-append_left, Contains-append_right, Contains-append_cases}
use Rattle.std.proofs.lemmas.Bool.{false≢true}
use Rattle.std.proofs.lemmas.List.Kept.{AllPairs-cons}
use Rattle.pssm_model.specs.declared.ids.VertexId.{VertexId}
use Rattle.pssm_model.specs.declared.elements.DraftMachine.{DraftMachine}
use Rattle.pssm_model.specs.declared.steps.Item.{Item}
use Rattle.pssm_model.specs.declared.steps.Item.TheVariants as items
use Rattle.pssm_model.specs.Order.{IsReady}
use Rattle.pssm_model.specs.Shapes.{HasShape}
use Rattle.pssm_model.specs.WellFormed.{KeepsModelRules}
use Rattle.pssm_plan.specs.declared.roster.Call.{Call}
use Rattle.pssm_plan.specs.Agenda.{Agenda, course_of}
use Rattle.pssm_plan.specs.Plans.{IsPlanOf}
use Rattle.pssm_plan.specs.Standings.{ready_calls, ListsReady}
use Rattle.pssm_plan.proofs.ReadyCalls.{lists_ready}
use Rattle.pssm_semantics.specs.declared.entry.Entry.{Entry}
use Rattle.pssm_semantics.specs.declared.stimulus.Task.{Task}
use Rattle.pssm_semantics.specs.declared.stimulus.Task.TheVariants as tasks
use Rattle.pssm_semantics.specs.declared.setting.Class.{Class}
use Rattle.pssm_semantics.specs.Journal.{object_of, configuration_after}
use Rattle.pssm_semantics.specs.Tasks.{IsReadyItem, IsReadyWork}
use Rattle.pssm_semantics.specs.Classes.{IsWellFormedClass}
use Rattle.pssm_semantics_laws.proofs.Members.{Contains-read, Contains-of_read, first_in, later_in}
use Rattle.pssm_object.specs.Doing.{do_tasks}
use Rattle.pssm_object.specs.Standing.{Standing, StandsAfter}
use Rattle.pssm_object.specs.Following.{NamesPlaces}
use Rattle.pssm_object.specs.Tasks.{task_of, tasks_of_plan, ready_tasks, ListsTasks, Does}
use Rattle.pssm_object.specs.inner.Working.{HasPlace, outcome_for}
use Rattle.pssm_object.specs.inner.Doing.{IsNextHere, step_outcome}
use Rattle.pssm_object.specs.inner.Judging.{HasStarted, Judges}
use Rattle.pssm_object.specs.inner.Choosing.{DoesTask}
use Rattle.pssm_object.proofs.PlanItems.{ready_has_place}
use Rattle.pssm_object.proofs.Judged.{same_some}
use Rattle.pssm_object.proofs.Following.{ready_there}
use Rattle.pssm_object.proofs.Rules.{no_step}
use Rattle.pssm_object.proofs.DoingNext.{next_alike}
use Rattle.pssm_object.proofs.DoingLists.{active_there, in_do_tasks, do_task_listed, do_tasks_once}
use Rattle.pssm_object.proofs.Standings.{plan_or_none, not_begun, only_posts, plan_of, plan_fits, step_of}
use Rattle.pssm_object.proofs.UnderWay.{ready_item_is, item_ready}
use Rattle.pssm_object.proofs.Agreeing.{Agree-symm}
use Rattle.pssm_model.proofs.ElementLaws.{nothing_in_nil}
use Rattle.pssm_config.specs.Tables.{Fits, configuration_of}
use Rattle.pssm_model.proofs.RouteLaws.{none_in_order}

-- pairs of a longer list
AllPairs-head : {X : Type 0} (R : X → X → Type 0) (x : X) (xs : List X) → AllPairs R (x ∷ xs) → All (R x) xs
AllPairs-head R x xs pairs k d lt = pairs 0 (suc k) d (omega arith) (omega arith)

AllPairs-tail : {X : Type 0} (R : X → X → Type 0) (x : X) (xs : List X) → AllPairs R (x ∷ xs) → AllPairs R xs
AllPairs-tail R x xs pairs i j d before within = pairs (suc i) (suc j) d (omega arith) (omega arith)

-- what is read of different items differs
module _ {X Y Z : Type 0} (key : X → Z) (f : Z → Option Y) (one : (a c : Z) (y : Y) → f a ≡ Some y → f c ≡ Some y → a ≡ c) where
  abbrev read : X → Option Y
  read x = f (key x)

  apart_from : (x : X) (xs : List X) (y : Y) → All (λ z. key x ≢ key z) xs → read x ≡ Some y → All (λ z. y ≢ z) (filter_map read xs)
  apart_from x xs y apart is =
      λ k d lt same.
      let z = get_or (filter_map read xs) k d in
      let at = Contains-of_read read xs z (Contains-get_or (filter_map read xs) k d lt) in
      All-contains (λ w. key x ≢ key w) xs at.0 apart at.1 (one (key x) (key at.0) y is (at.2 ∙ ap Some (sym same)))

  with_first : (r : Option Y) (ys : List Y) → ((y : Y) → r ≡ Some y → All (λ z. y ≢ z) ys) → AllPairs (λ a c. a ≢ c) ys
      → AllPairs (λ a c. a ≢ c) (cons_option r ys)
  with_first None ys apart pairs = pairs
  with_first (Some y) ys apart pairs = AllPairs-cons (λ a c. a ≢ c) y ys (apart y refl) pairs

  pub read_apart : (xs : List X) → AllPairs (λ a c. key a ≢ key c) xs → AllPairs (λ a c. a ≢ c) (filter_map read xs)
  read_apart [] pairs = none_in_order (λ a c. a ≢ c)
  read_apart (x ∷ xs) pairs =
      with_first (read x) (filter_map read xs)
      (λ y is. apart_from x xs y (AllPairs-head (λ a c. key a ≢ key c) x xs pairs) is)
      (read_apart xs (AllPairs-tail (λ a c. key a ≢ key c) x xs pairs))

-- the item of a task; that of a do step is never asked
unfoldable pub item_for : Task → Item
item_for (tasks.Exit s) = items.Exit s
item_for (tasks.Effect t) = items.Effect t
item_for (tasks.Enter s) = items.Enter s
item_for (tasks.DoStep s k) = items.Exit s

pub is_item : (a : Item) (task : Task) → task_of a ≡ Some task → a ≡ item_for task
unfolding item_for
is_item (items.Exit s) task e = ap item_for (same_some (tasks.Exit s) task e)
is_item (items.Effect t) task e = ap item_for (same_some (tasks.Effect t) task e)
is_item (items.Enter s) task e = ap item_for (same_some (tasks.Enter s) task e)
is_item (items.Opened r mode) task e = absurd (let clash : None ≡ Some task = e in cc)
is_item (items.Pick v) task e = absurd (let clash : None ≡ Some task = e in cc)

one_item : (a c : Item) (task : Task) → task_of a ≡ Some task → task_of c ≡ Some task → a ≡ c
one_item a c task first second = is_item a task first ∙ sym (is_item c task second)

pub no_step_task : (a : Item) (s : VertexId) (k : ℕ) → task_of a ≡ Some (tasks.DoStep s k) → ⊥
no_step_task (items.Exit q) s k e = cc
no_step_task (items.Effect t) s k e = cc
no_step_task (items.Enter q) s k e = cc
no_step_task (items.Opened r mode) s k e = cc
no_step_task (items.Pick v) s k e = cc

-- a task of a plan is an item that is ready
pub plan_task : (m : DraftMachine) (p : Agenda) → IsPlanOf m p → (task : Task) → Contains (tasks_of_plan (Some p)) task
    → (a : Item) × IsReady m (course_of p) a × (task_of a ≡ Some task)
plan_task m p plan task inside =
    let at = Contains-of_read (λ (call : Call). task_of call.item) (ready_calls p) task inside in
    (at.0.item, ((lists_ready m p plan).ready at.0.item).0 (at.0, at.1, refl), at.2)

pub some_task : (m : DraftMachine) (plan : Option Agenda) → IfSome plan (IsPlanOf m) → (task : Task) → Contains (tasks_of_plan plan) task
    → (p : Agenda) × IsPlanOf m p × ((a : Item) × IsReady m (course_of p) a × (task_of a ≡ Some task))
some_task m None h task inside = absurd (nothing_in_nil task inside)
some_task m (Some p) h task inside = (p, h, plan_task m p h task inside)

-- so its place is one of the machine, and it is no do step
module _ {m : DraftMachine} (shape : HasShape m) (rules : KeepsModelRules m) (plan : Option Agenda) (h : IfSome plan (IsPlanOf m)) where
  pub task_place : (task : Task) → Contains (tasks_of_plan plan) task → HasPlace m (item_for task)
  task_place task inside =
      let at = some_task m plan h task inside in
      subst (HasPlace m) (is_item at.2.0 task at.2.2) (ready_has_place shape rules at.0 at.2.0 at.1 at.2.1)

  pub no_do_task : (s : VertexId) (k : ℕ) → Contains (tasks_of_plan plan) (tasks.DoStep s k) → ⊥
  no_do_task s k inside = let at = some_task m plan h (tasks.DoStep s k) inside in no_step_task at.2.0 s k at.2.2

-- a list that is kept where a flag is not set
in_kept : {X : Type 0} (flag : Bool) (xs : List X) (x : X) → Contains (if flag then [] else xs) x → (IsTrue flag → ⊥) × Contains xs x
in_kept true xs x inside = absurd (nothing_in_nil x inside)
in_kept false xs x inside = ((λ yes. false≢true yes), inside)

kept_in : {X : Type 0} (flag : Bool) (xs : List X) (x : X) → (IsTrue flag → ⊥) → Contains xs x → Contains (if flag then [] else xs) x
kept_in true xs x not inside = absurd (not refl)
kept_in false xs x not inside = inside

kept_once : {X : Type 0} (R : X → X → Type 0) (flag : Bool) (xs : List X) → AllPairs R xs → AllPairs R (if flag then [] else xs)
kept_once R true xs pairs = none_in_order R
kept_once R false xs pairs = pairs

-- the pairs of two lists one after the other
pairs_of_both : {X : Type 0} (R : X → X → Type 0) (xs ys : List X) → AllPairs R xs → AllPairs R ys → ((x y : X) → Contains xs x → Contains ys y → R x y)
    → AllPairs R (xs ++ ys)
pairs_of_both R [] ys front back across = back
pairs_of_both R (x ∷ xs) ys front back across =
    AllPairs-cons R x (xs ++ ys)
    (λ k d lt.
    let z = get_or (xs ++ ys) k d in
    ⊎_elim (λ near. All-contains (R x) xs z (AllPairs-head R x xs front) near) (λ far. across x z (first_in x xs) far)
    (Contains-append_cases xs ys z (Contains-get_or (xs ++ ys) k d lt)))
    (pairs_of_both R xs ys (AllPairs-tail R x xs front) back (λ z y near far. across z y (later_in x xs z near) far))

-- the place of a ready task is one of the machine
abbrev pub TaskPlace : DraftMachine → Task → Type 0
TaskPlace m (tasks.Exit s) = s.0 < length m.vertices
TaskPlace m (tasks.Effect t) = t.0 < length m.transitions
TaskPlace m (tasks.Enter s) = s.0 < length m.vertices
TaskPlace m (tasks.DoStep s k) = s.0 < length m.vertices

module _ {m : DraftMachine} (rules : KeepsModelRules m) (x : Standing) (h : IfSome x.plan (IsPlanOf m)) (fits : Fits m x.config) where
  step_place : (task : Task) → Contains (tasks_of_plan x.plan) task → TaskPlace m task
  unfolding item_for
  step_place (tasks.Exit s) inside = task_place fits.shape rules x.plan h (tasks.Exit s) inside
  step_place (tasks.Effect t) inside = task_place fits.shape rules x.plan h (tasks.Effect t) inside
  step_place (tasks.Enter s) inside = task_place fits.shape rules x.plan h (tasks.Enter s) inside
  step_place (tasks.DoStep s k) inside = absurd (no_do_task fits.shape rules x.plan h s k inside)

  doing_place : (task : Task) → Contains (do_tasks m x.config) task → TaskPlace m task
  doing_place task inside =
      let at = in_do_tasks m x.config task inside in subst (TaskPlace m) (sym at.2) (active_there m x.config fits at.0 at.3.active)

  pub ready_place : (task : Task) → Contains (ready_tasks m x) task → TaskPlace m task
  ready_place task inside =
      ⊎_elim (λ near. step_place task near) (λ far. doing_place task far)
      (Contains-append_cases (tasks_of_plan x.plan) (do_tasks m x.config) task (in_kept x.ended (tasks_of_plan x.plan ++ do_tasks m x.config) task inside).1)

module _ (class : Class) (b : IsWellFormedClass class) {J : List Entry} {x : Standing} (s : StandsAfter class J x) where
  abbrev m : DraftMachine
  m = class.machine

  -- the tasks of the step
  module _ (p : Agenda) (is : x.plan ≡ Some p) where
    lists : ListsReady m (course_of p) (ready_calls p)
    lists = lists_ready m p (plan_of s p is)

    item_of_task : (a : Item) → IsReady m (course_of p) a → (task : Task) → task_of a ≡ Some task → IsReadyWork m J x.own task
    unfolding item_for
    item_of_task a ready (tasks.Exit v) e = subst (IsReadyItem m J x.own) (is_item a (tasks.Exit v) e) (item_ready (step_of s p is) a ready)
    item_of_task a ready (tasks.Effect t) e = subst (IsReadyItem m J x.own) (is_item a (tasks.Effect t) e) (item_ready (step_of s p is) a ready)
    item_of_task a ready (tasks.Enter v) e = subst (IsReadyItem m J x.own) (is_item a (tasks.Enter v) e) (item_ready (step_of s p is) a ready)
    item_of_task a ready (tasks.DoStep v k) e = absurd (no_step_task a v k e)

    listed_item : (a : Item) (task : Task) → task_of a ≡ Some task → IsReadyItem m J x.own a → Contains (tasks_of_plan (Some p)) task
    listed_item a task e ready =
        let call = (lists.ready a).1 (ready_item_is (step_of s p is) a ready) in
        Contains-read (λ (c : Call). task_of c.item) (ready_calls p) call.0 task call.1 (ap task_of call.2 ∙ e)

  listed_work : (plan : Option Agenda) → x.plan ≡ plan → (task : Task) → Contains (tasks_of_plan plan) task → IsReadyWork m J x.own task
  listed_work None is task inside = absurd (nothing_in_nil task inside)
  listed_work (Some p) is task inside =
      let at = plan_task m p (plan_of s p is) task inside in item_of_task p is at.0 at.1 task at.2

  work_listed : (plan : Option Agenda) → x.plan ≡ plan → (a : Item) (task : Task) → task_of a ≡ Some task → IsReadyItem m J x.own a
      → Contains (tasks_of_plan plan) task
  work_listed None none a task e ready = absurd (no_step J x.own (only_posts s none) ready.step ready.last)
  work_listed (Some p) is a task e ready = listed_item p is a task e ready

  pub step_once : (plan : Option Agenda) → x.plan ≡ plan → AllPairs (λ a c. a ≢ c) (tasks_of_plan plan)
  step_once None is = none_in_order (λ a c. a ≢ c)
  step_once (Some p) is = read_apart (λ (call : Call). call.item) task_of one_item (ready_calls p) (lists p is).once

  abbrev all_tasks : List Task
  all_tasks = tasks_of_plan x.plan ++ do_tasks m x.config

  -- both, and the do steps
  doing_work : (task : Task) → Contains (do_tasks m x.config) task → IsReadyWork m J x.own task
  doing_work task inside =
      let at = in_do_tasks m x.config task inside in
      subst (IsReadyWork m J x.own) (sym at.2) (next_alike m (configuration_of x.config) (configuration_after m J x.own) s.now_is at.0 at.1 at.3)

  work_of : (task : Task) → Contains all_tasks task → IsReadyWork m J x.own task
  work_of task inside =
      ⊎_elim (λ near. listed_work x.plan refl task near) (λ far. doing_work task far)
      (Contains-append_cases (tasks_of_plan x.plan) (do_tasks m x.config) task inside)

  of_work : (task : Task) → IsReadyWork m J x.own task → Contains all_tasks task
  of_work (tasks.Exit v) work =
      Contains-append_left (tasks_of_plan x.plan) (do_tasks m x.config) (tasks.Exit v) (work_listed x.plan refl (items.Exit v) (tasks.Exit v) refl work)
  of_work (tasks.Effect t) work =
      Contains-append_left (tasks_of_plan x.plan) (do_tasks m x.config) (tasks.Effect t)
      (work_listed x.plan refl (items.Effect t) (tasks.Effect t) refl work)
  of_work (tasks.Enter v) work =
      Contains-append_left (tasks_of_plan x.plan) (do_tasks m x.config) (tasks.Enter v) (work_listed x.plan refl (items.Enter v) (tasks.Enter v) refl work)
  of_work (tasks.DoStep v k) work =
      Contains-append_right (tasks_of_plan x.plan) (do_tasks m x.config) (tasks.DoStep v k)
      (do_task_listed m x.config s.fits v k
      (next_alike m (configuration_after m J x.own) (configuration_of x.config) (Agree-symm (configuration_of x.config) (configuration_after m J x.own) s.now_is)
      v k work))

  -- no task of the step is a do step
  across : (a c : Task) → Contains (tasks_of_plan x.plan) a → Contains (do_tasks m x.config) c → a ≢ c
  across a c near far same =
      let at = in_do_tasks m x.config c far in
      no_do_task s.fits.shape b.rules x.plan (plan_fits s) at.0 at.1 (subst (Contains (tasks_of_plan x.plan)) (same ∙ at.2) near)

  pub lists_tasks : ListsTasks m J x.own (ready_tasks m x)
  lists_tasks = record {
    each = λ task. (
      λ inside.
          let at = in_kept x.ended all_tasks task inside in
          ((λ ended. at.0 (s.ended_is.1 ended)), work_of task at.1),
      λ ready. kept_in x.ended all_tasks task (λ yes. ready.0 (s.ended_is.0 yes)) (of_work task ready.1),
    );
    once = kept_once (λ a c. a ≢ c) x.ended all_tasks
        (pairs_of_both (λ a c. a ≢ c) (tasks_of_plan x.plan) (do_tasks m x.config) (step_once x.plan refl) (do_tasks_once m x.config) across);
  }

  -- an object that does something has started
  started : (v : VertexId) → (configuration_of x.config).Active v → HasStarted x
  started v active =
      ⊎_elim (λ none. absurd (((not_begun s none).nothing.active v).0 ((s.now_is.active v).0 active))) (λ some. some) (plan_or_none x.plan)

  -- the item of a task of the step is ready
  pub ready_by : (plan : Option Agenda) → x.plan ≡ plan → (task : Task) → Contains (tasks_of_plan plan) task
      → (p : Agenda) × (x.plan ≡ Some p) × ((a : Item) × IsReady m (course_of p) a × (task_of a ≡ Some task))
  ready_by None is task inside = absurd (nothing_in_nil task inside)
  ready_by (Some p) is task inside = (p, is, plan_task m p (plan_of s p is) task inside)

  -- so the entry that does it with what its behaviour makes may follow
  abbrev IsDone : Task → Entry → Type 0
  IsDone task e = Judges class x None e None × (object_of e ≡ x.own) × Does x.own task e × NamesPlaces m e

  done_by : (IsTrue x.ended → ⊥) → (p : Agenda) → x.plan ≡ Some p → (a : Item) → IsReady m (course_of p) a → (task : Task) → task_of a ≡ Some task → (e : Entry)
      → DoesTask class x task e → IsDone task e
  unfolding item_for
  done_by living p is a ready (tasks.Exit v) same e does =
      let here = subst (IsReady m (course_of p)) (is_item a (tasks.Exit v) same) ready in
      subst (IsDone (tasks.Exit v)) (sym does)
      (inr (living, ((p, is, here), refl)), refl, ((outcome_for class x (items.Exit v)).outs, refl), ready_there class b s p is (items.Exit v) here)
  done_by living p is a ready (tasks.Effect t) same e does =
      let here = subst (IsReady m (course_of p)) (is_item a (tasks.Effect t) same) ready in
      subst (IsDone (tasks.Effect t)) (sym does)
      (inr (living, ((p, is, here), refl)), refl, ((outcome_for class x (items.Effect t)).outs, refl), ready_there class b s p is (items.Effect t) here)
  done_by living p is a ready (tasks.Enter v) same e does =
      let here = subst (IsReady m (course_of p)) (is_item a (tasks.Enter v) same) ready in
      subst (IsDone (tasks.Enter v)) (sym does)
      (inr (living, ((p, is, here), refl)), refl, ((outcome_for class x (items.Enter v)).outs, refl), (ready_there class b s p is (items.Enter v) here).0)
  done_by living p is a ready (tasks.DoStep v k) same e does = absurd (no_step_task a v k same)

  step_done : (IsTrue x.ended → ⊥) → (v : VertexId) (k : ℕ) → IsNextHere m x.config v k → (e : Entry) → DoesTask class x (tasks.DoStep v k) e
      → IsDone (tasks.DoStep v k) e
  step_done living v k next e does =
      subst (IsDone (tasks.DoStep v k)) (sym does)
      (inr (living, inr (started v next.active, (next, refl))), refl, ((step_outcome class x v k).outs, refl), active_there m x.config s.fits v next.active)

  doing_done : (IsTrue x.ended → ⊥) → (task : Task) → Contains (do_tasks m x.config) task → (e : Entry) → DoesTask class x task e → IsDone task e
  doing_done living task inside e does =
      let at = in_do_tasks m x.config task inside in
      subst (λ t. IsDone t e) (sym at.2) (step_done living at.0 at.1 at.3 e (subst (λ t. DoesTask class x t e) at.2 does))

  pub does_task : (task : Task) → Contains (ready_tasks m x) task → (e : Entry) → DoesTask class x task e → IsDone task e
  does_task task inside e does =
      let at = in_kept x.ended all_tasks task inside in
      ⊎_elim
      (λ near. let found = ready_by x.plan refl task near in done_by at.0 found.0 found.1 found.2.0 found.2.1 task found.2.2 e does)
      (λ far. doing_done at.0 task far e does)
      (Contains-append_cases (tasks_of_plan x.plan) (do_tasks m x.config) task at.1)

  -- a task of the step, or a do step
  pub task_cases : (task : Task) → Contains (ready_tasks m x) task → Contains (tasks_of_plan x.plan) task ⊎ Contains (do_tasks m x.config) task
  task_cases task inside = Contains-append_cases (tasks_of_plan x.plan) (do_tasks m x.config) task (in_kept x.ended all_tasks task inside).1
