-- The entry of a ready task may follow, with what its behaviour makes; and what may follow, and is neither a post nor a move, does a ready task.
use Rattle.std.proofs.Common.{◌≡◌, ◌<◌, ℕ, List, [], length, Contains, Option, Some, None, slice_get, refl, sym, ap, subst, ◌∙◌, ⊎_elim, arith}
use Rattle.std.specs.Option.{option_and_then, option_map_or}
use Rattle.std.proofs.lemmas.Option.{slice_get_within, same_Some}
use Rattle.pssm_model.specs.declared.ids.VertexId.{VertexId}
use Rattle.pssm_model.specs.declared.elements.DraftMachine.{DraftMachine}
use Rattle.pssm_model.specs.declared.elements.Vertex.{Vertex}
use Rattle.pssm_model.specs.declared.elements.Transition.{Transition}
use Rattle.pssm_model.specs.declared.steps.Item.{Item}
use Rattle.pssm_model.specs.declared.steps.Item.TheVariants as items
use Rattle.pssm_model.specs.Forest.{vertex_at, transition_at}
use Rattle.pssm_model.specs.Shapes.{HasShape}
use Rattle.pssm_model.specs.Configuration.{IsNextDoStep, do_steps_of}
use Rattle.pssm_model.specs.Order.{course_by}
use Rattle.pssm_model.proofs.ElementLaws.{some_at}
use Rattle.pssm_plan.proofs.StepLengths.{IsThere, called_there}
use Rattle.pssm_plan.proofs.RouteSteps.{gone_by_routes}
use Rattle.pssm_plan.proofs.RouteItems.{called_is}
use Rattle.pssm_semantics.specs.declared.entry.ObjectId.{ObjectId}
use Rattle.pssm_semantics.specs.declared.entry.Out.{Out}
use Rattle.pssm_semantics.specs.declared.entry.Entry.{Entry}
use Rattle.pssm_semantics.specs.declared.entry.Entry.TheVariants.{Post, Start, Take, Done, Exit, Effect, Enter, Opened, Pick, DoStep}
use Rattle.pssm_semantics.specs.declared.entry.Rule.{Rule}
use Rattle.pssm_semantics.specs.declared.entry.Rule.TheVariants.{A1, A2, A3, A4, A5, A6, A7, A8, A9, A10, A11, A12}
use Rattle.pssm_semantics.specs.declared.stimulus.Task.{Task}
use Rattle.pssm_semantics.specs.declared.stimulus.Task.TheVariants as tasks
use Rattle.pssm_semantics.specs.declared.setting.Class.{Class}
use Rattle.pssm_semantics.specs.declared.setting.Outcome.{Outcome}
use Rattle.pssm_semantics.specs.declared.setting.Setting.{Setting}
use Rattle.pssm_semantics.specs.declared.tree.Act.{Act}
use Rattle.pssm_semantics.specs.Arguments.{ActArgsFit}
use Rattle.pssm_semantics.specs.Settings.{class_of}
use Rattle.pssm_semantics.specs.Journal.{IsPost, IsStart, object_of, configuration_after}
use Rattle.pssm_semantics.specs.Completion.{HasEnded}
use Rattle.pssm_semantics.specs.Pool.{told_by}
use Rattle.pssm_semantics.specs.Values.{outcome_of}
use Rattle.pssm_semantics.specs.Behaviours.{act_at, act_of, params_of, params_at, outcome_at, store_of}
use Rattle.pssm_semantics.specs.Rules.{KeepsOwn, IsCalledItem, IsClearedItem}
use Rattle.pssm_semantics.specs.Tasks.{IsReadyItem, IsReadyTask}
use Rattle.pssm_semantics.specs.Admissible.{MayFollow, IsAdmissibleIn, IsQuiet}
use Rattle.pssm_semantics.specs.Classes.{IsWellFormedClass}
use Rattle.pssm_semantics.specs.Proper.{HasAct, VertexFits, TransitionFits, ClassFits, IsWellFormed}
use Rattle.pssm_semantics_laws.proofs.SettingClasses.{all_there, class_of_object, acts_run}
use Rattle.pssm_semantics_laws.proofs.Outcomes.{act_found, known_outs}
use Rattle.pssm_object.specs.Following.{IsMove, NamesPlaces}
use Rattle.pssm_object.specs.Standing.{IsUnderWay}
use Rattle.pssm_object.specs.Coming.{HasCome, HasCourse}
use Rattle.pssm_object.specs.Tasks.{entry_of}
use Rattle.pssm_object.proofs.Rules.{no_step, has_started}
use Rattle.pssm_object.proofs.UnderWay.{called_item, cleared_item, ready_item_is}
use Rattle.pssm_system.specs.Tasks.{IsReadyOf, HasNoMove, IsQuietOf}
use Rattle.pssm_system.proofs.Choices.{does-is}
use Rattle.pssm_system.proofs.Coming.{has_come}
use Rattle.pssm_system.proofs.Following.{object_there, holds, own_of}
use Rattle.pssm_system.proofs.Judged.{known_by, no_pool, taken_none}
use Rattle.pssm_book.specs.Works.{behaviour_in, store_in}

-- an object of the setting, after an admissible journal
module _ {setting : Setting} (b : IsWellFormed setting) {J : List Entry} (admissible : IsAdmissibleIn setting J) (o : ObjectId) {class : Class}
    (is : class_of setting o ≡ Some class) where
  abbrev m : DraftMachine
  m = class.machine

  formed : IsWellFormedClass class
  formed = (class_of_object setting b o class is).0

  class_fits : ClassFits setting class
  class_fits = (class_of_object setting b o class is).1

  shape : HasShape m
  shape = formed.proper.machine.shape

  come : HasCome m J o
  come = has_come b o class is J admissible

  -- where an item of its last step is ready, the step is under way
  course : (item : Item) → IsReadyItem m J o item → HasCourse m J o
  course item r = ⊎_elim (λ none. absurd (no_step J o none.posts r.step r.last)) (λ c. c) come

  -- so it is where a State has a do step
  doing : (s : VertexId) (k : ℕ) → IsNextDoStep m (configuration_after m J o) s k → HasCourse m J o
  doing s k next = ⊎_elim (λ none. absurd ((none.nothing.active s).0 next.active)) (λ c. c) come

  started : HasCourse m J o → (f : Entry) × Contains J f × IsStart f o
  started c = has_started c.under_way

  -- what a ready item names is of the machine
  item_there : (item : Item) → IsReadyItem m J o item → IsThere m item
  item_there item r =
      let c = course item r in
      let at_head = configuration_after m c.before o in
      let ready = ready_item_is c.under_way item r in
      called_there shape formed.rules c.head at_head c.ran c.under_way.gone item
      (called_is formed.rules shape (course_by c.head at_head c.ran) (gone_by_routes formed.rules shape c.head at_head c.ran c.under_way.gone) item
      ready.waiting.called)

  called : (item : Item) → IsReadyItem m J o item → IsCalledItem m J o item
  called item r = let u = (course item r).under_way in called_item u item (ready_item_is u item r).waiting

  cleared : (item : Item) → IsReadyItem m J o item → IsClearedItem m J o item
  cleared item r = let u = (course item r).under_way in cleared_item u item (ready_item_is u item r).cleared

  -- a vertex that has a do step is of the machine
  step_there : (s : VertexId) (k : ℕ) → k < do_steps_of m s → (x : Vertex) × (vertex_at m s ≡ Some x) × (k < length x.steps)
  step_there s k lt = by (vertex_at m s) refl lt where
    by : (found : Option Vertex) → vertex_at m s ≡ found → k < option_map_or (λ x. length x.steps) found 0
        → (x : Vertex) × (vertex_at m s ≡ Some x) × (k < length x.steps)
    by None e less = absurd (omega arith)
    by (Some x) e less = (x, e, less)

  vertex_there : (s : VertexId) (x : Vertex) → vertex_at m s ≡ Some x → s.0 < length m.vertices
  vertex_there s x at = slice_get_within m.vertices s.0 x at

  -- what the behaviour of an entry makes
  abbrev pub makes : Entry → Outcome
  makes e = outcome_at class (told_by J) J e (store_of class (told_by J) J (object_of e))

  abbrev pub made : Entry → List Out
  made e = (makes e).outs

  -- what a behaviour makes with the values and the parameters that a task has
  abbrev pub made_by : Act → Task → Outcome
  made_by act task = outcome_of act o (store_of class (told_by J) J o) (params_at (told_by J) J (entry_of o task []))

  -- what one makes, if there is one
  abbrev if_some : Task → Option Act → Outcome
  if_some task found = option_map_or (λ act. made_by act task) found (record { store = store_of class (told_by J) J o; outs = [] })

  -- it is that of the behaviour of the task, whatever outputs the entry has
  pub makes_is : (task : Task) (outs : List Out) (act : Act) → act_of class (entry_of o task []) ≡ Some act → makes (entry_of o task outs) ≡ made_by act task
  makes_is (tasks.Exit s) outs act at = ap (if_some (tasks.Exit s)) at
  makes_is (tasks.Effect t) outs act at = ap (if_some (tasks.Effect t)) at
  makes_is (tasks.Enter s) outs act at = ap (if_some (tasks.Enter s)) at
  makes_is (tasks.DoStep s k) outs act at = ap (if_some (tasks.DoStep s k)) at

  -- The rules, one by one; a task's entry is asked nothing by the first and the sixth.
  abbrev Own : Rule → Entry → Type 0
  Own rule e = KeepsOwn class (told_by J) None rule J e

  by_rules : (e : Entry) → Own A2 e → Own A3 e → Own A4 e → Own A5 e → Own A7 e → Own A8 e → Own A9 e → Own A10 e → Own A11 e → Own A12 e → (rule : Rule) → Own rule e
  by_rules e a2 a3 a4 a5 a7 a8 a9 a10 a11 a12 A1 = tt
  by_rules e a2 a3 a4 a5 a7 a8 a9 a10 a11 a12 A2 = a2
  by_rules e a2 a3 a4 a5 a7 a8 a9 a10 a11 a12 A3 = a3
  by_rules e a2 a3 a4 a5 a7 a8 a9 a10 a11 a12 A4 = a4
  by_rules e a2 a3 a4 a5 a7 a8 a9 a10 a11 a12 A5 = a5
  by_rules e a2 a3 a4 a5 a7 a8 a9 a10 a11 a12 A6 = tt
  by_rules e a2 a3 a4 a5 a7 a8 a9 a10 a11 a12 A7 = a7
  by_rules e a2 a3 a4 a5 a7 a8 a9 a10 a11 a12 A8 = a8
  by_rules e a2 a3 a4 a5 a7 a8 a9 a10 a11 a12 A9 = a9
  by_rules e a2 a3 a4 a5 a7 a8 a9 a10 a11 a12 A10 = a10
  by_rules e a2 a3 a4 a5 a7 a8 a9 a10 a11 a12 A11 = a11
  by_rules e a2 a3 a4 a5 a7 a8 a9 a10 a11 a12 A12 = a12

  task_keeps : (task : Task) (outs : List Out) → IsReadyTask m J o task → outs ≡ made (entry_of o task outs) → (rule : Rule) → Own rule (entry_of o task outs)
  task_keeps (tasks.Exit s) outs r are =
      by_rules (Exit o s outs) r.0 (started (course (items.Exit s) r.1)) tt tt tt (called (items.Exit s) r.1) (cleared (items.Exit s) r.1) refl tt are
  task_keeps (tasks.Effect t) outs r are =
      by_rules (Effect o t outs) r.0 (started (course (items.Effect t) r.1)) tt tt tt (called (items.Effect t) r.1) (cleared (items.Effect t) r.1) refl tt are
  task_keeps (tasks.Enter s) outs r are =
      by_rules (Enter o s outs) r.0 (started (course (items.Enter s) r.1)) tt tt tt (called (items.Enter s) r.1) (cleared (items.Enter s) r.1) refl tt are
  task_keeps (tasks.DoStep s k) outs r are = by_rules (DoStep o s k outs) r.0 (started (doing s k r.1)) tt tt tt tt tt tt r.1 are

  task_places : (task : Task) (outs : List Out) → IsReadyTask m J o task → NamesPlaces m (entry_of o task outs)
  task_places (tasks.Exit s) outs r = item_there (items.Exit s) r.1
  task_places (tasks.Effect t) outs r = item_there (items.Effect t) r.1
  task_places (tasks.Enter s) outs r = (item_there (items.Enter s) r.1).0
  task_places (tasks.DoStep s k) outs r = let at = step_there s k r.1.in_range in vertex_there s at.0 at.1

  -- the entry of a ready task, with what its behaviour makes, may follow
  pub task_follows : (task : Task) (outs : List Out) → IsReadyTask m J o task → outs ≡ made (entry_of o task outs) → MayFollow setting J (entry_of o task outs)
  task_follows task outs r are rule =
      let e = entry_of o task outs in
      let done = does-is o task e (outs, refl) in
      let keeps = task_keeps task outs r are in
      let here : class_of setting (object_of e) ≡ Some class = ap (λ q. class_of setting q) done.own ∙ is in
      let known = known_outs setting class class_fits o (object_there setting o class is) (told_by J) J e done.own (keeps A12) in
      holds setting J e class here (known_by setting class e done.no_post (task_places task outs r) known) (no_pool class J e done.no_take) rule
      (subst (λ s. KeepsOwn class (told_by J) s rule J e) (sym (taken_none (told_by J) e done.no_take)) (keeps rule))

  -- it has a behaviour, which may be run
  vertex_fits : (s : VertexId) (x : Vertex) → vertex_at m s ≡ Some x → VertexFits class x
  vertex_fits s x at = all_there (VertexFits class) m.vertices s.0 x class_fits.program.vertices at

  task_act : (task : Task) → IsReadyTask m J o task → (act : Act) × (act_of class (entry_of o task []) ≡ Some act)
  task_act (tasks.Exit s) r =
      let x = some_at m.vertices s.0 (item_there (items.Exit s) r.1) in
      let act = some_at class.program.acts x.0.exit.0 (vertex_fits s x.0 x.1).1 in
      (act.0, ap (λ v. option_and_then (λ (y : Vertex). act_at class y.exit) v) x.1 ∙ act.1)
  task_act (tasks.Effect t) r =
      let x = some_at m.transitions t.0 (item_there (items.Effect t) r.1) in
      let fits = all_there (TransitionFits class) m.transitions t.0 x.0 class_fits.program.transitions x.1 in
      let act = some_at class.program.acts x.0.effect.0 fits.1 in
      (act.0, ap (λ v. option_and_then (λ (y : Transition). act_at class y.effect) v) x.1 ∙ act.1)
  task_act (tasks.Enter s) r =
      let x = some_at m.vertices s.0 (item_there (items.Enter s) r.1).0 in
      let act = some_at class.program.acts x.0.entry.0 (vertex_fits s x.0 x.1).0 in
      (act.0, ap (λ v. option_and_then (λ (y : Vertex). act_at class y.entry) v) x.1 ∙ act.1)
  task_act (tasks.DoStep s k) r =
      let x = step_there s k r.1.in_range in
      let number = some_at x.0.steps k x.2 in
      let fits = all_there (HasAct class) x.0.steps k number.0 (vertex_fits s x.0 x.1).2 number.1 in
      let act = some_at class.program.acts number.0.0 fits in (
        act.0,
        ap (λ v. option_and_then (act_at class) (option_and_then (λ (y : Vertex). slice_get y.steps k) v)) x.1
            ∙ ap (λ n. option_and_then (act_at class) n) number.1 ∙ act.1,
      )

  pub act_runs : (task : Task) (act : Act) → act_of class (entry_of o task []) ≡ Some act → ActArgsFit act
  act_runs task act at = let found = act_found class (entry_of o task []) act at in acts_run class formed found.0 act found.1

  -- An entry that may follow, and is neither a post nor a move, does a ready task.
  pub task_ready : (e : Entry) → object_of e ≡ o → MayFollow setting J e → (IsPost e → ⊥) → (IsMove e → ⊥) → (task : Task) × IsReadyTask m J o task
  task_ready (Post q g args) own may no_post no_move = absurd (no_post tt)
  task_ready (Start q) own may no_post no_move = absurd (no_move tt)
  task_ready (Take q number firing) own may no_post no_move = absurd (no_move tt)
  task_ready (Done q v firing) own may no_post no_move = absurd (no_move tt)
  task_ready (Opened q r mode how) own may no_post no_move = absurd (no_move tt)
  task_ready (Pick q v route) own may no_post no_move = absurd (no_move tt)
  task_ready (Exit q v outs) own may no_post no_move =
      let here : class_of setting q ≡ Some class = ap (λ p. class_of setting p) own ∙ is in
      let keeps : (rule : Rule) → Own rule (Exit q v outs) = λ rule. own_of setting J (Exit q v outs) class here rule (may rule) in
      let waits = keeps A8 in
      let ready : IsReadyTask m J q (tasks.Exit v) =
      (keeps A2, record { step = waits.step; last = waits.last; ready = record { waiting = waits.waits; cleared = keeps A9 waits.step waits.last } }) in
      (tasks.Exit v, subst (λ p. IsReadyTask m J p (tasks.Exit v)) own ready)
  task_ready (Effect q t outs) own may no_post no_move =
      let here : class_of setting q ≡ Some class = ap (λ p. class_of setting p) own ∙ is in
      let keeps : (rule : Rule) → Own rule (Effect q t outs) = λ rule. own_of setting J (Effect q t outs) class here rule (may rule) in
      let waits = keeps A8 in
      let ready : IsReadyTask m J q (tasks.Effect t) =
      (keeps A2, record { step = waits.step; last = waits.last; ready = record { waiting = waits.waits; cleared = keeps A9 waits.step waits.last } }) in
      (tasks.Effect t, subst (λ p. IsReadyTask m J p (tasks.Effect t)) own ready)
  task_ready (Enter q v outs) own may no_post no_move =
      let here : class_of setting q ≡ Some class = ap (λ p. class_of setting p) own ∙ is in
      let keeps : (rule : Rule) → Own rule (Enter q v outs) = λ rule. own_of setting J (Enter q v outs) class here rule (may rule) in
      let waits = keeps A8 in
      let ready : IsReadyTask m J q (tasks.Enter v) =
      (keeps A2, record { step = waits.step; last = waits.last; ready = record { waiting = waits.waits; cleared = keeps A9 waits.step waits.last } }) in
      (tasks.Enter v, subst (λ p. IsReadyTask m J p (tasks.Enter v)) own ready)
  task_ready (DoStep q v k outs) own may no_post no_move =
      let here : class_of setting q ≡ Some class = ap (λ p. class_of setting p) own ∙ is in
      let keeps : (rule : Rule) → Own rule (DoStep q v k outs) = λ rule. own_of setting J (DoStep q v k outs) class here rule (may rule) in
      let ready : IsReadyTask m J q (tasks.DoStep v k) = (keeps A2, keeps A11) in
      (tasks.DoStep v k, subst (λ p. IsReadyTask m J p (tasks.DoStep v k)) own ready)

  -- the behaviour and the values, where the class is known
  pub behaviour_is : (task : Task) → behaviour_in setting o task ≡ act_of class (entry_of o task [])
  behaviour_is task = ap (λ c. option_and_then (λ (k : Class). act_of k (entry_of o task [])) c) is

  pub store_is : store_in setting J o ≡ store_of class (told_by J) J o
  store_is = ap (λ c. option_map_or (λ (k : Class). store_of k (told_by J) J o) c []) is

  -- a ready task has a behaviour
  pub has_behaviour : (task : Task) → IsReadyTask m J o task → (act : Act) × (behaviour_in setting o task ≡ Some act) × ActArgsFit act
  has_behaviour task r = let act = task_act task r in (act.0, behaviour_is task ∙ act.1, act_runs task act.0 act.1)

  -- The entry with what some behaviour makes is that of the task, where it is the behaviour of the task.
  pub work_follows : (task : Task) (act : Act) → IsReadyTask m J o task → behaviour_in setting o task ≡ Some act
      → MayFollow setting J (entry_of o task (made_by act task).outs)
  work_follows task act r at =
      let outs = (made_by act task).outs in
      task_follows task outs r (sym (ap (λ (x : Outcome). x.outs) (makes_is task outs act (sym (behaviour_is task) ∙ at))))

  -- What it makes is what the entry of the task makes, in whatever class the object is found.
  pub work_makes : (task : Task) (outs : List Out) (act : Act) → behaviour_in setting o task ≡ Some act → (k : Class)
      → class_of setting (object_of (entry_of o task outs)) ≡ Some k
      → made_by act task ≡ outcome_at k (told_by J) J (entry_of o task outs) (store_of k (told_by J) J (object_of (entry_of o task outs)))
  work_makes task outs act at k there =
      let e = entry_of o task outs in
      let own : object_of e ≡ o = (does-is o task e (outs, refl)).own in
      let same : class ≡ k = same_Some class k (sym is ∙ ap (λ (q : ObjectId). class_of setting q) (sym own) ∙ there) in
      subst (λ (c : Class). made_by act task ≡ outcome_at c (told_by J) J e (store_of c (told_by J) J (object_of e))) same
      (sym (makes_is task outs act (sym (behaviour_is task) ∙ at)))

-- Where a task is ready, the run is not quiet.
pub ready_unquiet : {setting : Setting} → IsWellFormed setting → {J : List Entry} → IsAdmissibleIn setting J → (o : ObjectId) (task : Task) → IsReadyOf setting J o task
    → IsQuiet setting J → ⊥
ready_unquiet b admissible o task r quiet =
    let act = has_behaviour b admissible o r.class_is task r.ready in
    let outs = (made_by b admissible o r.class_is act.0 task).outs in
    let may = work_follows b admissible o r.class_is task act.0 r.ready act.1 in
    quiet (entry_of o task outs) (does-is o task (entry_of o task outs) (outs, refl)).no_post may

own_entry : (o : ObjectId) (task : Task) (outs : List Out) → object_of (entry_of o task outs) ≡ o
own_entry o (tasks.Exit v) outs = refl
own_entry o (tasks.Effect t) outs = refl
own_entry o (tasks.Enter v) outs = refl
own_entry o (tasks.DoStep v k) outs = refl

pub ready_unquiet_of : {setting : Setting} → IsWellFormed setting → {J : List Entry} → IsAdmissibleIn setting J → (o : ObjectId) (task : Task)
    → IsReadyOf setting J o task → IsQuietOf setting J o → ⊥
ready_unquiet_of b admissible o task r quiet =
    let act = has_behaviour b admissible o r.class_is task r.ready in
    let outs = (made_by b admissible o r.class_is act.0 task).outs in
    let may = work_follows b admissible o r.class_is task act.0 r.ready act.1 in
    quiet (entry_of o task outs) (own_entry o task outs) (does-is o task (entry_of o task outs) (outs, refl)).no_post may

-- Where there is no move and no ready task, it is quiet.
pub quiet_of_none : {setting : Setting} → IsWellFormed setting → {J : List Entry} → IsAdmissibleIn setting J → HasNoMove setting J
    → ((o : ObjectId) (task : Task) → IsReadyOf setting J o task → ⊥) → IsQuiet setting J
quiet_of_none b admissible no_move no_task e no_post may =
    let there = may A1 in
    let task = task_ready b admissible (object_of e) there.1 e refl may no_post (λ move. no_move e move may) in
    no_task (object_of e) task.0 (record { class = there.0; class_is = there.1; ready = task.1 })
