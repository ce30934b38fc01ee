-- Of the tasks of all objects those of one.
use Rattle.std.proofs.Common.{◌≡◌, ◌≢◌, ◌⊎◌, ◌↔◌, ◌≤◌, ◌<◌, ◌+◌, ◌==◌, ◌++◌, ℕ, zero, suc, List, [], ◌∷◌, length, map, Bool, true, false, IsTrue, if◌then◌else◌, Contains, Option, Some, None, slice_get, refl, sym, ap, subst, ◌∙◌, inl, inr, arith, eq-eqb, append-nil}
use Rattle.std.specs.Prelude.{AllPairs}
use Rattle.std.specs.List.{filter_map, cons_option}
use Rattle.std.proofs.lemmas.Bool.{eqb-true}
use Rattle.std.proofs.lemmas.List.Elements.{filter_map-append}
use Rattle.pssm_semantics.specs.declared.entry.ObjectId.{ObjectId}
use Rattle.pssm_semantics.specs.declared.entry.Entry.{Entry}
use Rattle.pssm_semantics.specs.declared.stimulus.Task.{Task}
use Rattle.pssm_semantics.specs.declared.setting.Class.{Class}
use Rattle.pssm_semantics.specs.declared.setting.Setting.{Setting}
use Rattle.pssm_semantics.specs.Settings.{class_of}
use Rattle.pssm_semantics.specs.Tasks.{IsReadyTask}
use Rattle.pssm_semantics.specs.Proper.{IsWellFormed}
use Rattle.pssm_semantics_laws.proofs.Members.{Contains-read, Contains-of_read}
use Rattle.pssm_object.specs.Standing.{Standing}
use Rattle.pssm_object.specs.Tasks.{ready_tasks}
use Rattle.pssm_object.proofs.TaskLists.{read_apart}
use Rattle.pssm_system.specs.Tasks.{IsReadyOf, AreReady, AreReadyFor, own_tasks}
use Rattle.pssm_system.specs.inner.Keeping.{AreObjects, tasks_for, tasks_of}
use Rattle.pssm_system.proofs.AllTasks.{AreNumbered, tasks_at, tasks-as, all_numbered}
use Rattle.pssm_system.proofs.Following.{object_there, one_class}
use Rattle.pssm_system.proofs.Members.{IsMember}

-- the task, if it is one of the object
abbrev pub own_one : ObjectId → ObjectId × Task → Option Task
own_one o at = if at.0.0 == o.0 then Some at.1 else None

some_own : (same : Bool) (t task : Task) → (if same then Some t else None) ≡ Some task → IsTrue same × (t ≡ task)
some_own true t task e = (refl, (let one : Some t ≡ Some task = e in cc))
some_own false t task e = absurd (let clash : None ≡ Some task = e in cc)

own_some : (same : Bool) (t : Task) → IsTrue same → (if same then Some t else None) ≡ Some t
own_some true t is = refl
own_some false t is = let clash : false ≡ true = is in absurd (cc)

own_nothing : (same : Bool) (t : Task) → (IsTrue same → ⊥) → (if same then Some t else None) ≡ None
own_nothing true t never = absurd (never refl)
own_nothing false t never = refl

module _ (o : ObjectId) where
  -- it is that task with that object
  own_is : (at : ObjectId × Task) (task : Task) → own_one o at ≡ Some task → at ≡ (o, task)
  own_is (q, t) task e =
      let both = some_own (q.0 == o.0) t task e in
      let object : q ≡ o = ap (λ n. let p : ObjectId = record { 0 = n } in p) (eqb-true q.0 o.0 both.0) in
      cc (object, both.1)

  own_here : (task : Task) → own_one o (o, task) ≡ Some task
  own_here task = own_some (o.0 == o.0) task (eq-eqb o.0 o.0 refl)

  -- what is listed of the object is listed with it
  pub owned : (tasks : List (ObjectId × Task)) (task : Task) → Contains (own_tasks o tasks) task ↔ Contains tasks (o, task)
  owned tasks task = (
    λ inside.
        let at = Contains-of_read (own_one o) tasks task inside in
        subst (λ v. Contains tasks v) (own_is at.0 task at.2) at.1,
    λ inside. Contains-read (own_one o) tasks (o, task) task inside (own_here task),
  )

  own_once : (tasks : List (ObjectId × Task)) → AllPairs (λ a b. a ≢ b) tasks → AllPairs (λ a b. a ≢ b) (own_tasks o tasks)
  own_once tasks pairs =
      read_apart (λ (v : ObjectId × Task). v) (own_one o) (λ a b task first second. own_is a task first ∙ sym (own_is b task second)) tasks pairs

  -- so they are the ready ones of the object
  pub are_ready_for : {setting : Setting} {J : List Entry} {tasks : List (ObjectId × Task)} → AreReady setting J tasks
      → AreReadyFor setting J o (own_tasks o tasks)
  are_ready_for {tasks = tasks} h = record {
    each = λ task. (λ inside. (h.each o task).0 ((owned tasks task).0 inside), λ ready. (owned tasks task).1 ((h.each o task).1 ready));
    once = own_once tasks h.once;
  }

  -- all tasks of the object itself are its own, and none of another is
  all_own : (q : ObjectId) → q.0 ≡ o.0 → (tasks : List Task) → own_tasks o (map (λ t. (q, t)) tasks) ≡ tasks
  all_own q same [] = refl
  all_own q same (t ∷ rest) =
      ap (λ r. cons_option r (own_tasks o (map (λ u. (q, u)) rest))) (own_some (q.0 == o.0) t (eq-eqb q.0 o.0 same))
      ∙ ap (λ ts. t ∷ ts) (all_own q same rest)

  none_own : (q : ObjectId) → (q.0 ≡ o.0 → ⊥) → (tasks : List Task) → own_tasks o (map (λ t. (q, t)) tasks) ≡ []
  none_own q other [] = refl
  none_own q other (t ∷ rest) =
      ap (λ r. cons_option r (own_tasks o (map (λ u. (q, u)) rest))) (own_nothing (q.0 == o.0) t (λ same. other (eqb-true q.0 o.0 same)))
      ∙ none_own q other rest

  module _ (setting : Setting) where
    both_own : (x : Standing) (rest : List Standing)
        → own_tasks o (tasks_of setting (x ∷ rest)) ≡ own_tasks o (tasks_at setting x) ++ own_tasks o (tasks_of setting rest)
    both_own x rest = filter_map-append (own_one o) (tasks_at setting x) (tasks_of setting rest)

    -- objects with other numbers have none
    pub none_of_others : (n : ℕ) (objects : List Standing) → AreNumbered setting n objects → (o.0 < n) ⊎ (n + length objects ≤ o.0)
        → own_tasks o (tasks_of setting objects) ≡ []
    none_of_others n [] h apart = refl
    none_of_others n (x ∷ rest) h apart =
        both_own x rest
        ∙ ap (λ ts. ts ++ own_tasks o (tasks_of setting rest))
        (none_own x.own (λ same. let own = h.0 in elim apart [ inl below ↦ omega (arith, own, same, below) | inr past ↦ omega (arith, own, same, past) ])
        (tasks_for setting x))
        ∙ none_of_others (n + 1) rest h.2 (elim apart [ inl below ↦ inl (omega (arith, below)) | inr past ↦ inr (omega (arith, past)) ])

    -- those of one object are its ready ones
    pub own_at : (n : ℕ) (objects : List Standing) → AreNumbered setting n objects → (k : ℕ) (x : Standing) → slice_get objects k ≡ Some x → o.0 ≡ n + k
        → own_tasks o (tasks_of setting objects) ≡ tasks_for setting x
    own_at n [] h k x at number = let clash : None ≡ Some x = at in absurd (cc)
    own_at n (y ∷ rest) h zero x at number =
        let same : y ≡ x = cc in
        let own = h.0 in
        let later = none_of_others (n + 1) rest h.2 (inl (omega (arith, number))) in
        both_own y rest
        ∙ ap (λ ts. own_tasks o (tasks_at setting y) ++ ts) later
        ∙ ap (λ ts. ts ++ []) (all_own y.own (omega (arith, own, number)) (tasks_for setting y))
        ∙ append-nil (tasks_for setting y)
        ∙ ap (tasks_for setting) same
    own_at n (y ∷ rest) h (suc k) x at number =
        let own = h.0 in
        both_own y rest
        ∙ ap (λ ts. ts ++ own_tasks o (tasks_of setting rest)) (none_own y.own (λ same. omega (arith, own, same, number)) (tasks_for setting y))
        ∙ own_at (n + 1) rest h.2 k x at (omega (arith, number))

module _ {setting : Setting} (b : IsWellFormed setting) {J : List Entry} {objects : List Standing} (are : AreObjects setting J objects) (o : ObjectId) where
  -- where there is no such object there are none
  pub own_none : (o.0 < length objects → ⊥) → own_tasks o (tasks_of setting objects) ≡ []
  own_none out = none_of_others o setting 0 objects (all_numbered b are) (inr (omega (arith, out)))

  pub no_ready : (o.0 < length objects → ⊥) → (task : Task) → IsReadyOf setting J o task → ⊥
  no_ready out task r = out (subst (λ n. o.0 < n) (sym are.count) (object_there setting o r.class r.class_is))

  -- those of an object of the class are its ready ones
  pub own_ready : (class : Class) (x : Standing) → IsMember setting J objects o class x → own_tasks o (tasks_of setting objects) ≡ ready_tasks class.machine x
  own_ready class x m =
      own_at o setting 0 objects (all_numbered b are) o.0 x m.there (omega arith)
      ∙ tasks-as setting class x (ap (class_of setting) m.object.own ∙ m.class_is)

-- a task of a member is ready where the object says so
pub ready_of_member : {setting : Setting} {J : List Entry} {objects : List Standing} {o : ObjectId} {class : Class} {x : Standing} → IsMember setting J objects o class x
    → (task : Task) (answer : Bool) → (IsTrue answer ↔ IsReadyTask class.machine J x.own task) → (IsTrue answer ↔ IsReadyOf setting J o task)
ready_of_member {setting = setting} {J = J} {o = o} {class = class} m task answer h = (
  λ yes. record { class = class; class_is = m.class_is; ready = subst (λ q. IsReadyTask class.machine J q task) m.object.own (h.0 yes) },
  λ r.
      h.1 (subst (λ q. IsReadyTask class.machine J q task) (sym m.object.own)
      (subst (λ (c : Class). IsReadyTask c.machine J o task) (one_class setting o r.class class r.class_is m.class_is) r.ready)),
)
