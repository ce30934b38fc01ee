-- The tasks that are listed are the ready ones of all objects, each once, in the order of the objects.
use Rattle.std.proofs.Common.{◌≡◌, ◌≢◌, ◌≤◌, ◌<◌, ◌+◌, ◌*◌, ◌++◌, ℕ, zero, suc, List, [], ◌∷◌, length, map, take, Contains, Some, None, slice_get, refl, sym, ap, subst, ◌∙◌, ⊎_elim, arith, add-one, append-nil, length-append}
use Rattle.std.specs.Prelude.{AllPairs}
use Rattle.std.specs.Option.{option_map_or}
use Rattle.std.proofs.Math.Seq.{take-suc}
use Rattle.std.proofs.lemmas.Grind.{flat_map-append}
use Rattle.std.proofs.lemmas.Option.{slice_get_within, slice_get-map, get_or_from_slice_get}
use Rattle.std.proofs.lemmas.List.{length-map}
use Rattle.std.proofs.lemmas.List.Elements.{Contains-append_cases, Contains-append_left, Contains-append_right}
use Rattle.pssm_model.proofs.ElementLaws.{nothing_in_nil, some_at, mapped_at}
use Rattle.pssm_model.proofs.RouteLaws.{none_in_order}
use Rattle.pssm_semantics.specs.declared.entry.ObjectId.{ObjectId}
use Rattle.pssm_semantics.specs.declared.entry.Entry.{Entry}
use Rattle.pssm_semantics.specs.declared.stimulus.Task.{Task}
use Rattle.pssm_semantics.specs.declared.setting.Class.{Class}
use Rattle.pssm_semantics.specs.declared.setting.Setting.{Setting}
use Rattle.pssm_semantics.specs.Settings.{class_of}
use Rattle.pssm_semantics.specs.Tasks.{IsReadyTask}
use Rattle.pssm_semantics.specs.Proper.{IsWellFormed}
use Rattle.pssm_semantics_laws.proofs.SettingClasses.{class_of_object}
use Rattle.pssm_object.specs.Standing.{Standing}
use Rattle.pssm_object.specs.Tasks.{ready_tasks, ListsTasks}
use Rattle.pssm_object.proofs.TaskLists.{lists_tasks}
use Rattle.pssm_object.proofs.TaskCounts.{few_tasks}
use Rattle.pssm_system.specs.Tasks.{IsReadyOf, AreReady}
use Rattle.pssm_system.specs.inner.Keeping.{IsObject, AreObjects, tasks_for, tasks_of}
use Rattle.pssm_system.proofs.Following.{object_there}
use Rattle.pssm_system.proofs.Pairs.{AllPairs-first, AllPairs-rest, AllPairs-more, AllPairs-both, in_mapped, mapped_in}
use Rattle.pssm_system.proofs.Places.{get-front, get-back}
use Rattle.pssm_system.proofs.Coming.{class_exists}

differ_within : (o : ObjectId) (tasks : List Task) → AllPairs (λ a b. a ≢ b) tasks
    → AllPairs (λ (v w : ObjectId × Task). v ≢ w) (map (λ t. (o, t)) tasks)
differ_within o [] h = none_in_order (λ (v w : ObjectId × Task). v ≢ w)
differ_within o (task ∷ rest) h =
    AllPairs-more (λ (v w : ObjectId × Task). v ≢ w) (o, task) (map (λ t. (o, t)) rest)
    (λ w inside same.
    let at = in_mapped (λ t. (o, t)) rest w inside in
    let one : task ≡ at.0 = ap (λ (u : ObjectId × Task). u.1) (same ∙ sym at.2) in
    AllPairs-first (λ a b. a ≢ b) task rest h at.0 at.1 one)
    (differ_within o rest (AllPairs-rest (λ a b. a ≢ b) task rest h))

order_within : (o : ObjectId) (tasks : List Task) → AllPairs (λ a b. a ≢ b) tasks
    → AllPairs (λ (v w : ObjectId × Task). v.0.0 ≤ w.0.0) (map (λ t. (o, t)) tasks)
order_within o [] h = none_in_order (λ (v w : ObjectId × Task). v.0.0 ≤ w.0.0)
order_within o (task ∷ rest) h =
    AllPairs-more (λ (v w : ObjectId × Task). v.0.0 ≤ w.0.0) (o, task) (map (λ t. (o, t)) rest)
    (λ w inside.
    let at = in_mapped (λ t. (o, t)) rest w inside in
    let own : o.0 ≡ w.0.0 = ap (λ (u : ObjectId × Task). u.0.0) at.2 in
    omega (arith, own))
    (order_within o rest (AllPairs-rest (λ a b. a ≢ b) task rest h))

module _ (setting : Setting) where
  -- the tasks of an object with the object
  abbrev pub tasks_at : Standing → List (ObjectId × Task)
  tasks_at x = map (λ task. (x.own, task)) (tasks_for setting x)

  -- the objects are numbered in order, and the tasks of each differ
  abbrev pub AreNumbered : ℕ → List Standing → Type 0
  AreNumbered n [] = Unit {0}
  AreNumbered n (x ∷ rest) = (x.own.0 ≡ n) × AllPairs (λ a b. a ≢ b) (tasks_for setting x) × AreNumbered (n + 1) rest

  -- a task that is listed is one of an object
  in_tasks : (objects : List Standing) (o : ObjectId) (task : Task) → Contains (tasks_of setting objects) (o, task)
      → (k : ℕ) × (x : Standing) × (slice_get objects k ≡ Some x) × (x.own ≡ o) × Contains (tasks_for setting x) task
  in_tasks [] o task inside = absurd (nothing_in_nil (o, task) inside)
  in_tasks (x ∷ rest) o task inside =
      ⊎_elim
      (λ here.
      let at = in_mapped (λ t. (x.own, t)) (tasks_for setting x) (o, task) here in
      (zero, x, refl, ap (λ (w : ObjectId × Task). w.0) at.2, subst (Contains (tasks_for setting x)) (ap (λ (w : ObjectId × Task). w.1) at.2) at.1))
      (λ later. let at = in_tasks rest o task later in (suc at.0, at.1, at.2, at.3, at.4))
      (Contains-append_cases (tasks_at x) (tasks_of setting rest) (o, task) inside)

  tasks_in : (objects : List Standing) (k : ℕ) (x : Standing) (task : Task) → slice_get objects k ≡ Some x → Contains (tasks_for setting x) task
      → Contains (tasks_of setting objects) (x.own, task)
  tasks_in [] k x task at inside = let clash : None ≡ Some x = at in absurd (cc)
  tasks_in (y ∷ rest) zero x task at inside =
      let same : y ≡ x = cc in
      Contains-append_left (tasks_at y) (tasks_of setting rest) (x.own, task)
      (subst (λ (z : Standing). Contains (tasks_at z) (x.own, task)) (sym same) (mapped_in (λ t. (x.own, t)) (tasks_for setting x) task inside))
  tasks_in (y ∷ rest) (suc k) x task at inside =
      Contains-append_right (tasks_at y) (tasks_of setting rest) (x.own, task) (tasks_in rest k x task at inside)

  -- the tasks of later objects are of objects with greater numbers
  tasks_later : (n : ℕ) (objects : List Standing) → AreNumbered n objects → (w : ObjectId × Task) → Contains (tasks_of setting objects) w → n ≤ w.0.0
  tasks_later n [] h w inside = absurd (nothing_in_nil w inside)
  tasks_later n (x ∷ rest) h w inside =
      ⊎_elim
      (λ here.
      let at = in_mapped (λ t. (x.own, t)) (tasks_for setting x) w here in
      let own : x.own.0 ≡ w.0.0 = ap (λ (v : ObjectId × Task). v.0.0) at.2 in
      omega (arith, own, h.0))
      (λ later. let le = tasks_later (n + 1) rest h.2 w later in omega arith)
      (Contains-append_cases (tasks_at x) (tasks_of setting rest) w inside)

  -- what holds of two tasks of one object, and of tasks of two objects in order, holds of all pairs
  pairs_of : (R : ObjectId × Task → ObjectId × Task → Type 0)
      → ((o : ObjectId) (tasks : List Task) → AllPairs (λ a b. a ≢ b) tasks → AllPairs R (map (λ t. (o, t)) tasks))
      → ((v w : ObjectId × Task) → v.0.0 < w.0.0 → R v w) → (n : ℕ) (objects : List Standing) → AreNumbered n objects → AllPairs R (tasks_of setting objects)
  pairs_of R within across n [] h = none_in_order R
  pairs_of R within across n (x ∷ rest) h =
      AllPairs-both R (tasks_at x) (tasks_of setting rest) (within x.own (tasks_for setting x) h.1) (pairs_of R within across (n + 1) rest h.2)
      (λ v w here later.
      let at = in_mapped (λ t. (x.own, t)) (tasks_for setting x) v here in
      let own : x.own.0 ≡ v.0.0 = ap (λ (u : ObjectId × Task). u.0.0) at.2 in
      let le = tasks_later (n + 1) rest h.2 w later in
      across v w (omega (arith, own, h.0, le)))

  -- numbered objects from those that stand so
  numbered_by : (n : ℕ) (objects : List Standing)
      → ((k : ℕ) (x : Standing) → slice_get objects k ≡ Some x → (x.own.0 ≡ n + k) × AllPairs (λ a b. a ≢ b) (tasks_for setting x)) → AreNumbered n objects
  numbered_by n [] each = tt
  numbered_by n (x ∷ rest) each =
      let first = each zero x refl in (
        (let own = first.0 in omega (arith, own)),
        first.1,
        numbered_by (n + 1) rest (λ k y at. let later = each (suc k) y at in ((let own = later.0 in omega (arith, own)), later.1)),
      )

-- those of an object of a class
pub tasks-as : (setting : Setting) (class : Class) (x : Standing) → class_of setting x.own ≡ Some class → tasks_for setting x ≡ ready_tasks class.machine x
tasks-as setting class x is = ap (λ c. option_map_or (λ (k : Class). ready_tasks k.machine x) c []) is

module _ {setting : Setting} (b : IsWellFormed setting) {J : List Entry} {objects : List Standing} (are : AreObjects setting J objects) where
  -- the object at a place
  pub object_at : (k : ℕ) (x : Standing) → slice_get objects k ≡ Some x → k < length objects
      → (class : Class) × (class_of setting (let o : ObjectId = record { 0 = k } in o) ≡ Some class) × IsObject class J (record { 0 = k }) x
  object_at k x at lt =
      let o : ObjectId = record { 0 = k } in
      let class = class_exists setting b o (subst (λ n. k < n) are.count lt) in
      (class.0, class.1, are.each o class.0 x class.1 at)

  -- those of one object are the ready ones of it
  lists_here : (o : ObjectId) (class : Class) (x : Standing) → class_of setting o ≡ Some class → IsObject class J o x
      → ListsTasks class.machine J x.own (tasks_for setting x)
  lists_here o class x is object =
      subst (ListsTasks class.machine J x.own) (sym (tasks-as setting class x (ap (class_of setting) object.own ∙ is)))
      (lists_tasks class (class_of_object setting b o class is).0 object.stands)

  pub all_numbered : AreNumbered setting 0 objects
  all_numbered =
      numbered_by setting 0 objects
      (λ k x at.
      let here = object_at k x at (slice_get_within objects k x at) in
      let own : x.own.0 ≡ k = ap (λ (o : ObjectId). o.0) here.2.own in
      (omega arith, (lists_here (record { 0 = k }) here.0 x here.1 here.2).once))

  ready_if_listed : (o : ObjectId) (task : Task) → Contains (tasks_of setting objects) (o, task) → IsReadyOf setting J o task
  ready_if_listed o task inside =
      let at = in_tasks setting objects o task inside in
      let here = object_at at.0 at.1 at.2 (slice_get_within objects at.0 at.1 at.2) in
      let own = sym here.2.own ∙ at.3 in
      record {
        class = here.0;
        class_is = subst (λ q. class_of setting q ≡ Some here.0) own here.1;
        ready = subst (λ q. IsReadyTask here.0.machine J q task) at.3
            (((lists_here (record { 0 = at.0 }) here.0 at.1 here.1 here.2).each task).0 at.4);
      }

  listed_if_ready : (o : ObjectId) (task : Task) → IsReadyOf setting J o task → Contains (tasks_of setting objects) (o, task)
  listed_if_ready o task h =
      let x = some_at objects o.0 (subst (λ n. o.0 < n) (sym are.count) (object_there setting o h.class h.class_is)) in
      let here = are.each o h.class x.0 h.class_is x.1 in
      let listed = ((lists_here o h.class x.0 h.class_is here).each task).1
      (subst (λ q. IsReadyTask h.class.machine J q task) (sym here.own) h.ready) in
      subst (λ q. Contains (tasks_of setting objects) (q, task)) here.own (tasks_in setting objects o.0 x.0 task x.1 listed)

  pub are_ready : AreReady setting J (tasks_of setting objects)
  are_ready = record {
    each = λ o task. (ready_if_listed o task, listed_if_ready o task);
    once = pairs_of setting (λ v w. v ≢ w) differ_within
        (λ v w lt same. let one : v.0.0 ≡ w.0.0 = ap (λ (u : ObjectId × Task). u.0.0) same in absurd (omega (arith, lt, one))) 0 objects all_numbered;
    in_order = pairs_of setting (λ v w. v.0.0 ≤ w.0.0) order_within (λ v w lt. omega arith) 0 objects all_numbered;
  }

  -- an object has few of them
  few_at : (k : ℕ) (x : Standing) → slice_get objects k ≡ Some x → length (tasks_for setting x) ≤ 20480
  few_at k x at =
      let here = object_at k x at (slice_get_within objects k x at) in
      let formed = (class_of_object setting b (record { 0 = k }) here.0 here.1).0 in
      let few = few_tasks here.0 formed here.2.stands in
      let same = ap (λ (ts : List Task). length ts) (tasks-as setting here.0 x (ap (class_of setting) here.2.own ∙ here.1)) in
      let limits = here.2.stands.fits.shape.limits in
      let vertices = limits.vertices in
      let transitions = limits.transitions in
      omega arith

  -- the tasks of one object more
  pub tasks_more : (k : ℕ) (x : Standing) → slice_get objects k ≡ Some x → tasks_of setting (take (k + 1) objects) ≡ tasks_of setting (take k objects) ++ tasks_at setting x
  tasks_more k x at =
      let lt = slice_get_within objects k x at in
      ap (tasks_of setting) (ap (λ n. take n objects) (add-one k) ∙ take-suc objects k x lt ∙ ap (λ y. take k objects ++ y ∷ []) (get_or_from_slice_get objects k x x at))
      ∙ flat_map-append (tasks_at setting) (take k objects) (x ∷ [])
      ∙ ap (λ ts. tasks_of setting (take k objects) ++ ts) (append-nil (tasks_at setting x))

  pub count_more : (k : ℕ) (x : Standing) → slice_get objects k ≡ Some x
      → length (tasks_of setting (take (k + 1) objects)) ≡ length (tasks_of setting (take k objects)) + length (tasks_for setting x)
  count_more k x at =
      ap length (tasks_more k x at) ∙ length-append (tasks_of setting (take k objects)) (tasks_at setting x)
      ∙ ap (λ n. length (tasks_of setting (take k objects)) + n) (length-map (tasks_for setting x) (λ t. (x.own, t)))

  -- which are those of an object of the class
  pub count_on : (k : ℕ) (class : Class) (x : Standing) → slice_get objects k ≡ Some x → class_of setting x.own ≡ Some class
      → length (tasks_of setting (take (k + 1) objects)) ≡ length (tasks_of setting (take k objects)) + length (ready_tasks class.machine x)
  count_on k class x at is =
      count_more k x at ∙ ap (λ ts. length (tasks_of setting (take k objects)) + length ts) (tasks-as setting class x is)

  -- there are few in all
  pub few_below : (k : ℕ) → k ≤ length objects → length (tasks_of setting (take k objects)) ≤ k * 20480
  few_below zero le = omega arith
  few_below (suc k) le =
      let x = some_at objects k (omega arith) in
      let more = count_more k x.0 x.1 in
      let few = few_at k x.0 x.1 in
      let before = few_below k (omega arith) in
      let here : take (suc k) objects ≡ take (k + 1) objects = ap (λ n. take n objects) (sym (add-one k)) in
      let long = ap (λ ts. length (tasks_of setting ts)) here in
      omega arith

module _ (setting : Setting) where
  -- a task of an object stands behind those of the objects before it
  pub task_found : (objects : List Standing) (k : ℕ) (x : Standing) (j : ℕ) (task : Task) → slice_get objects k ≡ Some x → slice_get (tasks_for setting x) j ≡ Some task
      → slice_get (tasks_of setting objects) (length (tasks_of setting (take k objects)) + j) ≡ Some (x.own, task)
  task_found [] k x j task at there = let clash : None ≡ Some x = at in absurd (cc)
  task_found (y ∷ rest) zero x j task at there =
      let same : y ≡ x = cc in
      let mapped : slice_get (tasks_at setting x) j ≡ Some (x.own, task) =
      slice_get-map (λ t. (x.own, t)) (tasks_for setting x) j ∙ mapped_at (λ t. (x.own, t)) (slice_get (tasks_for setting x) j) task there in
      let first : slice_get (tasks_of setting (y ∷ rest)) j ≡ Some (x.own, task) =
      get-front (tasks_at setting y) (tasks_of setting rest) j (x.own, task) (subst (λ (z : Standing). slice_get (tasks_at setting z) j ≡ Some (x.own, task)) (sym same) mapped) in
      ap (slice_get (tasks_of setting (y ∷ rest))) (let none : 0 + j ≡ j = omega arith in none) ∙ first
  task_found (y ∷ rest) (suc k) x j task at there =
      let long = length-append (tasks_at setting y) (tasks_of setting (take k rest)) in
      ap (slice_get (tasks_of setting (y ∷ rest)))
      (let place : length (tasks_of setting (take (suc k) (y ∷ rest))) + j ≡ length (tasks_at setting y) + (length (tasks_of setting (take k rest)) + j) = omega (arith, long) in place)
      ∙ get-back (tasks_at setting y) (tasks_of setting rest) (length (tasks_of setting (take k rest)) + j)
      ∙ task_found rest k x j task at there
