-- An object has no more ready tasks than its machine has exits, effects, entries and States.
use Rattle.std.proofs.Common.{◌≡◌, ◌≢◌, ◌≤◌, ◌<◌, ◌+◌, ◌*◌, ◌++◌, ℕ, zero, suc, List, [], ◌∷◌, length, map, Bool, true, false, if◌then◌else◌, Contains, Option, Some, None, refl, sym, ap, subst, ⊎_elim, arith, eqb, length-append}
use Rattle.std.specs.List.{AllByRecursion, IsDistinct}
use Rattle.std.specs.Option.{option_to_list}
use Rattle.std.specs.Prelude.{AllPairs}
use Rattle.std.proofs.lemmas.Bool.{eqb-true}
use Rattle.std.proofs.lemmas.Bool.Decides.{eqb_tells}
use Rattle.std.proofs.lemmas.List.{length-map}
use Rattle.std.proofs.lemmas.Map.Views.{Contains-from_any}
use Rattle.std.proofs.lemmas.Map.Steps.{length-le_from_distinct_below}
use Rattle.pssm_model.specs.declared.elements.DraftMachine.{DraftMachine}
use Rattle.pssm_model.specs.declared.steps.Item.{Item}
use Rattle.pssm_model.specs.declared.steps.Item.TheVariants as items
use Rattle.pssm_model.proofs.ElementLaws.{nothing_in_nil, same_vertex, same_transition}
use Rattle.pssm_config.specs.Tables.{Tables}
use Rattle.pssm_plan.proofs.StepLengths.{IsThere}
use Rattle.pssm_semantics.specs.declared.entry.Entry.{Entry}
use Rattle.pssm_semantics.specs.declared.stimulus.Task.{Task}
use Rattle.pssm_semantics.specs.declared.stimulus.Task.TheVariants.{Exit, Effect, Enter, DoStep}
use Rattle.pssm_semantics.specs.declared.setting.Class.{Class}
use Rattle.pssm_semantics.specs.Classes.{IsWellFormedClass}
use Rattle.pssm_semantics_laws.proofs.Members.{first_in, later_in, in_cases}
use Rattle.pssm_object.specs.Doing.{do_task_of, do_tasks_below, do_tasks}
use Rattle.pssm_object.specs.Standing.{Standing, StandsAfter}
use Rattle.pssm_object.specs.Tasks.{task_of, tasks_of_plan, ready_tasks}
use Rattle.pssm_object.proofs.Following.{ready_there}
use Rattle.pssm_object.proofs.QueueLists.{first_before}
use Rattle.pssm_object.proofs.TaskLists.{ready_by, step_once}

module _ (m : DraftMachine) where
  -- a number for each task of a step
  abbrev number_of : Task → ℕ
  number_of (Exit s) = s.0
  number_of (Enter s) = length m.vertices + s.0
  number_of (Effect t) = 2 * length m.vertices + t.0
  number_of (DoStep s k) = 0

  -- What the task names is there, and it is no do step.
  abbrev HasPlace : Task → Type 0
  HasPlace (Exit s) = s.0 < length m.vertices
  HasPlace (Enter s) = s.0 < length m.vertices
  HasPlace (Effect t) = t.0 < length m.transitions
  HasPlace (DoStep s k) = ⊥

  in_range : (task : Task) → HasPlace task → number_of task < 2 * length m.vertices + length m.transitions
  in_range (Exit s) h = omega arith
  in_range (Enter s) h = omega arith
  in_range (Effect t) h = omega arith
  in_range (DoStep s k) h = absurd h

  same_task : (a b : Task) → HasPlace a → HasPlace b → number_of a ≡ number_of b → a ≡ b
  same_task (Exit s) (Exit q) h g e = ap Exit (same_vertex s q (omega (arith, e)))
  same_task (Exit s) (Enter q) h g e = absurd (omega (arith, e))
  same_task (Exit s) (Effect t) h g e = absurd (omega (arith, e))
  same_task (Enter s) (Exit q) h g e = absurd (omega (arith, e))
  same_task (Enter s) (Enter q) h g e = ap Enter (same_vertex s q (omega (arith, e)))
  same_task (Enter s) (Effect t) h g e = absurd (omega (arith, e))
  same_task (Effect t) (Exit q) h g e = absurd (omega (arith, e))
  same_task (Effect t) (Enter q) h g e = absurd (omega (arith, e))
  same_task (Effect t) (Effect u) h g e = ap Effect (same_transition t u (omega (arith, e)))
  same_task (DoStep s k) b h g e = absurd h
  same_task (Exit s) (DoStep q k) h g e = absurd g
  same_task (Enter s) (DoStep q k) h g e = absurd g
  same_task (Effect t) (DoStep q k) h g e = absurd g

  -- the place of an item is that of its task
  place_of : (item : Item) (task : Task) → task_of item ≡ Some task → IsThere m item → HasPlace task
  place_of (items.Exit s) task e there = let same : Exit s ≡ task = cc in subst HasPlace same there
  place_of (items.Effect t) task e there = let same : Effect t ≡ task = cc in subst HasPlace same there
  place_of (items.Enter s) task e there = let same : Enter s ≡ task = cc in subst HasPlace same there.0
  place_of (items.Opened r mode) task e there = absurd (let clash : None ≡ Some task = e in cc)
  place_of (items.Pick v) task e there = absurd (let clash : None ≡ Some task = e in cc)

  -- tasks that differ have numbers that differ
  numbers_apart : (task : Task) (rest : List Task) → HasPlace task → ((b : Task) → Contains rest b → HasPlace b × (task ≢ b))
      → AllByRecursion (λ n. eqb (number_of task) n ≡ false) (map number_of rest)
  numbers_apart task [] place other = tt
  numbers_apart task (b ∷ rest) place other = (
    ⊎_elim
        (λ same. let at = other b (first_in b rest) in absurd (at.1 (same_task task b place at.0 same.1)))
        (λ apart. apart.0)
        (eqb_tells (number_of task) (number_of b)),
    numbers_apart task rest place (λ c inside. other c (later_in b rest c inside)),
  )

  distinct : (tasks : List Task) → ((b : Task) → Contains tasks b → HasPlace b) → AllPairs (λ a b. a ≢ b) tasks → IsDistinct eqb (map number_of tasks)
  unfolding IsDistinct
  distinct [] places once = tt
  distinct (task ∷ rest) places once = (
    numbers_apart task rest (places task (first_in task rest))
        (λ b inside. (places b (later_in task rest b inside), first_before (λ a c. a ≢ c) task rest once b inside)),
    distinct rest (λ b inside. places b (later_in task rest b inside)) (λ i j d before within. once (suc i) (suc j) d (omega (arith, before)) (omega (arith, within))),
  )

  numbered : (tasks : List Task) (n : ℕ) → Contains (map number_of tasks) n → (task : Task) × Contains tasks task × (number_of task ≡ n)
  numbered [] n h = absurd (nothing_in_nil n h)
  numbered (task ∷ rest) n h =
      ⊎_elim
      (λ first. (task, first_in task rest, sym first))
      (λ later. let at = numbered rest n later in (at.0, later_in task rest at.0 at.1, at.2))
      (in_cases (number_of task) (map number_of rest) n h)

  few : (tasks : List Task) → ((b : Task) → Contains tasks b → HasPlace b) → AllPairs (λ a b. a ≢ b) tasks
      → length tasks ≤ 2 * length m.vertices + length m.transitions
  few tasks places once =
      let most = length-le_from_distinct_below (map number_of tasks) (2 * length m.vertices + length m.transitions) (distinct tasks places once)
      (λ n found.
      let at = numbered tasks n (Contains-from_any eqb-true n (map number_of tasks) found) in
      subst (λ k. k < 2 * length m.vertices + length m.transitions) at.2 (in_range at.0 (places at.0 at.1))) in
      subst (λ n. n ≤ 2 * length m.vertices + length m.transitions) (length-map tasks number_of) most

  -- at most one do step for each vertex
  one_more : (xs : List Task) (o : Option Task) (n : ℕ) → length xs ≤ n → length (xs ++ option_to_list o) ≤ suc n
  one_more xs None n le = let len = length-append xs [] in omega (arith, len, le)
  one_more xs (Some task) n le = let len = length-append xs (task ∷ []) in omega (arith, len, le)

  few_below : (t : Tables) (n : ℕ) → length (do_tasks_below m t n) ≤ n
  few_below t zero = omega arith
  few_below t (suc n) = one_more (do_tasks_below m t n) (do_task_of m t (record { 0 = n })) n (few_below t n)

  few_doing : (t : Tables) → length (do_tasks m t) ≤ length m.vertices
  few_doing t = few_below t (length m.vertices)

few_kept : (flag : Bool) (xs : List Task) (n : ℕ) → length xs ≤ n → length (if flag then [] else xs) ≤ n
few_kept true xs n le = omega arith
few_kept false xs n le = le

module _ (class : Class) (b : IsWellFormedClass class) {J : List Entry} {x : Standing} (s : StandsAfter class J x) where
  few_in_step : length (tasks_of_plan x.plan) ≤ 2 * length class.machine.vertices + length class.machine.transitions
  few_in_step =
      few class.machine (tasks_of_plan x.plan)
      (λ task inside.
      let at = ready_by class b s x.plan refl task inside in
      place_of class.machine at.2.0 task at.2.2 (ready_there class b s at.0 at.1 at.2.0 at.2.1))
      (step_once class b s x.plan refl)

  pub few_tasks : length (ready_tasks class.machine x) ≤ 3 * length class.machine.vertices + length class.machine.transitions
  few_tasks =
      let step = few_in_step in
      let doing = few_doing class.machine x.config in
      let len = length-append (tasks_of_plan x.plan) (do_tasks class.machine x.config) in
      few_kept x.ended (tasks_of_plan x.plan ++ do_tasks class.machine x.config) (3 * length class.machine.vertices + length class.machine.transitions)
      (omega (arith, step, doing, len))
