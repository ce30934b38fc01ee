-- The tasks among the ready items, counted from the first on.
use Rattle.std.proofs.Common.{◌≡◌, ◌<◌, ◌+◌, ◌++◌, ℕ, List, [], ◌∷◌, length, take, drop, get_or, true, false, Option, Some, None, is_some, slice_get, refl, sym, ap, subst, ◌∙◌, add-one, append-nil, append_assoc, length-append}
use Rattle.std.specs.List.{filter_map, cons_option}
use Rattle.std.proofs.Math.Seq.{take-suc}
use Rattle.std.proofs.lemmas.Bool.{false≢true}
use Rattle.std.proofs.lemmas.List.{take-append-drop}
use Rattle.std.proofs.lemmas.List.Elements.{filter_map-append}
use Rattle.pssm_model.specs.declared.steps.Item.{Item}
use Rattle.pssm_plan.specs.declared.roster.Call.{Call}
use Rattle.pssm_plan.specs.declared.ready.ReadyItem.{ReadyItem}
use Rattle.pssm_plan.specs.Agenda.{Agenda}
use Rattle.pssm_plan.specs.Standings.{IsItemAt, IsNextReady, ready_before, ready_calls}
use Rattle.pssm_semantics.specs.declared.stimulus.Task.{Task}
use Rattle.pssm_object.specs.Tasks.{task_of}

-- the tasks of these calls
abbrev pub tasks_in : List Call → List Task
tasks_in calls = filter_map (λ (call : Call). task_of call.item) calls

module _ (calls : List Call) (k : ℕ) (item : Item) (lt : k < length calls) (at : IsItemAt calls k item) where
  -- some call of the item
  abbrev some_call : Call
  some_call = record { item = item; ran = false; blocked = false; seen = 0 }

  next_call : tasks_in (take (k + 1) calls) ≡ tasks_in (take k calls) ++ cons_option (task_of item) []
  next_call =
      let grown : take (k + 1) calls ≡ take k calls ++ get_or calls k some_call ∷ [] = rw add-one (take-suc calls k some_call lt) in
      ap (λ (cs : List Call). tasks_in cs) grown
      ∙ filter_map-append (λ (call : Call). task_of call.item) (take k calls) (get_or calls k some_call ∷ [])
      ∙ ap (λ (i : Item). tasks_in (take k calls) ++ cons_option (task_of i) []) (at some_call)

  with_task : (task : Task) → Some task ≡ task_of item → tasks_in (take (k + 1) calls) ≡ tasks_in (take k calls) ++ task ∷ []
  with_task task is = next_call ∙ ap (λ r. tasks_in (take k calls) ++ cons_option r []) (sym is)

  pub counts_task : (task : Task) → Some task ≡ task_of item → length (tasks_in (take (k + 1) calls)) ≡ length (tasks_in (take k calls)) + 1
  counts_task task is = ap (λ (ts : List Task). length ts) (with_task task is) ∙ length-append (tasks_in (take k calls)) (task ∷ [])

  pub counts_none : (let none : Option Task = None in none) ≡ task_of item → length (tasks_in (take (k + 1) calls)) ≡ length (tasks_in (take k calls))
  counts_none is =
      ap (λ (ts : List Task). length ts) (next_call ∙ ap (λ r. tasks_in (take k calls) ++ cons_option r []) (sym is) ∙ append-nil (tasks_in (take k calls)))

  -- the task is at the place that counts those before it
  pub task_here : (task : Task) (n : ℕ) → Some task ≡ task_of item → length (tasks_in (take k calls)) ≡ n → slice_get (tasks_in calls) n ≡ Some task
  task_here task n is count =
      subst (λ ts. slice_get ts n ≡ Some task) (sym (all_tasks task is))
      (subst (λ i. slice_get (tasks_in (take k calls) ++ (task ∷ tasks_in (drop (k + 1) calls))) i ≡ Some task) count
      (middle (tasks_in (take k calls)) task (tasks_in (drop (k + 1) calls))))
    where
      middle : {X : Type 0} (xs : List X) (x : X) (ys : List X) → slice_get (xs ++ (x ∷ ys)) (length xs) ≡ Some x
      middle [] x ys = refl
      middle (z ∷ zs) x ys = middle zs x ys

      all_tasks : (t : Task) → Some t ≡ task_of item → tasks_in calls ≡ tasks_in (take k calls) ++ (t ∷ tasks_in (drop (k + 1) calls))
      all_tasks t is =
          ap (λ (cs : List Call). tasks_in cs) (sym (take-append-drop (k + 1) calls))
          ∙ filter_map-append (λ (call : Call). task_of call.item) (take (k + 1) calls) (drop (k + 1) calls)
          ∙ ap (λ ts. ts ++ tasks_in (drop (k + 1) calls)) (with_task t is)
          ∙ append_assoc (tasks_in (take k calls)) (t ∷ []) (tasks_in (drop (k + 1) calls))

-- the tasks before the place behind a ready item
module _ (plan : Agenda) (place : ℕ) (next : ReadyItem) (is : IsNextReady plan.calls place next) where
  -- those among the ready items before a place
  abbrev pub tasks_before : ℕ → List Task
  tasks_before k = tasks_in (take (ready_before plan.calls k) (ready_calls plan))

  pub passes_task : (task : Task) → Some task ≡ task_of next.item → length (tasks_before next.behind) ≡ length (tasks_before place) + 1
  passes_task task e =
      ap (λ (n : ℕ). length (tasks_in (take n (ready_calls plan)))) is.counted
      ∙ counts_task (ready_calls plan) (ready_before plan.calls place) next.item is.within is.item task e

  pub passes_none : (let none : Option Task = None in none) ≡ task_of next.item → length (tasks_before next.behind) ≡ length (tasks_before place)
  passes_none e =
      ap (λ (n : ℕ). length (tasks_in (take n (ready_calls plan)))) is.counted
      ∙ counts_none (ready_calls plan) (ready_before plan.calls place) next.item is.within is.item e

  pub next_task : (task : Task) (n : ℕ) → Some task ≡ task_of next.item → length (tasks_before place) ≡ n → slice_get (tasks_in (ready_calls plan)) n ≡ Some task
  next_task task n e count = task_here (ready_calls plan) (ready_before plan.calls place) next.item is.within is.item task n e count

-- whether an item is a task
pub is_task : (r : Option Task) → is_some r ≡ true → (task : Task) × (Some task ≡ r)
is_task None e = absurd (false≢true e)
is_task (Some task) e = (task, refl)

pub is_no_task : (r : Option Task) → is_some r ≡ false → None ≡ r
is_no_task None e = refl
is_no_task (Some task) e = absurd (false≢true (sym e))
