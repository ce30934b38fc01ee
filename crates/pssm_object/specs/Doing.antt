-- The do tasks of an object: the next do step of each active State that has one left.
use Rattle.std.specs.Prelude.{◌≡◌, ◌≤◌, ◌++◌, ◌&&◌, ℕ, zero, suc, List, [], length, false, nat_lt, if◌then◌else◌, Option, Some, None, slice_index, slice_index_or}
use Rattle.std.specs.Option.{option_map, option_to_list}
use Rattle.pssm_model.specs.declared.ids.VertexId.{VertexId}
use Rattle.pssm_model.specs.declared.elements.DraftMachine.{DraftMachine}
use Rattle.pssm_model.specs.Configuration.{do_steps_of}
use Rattle.pssm_config.specs.Tables.{Tables}
use Rattle.pssm_semantics.specs.declared.stimulus.Task.{Task}
use Rattle.pssm_semantics.specs.declared.stimulus.Task.TheVariants as tasks

-- the next do step of a vertex by the tables: it is active, and has done fewer than it has
-- (UML 2.5.1 14.2.3.4, doActivity)
abbrev pub next_do_step : DraftMachine → Tables → VertexId → Option ℕ
next_do_step m tables s =
    if slice_index_or tables.active s.0 false && nat_lt (slice_index tables.steps s.0) (do_steps_of m s)
    then Some (slice_index tables.steps s.0) else None

-- Below this number are all vertices of the machine that have do steps (UML 2.5.1 14.2.3.4, doActivity).
pub record AreDoersBelow (m : DraftMachine) (n : ℕ) : Type 0 where
  pub within : n ≤ length m.vertices
  pub none : (s : VertexId) → n ≤ s.0 → do_steps_of m s ≡ 0

-- the task to do it (UML 2.5.1 14.2.3.4, doActivity)
abbrev pub do_task_of : DraftMachine → Tables → VertexId → Option Task
do_task_of m tables s = option_map (tasks.DoStep s) (next_do_step m tables s)

-- the do tasks of the vertices below a number, in ascending number (the order is this profile's choice)
abbrev pub do_tasks_below : DraftMachine → Tables → ℕ → List Task
do_tasks_below m tables zero = []
do_tasks_below m tables (suc n) =
    do_tasks_below m tables n ++ option_to_list (do_task_of m tables (record { 0 = n }))

-- the do tasks of all vertices (UML 2.5.1 14.2.3.4, doActivity)
abbrev pub do_tasks : DraftMachine → Tables → List Task
do_tasks m tables = do_tasks_below m tables (length m.vertices)
