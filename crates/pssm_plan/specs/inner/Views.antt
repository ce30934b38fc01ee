-- From the fields of a plan to what clauses see of it.
use Rattle.std.specs.Prelude.{ℕ, List, [], map, length, if◌then◌else◌}
use Rattle.pssm_model.specs.declared.steps.Item.{Item}
use Rattle.pssm_model.specs.declared.steps.How.{How}
use Rattle.pssm_model.specs.Course.{Head}
use Rattle.pssm_model.specs.Course.Head.{Starts, Fires}
use Rattle.pssm_config.specs.Tables.{Tables}
use Rattle.pssm_plan.specs.declared.plan.Beginning.{Beginning}
use Rattle.pssm_plan.specs.declared.plan.Beginning.TheVariants.{Start, Firing}
use Rattle.pssm_plan.specs.declared.plan.Step.{Step}
use Rattle.pssm_plan.specs.declared.roster.Call.{Call}

-- the head of the step
abbrev pub head_of : Beginning → Head
head_of Start = Starts
head_of (Firing firing config) = Fires (firing.value).routes

-- the tables of a machine before anything has happened
abbrev pub nothing_held : Tables
nothing_held = record { active = []; steps = []; held = []; ended = []; remembered = []; empty = [] }

-- the tables of the configuration at its head: at a start there is nothing in them
abbrev pub tables_of : Beginning → Tables
tables_of Start = nothing_held
tables_of (Firing firing config) = config.value

-- the items that have run, each with its way
abbrev pub steps_of : List Step → List (Item × How)
steps_of = map (λ x. (x.item.value, x.how.value))

-- the call as clauses see it among so many: where it is not blocked, it has seen them all
abbrev pub shown_among : ℕ → Call → Call
shown_among n call = record { item = call.item; ran = call.ran; blocked = call.blocked; seen = if call.blocked then call.seen else n }

-- the calls as clauses see them
abbrev pub shown : List Call → List Call
shown calls = map (shown_among (length calls)) calls
