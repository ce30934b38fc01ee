-- Where an object stands, from what it keeps.
use Rattle.std.specs.Prelude.{◌≡◌, Option, Some, slice_get}
use Rattle.pssm_model.specs.declared.ids.VertexId.{VertexId}
use Rattle.pssm_model.specs.declared.elements.DraftMachine.{DraftMachine}
use Rattle.pssm_model.specs.Items.{HasRunOut}
use Rattle.pssm_plan.specs.Agenda.{Agenda, course_of}
use Rattle.pssm_object.specs.declared.situation.Situation.{Situation}
use Rattle.pssm_object.specs.Standing.{Standing}

-- where an object stands that keeps this
abbrev pub standing_of : Situation → Standing
standing_of s = record { own = s.own; config = s.config; plan = s.plan; store = s.store.items; params = s.params; queue = s.queue; ended = s.ended; doers = s.doers }

-- The object has started, and everything that its last step calls has run.
abbrev pub IsAtRest : DraftMachine → Option Agenda → Type 0
IsAtRest m plan = (p : Agenda) × (plan ≡ Some p) × HasRunOut m (course_of p)

-- the first of the completion queue of an object, if a completion waits
abbrev pub first_waiting : Standing → Option VertexId
first_waiting x = slice_get x.queue.states 0
