-- What one way of a step calls, opens and orders.
use Rattle.pssm_model.specs.declared.ids.VertexId.{VertexId}
use Rattle.pssm_model.specs.declared.ids.RegionId.{RegionId}
use Rattle.pssm_model.specs.declared.elements.DraftMachine.{DraftMachine}
use Rattle.pssm_model.specs.declared.steps.Item.{Item}
use Rattle.pssm_legs.specs.Calls.{IsCalledBy, IsOpenedFor, IsOrderedBy}
use Rattle.pssm_plan.specs.declared.ways.Way.{Way}

-- The way calls the item (UML 2.5.1 14.2.3.9, transition execution sequence).
abbrev pub calls_by : DraftMachine → Way → Item → Type 0
calls_by m way item = IsCalledBy m way.fires way.route.value item

-- The way enters the State and does not aim at the region (UML 2.5.1 14.2.3.4, entering a State).
abbrev pub opens_by : DraftMachine → Way → VertexId → RegionId → Type 0
opens_by m way s r = IsOpenedFor m way.route.value s r

-- The way orders the two items so (UML 2.5.1 14.2.3.9, transition execution sequence).
abbrev pub orders_by : DraftMachine → Way → Item → Item → Type 0
orders_by m way x y = IsOrderedBy m way.fires way.route.value x y
