-- The lines of the elements of a machine, as numbers.
use Rattle.std.specs.Prelude.{ℕ, zero, suc, ◌+◌, ◌-◌, length, take, sum_by}
use Rattle.pssm_model.specs.declared.ids.ActId.{ActId}
use Rattle.pssm_model.specs.declared.elements.DraftMachine.{DraftMachine}
use Rattle.pssm_model.specs.declared.elements.Vertex.{Vertex}
use Rattle.pssm_model.specs.declared.elements.Transition.{Transition}
use Rattle.pssm_model.specs.declared.elements.Guard.{Guard}
use Rattle.pssm_model.specs.declared.elements.Guard.TheVariants.{Always, Otherwise, When}
use Rattle.pssm_model.specs.declared.elements.Element.{Element}
use Rattle.pssm_model.specs.declared.elements.Element.TheVariants as elements
use Rattle.pssm_model.specs.declared.elements.Shape.{Shape}
use Rattle.pssm_model.specs.declared.elements.Shape.TheVariants as shapes
use Rattle.pssm_flat.specs.declared.fault.FlatFault.{FlatFault}
use Rattle.pssm_flat.specs.declared.fault.FlatFault.TheVariants as faults

-- a behaviour has a line, but the empty one, number 0
abbrev pub number_size : ℕ → ℕ
number_size zero = 0
number_size (suc n) = 1

abbrev pub act_size : ActId → ℕ
act_size a = number_size a.0

-- how many lines a vertex has
abbrev pub vertex_size : Vertex → ℕ
vertex_size x = act_size x.entry + act_size x.exit + length x.steps + length x.defers + 1

-- how many lines a transition has
abbrev pub guard_size : Guard → ℕ
guard_size Always = 0
guard_size Otherwise = 1
guard_size (When g) = 1

abbrev pub transition_size : Transition → ℕ
transition_size x = length x.triggers + guard_size x.guard + act_size x.effect + 1

-- how many lines the elements have
abbrev pub machine_size : DraftMachine → ℕ
machine_size m = length m.regions + sum_by vertex_size m.vertices + sum_by transition_size m.transitions

-- how many lines stand before an element among those of the elements
abbrev pub size_before : DraftMachine → Element → ℕ
size_before m (elements.Region r) = length (take r.0 m.regions)
size_before m (elements.Vertex v) = length m.regions + sum_by vertex_size (take v.0 m.vertices)
size_before m (elements.Transition t) = length m.regions + sum_by vertex_size m.vertices + sum_by transition_size (take t.0 m.transitions)

-- the line of an element, counted from the line behind the block
abbrev pub element_line : ℕ → DraftMachine → Element → ℕ
element_line behind m e = behind - machine_size m + size_before m e

abbrev pub fault_of : ℕ → DraftMachine → Shape → FlatFault
fault_of behind m (shapes.BadOwner e) = faults.Shape (element_line behind m e) (shapes.BadOwner e)
fault_of behind m (shapes.BadEnd e) = faults.Shape (element_line behind m e) (shapes.BadEnd e)
fault_of behind m (shapes.TooMany e) = faults.Shape (element_line behind m e) (shapes.TooMany e)
fault_of behind m (shapes.TooDeep e) = faults.Shape (element_line behind m e) (shapes.TooDeep e)
fault_of behind m shapes.NoMemory = faults.NoMemory
