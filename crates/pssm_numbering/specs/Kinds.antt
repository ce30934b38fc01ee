-- The kinds of elements that make a list, each with its roles.
use Rattle.std.specs.Prelude.{Bool, true, false}
use Rattle.pssm_roles.specs.declared.role.Role.{Role}
use Rattle.pssm_roles.specs.declared.role.Role.TheVariants as role
use Rattle.pssm_numbering.specs.declared.kinds.Kind.{Kind}
use Rattle.pssm_numbering.specs.declared.kinds.Kind.TheVariants as kind
use Rattle.pssm_numbering.specs.Numbering as numbering

-- An element with this role is of the kind.
abbrev pub is_of : Kind → Role → Bool
is_of kind.Signal = numbering.is_signal
is_of kind.Parameter = numbering.is_parameter
is_of kind.SignalEvent = numbering.is_signal_event
is_of kind.Machine = numbering.is_machine
is_of kind.Class = numbering.is_class
is_of kind.Attribute = numbering.is_attribute
is_of kind.Instance = numbering.is_instance
is_of kind.Region = numbering.is_region
is_of kind.Vertex = numbering.is_vertex
is_of kind.Transition = numbering.is_transition
is_of kind.Trigger = numbering.is_trigger
is_of kind.Guard = numbering.is_guard

-- a State or a final State (UML 2.5.1 14.5.9 and 14.5.4)
abbrev pub is_any_state : Role → Bool
is_any_state role.State = true
is_any_state role.FinalState = true
is_any_state _ = false
