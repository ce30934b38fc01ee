-- Which elements of a file make the lists of its draft, and the place of each in its list. All lists stand in document order (this profile's choice).
use Rattle.std.specs.Prelude.{ℕ, zero, suc, Bool, true, false, ◌&&◌, ◌==◌, List, length, filter, position, Option, Some, None, slice_get, unwrap_or, if◌then◌else◌}
use Rattle.std.specs.List.{range_with_len, position_or_len}
use Rattle.std.specs.Option.{option_map_or, option_and_then}
use Rattle.pssm_xml.specs.Documents.{Element}
use Rattle.pssm_xml.specs.Elements.{is_child_of}
use Rattle.pssm_roles.specs.declared.role.Role.{Role}
use Rattle.pssm_roles.specs.declared.role.Role.TheVariants as role

-- ---- a file

-- a file: its elements, and the role of each
pub record ModelFile : Type 0 where
  pub doc : List Element
  pub roles : List Role

-- the file with these elements and these roles
abbrev pub file_of : List Element → List Role → ModelFile
file_of doc roles = record { doc = doc; roles = roles }

-- the role of the element with this number
abbrev pub role_at : ModelFile → ℕ → Role
role_at file n = unwrap_or (slice_get file.roles n) role.Passed

-- the element in which it stands
abbrev pub parent_of : ModelFile → ℕ → Option ℕ
parent_of file n = option_and_then (λ (e : Element). e.parent) (slice_get file.doc n)

-- The number is that one.
abbrev pub is_number : ℕ → Option ℕ → Bool
is_number n found = option_map_or (λ m. m == n) found false

-- the numbers of all elements, in document order
abbrev pub numbers : ModelFile → List ℕ
numbers file = range_with_len 0 (length file.doc)

-- those of the elements with such a role
abbrev pub with_role : (Role → Bool) → ModelFile → List ℕ
with_role is file = filter (λ n. is (role_at file n)) (numbers file)

-- those of them that stand directly in this element
abbrev pub children_with : (Role → Bool) → ModelFile → ℕ → List ℕ
children_with is file p = filter (λ n. is_number p (parent_of file n)) (with_role is file)

-- the first child with such a role
abbrev pub child_with : (Role → Bool) → ModelFile → ℕ → Option ℕ
child_with is file p = position (λ n. is (role_at file n) && is_number p (parent_of file n)) (numbers file)

-- the first child of this name
abbrev pub child_named : List ℕ → ModelFile → ℕ → Option ℕ
child_named name file p = position (is_child_of p name) file.doc

-- the place of a number in a list, from 0; past its end where it does not stand there
abbrev pub place_in : List ℕ → ℕ → ℕ
place_in list n = position_or_len (λ m. m == n) list

-- ---- roles that make a list

-- a signal (UML 2.5.1 10.5.11)
abbrev pub is_signal : Role → Bool
is_signal role.Signal = true
is_signal _ = false

-- a parameter of a signal (UML 2.5.1 10.5.11, ownedAttribute)
abbrev pub is_parameter : Role → Bool
is_parameter role.Parameter = true
is_parameter _ = false

-- the event of a signal (UML 2.5.1 13.4.10)
abbrev pub is_signal_event : Role → Bool
is_signal_event role.SignalEvent = true
is_signal_event _ = false

-- a state machine (UML 2.5.1 14.5.10)
abbrev pub is_machine : Role → Bool
is_machine role.Machine = true
is_machine role.ClassMachine = true
is_machine _ = false

-- an active class; a state machine that is a packaged element is one too (UML 2.5.1 11.8.3 and 14.5.10)
abbrev pub is_class : Role → Bool
is_class role.ActiveClass = true
is_class role.ClassMachine = true
is_class _ = false

-- an attribute of an active class (UML 2.5.1 9.9.17)
abbrev pub is_attribute : Role → Bool
is_attribute role.Attribute = true
is_attribute _ = false

-- an instance specification (UML 2.5.1 9.9.9)
abbrev pub is_instance : Role → Bool
is_instance role.Instance = true
is_instance _ = false

-- a region (UML 2.5.1 14.5.8)
abbrev pub is_region : Role → Bool
is_region role.Region = true
is_region _ = false

-- a vertex: a State, a final State, a pseudostate or a connection point (UML 2.5.1 14.5.14)
abbrev pub is_vertex : Role → Bool
is_vertex role.State = true
is_vertex role.FinalState = true
is_vertex role.Pseudostate = true
is_vertex role.ConnectionPoint = true
is_vertex _ = false

-- a transition (UML 2.5.1 14.5.11)
abbrev pub is_transition : Role → Bool
is_transition role.Transition = true
is_transition _ = false

-- a trigger (UML 2.5.1 13.4.14)
abbrev pub is_trigger : Role → Bool
is_trigger role.Trigger = true
is_trigger _ = false

-- a guard (UML 2.5.1 14.5.11, guard)
abbrev pub is_guard : Role → Bool
is_guard role.Guard = true
is_guard _ = false

-- ---- the lists

-- the signals of the file
abbrev pub signals : ModelFile → List ℕ
signals file = with_role is_signal file

-- its state machines, those of classes too that are not the behaviour of their class
abbrev pub machines : ModelFile → List ℕ
machines file = with_role is_machine file

-- its active classes
abbrev pub classes : ModelFile → List ℕ
classes file = with_role is_class file

-- The innermost state machine in which an element stands, or which it is, sought in so many steps from the element outwards.
abbrev pub machine_within : ℕ → ModelFile → ℕ → Option ℕ
machine_within zero file n = None
machine_within (suc steps) file n = if is_machine (role_at file n) then Some n else option_and_then (machine_within steps file) (parent_of file n)

-- the same without a bound: an element stands in no more elements than there are before it
abbrev pub machine_of : ModelFile → ℕ → Option ℕ
machine_of file n = machine_within (suc n) file n

-- the elements of a machine with such a role
abbrev pub own_with : (Role → Bool) → ModelFile → ℕ → List ℕ
own_with is file m = filter (λ n. is_number m (machine_of file n)) (with_role is file)

-- the elements of the same kind in the machine in which an element stands
abbrev pub beside : (Role → Bool) → ModelFile → ℕ → List ℕ
beside is file n = own_with is file (unwrap_or (machine_of file n) (length file.doc))

-- the number of an element among those of its kind in its machine
abbrev pub own_place : (Role → Bool) → ModelFile → ℕ → ℕ
own_place is file n = place_in (beside is file n) n
