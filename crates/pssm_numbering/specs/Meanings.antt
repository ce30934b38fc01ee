-- What elements refer to, and which attributes of classes are variables.
use Rattle.std.specs.Prelude.{ℕ, Bool, true, false, not, ◌&&◌, ◌==◌, List, [], ◌∷◌, length, filter, nat_le, Option, Some, None, slice_get, unwrap_or, bytes_eq, codes, is_some, if◌then◌else◌}
use Rattle.std.specs.List.{list_any, list_all}
use Rattle.std.specs.Option.{option_map_or, option_and_then, option_or}
use Rattle.pssm_spelling.specs.Spelling.{is_name_text}
use Rattle.pssm_xml.specs.Documents.{Element}
use Rattle.pssm_xml.specs.Elements.{attribute_value, is_child_of, children, value_or_empty}
use Rattle.pssm_roles.specs.Ids.{meant_by, element_meant}
use Rattle.pssm_values.specs.Ids.{ids_in}
use Rattle.pssm_roles.specs.References.{references}
use Rattle.pssm_roles.specs.Roles.{is_typed}
use Rattle.pssm_profile.specs.Counts.{references_count}
use Rattle.pssm_values.specs.Names.{cleaned, reserved_words}
use Rattle.pssm_values.specs.Truths.{truth_said}
use Rattle.pssm_roles.specs.declared.role.Role.{Role}
use Rattle.pssm_roles.specs.declared.role.Role.TheVariants as role
use Rattle.pssm_numbering.specs.Numbering.{ModelFile, role_at, is_number, children_with, with_role, classes, is_signal, is_signal_event, is_class, is_attribute, is_instance, is_trigger}

-- ---- attributes

-- the value of an attribute; none where it is absent
abbrev pub value : List ℕ → ModelFile → ℕ → Option (List ℕ)
value name file n = option_and_then (attribute_value name) (slice_get file.doc n)

-- the clean name of an element; a missing name is an empty one
abbrev pub clean_name_of : ModelFile → ℕ → List ℕ
clean_name_of file n = cleaned (value_or_empty file.doc n (codes "name"))

-- its id; empty where it has none (XMI 2.5.1 7.6.1)
abbrev pub id_of : ModelFile → ℕ → List ℕ
id_of file n = value_or_empty file.doc n (codes "xmi:id")

-- where it begins in the text
abbrev pub at_of : ModelFile → ℕ → ℕ
at_of file n = option_map_or (λ (e : Element). e.at) (slice_get file.doc n) 0

-- The attribute says `true`.
abbrev pub is_true : List ℕ → ModelFile → ℕ → Bool
is_true name file n = unwrap_or (truth_said (value name file n)) false

-- ---- references

-- the element that the first of these ids means
abbrev pub first_meant : List Element → List (ℕ × List ℕ) → Option ℕ
first_meant doc [] = None
first_meant doc (r ∷ more) = meant_by doc r.1

-- the element to which an element refers under a name: one that is read has at most one such reference
abbrev pub meant : List ℕ → ModelFile → ℕ → Option ℕ
meant name file n = first_meant file.doc (references file.doc n name)

-- an element, where there is one with such a role
abbrev pub if_with : (Role → Bool) → ModelFile → Option ℕ → Option ℕ
if_with is file found = option_and_then (λ m. if is (role_at file m) then Some m else None) found

-- the element that is meant, where it has such a role
abbrev pub meant_with : (Role → Bool) → List ℕ → ModelFile → ℕ → Option ℕ
meant_with is name file n = if_with is file (meant name file n)

-- the vertex that a State redefines, under either of two names (UML 2.5.1 14.5.9, redefinedState, and 14.5.14, redefinedVertex)
abbrev pub redefined_vertex : ModelFile → ℕ → Option ℕ
redefined_vertex file n = option_or (meant (codes "redefinedState") file n) (meant (codes "redefinedVertex") file n)

-- the signal whose coming a trigger waits for: that of its event (UML 2.5.1 13.4.14, event, and 13.4.10, signal)
abbrev pub signal_of_trigger : ModelFile → ℕ → Option ℕ
signal_of_trigger file n =
    option_and_then (meant_with is_signal (codes "signal") file) (meant_with is_signal_event (codes "event") file n)

-- A trigger of this name, of this transition or State, waits for the signal.
abbrev pub waits_for : List ℕ → ModelFile → ℕ → ℕ → Bool
waits_for name file n signal =
    list_any
    (λ t. option_map_or (is_child_of n name) (slice_get file.doc t) false && is_number signal (signal_of_trigger file t))
    (children_with is_trigger file n)

-- ---- classes

-- the machine of an active class: the one that is its behaviour, and a machine that is a class too is its own (UML 2.5.1 10.5.1, classifierBehavior)
abbrev pub behaviour_of : ModelFile → ℕ → Option ℕ
behaviour_of file c = machine_by (role_at file c) where
  machine_by : Role → Option ℕ
  machine_by role.ClassMachine = Some c
  machine_by _ = meant (codes "classifierBehavior") file c

-- A variable may be called so: a name of at most 64 bytes that is no word of behaviours (this profile's choice).
abbrev pub can_name_variable : List ℕ → Bool
can_name_variable name = is_name_text name && nat_le (length name) 64 && not (list_any (bytes_eq name) reserved_words)

-- The attribute `type` names no element but primitive types; one that names none is let pass (this profile's choice).
abbrev pub has_plain_type : ModelFile → ℕ → Bool
has_plain_type file n =
    list_all (λ id. option_map_or (is_typed (codes "uml:PrimitiveType")) (element_meant file.doc id) true) (ids_in (value_or_empty file.doc n (codes "type")))

-- the only default is a literal integer; with several the attribute is a variable with a fault (UML 2.5.1 8.6.12)
abbrev pub are_plain : List Element → Bool
are_plain [] = true
are_plain (e ∷ []) = is_typed (codes "uml:LiteralInteger") e
are_plain (e ∷ other ∷ more) = true

-- The default is absent or a literal integer (UML 2.5.1 9.9.17, defaultValue).
abbrev pub has_plain_default : ModelFile → ℕ → Bool
has_plain_default file n = are_plain (children file.doc n (codes "defaultValue"))

-- The element is an attribute of an active class, and a variable: it is called so, it is no end of an association (UML 2.5.1 9.9.17, association),
-- and its type and its default are plain (this profile's choice).
abbrev pub is_variable : ModelFile → ℕ → Bool
is_variable file n =
    is_attribute (role_at file n)
    && can_name_variable (value_or_empty file.doc n (codes "name"))
    && (references_count file.doc n (codes "association") == 0)
    && has_plain_type file n
    && has_plain_default file n

-- the variables of a class
abbrev pub variables : ModelFile → ℕ → List ℕ
variables file c = filter (is_variable file) (children_with is_attribute file c)

-- ---- objects

-- the active class of an instance specification; none where its classifier is another element (UML 2.5.1 9.9.9, classifier)
abbrev pub class_of_instance : ModelFile → ℕ → Option ℕ
class_of_instance file n = meant_with is_class (codes "classifier") file n

-- the instance specifications of active classes
abbrev pub instances : ModelFile → List ℕ
instances file = filter (λ n. is_some (class_of_instance file n)) (with_role is_instance file)

-- the active classes that are not abstract (UML 2.5.1 9.9.4, isAbstract)
abbrev pub concrete_classes : ModelFile → List ℕ
concrete_classes file = filter (λ c. not (is_true (codes "isAbstract") file c)) (classes file)
