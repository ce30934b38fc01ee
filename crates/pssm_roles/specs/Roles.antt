-- What each element of a model file is: its role follows from its name, its `xmi:type` and the role of the element in which it stands (UML 2.5.1 11.4, 13.2, 14.2 and
-- XMI 2.5.1 9.4; which roles are read is this profile's choice).
use Rattle.std.specs.Prelude.{◌≡◌, ℕ, Bool, true, false, ◌||◌, ◌&&◌, List, [], ◌∷◌, length, Some, None, ◌++◌, bytes_eq, codes, slice_get, is_some, if◌then◌else◌}
use Rattle.std.specs.List.{list_any}
use Rattle.std.specs.Option.{option_map_or, option_and_then}
use Rattle.pssm_xml.specs.Documents.{Element}
use Rattle.pssm_xml.specs.Elements.{attribute_value, is_child_of}
use Rattle.pssm_roles.specs.Ids.{has_id, element_meant}
use Rattle.pssm_roles.specs.References.{own_value, references}
use Rattle.pssm_roles.specs.declared.role.Role.{Role}
use Rattle.pssm_roles.specs.declared.role.Role.TheVariants as role

-- ---- what is asked of one element

-- its `xmi:type`; empty where it has none
abbrev pub type_of : Element → List ℕ
type_of e = own_value (codes "xmi:type") e

-- It has this type.
abbrev pub is_typed : List ℕ → Element → Bool
is_typed type e = bytes_eq (type_of e) type

-- It has this attribute.
abbrev pub has_attribute : List ℕ → Element → Bool
has_attribute name e = is_some (attribute_value name e)

-- ---- what is asked of the whole file

-- The element that the id means is a state machine that the class owns.
abbrev pub owns_machine : List Element → ℕ → List ℕ → Bool
owns_machine doc class id =
    option_map_or (λ m. is_child_of class (codes "ownedBehavior") m && is_typed (codes "uml:StateMachine") m) (element_meant doc id) false

-- The behaviour of the class is a state machine that it owns (UML 2.5.1 10.5.1, classifierBehavior).
abbrev pub is_active : List Element → ℕ → Bool
is_active doc class = list_any (λ (r : ℕ × List ℕ). owns_machine doc class r.1) (references doc class (codes "classifierBehavior"))

-- It stands in a state machine.
abbrev pub stands_in_machine : List Element → Element → Bool
stands_in_machine doc e = option_map_or (is_typed (codes "uml:StateMachine")) (option_and_then (slice_get doc) e.parent) false

-- The element that the id means is a connection point of a state machine.
abbrev pub is_machine_point : List Element → List ℕ → Bool
is_machine_point doc id = option_map_or (λ v. bytes_eq v.name (codes "connectionPoint") && stands_in_machine doc v) (element_meant doc id) false

-- An end of the transition is a connection point of a state machine.
abbrev pub ends_on_machine : List Element → ℕ → Bool
ends_on_machine doc t =
    list_any (λ (r : ℕ × List ℕ). is_machine_point doc r.1) (references doc t (codes "source") ++ references doc t (codes "target"))

-- The one reference of the guard of a transition is to the element with this number; where there are more, the transition is refused.
abbrev pub names_rule : List Element → ℕ → List (ℕ × List ℕ) → Bool
names_rule doc n [] = false
names_rule doc n (r ∷ []) = option_map_or (has_id r.1) (slice_get doc n) false
names_rule doc n (r ∷ other ∷ more) = false

-- The guard of the transition names the rule with this number.
abbrev pub is_named_rule : List Element → ℕ → ℕ → Bool
is_named_rule doc t n = names_rule doc n (references doc t (codes "guard"))

-- ---- the table: what an element of this name and this type is, where `pointer` is what it is as a child that refers to elements

-- the root
abbrev pub root_role : List ℕ → Role
root_role name =
    if bytes_eq name (codes "uml:Model") then role.Package else
    if bytes_eq name (codes "uml:Package") then role.Package else
    if bytes_eq name (codes "xmi:XMI") then role.Wrapper else role.OtherRoot

-- what stands in `xmi:XMI`
abbrev pub in_wrapper : List ℕ → Role
in_wrapper name =
    if bytes_eq name (codes "uml:Model") then role.Package else
    if bytes_eq name (codes "uml:Package") then role.Package else role.Passed

-- packaged elements
abbrev pub packaged_role : List ℕ → Role
packaged_role type =
    if bytes_eq type (codes "uml:Package") then role.Package else
    if bytes_eq type (codes "uml:Class") then role.OtherClass else
    if bytes_eq type (codes "uml:StateMachine") then role.ClassMachine else
    if bytes_eq type (codes "uml:Signal") then role.Signal else
    if bytes_eq type (codes "uml:SignalEvent") then role.SignalEvent else
    if bytes_eq type (codes "uml:InstanceSpecification") then role.Instance else role.Passed

-- what stands in an element that has children of this name alone
abbrev pub in_only : (wanted name : List ℕ) → Role → Role
in_only wanted name inner = if bytes_eq name wanted then inner else role.Passed

-- behaviours that a class owns
abbrev pub owned_role : List ℕ → Role
owned_role type = if bytes_eq type (codes "uml:StateMachine") then role.Machine else role.Passed

-- what stands in a class
abbrev pub in_class : (name type : List ℕ) → (pointer : Role) → Role
in_class name type pointer =
    if bytes_eq name (codes "ownedAttribute") then role.Attribute else
    if bytes_eq name (codes "ownedBehavior") then owned_role type else
    if bytes_eq name (codes "classifierBehavior") then pointer else role.Passed

-- what stands in a state machine
abbrev pub in_machine : (name : List ℕ) → (pointer : Role) → Role
in_machine name pointer =
    if bytes_eq name (codes "region") then role.Region else
    if bytes_eq name (codes "extendedStateMachine") then pointer else role.Passed

-- what stands in a state machine that is a class too
abbrev pub in_class_machine : (name type : List ℕ) → (pointer : Role) → Role
in_class_machine name type pointer =
    if bytes_eq name (codes "region") then role.Region else
    if bytes_eq name (codes "extendedStateMachine") then pointer else in_class name type pointer

-- subvertices
abbrev pub vertex_role : List ℕ → Role
vertex_role type =
    if bytes_eq type (codes "uml:State") then role.State else
    if bytes_eq type (codes "uml:FinalState") then role.FinalState else
    if bytes_eq type (codes "uml:Pseudostate") then role.Pseudostate else role.OtherVertex

-- what stands in a region
abbrev pub in_region : (name type : List ℕ) → (pointer : Role) → Role
in_region name type pointer =
    if bytes_eq name (codes "subvertex") then vertex_role type else
    if bytes_eq name (codes "transition") then role.Transition else
    if bytes_eq name (codes "extendedRegion") then pointer else role.Passed

-- behaviours
abbrev pub behaviour_role : List ℕ → Role
behaviour_role type = if bytes_eq type (codes "uml:OpaqueBehavior") then role.Behaviour else role.OtherBehaviour

-- what stands in a State
abbrev pub in_state : (name type : List ℕ) → (pointer : Role) → Role
in_state name type pointer =
    if bytes_eq name (codes "region") then role.Region else
    if bytes_eq name (codes "connectionPoint") then role.ConnectionPoint else
    if bytes_eq name (codes "entry") then behaviour_role type else
    if bytes_eq name (codes "exit") then behaviour_role type else
    if bytes_eq name (codes "doActivity") then behaviour_role type else
    if bytes_eq name (codes "deferrableTrigger") then role.Trigger else
    if bytes_eq name (codes "redefinedState") then pointer else
    if bytes_eq name (codes "redefinedVertex") then pointer else
    if bytes_eq name (codes "submachine") then role.Submachine else
    if bytes_eq name (codes "connection") then role.Submachine else role.Passed

-- what stands in a transition; `watch` is what it is as a guard
abbrev pub in_transition : (name type : List ℕ) → (pointer watch : Role) → Role
in_transition name type pointer watch =
    if bytes_eq name (codes "source") then pointer else
    if bytes_eq name (codes "target") then pointer else
    if bytes_eq name (codes "trigger") then role.Trigger else
    if bytes_eq name (codes "guard") then watch else
    if bytes_eq name (codes "ownedRule") then role.IdleRule else
    if bytes_eq name (codes "effect") then behaviour_role type else
    if bytes_eq name (codes "redefinedTransition") then pointer else role.Passed

-- values of guards
abbrev pub value_role : List ℕ → Role
value_role type =
    if bytes_eq type (codes "uml:OpaqueExpression") then role.Expression else
    if bytes_eq type (codes "uml:LiteralBoolean") then role.Literal else role.OtherValue

-- what stands in a behaviour or an expression
abbrev pub in_text : List ℕ → Role
in_text name =
    if bytes_eq name (codes "language") then role.Language else
    if bytes_eq name (codes "body") then role.Body else role.Passed

-- what stands in an element with this role; in all others everything is passed over
abbrev pub row : Role → (name type : List ℕ) → (pointer watch : Role) → Role
row role.Wrapper name type pointer watch = in_wrapper name
row role.Package name type pointer watch = in_only (codes "packagedElement") name (packaged_role type)
row role.ActiveClass name type pointer watch = in_class name type pointer
row role.OtherClass name type pointer watch = in_only (codes "classifierBehavior") name pointer
row role.ClassMachine name type pointer watch = in_class_machine name type pointer
row role.Machine name type pointer watch = in_machine name pointer
row role.Signal name type pointer watch = in_only (codes "ownedAttribute") name role.Parameter
row role.SignalEvent name type pointer watch = in_only (codes "signal") name pointer
row role.Instance name type pointer watch = in_only (codes "classifier") name pointer
row role.Attribute name type pointer watch = in_only (codes "defaultValue") name role.Default
row role.Region name type pointer watch = in_region name type pointer
row role.State name type pointer watch = in_state name type pointer
row role.FinalState name type pointer watch = in_state name type pointer
row role.Transition name type pointer watch = in_transition name type pointer watch
row role.Trigger name type pointer watch = in_only (codes "event") name pointer
row role.Guard name type pointer watch = in_only (codes "specification") name (value_role type)
row role.Behaviour name type pointer watch = in_text name
row role.Expression name type pointer watch = in_text name
row _ name type pointer watch = role.Passed

-- ---- what the whole file adds to the table

-- a child that refers to elements, in this file or in another
abbrev pub reference_role : Element → Role
reference_role e = if has_attribute (codes "xmi:idref") e || has_attribute (codes "href") e then role.Reference else role.Passed

-- a guard: where it refers to a rule of the same transition it is a reference
abbrev pub guard_role : Element → Role
guard_role e = if has_attribute (codes "xmi:idref") e then role.Reference else role.Guard

-- A class is active or not, a transition that ends on a connection point of a state machine is passed over, and a rule is a guard where the guard of its
-- transition, which is its parent, names it; all others are what the table says.
abbrev pub settled : List Element → (parent n : ℕ) → Role → Role
settled doc parent n role.OtherClass = if is_active doc n then role.ActiveClass else role.OtherClass
settled doc parent n role.Transition = if ends_on_machine doc n then role.Passed else role.Transition
settled doc parent n role.IdleRule = if is_named_rule doc parent n then role.Guard else role.IdleRule
settled doc parent n r = r

-- the role of the element with this number, which stands in an element with this role and this number
abbrev pub role_in : List Element → Role → (parent n : ℕ) → Element → Role
role_in doc above parent n e = settled doc parent n (row above e.name (type_of e) (reference_role e) (guard_role e))

-- the role of an element of a file
pub data HasRole (doc : List Element) : ℕ → Role → Type 0 where
  root : {n : ℕ} {e : Element} → slice_get doc n ≡ Some e → e.parent ≡ None → HasRole doc n (root_role e.name)
  child : {n parent : ℕ} {e : Element} {above : Role} → slice_get doc n ≡ Some e → e.parent ≡ Some parent → HasRole doc parent above
      → HasRole doc n (role_in doc above parent n e)

-- Every element has the role at its place.
pub record AreRolesOf (doc : List Element) (roles : List Role) : Type 0 where
  pub counted : length roles ≡ length doc
  pub roles_are : (n : ℕ) (r : Role) → slice_get roles n ≡ Some r → HasRole doc n r

-- ---- what is asked of a role

-- It is read, so that it may have no `href`, and what is asked of elements is asked of it (this profile's choice).
abbrev pub is_read : Role → Bool
is_read role.OtherRoot = false
is_read role.Wrapper = false
is_read role.Submachine = false
is_read role.IdleRule = false
is_read role.Passed = false
is_read _ = true

-- It needs an `xmi:id`: all that is read but classes that are not active, languages, bodies, the values of guards, defaults and references; and a rule that no
-- guard names (this profile's choice). An attribute of a class that is no variable is passed over, which its role does not tell.
abbrev pub needs_id : Role → Bool
needs_id role.IdleRule = true
needs_id role.OtherClass = false
needs_id role.Language = false
needs_id role.Body = false
needs_id role.Expression = false
needs_id role.Literal = false
needs_id role.OtherValue = false
needs_id role.Default = false
needs_id role.Reference = false
needs_id r = is_read r
