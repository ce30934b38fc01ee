-- What regions, vertices and transitions stand in.
use Rattle.std.proofs.Common.{◌≡◌, ℕ, Bool, true, false, ◌||◌, ◌&&◌, List, refl, sym, ap, ◌∙◌}
use Rattle.std.specs.Prelude.{codes, bytes_eq, if◌then◌else◌}
use Rattle.pssm_xml.specs.Documents.{Element}
use Rattle.pssm_roles.specs.declared.role.Role.{Role}
use Rattle.pssm_roles.specs.declared.role.Role.TheVariants as role
use Rattle.pssm_roles.specs.Roles.{role_in, root_role, row, settled, type_of, reference_role, guard_role, has_attribute, is_active, ends_on_machine, is_named_rule, packaged_role, owned_role, in_wrapper, in_only, in_class, in_machine, in_class_machine, in_region, in_state, in_transition, in_text, vertex_role, behaviour_role, value_role}
use Rattle.pssm_numbering.specs.Numbering.{is_machine, is_region, is_vertex, is_transition}
use Rattle.pssm_xmi.proofs.Tests.{both, picked}

-- a region, a vertex or a transition
abbrev pub is_part : Role → Bool
is_part r = is_region r || is_vertex r || is_transition r

-- An element of the second role may stand in one of the first: a vertex or a transition in a region or a vertex, and a region in these or in a machine.
abbrev pub fits : (above r : Role) → Bool
fits above r =
    if is_vertex r || is_transition r then is_region above || is_vertex above else
    if is_region r then is_region above || is_vertex above || is_machine above else true

-- an active class by its element, not a machine that is one
abbrev pub is_active_class : Role → Bool
is_active_class role.ActiveClass = true
is_active_class _ = false

-- The same, and it may be an active class: that is another question.
abbrev stays : (active : Bool) → (above r : Role) → Bool
stays active above r = fits above r && (if is_active_class r then active else true)

module _ (doc : List Element) (p n : ℕ) where
  -- It may stand there, once it is settled.
  abbrev Fits : (above r : Role) → Type 0
  Fits above r = stays (is_active doc n) above (settled doc p n r) ≡ true

  -- a child that refers fits anywhere
  pointer_fits : (above : Role) (e : Element) → Fits above (reference_role e)
  pointer_fits above e = picked (Fits above) (has_attribute (codes "xmi:idref") e || has_attribute (codes "href") e) role.Reference role.Passed refl refl

  guard_fits : (above : Role) (e : Element) → Fits above (guard_role e)
  guard_fits above e = picked (Fits above) (has_attribute (codes "xmi:idref") e) role.Reference role.Guard refl refl

  only_fits : (above : Role) (wanted name : List ℕ) (r : Role) → Fits above r → Fits above (in_only wanted name r)
  only_fits above wanted name r fit = picked (Fits above) (bytes_eq name wanted) r role.Passed fit refl

  other_class_fits : (above : Role) → Fits above role.OtherClass
  other_class_fits above = by_activity (is_active doc n) where
    by_activity : (b : Bool) → stays b above (if b then role.ActiveClass else role.OtherClass) ≡ true
    by_activity true = refl
    by_activity false = refl

  idle_fits : (above : Role) → Fits above role.IdleRule
  idle_fits above = picked (λ (r : Role). stays (is_active doc n) above r ≡ true) (is_named_rule doc p n) role.Guard role.IdleRule refl refl

  wrapper_fits : (above : Role) (name : List ℕ) → Fits above (in_wrapper name)
  wrapper_fits above name =
      picked (Fits above) (bytes_eq name (codes "uml:Model")) role.Package _ refl
      (picked (Fits above) (bytes_eq name (codes "uml:Package")) role.Package role.Passed refl refl)

  packaged_fits : (above : Role) (type : List ℕ) → Fits above (packaged_role type)
  packaged_fits above type =
      picked (Fits above) (bytes_eq type (codes "uml:Package")) role.Package _ refl
      (picked (Fits above) (bytes_eq type (codes "uml:Class")) role.OtherClass _ (other_class_fits above)
      (picked (Fits above) (bytes_eq type (codes "uml:StateMachine")) role.ClassMachine _ refl
      (picked (Fits above) (bytes_eq type (codes "uml:Signal")) role.Signal _ refl
      (picked (Fits above) (bytes_eq type (codes "uml:SignalEvent")) role.SignalEvent _ refl
      (picked (Fits above) (bytes_eq type (codes "uml:InstanceSpecification")) role.Instance role.Passed refl refl)))))

  owned_fits : (above : Role) (type : List ℕ) → Fits above (owned_role type)
  owned_fits above type = picked (Fits above) (bytes_eq type (codes "uml:StateMachine")) role.Machine role.Passed refl refl

  class_fits : (above : Role) (name type : List ℕ) (pointer : Role) → Fits above pointer → Fits above (in_class name type pointer)
  class_fits above name type pointer fit =
      picked (Fits above) (bytes_eq name (codes "ownedAttribute")) role.Attribute _ refl
      (picked (Fits above) (bytes_eq name (codes "ownedBehavior")) (owned_role type) _ (owned_fits above type)
      (picked (Fits above) (bytes_eq name (codes "classifierBehavior")) pointer role.Passed fit refl))

  machine_fits : (name : List ℕ) (pointer : Role) → Fits role.Machine pointer → Fits role.Machine (in_machine name pointer)
  machine_fits name pointer fit =
      picked (Fits role.Machine) (bytes_eq name (codes "region")) role.Region _ refl
      (picked (Fits role.Machine) (bytes_eq name (codes "extendedStateMachine")) pointer role.Passed fit refl)

  class_machine_fits : (name type : List ℕ) (pointer : Role) → Fits role.ClassMachine pointer → Fits role.ClassMachine (in_class_machine name type pointer)
  class_machine_fits name type pointer fit =
      picked (Fits role.ClassMachine) (bytes_eq name (codes "region")) role.Region _ refl
      (picked (Fits role.ClassMachine) (bytes_eq name (codes "extendedStateMachine")) pointer (in_class name type pointer) fit
      (class_fits role.ClassMachine name type pointer fit))

  vertex_fits : (type : List ℕ) → Fits role.Region (vertex_role type)
  vertex_fits type =
      picked (Fits role.Region) (bytes_eq type (codes "uml:State")) role.State _ refl
      (picked (Fits role.Region) (bytes_eq type (codes "uml:FinalState")) role.FinalState _ refl
      (picked (Fits role.Region) (bytes_eq type (codes "uml:Pseudostate")) role.Pseudostate role.OtherVertex refl refl))

  region_fits : (name type : List ℕ) (pointer : Role) → Fits role.Region pointer → Fits role.Region (in_region name type pointer)
  region_fits name type pointer fit =
      picked (Fits role.Region) (bytes_eq name (codes "subvertex")) (vertex_role type) _ (vertex_fits type)
      (picked (Fits role.Region) (bytes_eq name (codes "transition")) role.Transition _
      (picked (λ (r : Role). stays (is_active doc n) role.Region r ≡ true) (ends_on_machine doc n) role.Passed role.Transition refl refl)
      (picked (Fits role.Region) (bytes_eq name (codes "extendedRegion")) pointer role.Passed fit refl))

  behaviour_fits : (above : Role) (type : List ℕ) → Fits above (behaviour_role type)
  behaviour_fits above type = picked (Fits above) (bytes_eq type (codes "uml:OpaqueBehavior")) role.Behaviour role.OtherBehaviour refl refl

  state_fits : (above : Role) → Fits above role.Region → Fits above role.ConnectionPoint → (name type : List ℕ) (pointer : Role) → Fits above pointer
      → Fits above (in_state name type pointer)
  state_fits above region point name type pointer fit =
      picked (Fits above) (bytes_eq name (codes "region")) role.Region _ region
      (picked (Fits above) (bytes_eq name (codes "connectionPoint")) role.ConnectionPoint _ point
      (picked (Fits above) (bytes_eq name (codes "entry")) (behaviour_role type) _ (behaviour_fits above type)
      (picked (Fits above) (bytes_eq name (codes "exit")) (behaviour_role type) _ (behaviour_fits above type)
      (picked (Fits above) (bytes_eq name (codes "doActivity")) (behaviour_role type) _ (behaviour_fits above type)
      (picked (Fits above) (bytes_eq name (codes "deferrableTrigger")) role.Trigger _ refl
      (picked (Fits above) (bytes_eq name (codes "redefinedState")) pointer _ fit
      (picked (Fits above) (bytes_eq name (codes "redefinedVertex")) pointer _ fit
      (picked (Fits above) (bytes_eq name (codes "submachine")) role.Submachine _ refl
      (picked (Fits above) (bytes_eq name (codes "connection")) role.Submachine role.Passed refl refl)))))))))

  transition_fits : (above : Role) (name type : List ℕ) (pointer watch : Role) → Fits above pointer → Fits above watch
      → Fits above (in_transition name type pointer watch)
  transition_fits above name type pointer watch fit guards =
      picked (Fits above) (bytes_eq name (codes "source")) pointer _ fit
      (picked (Fits above) (bytes_eq name (codes "target")) pointer _ fit
      (picked (Fits above) (bytes_eq name (codes "trigger")) role.Trigger _ refl
      (picked (Fits above) (bytes_eq name (codes "guard")) watch _ guards
      (picked (Fits above) (bytes_eq name (codes "ownedRule")) role.IdleRule _ (idle_fits above)
      (picked (Fits above) (bytes_eq name (codes "effect")) (behaviour_role type) _ (behaviour_fits above type)
      (picked (Fits above) (bytes_eq name (codes "redefinedTransition")) pointer role.Passed fit refl))))))

  value_fits : (above : Role) (type : List ℕ) → Fits above (value_role type)
  value_fits above type =
      picked (Fits above) (bytes_eq type (codes "uml:OpaqueExpression")) role.Expression _ refl
      (picked (Fits above) (bytes_eq type (codes "uml:LiteralBoolean")) role.Literal role.OtherValue refl refl)

  text_fits : (above : Role) (name : List ℕ) → Fits above (in_text name)
  text_fits above name =
      picked (Fits above) (bytes_eq name (codes "language")) role.Language _ refl
      (picked (Fits above) (bytes_eq name (codes "body")) role.Body role.Passed refl refl)

  row_fits : (above : Role) (name type : List ℕ) (pointer watch : Role) → Fits above pointer → Fits above watch → Fits above (row above name type pointer watch)
  row_fits role.Wrapper name type pointer watch fit guards = wrapper_fits role.Wrapper name
  row_fits role.Package name type pointer watch fit guards = only_fits role.Package (codes "packagedElement") name (packaged_role type) (packaged_fits role.Package type)
  row_fits role.ActiveClass name type pointer watch fit guards = class_fits role.ActiveClass name type pointer fit
  row_fits role.OtherClass name type pointer watch fit guards = only_fits role.OtherClass (codes "classifierBehavior") name pointer fit
  row_fits role.ClassMachine name type pointer watch fit guards = class_machine_fits name type pointer fit
  row_fits role.Machine name type pointer watch fit guards = machine_fits name pointer fit
  row_fits role.Signal name type pointer watch fit guards = only_fits role.Signal (codes "ownedAttribute") name role.Parameter refl
  row_fits role.SignalEvent name type pointer watch fit guards = only_fits role.SignalEvent (codes "signal") name pointer fit
  row_fits role.Instance name type pointer watch fit guards = only_fits role.Instance (codes "classifier") name pointer fit
  row_fits role.Attribute name type pointer watch fit guards = only_fits role.Attribute (codes "defaultValue") name role.Default refl
  row_fits role.Region name type pointer watch fit guards = region_fits name type pointer fit
  row_fits role.State name type pointer watch fit guards = state_fits role.State refl refl name type pointer fit
  row_fits role.FinalState name type pointer watch fit guards = state_fits role.FinalState refl refl name type pointer fit
  row_fits role.Transition name type pointer watch fit guards = transition_fits role.Transition name type pointer watch fit guards
  row_fits role.Trigger name type pointer watch fit guards = only_fits role.Trigger (codes "event") name pointer fit
  row_fits role.Guard name type pointer watch fit guards = only_fits role.Guard (codes "specification") name (value_role type) (value_fits role.Guard type)
  row_fits role.Behaviour name type pointer watch fit guards = text_fits role.Behaviour name
  row_fits role.Expression name type pointer watch fit guards = text_fits role.Expression name
  row_fits _ name type pointer watch fit guards = refl

  child_stays : (above : Role) (e : Element) → stays (is_active doc n) above (role_in doc above p n e) ≡ true
  child_stays above e =
      row_fits above e.name (type_of e) (reference_role e) (guard_role e) (pointer_fits above e) (guard_fits above e)

  -- Every child fits where it stands.
  pub child_fits : (above : Role) (e : Element) → fits above (role_in doc above p n e) ≡ true
  child_fits above e = (both (fits above (role_in doc above p n e)) _ (child_stays above e)).0

  -- A class is active where the whole file says so.
  pub child_active : (above : Role) (e : Element) → is_active_class (role_in doc above p n e) ≡ true → is_active doc n ≡ true
  child_active above e here =
      sym (ap (λ (b : Bool). if b then is_active doc n else true) here) ∙ (both (fits above (role_in doc above p n e)) _ (child_stays above e)).1

-- The root is no part.
pub root_no_part : (name : List ℕ) → is_part (root_role name) ≡ false
root_no_part name =
    picked (λ (r : Role). is_part r ≡ false) (bytes_eq name (codes "uml:Model")) role.Package _ refl
    (picked (λ (r : Role). is_part r ≡ false) (bytes_eq name (codes "uml:Package")) role.Package _ refl
    (picked (λ (r : Role). is_part r ≡ false) (bytes_eq name (codes "xmi:XMI")) role.Wrapper role.OtherRoot refl refl))

-- The root is no active class.
pub root_not_active : (name : List ℕ) → is_active_class (root_role name) ≡ false
root_not_active name =
    picked (λ (r : Role). is_active_class r ≡ false) (bytes_eq name (codes "uml:Model")) role.Package _ refl
    (picked (λ (r : Role). is_active_class r ≡ false) (bytes_eq name (codes "uml:Package")) role.Package _ refl
    (picked (λ (r : Role). is_active_class r ≡ false) (bytes_eq name (codes "xmi:XMI")) role.Wrapper role.OtherRoot refl refl))
