-- Which elements are variables, signals, active classes and objects, and what they are called.
use Rattle.std.specs.Prelude.{◌≡◌, ◌⊎◌, ℕ, suc, List, [], ◌∷◌, ◌++◌, length, codes, Some, IsTrue, true}
use Rattle.std.specs.List.{list_all}
use Rattle.std.specs.Option.{option_map_or}
use Rattle.pssm_xml.specs.Documents.{Element}
use Rattle.pssm_xml.specs.Elements.{children, value_or_empty, IsParent}
use Rattle.pssm_roles.specs.Ids.{element_meant, meant_by}
use Rattle.pssm_roles.specs.References.{references}
use Rattle.pssm_values.specs.Ids.{ids_in}
use Rattle.pssm_roles.specs.Roles.{HasRole, is_typed}
use Rattle.pssm_roles.specs.declared.role.Role.TheVariants as role
use Rattle.pssm_values.specs.Names.{cleaned, CanNameVariable}
use Rattle.pssm_profile.specs.Counts.{RefersToNothing}

-- ---- variables

-- What its attribute `type` names is a primitive type; what names no element is no hindrance.
abbrev pub HasPrimitiveType : List Element → ℕ → Type 0
HasPrimitiveType doc n = IsTrue (list_all (λ id. option_map_or (is_typed (codes "uml:PrimitiveType")) (element_meant doc id) true) (ids_in (value_or_empty doc n (codes "type"))))

-- its default value, where it has one alone, is an integer
abbrev pub HasIntegerDefault : List Element → ℕ → Type 0
HasIntegerDefault doc n = (e : Element) → children doc n (codes "defaultValue") ≡ e ∷ [] → IsTrue (is_typed (codes "uml:LiteralInteger") e)

-- An attribute of an active class is a variable, where its name can be one of a variable, it is no end of an association, its type is no element but a primitive type, and
-- its default is an integer; all other attributes are passed over (UML 2.5.1 9.5.3, properties; this profile's choice).
pub record IsVariable (doc : List Element) (n : ℕ) : Type 0 where
  pub attribute : HasRole doc n role.Attribute
  pub named : CanNameVariable (value_or_empty doc n (codes "name"))
  pub no_association : RefersToNothing doc n (codes "association")
  pub primitive : HasPrimitiveType doc n
  pub integer : HasIntegerDefault doc n

-- the default value of a variable
pub record IsDefaultOfVariable (doc : List Element) (n : ℕ) : Type 0 where
  pub default : HasRole doc n role.Default
  pub of : ℕ
  pub parent : IsParent doc of n
  pub variable : IsVariable doc of

-- ---- signals, classes, objects

-- an active class, which may be a state machine that is a packaged element (UML 2.5.1 10.5.1, BehavioredClassifier)
abbrev pub IsActiveClass : List Element → ℕ → Type 0
IsActiveClass doc n = HasRole doc n role.ActiveClass ⊎ HasRole doc n role.ClassMachine

-- an instance specification of which a classifier is an active class (UML 2.5.1 9.8.3, instance specifications)
pub record IsInstance (doc : List Element) (n : ℕ) : Type 0 where
  pub instance : HasRole doc n role.Instance
  pub before : List (ℕ × List ℕ)
  pub at : ℕ
  pub id : List ℕ
  pub behind : List (ℕ × List ℕ)
  pub classifier : references doc n (codes "classifier") ≡ before ++ (at, id) ∷ behind
  pub class : ℕ
  pub meant : meant_by doc id ≡ Some class
  pub active : IsActiveClass doc class

-- the kinds of elements whose names differ and that are counted
pub data Kind : Type 0 where
  signals : Kind
  classes : Kind
  objects : Kind

-- The element is of the kind.
abbrev pub IsOfKind : List Element → Kind → ℕ → Type 0
IsOfKind doc signals n = HasRole doc n role.Signal
IsOfKind doc classes n = IsActiveClass doc n
IsOfKind doc objects n = IsInstance doc n

-- its name as models spell it; a missing name is an empty one
abbrev pub name_of : List Element → ℕ → List ℕ
name_of doc n = cleaned (value_or_empty doc n (codes "name"))

-- These are all that are of the kind before an element, in order, each once.
pub data AreBefore (Is : ℕ → Type 0) : ℕ → List ℕ → Type 0 where
  none : AreBefore Is 0 []
  one_more : {n : ℕ} {numbers : List ℕ} → AreBefore Is n numbers → Is n → AreBefore Is (suc n) (numbers ++ n ∷ [])
  other : {n : ℕ} {numbers : List ℕ} → AreBefore Is n numbers → (Is n → ⊥) → AreBefore Is (suc n) numbers

-- So many of the kind stand before the element.
pub record StandBefore (Is : ℕ → Type 0) (n count : ℕ) : Type 0 where
  pub numbers : List ℕ
  pub all : AreBefore Is n numbers
  pub counted : length numbers ≡ count
