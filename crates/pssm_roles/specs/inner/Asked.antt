-- What functions answer that are asked of an element by its number.
use Rattle.std.specs.Prelude.{◌≡◌, ℕ, Bool, ◌&&◌, List, length, Some, bytes_eq, codes, slice_get}
use Rattle.pssm_xml.specs.Documents.{Element}
use Rattle.pssm_xml.specs.Elements.{is_child_of}
use Rattle.pssm_roles.specs.Roles.{HasRole, is_typed, stands_in_machine}
use Rattle.pssm_roles.specs.declared.role.Role.{Role}

-- It is what this function says of the element with this number.
abbrev pub Gives : {X : Type 0} → List Element → ℕ → (Element → X) → X → Type 0
Gives doc n f x = (e : Element) → slice_get doc n ≡ Some e → x ≡ f e

-- It is a state machine that the class owns.
abbrev pub is_owned_machine : (class : ℕ) → Element → Bool
is_owned_machine class e = is_child_of class (codes "ownedBehavior") e && is_typed (codes "uml:StateMachine") e

-- It is a connection point of a state machine.
abbrev pub is_point : List Element → Element → Bool
is_point doc e = bytes_eq e.name (codes "connectionPoint") && stands_in_machine doc e

-- The roles are those of the first elements, up to this one.
pub record AreFirst (doc : List Element) (n : ℕ) (roles : List Role) : Type 0 where
  pub counted : length roles ≡ n
  pub roles_are : (k : ℕ) (r : Role) → slice_get roles k ≡ Some r → HasRole doc k r
