-- The references that are followed, what each may mean, and those that mean nothing of the kind.
use Rattle.std.specs.Prelude.{ℕ, Bool, true, false, ◌||◌, List, [], ◌∷◌, Contains, slice_get, codes, IsFalse}
use Rattle.std.specs.Option.{option_map_or}
use Rattle.pssm_xml.specs.Documents.{Element}
use Rattle.pssm_xml.specs.Elements.{is_child_of}
use Rattle.pssm_roles.specs.declared.role.Role.{Role}
use Rattle.pssm_roles.specs.declared.role.Role.TheVariants as role
use Rattle.pssm_roles.specs.Ids.{meant_by, element_meant}
use Rattle.pssm_roles.specs.References.{references}
use Rattle.pssm_roles.specs.Roles.{is_typed}
use Rattle.pssm_numbering.specs.Numbering.{ModelFile, role_at, is_signal, is_signal_event, is_machine, is_region, is_vertex, is_transition}
use Rattle.pssm_unmet.specs.declared.following.Target.{Target}
use Rattle.pssm_unmet.specs.declared.following.Target.TheVariants as target

-- a reference that is followed: its name, and what it may mean
pub record Followed : Type 0 where
  pub name : List ℕ
  pub target : Target

-- one of this name
abbrev pub followed : List ℕ → Target → Followed
followed name target = record { name = name; target = target }

-- The references that are followed of an element, by its role (UML 2.5.1 10.5.1, 13.4.10, 13.4.14, 9.9.9, 14.5.8 to 14.5.11 and 14.5.14).
-- A classifier and the behaviour of a class may mean any element, and so be passed over; vertex kinds are compared where redefinition is (this profile's
-- choice).
abbrev pub followed_of : Role → List Followed
followed_of role.SignalEvent = followed (codes "signal") target.Signal ∷ []
followed_of role.Trigger = followed (codes "event") target.SignalEvent ∷ []
followed_of role.Instance = followed (codes "classifier") target.AnyElement ∷ []
followed_of role.ActiveClass = followed (codes "classifierBehavior") target.AnyElement ∷ []
followed_of role.OtherClass = followed (codes "classifierBehavior") target.AnyElement ∷ []
followed_of role.ClassMachine = followed (codes "classifierBehavior") target.AnyElement ∷ followed (codes "extendedStateMachine") target.Machine ∷ []
followed_of role.Machine = followed (codes "extendedStateMachine") target.Machine ∷ []
followed_of role.Region = followed (codes "extendedRegion") target.Region ∷ []
followed_of role.State = followed (codes "redefinedState") target.Vertex ∷ followed (codes "redefinedVertex") target.Vertex ∷ []
followed_of role.FinalState = followed (codes "redefinedState") target.Vertex ∷ followed (codes "redefinedVertex") target.Vertex ∷ []
followed_of role.Transition =
    followed (codes "source") target.Vertex ∷ followed (codes "target") target.Vertex ∷ followed (codes "guard") target.Rule
    ∷ followed (codes "redefinedTransition") target.Transition ∷ []
followed_of _ = []

-- a rule of this transition (UML 2.5.1 7.8.13, ownedRule)
abbrev pub is_rule_of : ModelFile → ℕ → ℕ → Bool
is_rule_of file t m = option_map_or (is_child_of t (codes "ownedRule")) (slice_get file.doc m) false

-- A reference of the first element may mean the second. Whatever is passed over has no kind of these.
abbrev pub may_mean : ModelFile → Target → ℕ → ℕ → Bool
may_mean file target.AnyElement n m = true
may_mean file target.Signal n m = is_signal (role_at file m)
may_mean file target.SignalEvent n m = is_signal_event (role_at file m)
may_mean file target.Machine n m = is_machine (role_at file m)
may_mean file target.Region n m = is_region (role_at file m)
may_mean file target.Vertex n m = is_vertex (role_at file m)
may_mean file target.Transition n m = is_transition (role_at file m)
may_mean file target.Rule n m = is_rule_of file n m

-- It means an element that it may mean.
abbrev pub is_known : ModelFile → Target → ℕ → List ℕ → Bool
is_known file target n id = option_map_or (may_mean file target n) (meant_by file.doc id) false

-- the event of a call, a change, a time or any message, wherever it stands (UML 2.5.1 13.4)
abbrev pub is_other_event : Element → Bool
is_other_event e =
    is_typed (codes "uml:CallEvent") e || is_typed (codes "uml:ChangeEvent") e || is_typed (codes "uml:TimeEvent") e || is_typed (codes "uml:AnyReceiveEvent") e

-- A reference to an event means such an event.
abbrev pub means_other_event : ModelFile → Target → List ℕ → Bool
means_other_event file target.SignalEvent id = option_map_or is_other_event (element_meant file.doc id) false
means_other_event file _ id = false

-- An element has this reference, which stands at the element itself or at a child of it and means no element that it may mean.
pub record IsUnmet (file : ModelFile) (target : Target) (at : ℕ) (id : List ℕ) : Type 0 where
  pub n : ℕ
  pub name : List ℕ
  pub asked : Contains (followed_of (role_at file n)) (followed name target)
  pub among : Contains (references file.doc n name) (at, id)
  pub unmet : IsFalse (is_known file target n id)
