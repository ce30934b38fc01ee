-- What is wrong with each element of a model file before references are followed: the faults of the first pass (this profile's choice).
use Rattle.std.specs.Prelude.{◌≡◌, ◌≢◌, ◌⊎◌, ◌<◌, ◌+◌, ℕ, Bool, false, List, [], ◌∷◌, ◌++◌, map, length, codes, None, IsTrue, slice_get, nat_lt, ℤ}
use Rattle.std.specs.List.{list_any}
use Rattle.std.specs.Option.{option_map_or}
use Rattle.pssm_xml.specs.Documents.{Element}
use Rattle.pssm_xml.specs.Elements.{HasNoValue, HasValue, IsParent, children}
use Rattle.pssm_roles.specs.Ids.{RepeatsId}
use Rattle.pssm_roles.specs.Roles.{HasRole, is_read, needs_id, is_typed}
use Rattle.pssm_roles.specs.declared.role.Role.{Role}
use Rattle.pssm_roles.specs.declared.role.Role.TheVariants as role
use Rattle.pssm_values.specs.Bodies.{behaviour_text}
use Rattle.pssm_values.specs.Integers.{SaysInteger}
use Rattle.pssm_values.specs.Kinds.{pseudostate_said, transition_said}
use Rattle.pssm_values.specs.Truths.{truth_said}
use Rattle.pssm_profile.specs.Counts.{said, held, RefersToNothing, references_count, children_count, guards_count}
use Rattle.pssm_profile.specs.Kinds.{Kind, signals, classes, objects, IsOfKind, IsVariable, IsDefaultOfVariable, StandBefore, name_of}
use Rattle.pssm_profile.specs.declared.flaw.Flaw.{Flaw}
use Rattle.pssm_profile.specs.declared.flaw.Flaw.TheVariants as flaws
use Rattle.pssm_profile.specs.declared.flaw.Unread.{Unread}
use Rattle.pssm_profile.specs.declared.flaw.Unread.TheVariants as unread
use Rattle.pssm_profile.specs.declared.flaw.Owed.{Owed}
use Rattle.pssm_profile.specs.declared.flaw.Owed.TheVariants as owed

-- ---- which elements are asked

-- The element of this role is read: its role is, and where it is an attribute of a class or the default of one, the attribute is a variable.
abbrev pub IsRead : List Element → ℕ → Role → Type 0
IsRead doc n role.Attribute = IsVariable doc n
IsRead doc n role.Default = IsDefaultOfVariable doc n
IsRead doc n r = HasRole doc n r × IsTrue (is_read r)

-- a State or a final State, whose roles are the same
abbrev pub IsState : Role → Type 0
IsState role.State = Unit {0}
IsState role.FinalState = Unit {0}
IsState _ = ⊥

-- a behaviour or an expression, which has languages and bodies
abbrev pub HasText : Role → Type 0
HasText role.Behaviour = Unit {0}
HasText role.Expression = Unit {0}
HasText _ = ⊥

-- ---- where one can be, and one must be

-- how many references of a name an element has, and how many children
abbrev pub counts_of_class : List Element → ℕ → List ℕ
counts_of_class doc n = references_count doc n (codes "classifierBehavior") ∷ []

abbrev pub counts_of_machine : List Element → ℕ → List ℕ
counts_of_machine doc n = references_count doc n (codes "extendedStateMachine") ∷ []

-- `redefinedState` and `redefinedVertex` count together
abbrev pub counts_of_state : List Element → ℕ → List ℕ
counts_of_state doc n =
    (references_count doc n (codes "redefinedState") + references_count doc n (codes "redefinedVertex"))
    ∷ children_count doc n (codes "entry") ∷ children_count doc n (codes "exit") ∷ children_count doc n (codes "doActivity") ∷ []

abbrev pub counts_of_transition : List Element → ℕ → List ℕ
counts_of_transition doc n =
    references_count doc n (codes "source") ∷ references_count doc n (codes "target") ∷ guards_count doc n
    ∷ children_count doc n (codes "effect") ∷ references_count doc n (codes "redefinedTransition") ∷ []

-- how many stand at an element of this role in each place where one can be
abbrev pub counts_at : List Element → ℕ → Role → List ℕ
counts_at doc n role.ActiveClass = counts_of_class doc n
counts_at doc n role.OtherClass = counts_of_class doc n
counts_at doc n role.ClassMachine = counts_of_class doc n ++ counts_of_machine doc n
counts_at doc n role.Machine = counts_of_machine doc n
counts_at doc n role.Region = references_count doc n (codes "extendedRegion") ∷ []
counts_at doc n role.State = counts_of_state doc n
counts_at doc n role.FinalState = counts_of_state doc n
counts_at doc n role.Transition = counts_of_transition doc n
counts_at doc n role.Trigger = references_count doc n (codes "event") ∷ []
counts_at doc n role.SignalEvent = references_count doc n (codes "signal") ∷ []
counts_at doc n role.Instance = references_count doc n (codes "classifier") ∷ []
counts_at doc n role.Guard = children_count doc n (codes "specification") ∷ []
counts_at doc n role.Attribute = children_count doc n (codes "defaultValue") ∷ []
counts_at doc n _ = []

-- More than one stands where one can be.
abbrev pub has_several : List Element → ℕ → Role → Bool
has_several doc n r = list_any (nat_lt 1) (counts_at doc n r)

-- It has no `xmi:id`, or an empty one, which is none (this profile's choice).
abbrev pub LacksId : List Element → ℕ → Type 0
LacksId doc n = HasNoValue doc n (codes "xmi:id") ⊎ HasValue doc n (codes "xmi:id") []

-- An element of this role lacks what it needs: it owes this. Of a class that is not active no id is asked.
abbrev pub Lacks : List Element → ℕ → Role → Owed → Type 0
Lacks doc n r owed.Type = (r ≡ role.OtherVertex) × HasNoValue doc n (codes "xmi:type")
Lacks doc n r owed.Source = (r ≡ role.Transition) × RefersToNothing doc n (codes "source")
Lacks doc n r owed.Target = (r ≡ role.Transition) × RefersToNothing doc n (codes "target")
Lacks doc n r owed.Event = (r ≡ role.Trigger) × RefersToNothing doc n (codes "event")
Lacks doc n r owed.Signal = (r ≡ role.SignalEvent) × RefersToNothing doc n (codes "signal")
Lacks doc n r owed.Id = IsTrue (needs_id r) × LacksId doc n

-- ---- what the values say

-- The kind of a pseudostate spells none.
abbrev pub NoPseudostateKind : List Element → ℕ → Type 0
NoPseudostateKind doc n = pseudostate_said (said doc n (codes "kind")) ≡ None

-- The kind of a transition spells none.
abbrev pub NoTransitionKind : List Element → ℕ → Type 0
NoTransitionKind doc n = transition_said (said doc n (codes "kind")) ≡ None

-- The attribute of this name spells no truth value.
abbrev pub NoTruth : List Element → ℕ → List ℕ → Type 0
NoTruth doc n name = truth_said (said doc n name) ≡ None

-- The element is of the type of integers, and spells none; of several defaults those are asked that are integers.
abbrev pub NoInteger : List Element → ℕ → Type 0
NoInteger doc n =
    IsTrue (option_map_or (is_typed (codes "uml:LiteralInteger")) (slice_get doc n) false) × ((i : ℤ) → SaysInteger (said doc n (codes "value")) i → ⊥)

-- A value of an element of this role spells none of those that can stand there.
abbrev pub HasBadValue : List Element → ℕ → Role → Type 0
HasBadValue doc n role.Pseudostate = NoPseudostateKind doc n
HasBadValue doc n role.ConnectionPoint = NoPseudostateKind doc n
HasBadValue doc n role.Transition = NoTransitionKind doc n ⊎ NoTruth doc n (codes "isLeaf")
HasBadValue doc n role.State = NoTruth doc n (codes "isLeaf")
HasBadValue doc n role.FinalState = NoTruth doc n (codes "isLeaf")
HasBadValue doc n role.ActiveClass = NoTruth doc n (codes "isAbstract")
HasBadValue doc n role.ClassMachine = NoTruth doc n (codes "isAbstract")
HasBadValue doc n role.Literal = NoTruth doc n (codes "value")
HasBadValue doc n role.Default = NoInteger doc n
HasBadValue doc n _ = ⊥

-- The texts of the children of this name.
abbrev pub texts : List Element → ℕ → List ℕ → List (List ℕ)
texts doc n name = map (λ (e : Element). e.text) (children doc n name)

-- An element of this role is of a type that is not read. A subvertex without a type lacks one.
abbrev pub IsOfOtherType : List Element → ℕ → Role → Type 0
IsOfOtherType doc n role.OtherVertex = (type : List ℕ) × HasValue doc n (codes "xmi:type") type
IsOfOtherType doc n role.OtherBehaviour = Unit {0}
IsOfOtherType doc n role.OtherValue = Unit {0}
IsOfOtherType doc n _ = ⊥

-- ---- how many there are

-- how many of a kind a file may have
abbrev pub at_most : Kind → ℕ
at_most signals = 256
at_most classes = 64
at_most objects = 64

-- an attribute of the same signal
abbrev pub IsParameterOf : List Element → ℕ → ℕ → Type 0
IsParameterOf doc signal n = HasRole doc n role.Parameter × IsParent doc signal n

-- With this element there are more than there can be, and without it there are not: as many as there can be stand before it.
pub data PassesLimit (doc : List Element) (n : ℕ) : Type 0 where
  kind : (k : Kind) → IsOfKind doc k n → StandBefore (IsOfKind doc k) n (at_most k) → PassesLimit doc n
  parameters : (signal : ℕ) → IsParameterOf doc signal n → StandBefore (IsParameterOf doc signal) n 8 → PassesLimit doc n

-- ---- what is wrong

-- An element before it of the same kind has its name.
pub record RepeatsName (doc : List Element) (n : ℕ) : Type 0 where
  pub kind : Kind
  pub of : IsOfKind doc kind n
  pub earlier : ℕ
  pub before : earlier < n
  pub same : IsOfKind doc kind earlier × (name_of doc earlier ≡ name_of doc n)

-- The root is no model and no package, or it is `xmi:XMI` around a number of these that is not one.
abbrev pub IsOtherRoot : List Element → ℕ → Role → Type 0
IsOtherRoot doc n role.OtherRoot = Unit {0}
IsOtherRoot doc n role.Wrapper = children_count doc n (codes "uml:Model") + children_count doc n (codes "uml:Package") ≢ 1
IsOtherRoot doc n _ = ⊥

-- It is read, or it is a rule that no guard names, which needs its id and may have no address either.
abbrev pub IsReadOrIdle : List Element → ℕ → Role → Type 0
IsReadOrIdle doc n r = IsRead doc n r ⊎ (r ≡ role.IdleRule)

-- The element stands for one in another file; the root is no child.
abbrev pub StandsElsewhere : List Element → ℕ → Type 0
StandsElsewhere doc n = ((parent : ℕ) × IsParent doc parent n) × ((address : List ℕ) × HasValue doc n (codes "href") address)

-- It has a submachine or a connection.
abbrev pub HasSubmachine : List Element → ℕ → Type 0
HasSubmachine doc n =
    0 < held doc n (codes "submachine") + children_count doc n (codes "submachine") + children_count doc n (codes "connection")

-- Its texts are in a language that is not read.
abbrev pub NoText : List Element → ℕ → Type 0
NoText doc n = behaviour_text (texts doc n (codes "language")) (texts doc n (codes "body")) ≡ None

-- Why an element of this role is not read. Whether what a trigger names is an event that is not read is asked where references are followed.
abbrev pub IsUnread : List Element → ℕ → Role → Unread → Type 0
IsUnread doc n r unread.Root = IsOtherRoot doc n r
IsUnread doc n r unread.Href = IsReadOrIdle doc n r × StandsElsewhere doc n
IsUnread doc n r unread.Submachine = IsRead doc n r × IsState r × HasSubmachine doc n
IsUnread doc n r unread.Event = ⊥
IsUnread doc n r unread.OtherType = IsRead doc n r × IsOfOtherType doc n r
IsUnread doc n r unread.Several = IsRead doc n r × IsTrue (has_several doc n r)
IsUnread doc n r unread.Language = IsRead doc n r × HasText r × NoText doc n
IsUnread doc n r unread.DoubleName = RepeatsName doc n
IsUnread doc n r unread.LongName = (kind : Kind) × IsOfKind doc kind n × (64 < length (name_of doc n))
IsUnread doc n r unread.Value = IsRead doc n r × HasBadValue doc n r
IsUnread doc n r unread.TooMany = PassesLimit doc n

-- What is wrong with an element of this role. A doubled id is asked of every element, and all else of what is read.
abbrev pub IsFlawOf : List Element → ℕ → Role → Flaw → Type 0
IsFlawOf doc n r flaws.DoubleId = RepeatsId doc n
IsFlawOf doc n r (flaws.Unsupported why) = IsUnread doc n r why
IsFlawOf doc n r (flaws.Missing what) = IsReadOrIdle doc n r × Lacks doc n r what

-- What is wrong with the element.
pub data HasFlaw (doc : List Element) (n : ℕ) (flaw : Flaw) : Type 0 where
  by_role : (r : Role) → HasRole doc n r → IsFlawOf doc n r flaw → HasFlaw doc n flaw
