-- The rules of redefinition, and which of them an element breaks first.
use Rattle.std.specs.Prelude.{◌≡◌, ◌<◌, ◌⊎◌, ◌↔◌, ℕ, List, [], Contains, IsTrue, Some}
use Rattle.pssm_model.specs.declared.ids.SignalId.{SignalId}
use Rattle.pssm_model.specs.declared.elements.Owner.{Owner}
use Rattle.pssm_model.specs.declared.elements.Owner.TheVariants as owners
use Rattle.pssm_model.specs.declared.draft_setting.ElementRef.{ElementRef}
use Rattle.pssm_model.specs.declared.draft_setting.Draft.{Draft}
use Rattle.pssm_model.specs.declared.draft_setting.PartRegion.{PartRegion}
use Rattle.pssm_model.specs.declared.draft_setting.PartVertex.{PartVertex}
use Rattle.pssm_model.specs.declared.draft_setting.PartTransition.{PartTransition}
use Rattle.pssm_model.specs.declared.draft_setting.End.{End}
use Rattle.pssm_model.specs.declared.draft_setting.End.TheVariants as ends
use Rattle.pssm_model.specs.DraftSettings.{region_of, vertex_of, transition_of, ExtendsFar, IsOrExtends}
use Rattle.pssm_heritage.specs.declared.kinds.ElementKind.{ElementKind}
use Rattle.pssm_heritage.specs.declared.kinds.ElementKind.TheVariants.{Region, Vertex, Transition}
use Rattle.pssm_heritage.specs.declared.kinds.RedefRule.{RedefRule}
use Rattle.pssm_heritage.specs.declared.kinds.RedefRule.TheVariants.{NotInherited, Twice, Leaf, ChangedSource, ChangedTriggers}
use Rattle.pssm_heritage.specs.Elements.{redefined}
use Rattle.pssm_heritage.specs.Becoming.{Became}
use Rattle.pssm_breaches.specs.Forms.{is_leaf, BecameSame, IsLastAbove}

-- ---- inherited at the corresponding place

-- The owners, each in its machine, are one in the flattened machine; the machines themselves are.
abbrev pub SameOwner : Draft → ℕ → Owner → ℕ → Owner → Type 0
SameOwner draft m owners.Top n owners.Top = Unit {0}
SameOwner draft m (owners.Region r) n (owners.Region s) = BecameSame draft Region (record { machine = m; element = r.0 }) (record { machine = n; element = s.0 })
SameOwner draft m (owners.State v) n (owners.State w) = BecameSame draft Vertex (record { machine = m; element = v.0 }) (record { machine = n; element = w.0 })
SameOwner draft m _ n _ = ⊥

-- Regions with owners that are one.
pub record AreSameRegions (draft : Draft) (e f : ElementRef) : Type 0 where
  pub region : PartRegion
  pub other : PartRegion
  pub is : region_of draft e ≡ Some region
  pub is_other : region_of draft f ≡ Some other
  pub owner : SameOwner draft e.machine region.owner f.machine other.owner

-- Vertices of one kind, with owners that are one.
pub record AreSameVertices (draft : Draft) (e f : ElementRef) : Type 0 where
  pub vertex : PartVertex
  pub other : PartVertex
  pub is : vertex_of draft e ≡ Some vertex
  pub is_other : vertex_of draft f ≡ Some other
  pub owner : SameOwner draft e.machine vertex.owner f.machine other.owner
  pub kind : vertex.kind ≡ other.kind

-- The other one stands at the corresponding place; a transition has no owner here (this profile's choice).
abbrev pub AtSamePlace : Draft → ElementKind → ElementRef → ElementRef → Type 0
AtSamePlace draft Region e f = AreSameRegions draft e f
AtSamePlace draft Vertex e f = AreSameVertices draft e f
AtSamePlace draft Transition e f = Unit {0}

-- The element inherits the other one: its machine extends that one's, and it stands at the corresponding place (UML 2.5.1 14.3.3).
pub record IsInherited (draft : Draft) (kind : ElementKind) (e f : ElementRef) : Type 0 where
  pub above : ExtendsFar draft e.machine f.machine
  pub place : AtSamePlace draft kind e f

-- ---- once in a machine, and no leaf

-- An earlier element of its machine became the same.
pub record IsRepeated (draft : Draft) (kind : ElementKind) (e : ElementRef) : Type 0 where
  pub earlier : ElementRef
  pub machine : earlier.machine ≡ e.machine
  pub before : earlier.element < e.element
  pub same : BecameSame draft kind earlier e

-- What it redefines has become a leaf: its last form above the machine is one (UML 2.5.1 9.2.3, isLeaf).
pub record RedefinesLeaf (draft : Draft) (kind : ElementKind) (e : ElementRef) : Type 0 where
  pub first : ElementRef
  pub last : ElementRef
  pub became : Became draft kind e first
  pub is_last : IsLastAbove draft kind e.machine first last
  pub leaf : IsTrue (is_leaf draft kind last)

-- ---- what a transition keeps

-- Both ends are the same vertex of the flattened machine m, or the same end; an end outside of it is none of its vertices (this profile's choice).
abbrev pub AreSameEnds : Draft → ℕ → End → End → Type 0
AreSameEnds draft m (ends.Vertex a) (ends.Vertex b) = (a ≡ b) ⊎ (IsOrExtends draft m a.machine × IsOrExtends draft m b.machine × BecameSame draft Vertex a b)
AreSameEnds draft m _ _ = ⊥

-- The signals are the same, in whatever order.
abbrev pub AreSameSignals : List SignalId → List SignalId → Type 0
AreSameSignals some others = (g : SignalId) → Contains some g ↔ Contains others g

-- A transition as it is, and its first form.
pub record WithFirst (draft : Draft) (e : ElementRef) (Holds : PartTransition → PartTransition → Type 0) : Type 0 where
  pub first : ElementRef
  pub now : PartTransition
  pub then : PartTransition
  pub became : Became draft Transition e first
  pub is : transition_of draft e ≡ Some now
  pub was : transition_of draft first ≡ Some then
  pub holds : Holds now then

-- It keeps its source (UML 2.5.1 14.3.3).
abbrev pub KeepsSource : Draft → ℕ → ElementKind → ElementRef → Type 0
KeepsSource draft m Transition e = WithFirst draft e (λ now then. AreSameEnds draft m now.source then.source)
KeepsSource draft m _ e = Unit {0}

-- It keeps its triggers, or lists none (UML 2.5.1 14.3.3; this profile's choice of none).
abbrev pub KeepsTriggers : Draft → ElementKind → ElementRef → Type 0
KeepsTriggers draft Transition e = WithFirst draft e (λ now then. (now.triggers ≡ []) ⊎ AreSameSignals now.triggers then.triggers)
KeepsTriggers draft _ e = Unit {0}

-- ---- the rules in their order

-- An element that redefines another breaks this rule before all others, where the machine m is flattened.
pub data Breaks (draft : Draft) (m : ℕ) (kind : ElementKind) (e : ElementRef) : RedefRule → Type 0 where
  not_inherited : (f : ElementRef) → redefined draft kind e ≡ Some f → (IsInherited draft kind e f → ⊥) → Breaks draft m kind e NotInherited
  twice : (f : ElementRef) → redefined draft kind e ≡ Some f → IsInherited draft kind e f → IsRepeated draft kind e → Breaks draft m kind e Twice
  leaf : (f : ElementRef) → redefined draft kind e ≡ Some f → IsInherited draft kind e f → (IsRepeated draft kind e → ⊥) → RedefinesLeaf draft kind e
      → Breaks draft m kind e Leaf
  changed_source : (f : ElementRef) → redefined draft kind e ≡ Some f → IsInherited draft kind e f → (IsRepeated draft kind e → ⊥) → (RedefinesLeaf draft kind e → ⊥)
      → (KeepsSource draft m kind e → ⊥) → Breaks draft m kind e ChangedSource
  changed_triggers : (f : ElementRef) → redefined draft kind e ≡ Some f → IsInherited draft kind e f → (IsRepeated draft kind e → ⊥) → (RedefinesLeaf draft kind e → ⊥)
      → KeepsSource draft m kind e → (KeepsTriggers draft kind e → ⊥) → Breaks draft m kind e ChangedTriggers

-- No element of the machine and those that it extends breaks a rule.
abbrev pub BreaksNothing : Draft → ℕ → Type 0
BreaksNothing draft m = (kind : ElementKind) (e : ElementRef) (rule : RedefRule) → IsOrExtends draft m e.machine → Breaks draft m kind e rule → ⊥
