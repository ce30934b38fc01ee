-- What one more entry does to the end of an object, to do steps and to regions left empty.
use Rattle.std.proofs.Common.{◌⊎◌, inl, inr, ℕ, List, [], ◌∷◌, ◌++◌, sym, subst}
use Rattle.std.proofs.lemmas.List.Elements.{Contains-append_left, Contains-push, Contains-push_cases}
use Rattle.pssm_model.specs.declared.ids.VertexId.{VertexId}
use Rattle.pssm_model.specs.declared.ids.RegionId.{RegionId}
use Rattle.pssm_model.specs.declared.ids.TransId.{TransId}
use Rattle.pssm_model.specs.declared.elements.DraftMachine.{DraftMachine}
use Rattle.pssm_model.specs.declared.elements.VertexKind.TheVariants as kinds
use Rattle.pssm_model.specs.Forest.{HasKind}
use Rattle.pssm_model.specs.Configuration.{HasActiveFinal}
use Rattle.pssm_model.specs.Legs.{Enters}
use Rattle.pssm_semantics.specs.declared.entry.ObjectId.{ObjectId}
use Rattle.pssm_semantics.specs.declared.entry.Entry.{Entry}
use Rattle.pssm_semantics.specs.Journal.{EntersAt, ExitsAt, OpensByNone, TouchesRegion, IsLeftEmpty, DoesAt, HasDoneStep, configuration_after}
use Rattle.pssm_semantics.specs.Completion.{EffectsAt, HasTerminated, HasEnded}
use Rattle.pssm_semantics.proofs.Appended.{LastOf-becomes, LastOf-stays, LastOf-was}
use Rattle.pssm_semantics_laws.proofs.Active.{IsActive-stays, IsActive-was}

-- the entry runs the effect of a transition into a terminate vertex
abbrev pub Terminates : DraftMachine → Entry → ObjectId → Type 0
Terminates m e o = (t : TransId) × (v : VertexId) × EffectsAt e o t × Enters m t v × HasKind m v kinds.Terminate

-- A terminated object stays so.
pub HasTerminated-stays : (m : DraftMachine) (J : List Entry) (e : Entry) (o : ObjectId) → HasTerminated m J o → HasTerminated m (J ++ e ∷ []) o
HasTerminated-stays m J e o h = (h.0, h.1, h.2, Contains-append_left J (e ∷ []) h.0 h.3, h.4, h.5, h.6)

-- It terminates by such an effect.
pub HasTerminated-becomes : (m : DraftMachine) (J : List Entry) (e : Entry) (o : ObjectId) → Terminates m e o → HasTerminated m (J ++ e ∷ []) o
HasTerminated-becomes m J e o h = (e, h.0, h.1, Contains-push J e, h.2, h.3, h.4)

-- One or the other.
pub HasTerminated-was : (m : DraftMachine) (J : List Entry) (e : Entry) (o : ObjectId) → HasTerminated m (J ++ e ∷ []) o → HasTerminated m J o ⊎ Terminates m e o
HasTerminated-was m J e o h = elim (Contains-push_cases J e h.0 h.3) [
  | inl k ↦ inl (h.0, h.1, h.2, k, h.4, h.5, h.6)
  | inr k ↦
      let At : Entry → Type 0 = λ x. EffectsAt x o h.1 in
      inr (h.1, h.2, subst At (sym k) h.4, h.5, h.6)
]

-- the entry neither terminates the object nor enters or exits anything of it
pub record SparesEnd (m : DraftMachine) (e : Entry) (o : ObjectId) : Type 0 where
  pub effect : Terminates m e o → ⊥
  pub enters : (s : VertexId) → EntersAt e o s → ⊥
  pub exits : (s : VertexId) → ExitsAt e o s → ⊥

pub HasActiveFinal-stays : (m : DraftMachine) (J : List Entry) (e : Entry) (o : ObjectId) (r : RegionId) → ((s : VertexId) → ExitsAt e o s → ⊥)
    → HasActiveFinal m (configuration_after m J o) r → HasActiveFinal m (configuration_after m (J ++ e ∷ []) o) r
HasActiveFinal-stays m J e o r exits h = (h.0, h.1, h.2, IsActive-stays J e o h.0 h.3 (exits h.0))

pub HasActiveFinal-was : (m : DraftMachine) (J : List Entry) (e : Entry) (o : ObjectId) (r : RegionId) → ((s : VertexId) → EntersAt e o s → ⊥)
    → HasActiveFinal m (configuration_after m (J ++ e ∷ []) o) r → HasActiveFinal m (configuration_after m J o) r
HasActiveFinal-was m J e o r enters h = elim (IsActive-was J e o h.0 h.3) [
  | inl k ↦ absurd (enters h.0 k)
  | inr k ↦ (h.0, h.1, h.2, k.0)
]

-- Such an entry leaves an ended object ended.
pub HasEnded-stays : (m : DraftMachine) (J : List Entry) (e : Entry) (o : ObjectId) → SparesEnd m e o → HasEnded m J o → HasEnded m (J ++ e ∷ []) o
HasEnded-stays m J e o spares h = elim h [
  | inl k ↦ inl (HasTerminated-stays m J e o k)
  | inr k ↦ inr (λ r top. HasActiveFinal-stays m J e o r spares.exits (k r top))
]

-- It ends none.
pub HasEnded-was : (m : DraftMachine) (J : List Entry) (e : Entry) (o : ObjectId) → SparesEnd m e o → HasEnded m (J ++ e ∷ []) o → HasEnded m J o
HasEnded-was m J e o spares h = elim h [
  | inl k ↦ elim (HasTerminated-was m J e o k) [ inl was ↦ inl was | inr now ↦ absurd (spares.effect now) ]
  | inr k ↦ inr (λ r top. HasActiveFinal-was m J e o r spares.enters (k r top))
]

-- A do step is done by its entry.
pub HasDoneStep-becomes : (J : List Entry) (e : Entry) (o : ObjectId) (s : VertexId) (k : ℕ) → DoesAt e o s k → HasDoneStep (J ++ e ∷ []) o s k
HasDoneStep-becomes J e o s k does = LastOf-becomes (λ f. DoesAt f o s k) (λ f. EntersAt f o s → ⊥) J e does

-- It stays done until the State is entered again.
pub HasDoneStep-stays : (J : List Entry) (e : Entry) (o : ObjectId) (s : VertexId) (k : ℕ) → HasDoneStep J o s k → (EntersAt e o s → ⊥) → HasDoneStep (J ++ e ∷ []) o s k
HasDoneStep-stays J e o s k was enters = LastOf-stays (λ f. DoesAt f o s k) (λ f. EntersAt f o s → ⊥) J e was enters

-- One or the other.
pub HasDoneStep-was : (J : List Entry) (e : Entry) (o : ObjectId) (s : VertexId) (k : ℕ) → HasDoneStep (J ++ e ∷ []) o s k
    → DoesAt e o s k ⊎ (HasDoneStep J o s k × (EntersAt e o s → ⊥))
HasDoneStep-was J e o s k now = LastOf-was (λ f. DoesAt f o s k) (λ f. EntersAt f o s → ⊥) J e now

-- A region is left empty by an opening by nothing.
pub IsLeftEmpty-becomes : (m : DraftMachine) (J : List Entry) (e : Entry) (o : ObjectId) (r : RegionId) → OpensByNone e o r → IsLeftEmpty m (J ++ e ∷ []) o r
IsLeftEmpty-becomes m J e o r opens = LastOf-becomes (λ f. OpensByNone f o r) (λ f. TouchesRegion m f o r → ⊥) J e opens

-- It stays so until an entry touches it.
pub IsLeftEmpty-stays : (m : DraftMachine) (J : List Entry) (e : Entry) (o : ObjectId) (r : RegionId) → IsLeftEmpty m J o r → (TouchesRegion m e o r → ⊥)
    → IsLeftEmpty m (J ++ e ∷ []) o r
IsLeftEmpty-stays m J e o r was spares = LastOf-stays (λ f. OpensByNone f o r) (λ f. TouchesRegion m f o r → ⊥) J e was spares

-- One or the other.
pub IsLeftEmpty-was : (m : DraftMachine) (J : List Entry) (e : Entry) (o : ObjectId) (r : RegionId) → IsLeftEmpty m (J ++ e ∷ []) o r
    → OpensByNone e o r ⊎ (IsLeftEmpty m J o r × (TouchesRegion m e o r → ⊥))
IsLeftEmpty-was m J e o r now = LastOf-was (λ f. OpensByNone f o r) (λ f. TouchesRegion m f o r → ⊥) J e now
