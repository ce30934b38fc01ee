-- What one more entry at the end of a journal does to the active States and to the memories.
use Rattle.std.proofs.Common.{◌⊎◌, inl, inr, List, [], ◌∷◌, ◌++◌}
use Rattle.pssm_model.specs.declared.ids.VertexId.{VertexId}
use Rattle.pssm_model.specs.declared.ids.RegionId.{RegionId}
use Rattle.pssm_model.specs.declared.elements.DraftMachine.{DraftMachine}
use Rattle.pssm_model.specs.Configuration.{IsDirect}
use Rattle.pssm_semantics.specs.declared.entry.ObjectId.{ObjectId}
use Rattle.pssm_semantics.specs.declared.entry.Entry.{Entry}
use Rattle.pssm_semantics.specs.declared.entry.Entry.TheVariants.{Post, Start, Take, Done, Exit, Effect, Enter, Opened, Pick, DoStep}
use Rattle.pssm_semantics.specs.Journal.{EntersAt, ExitsAt, IsActive, IsMemory}
use Rattle.pssm_semantics.proofs.Appended.{LastOf, LastOf-nil, LastOf-becomes, LastOf-stays, LastOf-was}

-- Nothing is active before the first entry.
pub IsActive-nil : (o : ObjectId) (s : VertexId) → IsActive [] o s → ⊥
IsActive-nil o s h = LastOf-nil (λ e. EntersAt e o s) (λ e. ExitsAt e o s → ⊥) h

-- A State is active after its entry.
pub IsActive-entered : (J : List Entry) (e : Entry) (o : ObjectId) (s : VertexId) → EntersAt e o s → IsActive (J ++ e ∷ []) o s
IsActive-entered J e o s enters = LastOf-becomes (λ e. EntersAt e o s) (λ e. ExitsAt e o s → ⊥) J e enters

-- It stays active until an entry exits it.
pub IsActive-stays : (J : List Entry) (e : Entry) (o : ObjectId) (s : VertexId) → IsActive J o s → (ExitsAt e o s → ⊥) → IsActive (J ++ e ∷ []) o s
IsActive-stays J e o s active stays = LastOf-stays (λ e. EntersAt e o s) (λ e. ExitsAt e o s → ⊥) J e active stays

-- A State that is active after an entry was entered by it, or was active and is not exited by it.
pub IsActive-was : (J : List Entry) (e : Entry) (o : ObjectId) (s : VertexId) → IsActive (J ++ e ∷ []) o s
    → EntersAt e o s ⊎ (IsActive J o s × (ExitsAt e o s → ⊥))
IsActive-was J e o s active = LastOf-was (λ e. EntersAt e o s) (λ e. ExitsAt e o s → ⊥) J e active

-- No entry enters one State and exits another.
pub enters_or_exits : (e : Entry) (o q : ObjectId) (s r : VertexId) → EntersAt e o s → ExitsAt e q r → ⊥
enters_or_exits (Enter p t outs) o q s r enters exits = exits
enters_or_exits (Post p signal args) o q s r enters exits = enters
enters_or_exits (Start p) o q s r enters exits = enters
enters_or_exits (Take p number firing) o q s r enters exits = enters
enters_or_exits (Done p t firing) o q s r enters exits = enters
enters_or_exits (Exit p t outs) o q s r enters exits = enters
enters_or_exits (Effect p t outs) o q s r enters exits = enters
enters_or_exits (Opened p r' mode how) o q s r enters exits = enters
enters_or_exits (Pick p c route) o q s r enters exits = enters
enters_or_exits (DoStep p t step outs) o q s r enters exits = enters

-- A State is not active after its exit.
pub IsActive-exited : (J : List Entry) (e : Entry) (o : ObjectId) (s : VertexId) → ExitsAt e o s → IsActive (J ++ e ∷ []) o s → ⊥
IsActive-exited J e o s exits active = elim (IsActive-was J e o s active) [
  | inl enters ↦ enters_or_exits e o o s s enters exits
  | inr was ↦ was.1 exits
]

-- the entry exits this direct vertex of the region
abbrev ExitsDirect : DraftMachine → ObjectId → RegionId → VertexId → Entry → Type 0
ExitsDirect m o r s e = ExitsAt e o s × IsDirect m s r

-- the entry exits no direct vertex of the region
abbrev pub SparesRegion : DraftMachine → ObjectId → RegionId → Entry → Type 0
SparesRegion m o r e = (q : VertexId) → IsDirect m q r → ExitsAt e o q → ⊥

-- Nothing is remembered before the first entry.
pub IsMemory-nil : (m : DraftMachine) (o : ObjectId) (r : RegionId) (s : VertexId) → IsMemory m [] o r s → ⊥
IsMemory-nil m o r s h = LastOf-nil (ExitsDirect m o r s) (SparesRegion m o r) (h.0, h.1, h.2, h.3, (h.4, h.5), h.6)

-- A direct vertex of the region is remembered after its exit.
pub IsMemory-exited : (m : DraftMachine) (J : List Entry) (e : Entry) (o : ObjectId) (r : RegionId) (s : VertexId)
    → ExitsAt e o s → IsDirect m s r → IsMemory m (J ++ e ∷ []) o r s
IsMemory-exited m J e o r s exits direct =
    let h : LastOf (ExitsDirect m o r s) (SparesRegion m o r) (J ++ e ∷ []) = LastOf-becomes (ExitsDirect m o r s) (SparesRegion m o r) J e (exits, direct) in
    (h.0, h.1, h.2, h.3, h.4.0, h.4.1, h.5)

-- It stays remembered until an entry exits a direct vertex of the region.
pub IsMemory-stays : (m : DraftMachine) (J : List Entry) (e : Entry) (o : ObjectId) (r : RegionId) (s : VertexId)
    → IsMemory m J o r s → SparesRegion m o r e → IsMemory m (J ++ e ∷ []) o r s
IsMemory-stays m J e o r s was spares =
    let h : LastOf (ExitsDirect m o r s) (SparesRegion m o r) (J ++ e ∷ []) =
    LastOf-stays (ExitsDirect m o r s) (SparesRegion m o r) J e (was.0, was.1, was.2, was.3, (was.4, was.5), was.6) spares in
    (h.0, h.1, h.2, h.3, h.4.0, h.4.1, h.5)

-- What is remembered after an entry was exited by it, or was remembered and the entry exits no direct vertex of the region.
pub IsMemory-was : (m : DraftMachine) (J : List Entry) (e : Entry) (o : ObjectId) (r : RegionId) (s : VertexId) → IsMemory m (J ++ e ∷ []) o r s
    → (ExitsAt e o s × IsDirect m s r) ⊎ (IsMemory m J o r s × SparesRegion m o r e)
IsMemory-was m J e o r s now =
    elim (LastOf-was (ExitsDirect m o r s) (SparesRegion m o r) J e (now.0, now.1, now.2, now.3, (now.4, now.5), now.6)) [
      | inl h ↦ inl h
      | inr h ↦ inr ((h.0.0, h.0.1, h.0.2, h.0.3, h.0.4.0, h.0.4.1, h.0.5), h.1)
    ]
