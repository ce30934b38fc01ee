-- By one entry at most one State becomes complete: the one that the entry's item may make complete.
use Rattle.std.proofs.Common.{◌≡◌, ◌≢◌, ◌⊎◌, ◌++◌, ◌∙◌, ℕ, List, [], ◌∷◌, Option, Some, None, refl, sym, ap, subst, inl, inr, ⊎_elim}
use Rattle.std.proofs.lemmas.Bool.{cases_eq}
use Rattle.pssm_model.specs.declared.ids.VertexId.{VertexId}
use Rattle.pssm_model.specs.declared.ids.RegionId.{RegionId}
use Rattle.pssm_model.specs.declared.elements.DraftMachine.{DraftMachine}
use Rattle.pssm_model.specs.declared.elements.VertexKind.TheVariants as kinds
use Rattle.pssm_model.specs.declared.elements.Owner.TheVariants.{Region, State}
use Rattle.pssm_model.specs.declared.steps.How.TheVariants.{By, Restore, Nothing}
use Rattle.pssm_model.specs.declared.steps.Item.TheVariants as items
use Rattle.pssm_model.specs.Forest.{owner_of, HasKind}
use Rattle.pssm_model.specs.Configuration.{Configuration, IsFinished, IsComplete}
use Rattle.pssm_model.specs.Changes.{Agree, entered, exited, opened_none, opened_way, did_step}
use Rattle.pssm_object.proofs.Agreeing.{complete_too}
use Rattle.pssm_model.proofs.ElementLaws.{same_vertex}
use Rattle.pssm_semantics.specs.declared.entry.ObjectId.{ObjectId}
use Rattle.pssm_semantics.specs.declared.entry.Entry.{Entry}
use Rattle.pssm_semantics.specs.declared.entry.Entry.TheVariants.{Post, Start, Take, Done, Exit, Effect, Enter, Opened, Pick, DoStep}
use Rattle.pssm_semantics.specs.Journal.{EntersAt, ExitsAt, object_of, configuration_after}
use Rattle.pssm_semantics.specs.Completion.{DonesAt, BecomesComplete}
use Rattle.pssm_object.proofs.Configurations.{changed_by, configuration-changed}
use Rattle.pssm_object.specs.inner.Queueing.{state_of, owner_above, completing_by_kind, completing}

-- the State that an entry may make complete, and the one that it takes out of the queue
abbrev pub completes_of : DraftMachine → Entry → Option VertexId
completes_of m (Enter o s outs) = completing m (items.Enter s) Nothing
completes_of m (Opened o r mode how) = completing m (items.Opened r mode) how
completes_of m (DoStep o s k outs) = Some s
completes_of m _ = None

abbrev pub leaves_of : Entry → Option VertexId
leaves_of (Exit o s outs) = Some s
leaves_of (Enter o s outs) = Some s
leaves_of (Done o s firing) = Some s
leaves_of _ = None

-- two vertices are one or not, and an option names the vertex or not
pub one_or_other : (v s : VertexId) → (v ≡ s) ⊎ (v ≢ s)
one_or_other v s = ⊎_elim (λ same. inl (same_vertex v s same)) (λ apart. inr (λ is. apart (ap (λ (x : VertexId). x.0) is))) (cases_eq v.0 s.0)

pub names_or_not : (x : Option VertexId) (s : VertexId) → (x ≡ Some s) ⊎ (x ≡ Some s → ⊥)
names_or_not None s = inr (λ is. cc)
names_or_not (Some v) s = ⊎_elim (λ same. inl (ap (λ (q : VertexId). Some q) same)) (λ apart. inr (λ is. apart (cc))) (one_or_other v s)

-- a State is complete in another configuration, where it is active, its steps are done and its regions are finished as well
module _ (m : DraftMachine) (a b : Configuration) (s : VertexId) (h : IsComplete m a s) where
  complete_as : b.Active s → ((k : ℕ) → a.HasDoneStep s k → b.HasDoneStep s k)
      → ((r : RegionId) → owner_of m (Region r) ≡ Some (State s) → IsFinished m a r → IsFinished m b r) → IsComplete m b s
  complete_as active stepped finished = record {
    state = h.state;
    active = active;
    stepped = λ k lt. stepped k (h.stepped k lt);
    finished = λ r owner. finished r owner (h.finished r owner);
  }

module _ (m : DraftMachine) (was : Configuration) (s : VertexId) where
  -- an exit and an opening by some way make no State complete
  by_exit : (v : VertexId) → IsComplete m (exited m was v) s → IsComplete m was s
  by_exit v h = complete_as m (exited m was v) was s h h.active.1 (λ k done. done) finished where
    finished : (r : RegionId) → owner_of m (Region r) ≡ Some (State s) → IsFinished m (exited m was v) r → IsFinished m was r
    finished r owner (inl (f, owns, final, active)) = inl (f, owns, final, active.1)
    finished r owner (inr empty) = inr empty.0

  by_opening : (q : RegionId) → IsComplete m (opened_way was q) s → IsComplete m was s
  by_opening q h = complete_as m (opened_way was q) was s h h.active (λ k done. done) finished where
    finished : (r : RegionId) → owner_of m (Region r) ≡ Some (State s) → IsFinished m (opened_way was q) r → IsFinished m was r
    finished r owner (inl final) = inl final
    finished r owner (inr empty) = inr empty.1

  -- an opening by none makes no State complete but the one that owns the region
  by_none : (q : RegionId) → (state_of (owner_of m (Region q)) ≡ Some s → ⊥) → IsComplete m (opened_none was q) s → IsComplete m was s
  by_none q other h = complete_as m (opened_none was q) was s h h.active (λ k done. done) finished where
    finished : (r : RegionId) → owner_of m (Region r) ≡ Some (State s) → IsFinished m (opened_none was q) r → IsFinished m was r
    finished r owner (inl final) = inl final
    finished r owner (inr (inl same)) =
        absurd (other (ap state_of (subst (λ (x : RegionId). owner_of m (Region x) ≡ Some (State s)) same owner)))
    finished r owner (inr (inr empty)) = inr empty

  -- a do step makes no other State complete
  by_step : (v : VertexId) (j : ℕ) → (v ≡ s → ⊥) → IsComplete m (did_step was v j) s → IsComplete m was s
  by_step v j other h = complete_as m (did_step was v j) was s h h.active done (λ r owner finished. finished) where
    done : (k : ℕ) → (did_step was v j).HasDoneStep s k → was.HasDoneStep s k
    done k (inl same) = absurd (other (sym same.0))
    done k (inr before) = before

  -- the entry of a vertex makes no State complete but itself, or the one that owns its region where it is final
  final_completes : (v f : VertexId) (r : RegionId) → owner_of m (Region r) ≡ Some (State s) → owner_of m (State f) ≡ Some (Region r)
      → HasKind m f kinds.Final → f ≡ v → completing m (items.Enter v) Nothing ≡ Some s
  final_completes v f r owner owns final same =
      let kind : HasKind m v kinds.Final = subst (λ x. HasKind m x kinds.Final) same final in
      let home : owner_of m (State v) ≡ Some (Region r) = subst (λ (x : VertexId). owner_of m (State x) ≡ Some (Region r)) same owns in
      ap (completing_by_kind m v) kind ∙ ap (owner_above m) home ∙ ap state_of owner

  by_entry : (v : VertexId) → (v ≡ s → ⊥) → (completing m (items.Enter v) Nothing ≡ Some s → ⊥) → IsComplete m (entered m was v) s → IsComplete m was s
  by_entry v apart other h = complete_as m (entered m was v) was s h (active h.active) (λ k done. done.1) finished where
    active : (s ≡ v) ⊎ was.Active s → was.Active s
    active (inl same) = absurd (apart (sym same))
    active (inr before) = before

    finished : (r : RegionId) → owner_of m (Region r) ≡ Some (State s) → IsFinished m (entered m was v) r → IsFinished m was r
    finished r owner (inl (f, owns, final, inl same)) = absurd (other (final_completes v f r owner owns final same))
    finished r owner (inl (f, owns, final, inr before)) = inl (f, owns, final, before)
    finished r owner (inr empty) = inr empty.0

  -- a State that is entered is itself the one that may become complete
  itself : (v : VertexId) → v ≡ s → HasKind m s kinds.State → completing m (items.Enter v) Nothing ≡ Some s
  itself v same state = subst (λ x. completing m (items.Enter x) Nothing ≡ Some s) (sym same) (ap (completing_by_kind m s) state)

  entry_completes : (v : VertexId) → IsComplete m (entered m was v) s → (IsComplete m was s → ⊥) ⊎ (v ≡ s) → completing m (items.Enter v) Nothing ≡ Some s
  entry_completes v h (inr same) = itself v same h.state
  entry_completes v h (inl new) =
      ⊎_elim
      (λ same. itself v same h.state)
      (λ apart. ⊎_elim (λ is. is) (λ other. absurd (new (by_entry v apart other h))) (names_or_not (completing m (items.Enter v) Nothing) s))
      (one_or_other v s)

  opening_completes : (q : RegionId) → IsComplete m (opened_none was q) s → (IsComplete m was s → ⊥) → state_of (owner_of m (Region q)) ≡ Some s
  opening_completes q h new = ⊎_elim (λ is. is) (λ other. absurd (new (by_none q other h))) (names_or_not (state_of (owner_of m (Region q))) s)

  step_completes : (v : VertexId) (j : ℕ) → IsComplete m (did_step was v j) s → (IsComplete m was s → ⊥) → Some v ≡ Some s
  step_completes v j h new =
      ⊎_elim (λ same. ap (λ (x : VertexId). Some x) same) (λ other. absurd (new (by_step v j other h))) (one_or_other v s)

  -- what does not change makes nothing complete
  nothing_new : {P : Type 0} → IsComplete m was s → (IsComplete m was s → ⊥) ⊎ ⊥ → P
  nothing_new h (inl new) = absurd (new h)
  nothing_new h (inr none) = absurd none

  newly : {P : Type 0} → (IsComplete m was s → ⊥) ⊎ ⊥ → ((IsComplete m was s → ⊥) → P) → P
  newly (inl new) p = p new
  newly (inr none) p = absurd none

  pub entry_may : (e : Entry) → IsComplete m (changed_by m was e) s → (IsComplete m was s → ⊥) ⊎ EntersAt e (object_of e) s → completes_of m e ≡ Some s
  entry_may (Enter o v outs) h (inl new) = entry_completes v h (inl new)
  entry_may (Enter o v outs) h (inr enters) = entry_completes v h (inr enters.1)
  entry_may (Opened o r mode Nothing) h new = newly new (opening_completes r h)
  entry_may (Opened o r mode (By route)) h new = nothing_new (by_opening r h) new
  entry_may (Opened o r mode (Restore v)) h new = nothing_new (by_opening r h) new
  entry_may (DoStep o v k outs) h new = newly new (step_completes v k h)
  entry_may (Exit o v outs) h new = nothing_new (by_exit v h) new
  entry_may (Post o g args) h new = nothing_new h new
  entry_may (Start o) h new = nothing_new h new
  entry_may (Take o n firing) h new = nothing_new h new
  entry_may (Done o v firing) h new = nothing_new h new
  entry_may (Effect o t outs) h new = nothing_new h new
  entry_may (Pick o c route) h new = nothing_new h new

-- the State that becomes complete by an entry is the one that the entry may make complete
pub becomes_by : (m : DraftMachine) (J : List Entry) (e : Entry) (o : ObjectId) (s : VertexId) → object_of e ≡ o → BecomesComplete m J e o s
    → completes_of m e ≡ Some s
becomes_by m J e o s own =
    subst (λ q. BecomesComplete m J e q s → completes_of m e ≡ Some s) own (λ h.
    let was = configuration_after m J (object_of e) in
    let now = configuration_after m (J ++ e ∷ []) (object_of e) in
    entry_may m was s e (complete_too now (changed_by m was e) (configuration-changed m J e) m s h.0) h.1)

-- by an entry that leaves the configuration as it is none becomes so
pub none_becomes : (m : DraftMachine) (J : List Entry) (e : Entry) (o : ObjectId) (s : VertexId)
    → Agree (configuration_after m (J ++ e ∷ []) o) (configuration_after m J o) → (EntersAt e o s → ⊥) → BecomesComplete m J e o s → ⊥
none_becomes m J e o s same none (h, inl new) =
    new (complete_too (configuration_after m (J ++ e ∷ []) o) (configuration_after m J o) same m s h)
none_becomes m J e o s same none (h, inr enters) = none enters

-- what an entry takes out of the queue is what it enters, exits or dispatches
same_some : (v s : VertexId) → Some v ≡ Some s → v ≡ s
same_some v s is = cc

pub leaves_at : (e : Entry) (s : VertexId) → leaves_of e ≡ Some s → EntersAt e (object_of e) s ⊎ ExitsAt e (object_of e) s ⊎ DonesAt e (object_of e) s
leaves_at (Exit o v outs) s is = inr (inl (refl, same_some v s is))
leaves_at (Enter o v outs) s is = inl (refl, same_some v s is)
leaves_at (Done o v firing) s is = inr (inr (refl, same_some v s is))
leaves_at (Post o g args) s is = absurd (cc)
leaves_at (Start o) s is = absurd (cc)
leaves_at (Take o n firing) s is = absurd (cc)
leaves_at (Effect o t outs) s is = absurd (cc)
leaves_at (Opened o r mode how) s is = absurd (cc)
leaves_at (Pick o c route) s is = absurd (cc)
leaves_at (DoStep o v k outs) s is = absurd (cc)

as_some : (v s : VertexId) → v ≡ s → Some v ≡ Some s
as_some v s is = ap (λ (x : VertexId). Some x) is

pub enters_leaves : (e : Entry) (o : ObjectId) (s : VertexId) → EntersAt e o s → leaves_of e ≡ Some s
enters_leaves (Enter p v outs) o s h = as_some v s h.1
enters_leaves (Exit p v outs) o s h = absurd h
enters_leaves (Done p v firing) o s h = absurd h
enters_leaves (Post p g args) o s h = absurd h
enters_leaves (Start p) o s h = absurd h
enters_leaves (Take p n firing) o s h = absurd h
enters_leaves (Effect p t outs) o s h = absurd h
enters_leaves (Opened p r mode how) o s h = absurd h
enters_leaves (Pick p c route) o s h = absurd h
enters_leaves (DoStep p v k outs) o s h = absurd h

pub exits_leaves : (e : Entry) (o : ObjectId) (s : VertexId) → ExitsAt e o s → leaves_of e ≡ Some s
exits_leaves (Exit p v outs) o s h = as_some v s h.1
exits_leaves (Enter p v outs) o s h = absurd h
exits_leaves (Done p v firing) o s h = absurd h
exits_leaves (Post p g args) o s h = absurd h
exits_leaves (Start p) o s h = absurd h
exits_leaves (Take p n firing) o s h = absurd h
exits_leaves (Effect p t outs) o s h = absurd h
exits_leaves (Opened p r mode how) o s h = absurd h
exits_leaves (Pick p c route) o s h = absurd h
exits_leaves (DoStep p v k outs) o s h = absurd h

pub dones_leaves : (e : Entry) (o : ObjectId) (s : VertexId) → DonesAt e o s → leaves_of e ≡ Some s
dones_leaves (Done p v firing) o s h = as_some v s h.1
dones_leaves (Enter p v outs) o s h = absurd h
dones_leaves (Exit p v outs) o s h = absurd h
dones_leaves (Post p g args) o s h = absurd h
dones_leaves (Start p) o s h = absurd h
dones_leaves (Take p n firing) o s h = absurd h
dones_leaves (Effect p t outs) o s h = absurd h
dones_leaves (Opened p r mode how) o s h = absurd h
dones_leaves (Pick p c route) o s h = absurd h
dones_leaves (DoStep p v k outs) o s h = absurd h

-- a State that leaves the queue by an entry that may make it complete is entered
pub leaves_entered : (m : DraftMachine) (e : Entry) (s : VertexId) → leaves_of e ≡ Some s → completes_of m e ≡ Some s → EntersAt e (object_of e) s
leaves_entered m (Enter o v outs) s leaves completes = (refl, same_some v s leaves)
leaves_entered m (Exit o v outs) s leaves completes = absurd (cc)
leaves_entered m (Done o v firing) s leaves completes = absurd (cc)
leaves_entered m (Post o g args) s leaves completes = absurd (cc)
leaves_entered m (Start o) s leaves completes = absurd (cc)
leaves_entered m (Take o n firing) s leaves completes = absurd (cc)
leaves_entered m (Effect o t outs) s leaves completes = absurd (cc)
leaves_entered m (Opened o r mode how) s leaves completes = absurd (cc)
leaves_entered m (Pick o c route) s leaves completes = absurd (cc)
leaves_entered m (DoStep o v k outs) s leaves completes = absurd (cc)
