-- What one more entry at the end of a journal does to the configuration of an object.
use Rattle.std.proofs.Common.{◌≡◌, ◌↔◌, ℕ, List, [], ◌∷◌, ◌++◌, Some, refl, ap, sym, subst, inl, inr, ⊎_elim}
use Rattle.std.proofs.lemmas.Bool.{cases_eq}
use Rattle.pssm_model.specs.declared.ids.VertexId.{VertexId}
use Rattle.pssm_model.specs.declared.ids.RegionId.{RegionId}
use Rattle.pssm_model.specs.declared.elements.DraftMachine.{DraftMachine}
use Rattle.pssm_model.specs.declared.elements.Owner.TheVariants.{Region, State}
use Rattle.pssm_model.specs.declared.steps.Mode.{Mode}
use Rattle.pssm_model.specs.declared.steps.How.{How}
use Rattle.pssm_model.specs.declared.steps.How.TheVariants.{By, Restore, Nothing}
use Rattle.pssm_model.specs.Forest.{owner_of}
use Rattle.pssm_model.specs.Configuration.{Configuration, IsDirect}
use Rattle.pssm_model.specs.Changes.{Agree, FillsOrOwns, nothing_yet, entered, exited, opened_none, opened_way, did_step}
use Rattle.pssm_semantics.specs.declared.entry.ObjectId.{ObjectId}
use Rattle.pssm_semantics.specs.declared.entry.Entry.{Entry}
use Rattle.pssm_semantics.specs.declared.entry.Out.{Out}
use Rattle.pssm_semantics.specs.declared.entry.Entry.TheVariants.{Post, Start, Take, Done, Exit, Effect, Enter, Opened, Pick, DoStep}
use Rattle.pssm_semantics.specs.Journal.{object_of, EntersAt, ExitsAt, OpensAt, OpensByNone, TouchesRegion, DoesAt, IsActive, IsMemory, HasDoneStep, IsLeftEmpty, configuration_after}
use Rattle.pssm_semantics_laws.proofs.Active.{IsActive-nil, IsActive-entered, IsActive-stays, IsActive-was, IsMemory-nil, IsMemory-exited, IsMemory-stays, IsMemory-was}
use Rattle.pssm_semantics_laws.proofs.Ended.{HasDoneStep-becomes, HasDoneStep-stays, HasDoneStep-was, IsLeftEmpty-becomes, IsLeftEmpty-stays, IsLeftEmpty-was}
use Rattle.pssm_semantics.proofs.Appended.{LastOf-nil}

same_region : (r q : RegionId) → r.0 ≡ q.0 → r ≡ q
same_region r q e = ap (λ n. let x : RegionId = record { 0 = n } in x) e

-- Nothing has happened before the first entry.
pub configuration-nil : (m : DraftMachine) (o : ObjectId) → Agree (configuration_after m [] o) nothing_yet
configuration-nil m o = record {
  active = λ s. (IsActive-nil o s, λ h. absurd h);
  remembered = λ r s. (IsMemory-nil m o r s, λ h. absurd h);
  stepped = λ s k. (LastOf-nil (λ f. DoesAt f o s k) (λ f. EntersAt f o s → ⊥), λ h. absurd h);
  left_empty = λ r. (LastOf-nil (λ f. OpensByNone f o r) (λ f. TouchesRegion m f o r → ⊥), λ h. absurd h);
}

module _ (m : DraftMachine) (J : List Entry) (o : ObjectId) where
  abbrev now : Configuration
  now = configuration_after m J o

  abbrev after : Entry → Configuration
  after e = configuration_after m (J ++ e ∷ []) o

  -- what is so after an entry that neither enters nor exits, opens or does a step
  active_kept : (e : Entry) → ((s : VertexId) → EntersAt e o s → ⊥) → ((s : VertexId) → ExitsAt e o s → ⊥) → (s : VertexId) → IsActive (J ++ e ∷ []) o s ↔ IsActive J o s
  active_kept e no_entry no_exit s = (
    λ h. ⊎_elim (λ enters. absurd (no_entry s enters)) (λ was. was.0) (IsActive-was J e o s h),
    λ h. IsActive-stays J e o s h (no_exit s),
  )

  memory_kept : (e : Entry) → ((s : VertexId) → ExitsAt e o s → ⊥) → (r : RegionId) (s : VertexId) → IsMemory m (J ++ e ∷ []) o r s ↔ IsMemory m J o r s
  memory_kept e no_exit r s = (
    λ h. ⊎_elim (λ exits. absurd (no_exit s exits.0)) (λ was. was.0) (IsMemory-was m J e o r s h),
    λ h. IsMemory-stays m J e o r s h (λ q direct exits. no_exit q exits),
  )

  steps_kept : (e : Entry) → ((s : VertexId) → EntersAt e o s → ⊥) → ((s : VertexId) (k : ℕ) → DoesAt e o s k → ⊥)
      → (s : VertexId) (k : ℕ) → HasDoneStep (J ++ e ∷ []) o s k ↔ HasDoneStep J o s k
  steps_kept e no_entry no_step s k = (
    λ h. ⊎_elim (λ does. absurd (no_step s k does)) (λ was. was.0) (HasDoneStep-was J e o s k h),
    λ h. HasDoneStep-stays J e o s k h (no_entry s),
  )

  untouched : (e : Entry) → ((s : VertexId) → EntersAt e o s → ⊥) → ((s : VertexId) → ExitsAt e o s → ⊥) → ((r : RegionId) → OpensAt e o r → ⊥)
      → (r : RegionId) → TouchesRegion m e o r → ⊥
  untouched e no_entry no_exit no_opening r touches = elim touches [
    | inl opens ↦ no_opening r opens
    | inr (inl (s, direct, inl enters)) ↦ no_entry s enters
    | inr (inl (s, direct, inr exits)) ↦ no_exit s exits
    | inr (inr (s, owns, enters)) ↦ no_entry s enters
  ]

  opens_by_none : (e : Entry) (r : RegionId) → OpensByNone e o r → OpensAt e o r
  opens_by_none (Opened p q mode Nothing) r h = h
  opens_by_none (Opened p q mode (By route)) r h = absurd h
  opens_by_none (Opened p q mode (Restore s)) r h = absurd h
  opens_by_none (Post p signal args) r h = absurd h
  opens_by_none (Start p) r h = absurd h
  opens_by_none (Take p number firing) r h = absurd h
  opens_by_none (Done p s firing) r h = absurd h
  opens_by_none (Exit p s outs) r h = absurd h
  opens_by_none (Effect p t outs) r h = absurd h
  opens_by_none (Enter p s outs) r h = absurd h
  opens_by_none (Pick p c route) r h = absurd h
  opens_by_none (DoStep p s step outs) r h = absurd h

  empty_kept : (e : Entry) → ((r : RegionId) → TouchesRegion m e o r → ⊥) → (r : RegionId) → IsLeftEmpty m (J ++ e ∷ []) o r ↔ IsLeftEmpty m J o r
  empty_kept e no_touch r = (
    λ h. ⊎_elim (λ opens. absurd (no_touch r (inl (opens_by_none e r opens)))) (λ was. was.0) (IsLeftEmpty-was m J e o r h),
    λ h. IsLeftEmpty-stays m J e o r h (no_touch r),
  )

  -- An entry that does none of these leaves the configuration as it is.
  pub configuration-stays : (e : Entry) → ((s : VertexId) → EntersAt e o s → ⊥) → ((s : VertexId) → ExitsAt e o s → ⊥)
      → ((r : RegionId) → OpensAt e o r → ⊥) → ((s : VertexId) (k : ℕ) → DoesAt e o s k → ⊥) → Agree (after e) now
  configuration-stays e no_entry no_exit no_opening no_step = record {
    active = active_kept e no_entry no_exit;
    remembered = memory_kept e no_exit;
    stepped = steps_kept e no_entry no_step;
    left_empty = empty_kept e (untouched e no_entry no_exit no_opening);
  }

  -- An entry of a State enters it.
  pub configuration-entered : (s : VertexId) (outs : List Out) → Agree (after (Enter o s outs)) (entered m now s)
  configuration-entered s outs = record {
    active = λ v. (
      λ h. ⊎_elim (λ enters. inl (sym enters.1)) (λ was. inr was.0) (IsActive-was J (Enter o s outs) o v h),
      λ h. ⊎_elim (λ same. IsActive-entered J (Enter o s outs) o v (refl, sym same)) (λ was. IsActive-stays J (Enter o s outs) o v was (λ exits. exits)) h,
    );
    remembered = memory_kept (Enter o s outs) (λ v exits. exits);
    stepped = λ v k. (
      λ h. ⊎_elim (λ does. absurd does) (λ was. ((λ same. was.1 (refl, sym same)), was.0)) (HasDoneStep-was J (Enter o s outs) o v k h),
      λ h. HasDoneStep-stays J (Enter o s outs) o v k h.1 (λ enters. h.0 (sym enters.1)),
    );
    left_empty = λ r. (
      λ h. ⊎_elim (λ opens. absurd opens) (λ was. (was.0, λ fills. was.1 (touching r fills))) (IsLeftEmpty-was m J (Enter o s outs) o r h),
      λ h. IsLeftEmpty-stays m J (Enter o s outs) o r h.0 (λ touches. h.1 (filling r touches)),
    );
  } where
    touching : (r : RegionId) → FillsOrOwns m s r → TouchesRegion m (Enter o s outs) o r
    touching r (inl direct) = inr (inl (s, direct, inl (refl, refl)))
    touching r (inr owns) = inr (inr (s, owns, (refl, refl)))

    filling : (r : RegionId) → TouchesRegion m (Enter o s outs) o r → FillsOrOwns m s r
    filling r (inl opens) = absurd opens
    filling r (inr (inl (v, direct, inl enters))) = inl (let P : VertexId → Type 0 = λ w. IsDirect m w r in subst P (sym enters.1) direct)
    filling r (inr (inl (v, direct, inr exits))) = absurd exits
    filling r (inr (inr (v, owns, enters))) = inr (let P : VertexId → Type 0 = λ w. owner_of m (Region r) ≡ Some (State w) in subst P (sym enters.1) owns)

  -- An exit of a State exits it.
  pub configuration-exited : (s : VertexId) (outs : List Out) → Agree (after (Exit o s outs)) (exited m now s)
  configuration-exited s outs = record {
    active = λ v. (
      λ h. ⊎_elim (λ enters. absurd enters) (λ was. ((λ same. was.1 (refl, sym same)), was.0)) (IsActive-was J (Exit o s outs) o v h),
      λ h. IsActive-stays J (Exit o s outs) o v h.1 (λ exits. h.0 (sym exits.1)),
    );
    remembered = λ r v. (
      λ h. ⊎_elim (λ by. inl (sym by.0.1, here r v by.0.1 by.1)) (λ was. inr (was.0, λ direct. was.1 s direct (refl, refl)))
          (IsMemory-was m J (Exit o s outs) o r v h),
      λ h. ⊎_elim (λ by. IsMemory-exited m J (Exit o s outs) o r v (refl, sym by.0) (there r v by.0 by.1))
          (λ was. IsMemory-stays m J (Exit o s outs) o r v was.0 (λ q direct exits. was.1 (here r q exits.1 direct))) h,
    );
    stepped = steps_kept (Exit o s outs) (λ v enters. enters) (λ v k does. does);
    left_empty = λ r. (
      λ h. ⊎_elim (λ opens. absurd opens) (λ was. (was.0, λ direct. was.1 (inr (inl (s, direct, inr (refl, refl)))))) (IsLeftEmpty-was m J (Exit o s outs) o r h),
      λ h. IsLeftEmpty-stays m J (Exit o s outs) o r h.0 (λ touches. h.1 (leaving r touches)),
    );
  } where
    here : (r : RegionId) (v : VertexId) → s ≡ v → IsDirect m v r → IsDirect m s r
    here r v same direct = let P : VertexId → Type 0 = λ w. IsDirect m w r in subst P (sym same) direct

    there : (r : RegionId) (v : VertexId) → v ≡ s → IsDirect m s r → IsDirect m v r
    there r v same direct = let P : VertexId → Type 0 = λ w. IsDirect m w r in subst P (sym same) direct

    leaving : (r : RegionId) → TouchesRegion m (Exit o s outs) o r → IsDirect m s r
    leaving r (inl opens) = absurd opens
    leaving r (inr (inl (v, direct, inl enters))) = absurd enters
    leaving r (inr (inl (v, direct, inr exits))) = here r v exits.1 direct
    leaving r (inr (inr (v, owns, enters))) = absurd enters

  -- an opening touches its region alone
  opening_touches : (r q : RegionId) (mode : Mode) (how : How) → TouchesRegion m (Opened o r mode how) o q → r ≡ q
  opening_touches r q mode how (inl opens) = opens.1
  opening_touches r q mode how (inr (inl (v, direct, inl enters))) = absurd enters
  opening_touches r q mode how (inr (inl (v, direct, inr exits))) = absurd exits
  opening_touches r q mode how (inr (inr (v, owns, enters))) = absurd enters

  -- An opening by no way leaves its region empty.
  pub configuration-opened_none : (r : RegionId) (mode : Mode) → Agree (after (Opened o r mode Nothing)) (opened_none now r)
  configuration-opened_none r mode = record {
    active = active_kept (Opened o r mode Nothing) (λ v enters. enters) (λ v exits. exits);
    remembered = memory_kept (Opened o r mode Nothing) (λ v exits. exits);
    stepped = steps_kept (Opened o r mode Nothing) (λ v enters. enters) (λ v k does. does);
    left_empty = λ q. (
      λ h. ⊎_elim (λ opens. inl (sym opens.1)) (λ was. inr was.0) (IsLeftEmpty-was m J (Opened o r mode Nothing) o q h),
      λ h. ⊎_elim (λ same. IsLeftEmpty-becomes m J (Opened o r mode Nothing) o q (refl, sym same)) (λ was. still q was) h,
    );
  } where
    still : (q : RegionId) → IsLeftEmpty m J o q → IsLeftEmpty m (J ++ Opened o r mode Nothing ∷ []) o q
    still q was = elim (cases_eq q.0 r.0) [
      | inl same ↦ IsLeftEmpty-becomes m J (Opened o r mode Nothing) o q (refl, same_region r q (sym same))
      | inr other ↦
          IsLeftEmpty-stays m J (Opened o r mode Nothing) o q was
          (λ touches. other (ap (λ x. x.0) (sym (opening_touches r q mode Nothing touches))))
    ]

  -- An opening by some way leaves it so no more.
  pub configuration-opened_way : (r : RegionId) (mode : Mode) (how : How) → (how ≡ Nothing → ⊥) → Agree (after (Opened o r mode how)) (opened_way now r)
  configuration-opened_way r mode how some = record {
    active = active_kept (Opened o r mode how) (λ v enters. enters) (λ v exits. exits);
    remembered = memory_kept (Opened o r mode how) (λ v exits. exits);
    stepped = steps_kept (Opened o r mode how) (λ v enters. enters) (λ v k does. does);
    left_empty = λ q. (
      λ h. ⊎_elim (λ opens. absurd (some (none_opens q how opens))) (λ was. ((λ same. was.1 (inl (refl, sym same))), was.0))
          (IsLeftEmpty-was m J (Opened o r mode how) o q h),
      λ h. IsLeftEmpty-stays m J (Opened o r mode how) o q h.1 (λ touches. h.0 (sym (opening_touches r q mode how touches))),
    );
  } where
    none_opens : (q : RegionId) (way : How) → OpensByNone (Opened o r mode way) o q → way ≡ Nothing
    none_opens q Nothing h = refl
    none_opens q (By route) h = absurd h
    none_opens q (Restore s) h = absurd h

  -- A do step of a State is done.
  pub configuration-did_step : (s : VertexId) (k : ℕ) (outs : List Out) → Agree (after (DoStep o s k outs)) (did_step now s k)
  configuration-did_step s k outs = record {
    active = active_kept (DoStep o s k outs) (λ v enters. enters) (λ v exits. exits);
    remembered = memory_kept (DoStep o s k outs) (λ v exits. exits);
    stepped = λ v j. (
      λ h. ⊎_elim (λ does. inl (sym does.1, sym does.2)) (λ was. inr was.0) (HasDoneStep-was J (DoStep o s k outs) o v j h),
      λ h. ⊎_elim (λ same. HasDoneStep-becomes J (DoStep o s k outs) o v j (refl, sym same.0, sym same.1))
          (λ was. HasDoneStep-stays J (DoStep o s k outs) o v j was (λ enters. enters)) h,
    );
    left_empty = empty_kept (DoStep o s k outs) (untouched (DoStep o s k outs) (λ v enters. enters) (λ v exits. exits) (λ r opens. opens));
  }

-- the configuration of an object once an entry of its own has happened (this profile's choice of entries)
abbrev pub changed_by : DraftMachine → Configuration → Entry → Configuration
changed_by m now (Enter o s outs) = entered m now s
changed_by m now (Exit o s outs) = exited m now s
changed_by m now (Opened o r mode Nothing) = opened_none now r
changed_by m now (Opened o r mode how) = opened_way now r
changed_by m now (DoStep o s k outs) = did_step now s k
changed_by m now e = now

-- An entry changes the configuration of its object so.
pub configuration-changed : (m : DraftMachine) (J : List Entry) (e : Entry)
    → Agree (configuration_after m (J ++ e ∷ []) (object_of e)) (changed_by m (configuration_after m J (object_of e)) e)
configuration-changed m J (Enter o s outs) = configuration-entered m J o s outs
configuration-changed m J (Exit o s outs) = configuration-exited m J o s outs
configuration-changed m J (Opened o r mode Nothing) = configuration-opened_none m J o r mode
configuration-changed m J (Opened o r mode (By route)) = configuration-opened_way m J o r mode (By route) (λ none. cc)
configuration-changed m J (Opened o r mode (Restore s)) = configuration-opened_way m J o r mode (Restore s) (λ none. cc)
configuration-changed m J (DoStep o s k outs) = configuration-did_step m J o s k outs
configuration-changed m J (Post o signal args) =
    configuration-stays m J o (Post o signal args) (λ s h. h) (λ s h. h) (λ r h. h) (λ s k h. h)
configuration-changed m J (Start o) = configuration-stays m J o (Start o) (λ s h. h) (λ s h. h) (λ r h. h) (λ s k h. h)
configuration-changed m J (Take o number firing) =
    configuration-stays m J o (Take o number firing) (λ s h. h) (λ s h. h) (λ r h. h) (λ s k h. h)
configuration-changed m J (Done o state firing) =
    configuration-stays m J o (Done o state firing) (λ s h. h) (λ s h. h) (λ r h. h) (λ s k h. h)
configuration-changed m J (Effect o t outs) = configuration-stays m J o (Effect o t outs) (λ s h. h) (λ s h. h) (λ r h. h) (λ s k h. h)
configuration-changed m J (Pick o choice route) =
    configuration-stays m J o (Pick o choice route) (λ s h. h) (λ s h. h) (λ r h. h) (λ s k h. h)

enters_own : (e : Entry) (o : ObjectId) (s : VertexId) → EntersAt e o s → object_of e ≡ o
enters_own (Enter p t outs) o s h = h.0
enters_own (Post p signal args) o s h = absurd h
enters_own (Start p) o s h = absurd h
enters_own (Take p number firing) o s h = absurd h
enters_own (Done p t firing) o s h = absurd h
enters_own (Exit p t outs) o s h = absurd h
enters_own (Effect p t outs) o s h = absurd h
enters_own (Opened p r mode how) o s h = absurd h
enters_own (Pick p c route) o s h = absurd h
enters_own (DoStep p t step outs) o s h = absurd h

exits_own : (e : Entry) (o : ObjectId) (s : VertexId) → ExitsAt e o s → object_of e ≡ o
exits_own (Exit p t outs) o s h = h.0
exits_own (Post p signal args) o s h = absurd h
exits_own (Start p) o s h = absurd h
exits_own (Take p number firing) o s h = absurd h
exits_own (Done p t firing) o s h = absurd h
exits_own (Enter p t outs) o s h = absurd h
exits_own (Effect p t outs) o s h = absurd h
exits_own (Opened p r mode how) o s h = absurd h
exits_own (Pick p c route) o s h = absurd h
exits_own (DoStep p t step outs) o s h = absurd h

opens_own : (e : Entry) (o : ObjectId) (r : RegionId) → OpensAt e o r → object_of e ≡ o
opens_own (Opened p q mode how) o r h = h.0
opens_own (Post p signal args) o r h = absurd h
opens_own (Start p) o r h = absurd h
opens_own (Take p number firing) o r h = absurd h
opens_own (Done p t firing) o r h = absurd h
opens_own (Exit p t outs) o r h = absurd h
opens_own (Effect p t outs) o r h = absurd h
opens_own (Enter p t outs) o r h = absurd h
opens_own (Pick p c route) o r h = absurd h
opens_own (DoStep p t step outs) o r h = absurd h

does_own : (e : Entry) (o : ObjectId) (s : VertexId) (k : ℕ) → DoesAt e o s k → object_of e ≡ o
does_own (DoStep p t step outs) o s k h = h.0
does_own (Post p signal args) o s k h = absurd h
does_own (Start p) o s k h = absurd h
does_own (Take p number firing) o s k h = absurd h
does_own (Done p t firing) o s k h = absurd h
does_own (Exit p t outs) o s k h = absurd h
does_own (Effect p t outs) o s k h = absurd h
does_own (Enter p t outs) o s k h = absurd h
does_own (Opened p r mode how) o s k h = absurd h
does_own (Pick p c route) o s k h = absurd h

-- An entry of another object leaves the configuration as it is.
pub configuration-other : (m : DraftMachine) (J : List Entry) (o : ObjectId) (e : Entry) → (object_of e ≡ o → ⊥)
    → Agree (configuration_after m (J ++ e ∷ []) o) (configuration_after m J o)
configuration-other m J o e other =
    configuration-stays m J o e
    (λ s h. other (enters_own e o s h))
    (λ s h. other (exits_own e o s h))
    (λ r h. other (opens_own e o r h))
    (λ s k h. other (does_own e o s k h))
