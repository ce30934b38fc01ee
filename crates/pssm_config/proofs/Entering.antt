-- The tables fit the machine once a State is entered, and hold the configuration after it.
use Rattle.std.proofs.Common.{◌≡◌, ◌≢◌, ◌⊎◌, ◌↔◌, ◌<◌, ◌≤◌, ℕ, List, length, get_or, inl, inr, Option, Some, None, Bool, true, false, IsTrue, subst, refl, ap, sym, ◌∙◌, arith}
use Rattle.std.proofs.Math.ListN.{set, length-set}
use Rattle.pssm_model.specs.declared.ids.VertexId.{VertexId}
use Rattle.pssm_model.specs.declared.ids.RegionId.{RegionId}
use Rattle.pssm_model.specs.declared.elements.DraftMachine.{DraftMachine}
use Rattle.pssm_model.specs.declared.elements.Owner.TheVariants.{Region, State}
use Rattle.pssm_model.specs.declared.elements.VertexKind.TheVariants as kinds
use Rattle.pssm_model.specs.Forest.{owner_of, HasKind, IsStateOrFinal}
use Rattle.pssm_model.specs.Configuration.{IsDirect, HasActiveFinal, do_steps_of}
use Rattle.pssm_model.specs.Changes.{Agree, FillsOrOwns, entered}
use Rattle.pssm_config.specs.Tables.{Tables, Fits, CanEnter, configuration_of, held_in}
use Rattle.pssm_config.proofs.Putting.{in_table, put_vertex, put_region}
use Rattle.pssm_config.proofs.Holding.{same_owner, has_place}

-- the tables once the State, which lies directly in the region, is entered
abbrev pub with_entry : Tables → VertexId → RegionId → Bool → List Bool → Tables
with_entry t s r final empty = record {
  active = set t.active s.0 true;
  steps = set t.steps s.0 0;
  held = set t.held r.0 (Some s);
  ended = set t.ended r.0 final;
  remembered = t.remembered;
  empty = empty;
}

module _ (m : DraftMachine) (t : Tables) (s : VertexId) (r : RegionId) (final : Bool) (empty : List Bool) (fits : Fits m t)
    (can : CanEnter m (configuration_of t) s) (owner : owner_of m (State s) ≡ Some (Region r)) (lt : r.0 < length m.regions) where
  abbrev IsActiveNow : VertexId → Type 0
  IsActiveNow v = (configuration_of (with_entry t s r final empty)).Active v

  direct : IsDirect m s r
  direct = (owner, can.state)

  -- what is active is the State, or was so
  active_was : (v : VertexId) → IsActiveNow v → (v ≡ s) ⊎ (configuration_of t).Active v
  active_was v now = elim (put_vertex t.active s v true false (has_place m t fits s can.state)) [
    | inl (same, is) ↦ inl same
    | inr (other, is) ↦ inr (sym is ∙ now)
  ]

  -- and both are active
  active_is : (v : VertexId) → (v ≡ s) ⊎ (configuration_of t).Active v → IsActiveNow v
  active_is v either = elim (put_vertex t.active s v true false (has_place m t fits s can.state)) [
    | inl (same, is) ↦ is
    | inr (other, is) ↦ is ∙ elim either [ inl same ↦ absurd (other same) | inr was ↦ was ]
  ]

  -- the State alone is active of what lies directly in the region
  alone : (v : VertexId) → IsDirect m v r → IsActiveNow v → v ≡ s
  alone v here now = elim (active_was v now) [ inl same ↦ same | inr was ↦ absurd (can.vacant r v direct here was) ]

  -- and of what lies directly in another region, what was active
  elsewhere : (q : RegionId) → q ≢ r → (v : VertexId) → owner_of m (State v) ≡ Some (Region q) → IsActiveNow v → (configuration_of t).Active v
  elsewhere q other v there now = elim (active_was v now) [
    | inl same ↦
        let Owned : VertexId → Type 0 = λ w. owner_of m (State w) ≡ Some (Region q) in
        absurd (other (same_owner m s r q owner (subst Owned same there)))
    | inr was ↦ was
  ]

  held_now : (q : RegionId) (v : VertexId) → (held_in (with_entry t s r final empty) q ≡ Some v) ↔ (IsDirect m v q × IsActiveNow v)
  held_now q v = elim (put_region t.held r q (Some s) None (in_table t.held (length m.regions) r.0 fits.wide.held lt)) [
    | inl (same, is) ↦
        let Direct : RegionId → Type 0 = λ p. IsDirect m v p in
        let Here : VertexId → Type 0 = λ w. IsDirect m w r in (
          λ e.
              let this : Some s ≡ Some v = sym is ∙ e in
              let self : s ≡ v = cc in
              (subst Direct (sym same) (subst Here self direct), active_is v (inl (sym self))),
          λ h. is ∙ ap (λ w. let x : Option VertexId = Some w in x) (sym (alone v (subst Direct same h.0) h.1)),
        )
    | inr (other, is) ↦ (
      λ e. let was = (fits.held q v).0 (sym is ∙ e) in (was.0, active_is v (inr was.1)),
      λ h. is ∙ (fits.held q v).1 (h.0, elsewhere q other v h.0.0 h.1),
    )
  ]

  ended_now : (IsTrue final ↔ HasKind m s kinds.Final) → (q : RegionId)
      → IsTrue (get_or (set t.ended r.0 final) q.0 false) ↔ HasActiveFinal m (configuration_of (with_entry t s r final empty)) q
  ended_now says q = elim (put_region t.ended r q final false (in_table t.ended (length m.regions) r.0 fits.wide.ended lt)) [
    | inl (same, is) ↦
        let Owned : RegionId → Type 0 = λ p. owner_of m (State s) ≡ Some (Region p) in (
          λ e. (s, subst Owned (sym same) owner, says.0 (sym is ∙ e), active_is s (inl refl)),
          λ h.
              let Direct : RegionId → Type 0 = λ p. IsDirect m h.0 p in
              let Ends : VertexId → Type 0 = λ v. HasKind m v kinds.Final in
              is ∙ says.1 (subst Ends (alone h.0 (subst Direct same (h.1, inr h.2)) h.3) h.2),
        )
    | inr (other, is) ↦ (
      λ e. let was = (fits.ended q).0 (sym is ∙ e) in (was.0, was.1, was.2, active_is was.0 (inr was.3)),
      λ h. is ∙ (fits.ended q).1 (h.0, h.1, h.2, elsewhere q other h.0 h.1 h.3),
    )
  ]

  steps_lt : s.0 < length t.steps
  steps_lt = in_table t.steps (length t.active) s.0 (fits.wide.steps ∙ sym fits.wide.active) (has_place m t fits s can.state)

  steps_now : (v : VertexId) → get_or (set t.steps s.0 0) v.0 0 ≤ do_steps_of m v
  steps_now v = elim (put_vertex t.steps s v 0 0 steps_lt) [
    | inl (same, is) ↦ omega arith
    | inr (other, is) ↦ let P : ℕ → Type 0 = λ n. n ≤ do_steps_of m v in subst P (sym is) (fits.steps v)
  ]

  pub fits_with_entry : (IsTrue final ↔ HasKind m s kinds.Final) → length empty ≡ length t.empty → Fits m (with_entry t s r final empty)
  fits_with_entry says even = record {
    shape = fits.shape;
    wide = record {
      active = length-set t.active s.0 true ∙ fits.wide.active;
      steps = length-set t.steps s.0 0 ∙ fits.wide.steps;
      held = length-set t.held r.0 (Some s) ∙ fits.wide.held;
      ended = length-set t.ended r.0 final ∙ fits.wide.ended;
      remembered = fits.wide.remembered;
      empty = even ∙ fits.wide.empty;
    };
    states = λ v now. elim (active_was v now) [
      | inl same ↦ let P : VertexId → Type 0 = λ w. IsStateOrFinal m w in subst P (sym same) can.state
      | inr was ↦ fits.states v was
    ];
    held = held_now;
    ended = ended_now says;
    remembered = fits.remembered;
    steps = steps_now;
  }

  stepped_now : (v : VertexId) (k : ℕ) → (k < get_or (set t.steps s.0 0) v.0 0) ↔ ((v ≢ s) × (k < get_or t.steps v.0 0))
  stepped_now v k = elim (put_vertex t.steps s v 0 0 steps_lt) [
    | inl (same, is) ↦ (λ h. absurd (omega arith), λ h. absurd (h.0 same))
    | inr (other, is) ↦ let P : ℕ → Type 0 = λ n. k < n in (λ h. (other, subst P is h), λ h. subst P (sym is) h.1)
  ]

  -- which regions are left empty no more
  abbrev pub AreFilled : Type 0
  AreFilled = (q : RegionId) → IsTrue (get_or empty q.0 false) ↔ (IsTrue (get_or t.empty q.0 false) × (FillsOrOwns m s q → ⊥))

  pub agrees_with_entry : (old : Tables) → t ≡ old → AreFilled → Agree (configuration_of (with_entry t s r final empty)) (entered m (configuration_of old) s)
  agrees_with_entry old is filled =
      let From : Tables → Type 0 = λ x. Agree (configuration_of (with_entry t s r final empty)) (entered m (configuration_of x) s) in
      subst From is
      (record {
        active = λ v. (active_was v, active_is v);
        remembered = λ q v. (λ h. h, λ h. h);
        stepped = stepped_now;
        left_empty = filled;
      })
