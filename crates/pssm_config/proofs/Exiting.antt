-- The tables fit the machine once a State is exited.
use Rattle.std.proofs.Common.{◌≡◌, ◌≢◌, ◌↔◌, ◌<◌, List, length, get_or, inl, inr, Some, None, Bool, true, false, IsTrue, subst, sym, ◌∙◌}
use Rattle.std.proofs.Math.ListN.{set, length-set}
use Rattle.pssm_model.specs.declared.ids.VertexId.{VertexId}
use Rattle.pssm_model.specs.declared.ids.RegionId.{RegionId}
use Rattle.pssm_model.specs.declared.elements.DraftMachine.{DraftMachine}
use Rattle.pssm_model.specs.declared.elements.Owner.TheVariants.{Region, State}
use Rattle.pssm_model.specs.Forest.{owner_of}
use Rattle.pssm_model.specs.Configuration.{IsDirect, HasActiveFinal}
use Rattle.pssm_config.specs.Tables.{Tables, Fits, configuration_of, held_in}
use Rattle.pssm_config.proofs.Putting.{in_table, put_vertex, put_region}
use Rattle.pssm_config.proofs.Holding.{same_owner, sole, has_place}

-- the tables once the State, which lies directly in the region, is exited
abbrev pub with_exit : Tables → VertexId → RegionId → List Bool → Tables
with_exit t s r empty = record {
  active = set t.active s.0 false;
  steps = t.steps;
  held = set t.held r.0 None;
  ended = set t.ended r.0 false;
  remembered = set t.remembered r.0 (Some s);
  empty = empty;
}

module _ (m : DraftMachine) (t : Tables) (s : VertexId) (r : RegionId) (empty : List Bool) (fits : Fits m t)
    (owner : owner_of m (State s) ≡ Some (Region r)) (active : (configuration_of t).Active s) (lt : r.0 < length m.regions) where
  abbrev IsActiveNow : VertexId → Type 0
  IsActiveNow v = (configuration_of (with_exit t s r empty)).Active v

  direct : IsDirect m s r
  direct = (owner, fits.states s active)

  -- what is active was so, and is not the State
  active_was : (v : VertexId) → IsActiveNow v → (v ≢ s) × (configuration_of t).Active v
  active_was v now = elim (put_vertex t.active s v false false (has_place m t fits s (fits.states s active))) [
    | inl (same, is) ↦ absurd (let clash : false ≡ true = sym is ∙ now in cc)
    | inr (other, is) ↦ (other, sym is ∙ now)
  ]

  -- and what was active stays so, but the State
  active_is : (v : VertexId) → v ≢ s → (configuration_of t).Active v → IsActiveNow v
  active_is v other was = elim (put_vertex t.active s v false false (has_place m t fits s (fits.states s active))) [
    | inl (same, is) ↦ absurd (other same)
    | inr (_, is) ↦ is ∙ was
  ]

  -- nothing is active that lies directly in the region
  none_left : (v : VertexId) → IsDirect m v r → IsActiveNow v → ⊥
  none_left v here now = let was = active_was v now in was.0 (sole m t fits r v s here was.1 direct active)

  -- the State lies directly in no other region
  not_there : (q : RegionId) → q ≢ r → (v : VertexId) → owner_of m (State v) ≡ Some (Region q) → v ≢ s
  not_there q other v there same =
      let Owned : VertexId → Type 0 = λ w. owner_of m (State w) ≡ Some (Region q) in
      other (same_owner m s r q owner (subst Owned same there))

  held_now : (q : RegionId) (v : VertexId) → (held_in (with_exit t s r empty) q ≡ Some v) ↔ (IsDirect m v q × IsActiveNow v)
  held_now q v = elim (put_region t.held r q None None (in_table t.held (length m.regions) r.0 fits.wide.held lt)) [
    | inl (same, is) ↦
        let Direct : RegionId → Type 0 = λ p. IsDirect m v p in
        (λ e. absurd (let clash : None ≡ Some v = sym is ∙ e in cc), λ h. absurd (none_left v (subst Direct same h.0) h.1))
    | inr (other, is) ↦ (
      λ e. let was = (fits.held q v).0 (sym is ∙ e) in (was.0, active_is v (not_there q other v was.0.0) was.1),
      λ h. is ∙ (fits.held q v).1 (h.0, (active_was v h.1).1),
    )
  ]

  ended_now : (q : RegionId) → IsTrue (get_or (set t.ended r.0 false) q.0 false) ↔ HasActiveFinal m (configuration_of (with_exit t s r empty)) q
  ended_now q = elim (put_region t.ended r q false false (in_table t.ended (length m.regions) r.0 fits.wide.ended lt)) [
    | inl (same, is) ↦ (
      λ e. absurd (let clash : false ≡ true = sym is ∙ e in cc),
      λ h. absurd (let Direct : RegionId → Type 0 = λ p. IsDirect m h.0 p in none_left h.0 (subst Direct same (h.1, inr h.2)) h.3),
    )
    | inr (other, is) ↦ (
      λ e. let was = (fits.ended q).0 (sym is ∙ e) in (was.0, was.1, was.2, active_is was.0 (not_there q other was.0 was.1) was.3),
      λ h. is ∙ (fits.ended q).1 (h.0, h.1, h.2, (active_was h.0 h.3).1),
    )
  ]

  remembered_now : (q : RegionId) (v : VertexId) → get_or (set t.remembered r.0 (Some s)) q.0 None ≡ Some v → IsDirect m v q
  remembered_now q v e = elim (put_region t.remembered r q (Some s) None (in_table t.remembered (length m.regions) r.0 fits.wide.remembered lt)) [
    | inl (same, is) ↦
        let this : Some s ≡ Some v = sym is ∙ e in
        let At : VertexId → Type 0 = λ w. IsDirect m w q in
        let Direct : RegionId → Type 0 = λ p. IsDirect m s p in
        subst At (let eq : s ≡ v = cc in eq) (subst Direct (sym same) direct)
    | inr (other, is) ↦ fits.remembered q v (sym is ∙ e)
  ]

  pub fits_with_exit : length empty ≡ length t.empty → Fits m (with_exit t s r empty)
  fits_with_exit even = record {
    shape = fits.shape;
    wide = record {
      active = length-set t.active s.0 false ∙ fits.wide.active;
      steps = fits.wide.steps;
      held = length-set t.held r.0 None ∙ fits.wide.held;
      ended = length-set t.ended r.0 false ∙ fits.wide.ended;
      remembered = length-set t.remembered r.0 (Some s) ∙ fits.wide.remembered;
      empty = even ∙ fits.wide.empty;
    };
    states = λ v now. fits.states v (active_was v now).1;
    held = held_now;
    ended = ended_now;
    remembered = remembered_now;
    steps = fits.steps;
  }
