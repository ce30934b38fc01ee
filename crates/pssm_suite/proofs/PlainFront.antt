-- The machine of `Front` is plain.
use Rattle.std.proofs.Common.{◌≡◌, ◌≤◌, ◌<◌, ◌+◌, ℕ, zero, suc, [], Some, slice_get, refl, sym, ap, subst, ◌∙◌, inl, inr, arith, rules}
use Rattle.std.specs.Prelude.{map, replicate}
use Rattle.std.specs.List.{range_with_len}
use Rattle.std.proofs.lemmas.List.{length-replicate}
use Rattle.std.proofs.lemmas.List.FromFn.{length-map-range_with_len}
use Rattle.pssm_model.specs.declared.ids.VertexId.{VertexId}
use Rattle.pssm_model.specs.declared.ids.RegionId.{RegionId}
use Rattle.pssm_model.specs.declared.ids.TransId.{TransId}
use Rattle.pssm_model.specs.declared.elements.Vertex.{Vertex}
use Rattle.pssm_model.specs.declared.elements.Transition.{Transition}
use Rattle.pssm_model.specs.declared.elements.VertexKind.TheVariants as kinds
use Rattle.pssm_model.specs.declared.elements.Owner.TheVariants.{Top, Region, State}
use Rattle.pssm_model.specs.Forest.{HasKind, owner_of}
use Rattle.pssm_model.specs.Forest.HasRegionsAbove.{machine}
use Rattle.pssm_model.specs.Legs.{Leaves}
use Rattle.pssm_model.proofs.ElementLaws.{same_vertex, same_transition, same_region, only_element, mapped_some, mapped_at}
use Rattle.pssm_suite.specs.Generated.{next_state}
use Rattle.pssm_suite.specs.GeneratedSetting.{vertex, transition, on_go, front_machine}
use Rattle.pssm_suite.proofs.PlainMachines.{IsPlain, IsPlainVertex, IsPlainTransition, IsPlainRegion}
use Rattle.pssm_suite.proofs.SettingText.{one_of_equal}

abbrev pub round : Vertex
round = vertex 0 kinds.State []

abbrev pub step : ℕ → ℕ → Transition
step n i = transition i (next_state n i) on_go i

-- what stands among equal items
pub equal_at : {X : Type 0} (y : X) (n i : ℕ) (x : X) → slice_get (replicate n y) i ≡ Some x → (x ≡ y) × (i < n)
equal_at y zero i x e = absurd cc
equal_at y (suc n) zero x e = (cc, omega arith)
equal_at y (suc n) (suc i) x e = let h = equal_at y n i x e in (h.0, omega (arith, h.1))

-- what stands among items that are made from their numbers
pub made_at : {X : Type 0} (f : ℕ → X) (k n i : ℕ) (x : X) → slice_get (map f (range_with_len k n)) i ≡ Some x → (x ≡ f (k + i)) × (i < n)
made_at f k zero i x e = absurd cc
made_at f k (suc n) zero x e = let same : k ≡ k + 0 = omega arith in (let is : x ≡ f k = cc in is ∙ ap f same, omega arith)
made_at f k (suc n) (suc i) x e =
    let h = made_at f (k + 1) n i x e in
    let same : k + 1 + i ≡ k + suc i = omega arith in
    (h.0 ∙ ap f same, omega (arith, h.1))

-- behind a State of the circle is one of the circle
pub next_within : (n i : ℕ) → 1 ≤ i → i ≤ n → (1 ≤ next_state n i) × (next_state n i ≤ n)
next_within n i le ge = search (rules, arith)

module _ (n : ℕ) (some : 1 ≤ n) (few : n ≤ 4000) where
  state_at : (j : ℕ) → 1 ≤ j → j ≤ n → slice_get (front_machine n).vertices j ≡ Some round
  state_at zero le ge = absurd (omega arith)
  state_at (suc j) le ge = one_of_equal round n j (omega arith)

  vertex_is : (k : ℕ) (x : Vertex) → slice_get (front_machine n).vertices k ≡ Some x → IsPlainVertex (front_machine n) x
  vertex_is zero x e =
      let same : vertex 0 kinds.Initial [] ≡ x = cc in
      subst (IsPlainVertex (front_machine n)) same (record { kind_is = inl refl; home = record { 0 = 0 }; owner_is = refl; there = omega arith })
  vertex_is (suc k) x e =
      let same : round ≡ x = sym (equal_at round n k x e).0 in
      subst (IsPlainVertex (front_machine n)) same (record { kind_is = inr refl; home = record { 0 = 0 }; owner_is = refl; there = omega arith })

  -- where a State of the circle stands, and of what kind it is
  pub state_home : (j : ℕ) → 1 ≤ j → j ≤ n → owner_of (front_machine n) (State (record { 0 = j })) ≡ Some (Region (record { 0 = 0 }))
  state_home j le ge = mapped_at (λ (y : Vertex). y.owner) _ round (state_at j le ge)

  pub state_kind : (j : ℕ) → 1 ≤ j → j ≤ n → HasKind (front_machine n) (record { 0 = j }) kinds.State
  state_kind j le ge = mapped_at (λ (y : Vertex). y.kind) _ round (state_at j le ge)

  not_initial : (j : ℕ) → 1 ≤ j → j ≤ n → HasKind (front_machine n) (record { 0 = j }) kinds.Initial → ⊥
  not_initial j le ge h = let k = state_kind j le ge in cc

  transition_is : (k : ℕ) (x : Transition) → slice_get (front_machine n).transitions k ≡ Some x → IsPlainTransition (front_machine n) x
  transition_is zero x e =
      let same : transition 0 1 [] 0 ≡ x = cc in
      subst (IsPlainTransition (front_machine n)) same (record {
        external = refl;
        unguarded = refl;
        target_kind = state_kind 1 (omega arith) some;
        home = record { 0 = 0 };
        source_home = refl;
        target_home = state_home 1 (omega arith) some;
        untriggered = λ h. refl;
      })
  transition_is (suc k) x e =
      let h = made_at (step n) 1 n k x e in
      let after = next_within n (1 + k) (omega arith) (omega (arith, h.1)) in
      subst (IsPlainTransition (front_machine n)) (sym h.0) (record {
        external = refl;
        unguarded = refl;
        target_kind = state_kind (next_state n (1 + k)) after.0 after.1;
        home = record { 0 = 0 };
        source_home = state_home (1 + k) (omega arith) (omega (arith, h.1));
        target_home = state_home (next_state n (1 + k)) after.0 after.1;
        untriggered = λ i. absurd (not_initial (1 + k) (omega arith) (omega (arith, h.1)) i);
      })

  pub initial_is : (v : VertexId) → HasKind (front_machine n) v kinds.Initial → v.0 ≡ 0
  initial_is v h = number v.0 h where
    number : (k : ℕ) → HasKind (front_machine n) (record { 0 = k }) kinds.Initial → k ≡ 0
    number zero h = refl
    number (suc k) h =
        let x = mapped_some (λ (y : Vertex). y.kind) _ kinds.Initial h in
        let round_is = equal_at round n k x.0 x.1 in
        absurd (let e : kinds.State ≡ kinds.Initial = ap (λ (y : Vertex). y.kind) (sym round_is.0) ∙ x.2 in cc)

  -- the one transition out of the initial vertex
  pub first_out : (u : TransId) → Leaves (front_machine n) u (record { 0 = 0 }) → u.0 ≡ 0
  first_out u l = number u.0 l where
    number : (k : ℕ) → Leaves (front_machine n) (record { 0 = k }) (record { 0 = 0 }) → k ≡ 0
    number zero l = refl
    number (suc k) l =
        let x = mapped_some (λ (y : Transition). y.source) _ (record { 0 = 0 }) l in
        let is = made_at (step n) 1 n k x.0 x.1 in
        let e : 1 + k ≡ 0 = ap (λ (y : Transition). y.source.0) (sym is.0) ∙ ap (λ (v : VertexId). v.0) x.2 in
        absurd (omega (arith, e))

  one_out : (v : VertexId) → HasKind (front_machine n) v kinds.Initial → (t : TransId) × Leaves (front_machine n) t v × ((u : TransId) → Leaves (front_machine n) u v → u ≡ t)
  one_out v h =
      let first : VertexId = record { 0 = 0 } in
      let same : v ≡ first = same_vertex v first (initial_is v h) in
      subst (λ (w : VertexId). (t : TransId) × Leaves (front_machine n) t w × ((u : TransId) → Leaves (front_machine n) u w → u ≡ t)) (sym same)
      (record { 0 = 0 }, refl, λ u l. same_transition u (record { 0 = 0 }) (first_out u l))

  region_is : (r : RegionId) → r.0 < 1 → IsPlainRegion (front_machine n) r
  region_is r lt =
      let first : RegionId = record { 0 = 0 } in
      let same : r ≡ first = same_region r first (omega arith) in
      subst (IsPlainRegion (front_machine n)) (sym same) (record { owner = Top; owner_is = refl; may = tt; depth = 0; few = omega arith; above = machine refl })

  pub front_plain : IsPlain (front_machine n)
  front_plain = record {
    vertices = λ v x e. vertex_is v.0 x e;
    transitions = λ t x e. transition_is t.0 x e;
    regions = region_is;
    limits = record {
      regions = omega arith;
      vertices = omega (arith, length-replicate n round, few);
      transitions = omega (arith, length-map-range_with_len (step n) 1 n, few);
    };
    top = (record { 0 = 0 }, refl);
    tops = λ r o. (record { 0 = 0 }, (refl, let first : RegionId = record { 0 = 0 } in ap (λ (q : RegionId). Some (Region q)) (sym (same_region r first (only_element Top Top r.0 o).0))));
    one_initial = λ v w r h g. same_vertex v w (initial_is v h.0 ∙ sym (initial_is w g.0));
    one_out = one_out;
  }
