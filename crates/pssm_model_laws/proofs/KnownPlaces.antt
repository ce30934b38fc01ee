-- What lies where is known of a draft that has the shape of a machine, and so are the kinds of its vertices and the ends of its transitions.
use Rattle.std.proofs.Common.{◌≡◌, ◌<◌, ◌≤◌, ℕ, length, Bool, true, false, rules, Option, Some, None, option_map, refl, sym, ap, subst, inl, inr, ⊎_elim, ◌∙◌}
use Rattle.pssm_model.specs.declared.ids.VertexId.{VertexId}
use Rattle.pssm_model.specs.declared.ids.RegionId.{RegionId}
use Rattle.pssm_model.specs.declared.ids.TransId.{TransId}
use Rattle.pssm_model.specs.declared.elements.DraftMachine.{DraftMachine}
use Rattle.pssm_model.specs.declared.elements.Vertex.{Vertex}
use Rattle.pssm_model.specs.declared.elements.Transition.{Transition}
use Rattle.pssm_model.specs.declared.elements.VertexKind.{VertexKind}
use Rattle.pssm_model.specs.declared.elements.TransKind.{TransKind}
use Rattle.pssm_model.specs.declared.elements.Owner.{Owner}
use Rattle.pssm_model.specs.declared.elements.Owner.TheVariants.{Top, Region, State}
use Rattle.pssm_model.specs.Forest.{vertex_at, transition_at, HasKind, owner_of, LiesUnder, LiesInRegion, LiesInState, HasRegionsAbove}
use Rattle.pssm_model.specs.Forest.LiesUnder.{owned, further}
use Rattle.pssm_model.specs.Forest.HasRegionsAbove.{region, state, machine}
use Rattle.pssm_model.specs.Legs.{Leaves, Enters, Goes}
use Rattle.pssm_model.specs.Shapes.{HasShape}
use Rattle.pssm_model.specs.Equal.{vertex_kind_same}
use Rattle.pssm_model.specs.contracts.elements.VertexKindPartialEq.TheImpl.{eq-value as vertex_kind_eq}
use Rattle.pssm_model.proofs.ElementLaws.{mapped_some, mapped_at, leaves_at, enters_at, kind_at}
use Rattle.pssm_model.proofs.OwnerChains.{top_lies_nowhere, counted_is_place}
use Rattle.pssm_model.proofs.Nesting.{under_cases, shallower}
use Rattle.pssm_model_laws.proofs.Known.{Known, known_as, known_both, known_either, known_below, known_place, known_kind}

-- the vertex and the region of a number
abbrev pub vertex_of : ℕ → VertexId
vertex_of k = record { 0 = k }

abbrev pub region_of : ℕ → RegionId
region_of k = record { 0 = k }

known_some : (o : Option Owner) (p : Owner) → Known (o ≡ Some p)
known_some None p = inr (λ e. cc)
known_some (Some q) p = known_as (λ e. ap Some e) (λ e. cc) (known_place q p)

module _ (m : DraftMachine) where
  one_up : (p k q : Owner) → owner_of m p ≡ Some k → Known (LiesUnder m k q) → Known (LiesUnder m p q)
  one_up p k q e rest =
      known_as
      (λ h. ⊎_elim (λ same. subst (λ x. LiesUnder m p x) same (owned e)) (λ under. further e under) h)
      (λ h. under_cases m p k q e h)
      (known_either (known_place k q) rest)

  -- what lies on an owner chain that ends at the machine
  pub known_under : {p : Owner} {n : ℕ} → HasRegionsAbove m p n → (q : Owner) → Known (LiesUnder m p q)
  known_under {p = p} (region {r = r} e above) q = one_up p (Region r) q e (known_under above q)
  known_under {p = p} (state {s = s} e above) q = one_up p (State s) q e (known_under above q)
  known_under {p = p} (machine e) q = one_up p Top q e (inr (top_lies_nowhere {m = m} q))

  pub known_owner : (p q : Owner) → Known (owner_of m p ≡ Some q)
  known_owner p q = known_some (owner_of m p) q

  -- the kind of a vertex
  kind_self : (k : VertexKind) → vertex_kind_eq.it k k ≡ true
  kind_self k = search rules

  same_kind : (k l : VertexKind) → Known (k ≡ l)
  same_kind k l = by (vertex_kind_eq.it k l) refl
    where
      by : (same : Bool) → vertex_kind_eq.it k l ≡ same → Known (k ≡ l)
      by true e = inl (vertex_kind_same k l e)
      by false e = inr (λ is. let self : vertex_kind_eq.it k l ≡ true = subst (λ x. vertex_kind_eq.it k x ≡ true) is (kind_self k) in cc)

  pub known_vertex_kind : (v : VertexId) (kind : VertexKind) → Known (HasKind m v kind)
  known_vertex_kind v kind = by (vertex_at m v) refl
    where
      by : (o : Option Vertex) → vertex_at m v ≡ o → Known (HasKind m v kind)
      by None e = inr (λ h. let none = ap (option_map (λ (x : Vertex). x.kind)) e in let clash : HasKind m v kind = h in cc)
      by (Some x) e = known_as (kind_at m v x kind e).1 (kind_at m v x kind e).0 (same_kind x.kind kind)

  -- what there is of a transition that is not there
  no_kind : (t : TransId) (k : TransKind) → transition_at m t ≡ None → Goes m t k → ⊥
  no_kind t k e goes = let none = ap (option_map (λ (x : Transition). x.kind)) e in let clash : Goes m t k = goes in cc

  pub no_source : (t : TransId) (v : VertexId) → transition_at m t ≡ None → Leaves m t v → ⊥
  no_source t v e leaves = let none = ap (option_map (λ (x : Transition). x.source)) e in let clash : Leaves m t v = leaves in cc

  pub no_target : (t : TransId) (v : VertexId) → transition_at m t ≡ None → Enters m t v → ⊥
  no_target t v e enters = let none = ap (option_map (λ (x : Transition). x.target)) e in let clash : Enters m t v = enters in cc

  pub known_goes : (t : TransId) (k : TransKind) → Known (Goes m t k)
  known_goes t k = by (transition_at m t) refl
    where
      by : (o : Option Transition) → transition_at m t ≡ o → Known (Goes m t k)
      by None e = inr (no_kind t k e)
      by (Some x) e =
          let at = mapped_at (λ (y : Transition). y.kind) (transition_at m t) x e in
          known_as (λ same. at ∙ ap Some same) (λ goes. let clash : Goes m t k = goes in cc) (known_kind x.kind k)

  -- some vertex that the transition leaves or enters is such
  pub known_source_some : (P : VertexId → Type 0) → ((v : VertexId) → Known (P v)) → (t : TransId) → Known ((v : VertexId) × Leaves m t v × P v)
  known_source_some P each t = by (transition_at m t) refl
    where
      by : (o : Option Transition) → transition_at m t ≡ o → Known ((v : VertexId) × Leaves m t v × P v)
      by None e = inr (λ h. no_source t h.0 e h.1)
      by (Some x) e =
          known_as
          (λ h. (x.source, (leaves_at m t x x.source e).1 refl, h))
          (λ h. subst P (sym ((leaves_at m t x h.0 e).0 h.1)) h.2)
          (each x.source)

  pub known_target_some : (P : VertexId → Type 0) → ((v : VertexId) → Known (P v)) → (t : TransId) → Known ((v : VertexId) × Enters m t v × P v)
  known_target_some P each t = by (transition_at m t) refl
    where
      by : (o : Option Transition) → transition_at m t ≡ o → Known ((v : VertexId) × Enters m t v × P v)
      by None e = inr (λ h. no_target t h.0 e h.1)
      by (Some x) e =
          known_as
          (λ h. (x.target, (enters_at m t x x.target e).1 refl, h))
          (λ h. subst P (sym ((enters_at m t x h.0 e).0 h.1)) h.2)
          (each x.target)

  -- what lies somewhere has an owner
  pub owner_under : (p q : Owner) → LiesUnder m p q → (o : Owner) × (owner_of m p ≡ Some o)
  owner_under p q (owned e) = (q, e)
  owner_under p q (further {q = k} e rest) = (k, e)

  known_owned : (o : Option Owner) → Known ((k : Owner) × (o ≡ Some k))
  known_owned None = inr (λ h. let e = h.1 in cc)
  known_owned (Some k) = inl (k, refl)

module _ {m : DraftMachine} (shape : HasShape m) where
  pub known_in_region : (v : VertexId) (r : RegionId) → Known (LiesInRegion m v r)
  known_in_region v r = by (vertex_at m v) refl
    where
      by : (o : Option Vertex) → vertex_at m v ≡ o → Known (LiesInRegion m v r)
      by None e = inr (λ h. absurd (let up = owner_under m (State v) (Region r) h in
          let none = ap (option_map (λ (x : Vertex). x.owner)) e in
          let clash = up.1 in
          cc))
      by (Some x) e = known_under m (shape.vertices v x e).1.2 (Region r)

  pub known_region_under : (q r : RegionId) → Known (LiesUnder m (Region q) (Region r))
  known_region_under q r = by (owner_of m (Region q)) refl
    where
      by : (o : Option Owner) → owner_of m (Region q) ≡ o → Known (LiesUnder m (Region q) (Region r))
      by None e = inr (λ h. absurd (let up = owner_under m (Region q) (Region r) h in let clash = up.1 in cc))
      by (Some p) e = known_under m (shape.regions q p e).1.2 (Region r)

  -- and a depth
  pub depth_under : (v : VertexId) (q : Owner) → LiesUnder m (State v) q → (d : ℕ) × (d ≤ 32) × HasRegionsAbove m (State v) d
  depth_under v q h =
      let up = owner_under m (State v) q h in
      let at = mapped_some (λ (x : Vertex). x.owner) (vertex_at m v) up.0 up.1 in
      (shape.vertices v at.0 at.1).1

  -- a region in which a vertex lies is one of the machine
  pub region_there : (v : VertexId) (r : RegionId) → LiesInRegion m v r → r.0 < length m.regions
  region_there v r lies =
      let depth = depth_under v (Region r) lies in
      counted_is_place m (shallower m (State v) r depth.0 lies depth.2).2

  pub known_in_state : (v s : VertexId) → Known (LiesInState m v s)
  known_in_state v s =
      known_as
      (λ h. (region_of h.0, h.2.0, h.2.1))
      (λ h. (h.0.0, region_there v h.0 h.2, (h.1, h.2)))
      (known_below
      (λ k. (owner_of m (Region (region_of k)) ≡ Some (State s)) × LiesInRegion m v (region_of k))
      (λ k. known_both (known_owner m (Region (region_of k)) (State s)) (known_in_region v (region_of k)))
      (length m.regions))

  -- what has an owner stands on a chain that ends at the machine
  pub chain_above : (p k : Owner) → owner_of m p ≡ Some k → (n : ℕ) × HasRegionsAbove m p n
  chain_above Top k e = absurd (cc)
  chain_above (Region r) k e = let shallow = (shape.regions r k e).1 in (shallow.0, shallow.2)
  chain_above (State v) k e =
      let x = mapped_some (λ (y : Vertex). y.owner) (vertex_at m v) k e in
      let shallow = (shape.vertices v x.0 x.1).1 in
      (shallow.0, shallow.2)

  pub known_lies : (p q : Owner) → Known (LiesUnder m p q)
  known_lies p q =
      ⊎_elim
      (λ has. known_under m (chain_above p has.0 has.1).1 q)
      (λ none. inr (λ h. none (owner_under m p q h)))
      (known_owned m (owner_of m p))
