-- Machines of initial vertices and States alone, whose transitions are external and have no guards, keep the rules of models.
use Rattle.std.proofs.Common.{◌≡◌, ◌≢◌, ◌⊎◌, ◌≤◌, ◌<◌, ℕ, suc, [], length, Some, sym, ap, subst, ◌∙◌, inl, inr, arith}
use Rattle.std.proofs.lemmas.Option.{slice_get_within}
use Rattle.pssm_model.specs.declared.ids.VertexId.{VertexId}
use Rattle.pssm_model.specs.declared.ids.RegionId.{RegionId}
use Rattle.pssm_model.specs.declared.ids.TransId.{TransId}
use Rattle.pssm_model.specs.declared.elements.DraftMachine.{DraftMachine}
use Rattle.pssm_model.specs.declared.elements.Vertex.{Vertex}
use Rattle.pssm_model.specs.declared.elements.Transition.{Transition}
use Rattle.pssm_model.specs.declared.elements.VertexKind.{VertexKind}
use Rattle.pssm_model.specs.declared.elements.VertexKind.TheVariants as kinds
use Rattle.pssm_model.specs.declared.elements.TransKind.{TransKind}
use Rattle.pssm_model.specs.declared.elements.TransKind.TheVariants.{External}
use Rattle.pssm_model.specs.declared.elements.Guard.{Guard}
use Rattle.pssm_model.specs.declared.elements.Guard.TheVariants.{Always, Otherwise}
use Rattle.pssm_model.specs.declared.elements.FaultPlace.{FaultPlace}
use Rattle.pssm_model.specs.declared.elements.Owner.{Owner}
use Rattle.pssm_model.specs.declared.elements.Owner.TheVariants.{Top, Region, State}
use Rattle.pssm_model.specs.Forest.{vertex_at, transition_at, HasKind, owner_of, HasRegionsAbove, LiesInRegion}
use Rattle.pssm_model.specs.Forest.HasRegionsAbove.{region}
use Rattle.pssm_model.specs.Forest.LiesUnder.{owned}
use Rattle.pssm_model.specs.Legs.{Leaves, Enters, Goes, IsPoint}
use Rattle.pssm_model.specs.Limits.{IsWithinLimits}
use Rattle.pssm_model.specs.Shapes.{OwnsRegion, OwnsVertex, HasShape}
use Rattle.pssm_model.specs.Routes.{guard_of}
use Rattle.pssm_model.specs.FiringSets.{IsHistory}
use Rattle.pssm_model.specs.Paths.{IsPseudostate, IsPseudostateKind, IsInitialOf, ComesAfter, LeadsOn}
use Rattle.pssm_model.specs.Paths.ComesAfter.{end, inner}
use Rattle.pssm_model.specs.Paths.LeadsOn.{next, after}
use Rattle.pssm_model.specs.WellFormed.{HasGuard, HasElse, HasTrigger, Breaks, KeepsModelRules}
use Rattle.pssm_model.specs.WellFormed.Breaks.{E01_top, E01, E02, E03, E04, E05, E06, E07, E08, E09, E10, E11, E12, E13, E14, E15, E16, E17, E18, E19, E20, E21}
use Rattle.pssm_model.proofs.ElementLaws.{mapped_some, mapped_at, some_and, kind_unique, enters_at, leaves_at}

-- an initial vertex or a State, in a region of the machine
pub record IsPlainVertex (m : DraftMachine) (x : Vertex) : Type 0 where
  pub kind_is : (x.kind ≡ kinds.Initial) ⊎ (x.kind ≡ kinds.State)
  pub home : RegionId
  pub owner_is : x.owner ≡ Region home
  pub there : home.0 < length m.regions

-- an external transition without a guard, from a vertex of a region to a State of it; none out of an initial vertex has a trigger
pub record IsPlainTransition (m : DraftMachine) (x : Transition) : Type 0 where
  pub external : x.kind ≡ External
  pub unguarded : x.guard ≡ Always
  pub target_kind : HasKind m x.target kinds.State
  pub home : RegionId
  pub source_home : owner_of m (State x.source) ≡ Some (Region home)
  pub target_home : owner_of m (State x.target) ≡ Some (Region home)
  pub untriggered : HasKind m x.source kinds.Initial → x.triggers ≡ []

-- a region of the machine or of a State, some regions deep
pub record IsPlainRegion (m : DraftMachine) (r : RegionId) : Type 0 where
  pub owner : Owner
  pub owner_is : owner_of m (Region r) ≡ Some owner
  pub may : OwnsRegion m owner
  pub depth : ℕ
  pub few : depth ≤ 31
  pub above : HasRegionsAbove m (Region r) depth

pub record IsPlain (m : DraftMachine) : Type 0 where
  pub vertices : (v : VertexId) (x : Vertex) → vertex_at m v ≡ Some x → IsPlainVertex m x
  pub transitions : (t : TransId) (x : Transition) → transition_at m t ≡ Some x → IsPlainTransition m x
  pub regions : (r : RegionId) → r.0 < length m.regions → IsPlainRegion m r
  pub limits : IsWithinLimits m
  pub top : (r : RegionId) × (owner_of m (Region r) ≡ Some Top)
  pub tops : (r : RegionId) → owner_of m (Region r) ≡ Some Top → (v : VertexId) × IsInitialOf m r v
  pub one_initial : (v w : VertexId) (r : RegionId) → IsInitialOf m r v → IsInitialOf m r w → v ≡ w
  pub one_out : (v : VertexId) → HasKind m v kinds.Initial → (t : TransId) × Leaves m t v × ((u : TransId) → Leaves m u v → u ≡ t)

module _ (m : DraftMachine) (plain : IsPlain m) where
  pub kinds_of : (v : VertexId) (k : VertexKind) → HasKind m v k → (k ≡ kinds.Initial) ⊎ (k ≡ kinds.State)
  kinds_of v k h =
      let x = mapped_some (λ (y : Vertex). y.kind) (vertex_at m v) k h in
      subst (λ (j : VertexKind). (j ≡ kinds.Initial) ⊎ (j ≡ kinds.State)) x.2 (plain.vertices v x.0 x.1).kind_is

  pub no_other : (v : VertexId) (k : VertexKind) → k ≢ kinds.Initial → k ≢ kinds.State → HasKind m v k → ⊥
  no_other v k a b h = elim (kinds_of v k h) [ inl e ↦ a e | inr e ↦ b e ]

  pub no_history : (v : VertexId) → IsHistory m v → ⊥
  no_history v (inl h) = no_other v kinds.ShallowHistory (λ e. cc) (λ e. cc) h
  no_history v (inr h) = no_other v kinds.DeepHistory (λ e. cc) (λ e. cc) h

  pub no_point : (v : VertexId) → IsPoint m v → ⊥
  no_point v (inl h) = no_other v kinds.EntryPoint (λ e. cc) (λ e. cc) h
  no_point v (inr h) = no_other v kinds.ExitPoint (λ e. cc) (λ e. cc) h

  -- a pseudostate is an initial vertex
  initial_alone : (v : VertexId) → IsPseudostate m v → HasKind m v kinds.Initial
  initial_alone v (k, has, is) = elim (kinds_of v k has) [
    | inl e ↦ subst (λ (j : VertexKind). HasKind m v j) e has
    | inr e ↦ absurd (subst IsPseudostateKind e is)
  ]

  pub not_both : (v : VertexId) → HasKind m v kinds.State → HasKind m v kinds.Initial → ⊥
  not_both v a b = let e : kinds.State ≡ kinds.Initial = kind_unique m v kinds.State kinds.Initial a b in cc

  pub enters_state : (t : TransId) (w : VertexId) → Enters m t w → HasKind m w kinds.State
  enters_state t w h =
      let x = mapped_some (λ (y : Transition). y.target) (transition_at m t) w h in
      subst (λ (u : VertexId). HasKind m u kinds.State) x.2 (plain.transitions t x.0 x.1).target_kind

  pub no_guard : (t : TransId) → HasGuard m t → ⊥
  no_guard t h =
      let g = some_and (λ (g : Guard). g ≢ Always) (guard_of m t) h in
      let x = mapped_some (λ (y : Transition). y.guard) (transition_at m t) g.0 g.1 in
      g.2 (sym x.2 ∙ (plain.transitions t x.0 x.1).unguarded)

  no_else : (t : TransId) → HasElse m t → ⊥
  no_else t h =
      let x = mapped_some (λ (y : Transition). y.guard) (transition_at m t) Otherwise h in
      let e : Otherwise ≡ Always = sym x.2 ∙ (plain.transitions t x.0 x.1).unguarded in cc

  pub goes_external : (t : TransId) (k : TransKind) → Goes m t k → k ≡ External
  goes_external t k h =
      let x = mapped_some (λ (y : Transition). y.kind) (transition_at m t) k h in
      sym x.2 ∙ (plain.transitions t x.0 x.1).external

  no_trigger : (t : TransId) (v : VertexId) → Leaves m t v → HasKind m v kinds.Initial → HasTrigger m t → ⊥
  no_trigger t v l k h =
      let x = some_and (λ (y : Transition). y.triggers ≢ []) (transition_at m t) h in
      let same : x.0.source ≡ v = (leaves_at m t x.0 v x.1).0 l in
      x.2 ((plain.transitions t x.0 x.1).untriggered (subst (λ (u : VertexId). HasKind m u kinds.Initial) (sym same) k))

  -- the ends of a transition lie in one region
  pub same_home : (t : TransId) (v w : VertexId) → Leaves m t v → Enters m t w → (r : RegionId) × (owner_of m (State v) ≡ Some (Region r)) × (owner_of m (State w) ≡ Some (Region r))
  same_home t v w l e =
      let x = mapped_some (λ (y : Transition). y.source) (transition_at m t) v l in
      let is = plain.transitions t x.0 x.1 in (
        is.home,
        subst (λ (u : VertexId). owner_of m (State u) ≡ Some (Region is.home)) x.2 is.source_home,
        subst (λ (u : VertexId). owner_of m (State u) ≡ Some (Region is.home)) ((enters_at m t x.0 w x.1).0 e) is.target_home,
      )

  comes_to_target : (t : TransId) (w : VertexId) → ComesAfter m t w → Enters m t w
  comes_to_target t w (end e) = e
  comes_to_target t w (inner u c (inl i) l e) = absurd (no_other _ kinds.Junction (λ e. cc) (λ e. cc) i)
  comes_to_target t w (inner u c (inr (inl i)) l e) = absurd (no_other _ kinds.Fork (λ e. cc) (λ e. cc) i)
  comes_to_target t w (inner u c (inr (inr i)) l e) = absurd (no_other _ kinds.EntryPoint (λ e. cc) (λ e. cc) i)

  stays : (t : TransId) (v w : VertexId) (r : RegionId) → Leaves m t v → owner_of m (State v) ≡ Some (Region r) → ComesAfter m t w → LiesInRegion m w r
  stays t v w r l o c =
      let h = same_home t v w l (comes_to_target t w c) in
      let same : Some (Region h.0) ≡ Some (Region r) = sym h.1 ∙ o in
      owned (h.2 ∙ same)

  leads_nowhere : (v w : VertexId) → LeadsOn m v w → ⊥
  leads_nowhere v w (next p q (inl (t, l, e))) = not_both w (enters_state t w e) (initial_alone w q)
  leads_nowhere v w (next p q (inr (r, h, none, o, i))) = no_history v h
  leads_nowhere v w (after a b) = leads_nowhere _ w b

  keeps : (place : FaultPlace) (n : ℕ) → Breaks m place n → ⊥
  keeps place n (E01_top h) = h plain.top.0 plain.top.1
  keeps place n (E01 (o, none)) = let v = plain.tops _ o in none v.0 v.1
  keeps place n (E02 (inl (v, w, differ, k, l, o, p))) = differ (plain.one_initial v w _ (k, o) (l, p))
  keeps place n (E02 (inr (inl (v, w, differ, k, l, o, p)))) = no_other v kinds.ShallowHistory (λ e. cc) (λ e. cc) k
  keeps place n (E02 (inr (inr (v, w, differ, k, l, o, p)))) = no_other v kinds.DeepHistory (λ e. cc) (λ e. cc) k
  keeps place n (E03 (k, inl (inl none))) = let t = plain.one_out _ k in none (t.0, t.1)
  keeps place n (E03 (k, inl (inr (t, u, differ, l, l')))) = let s = plain.one_out _ k in differ (s.2 t l ∙ sym (s.2 u l'))
  keeps place n (E03 (k, inr (t, e))) = not_both _ (enters_state t _ e) k
  keeps place n (E04 (h, rest)) = no_history _ h
  keeps place n (E05 (k, rest)) = no_other _ kinds.Join (λ e. cc) (λ e. cc) k
  keeps place n (E06 (k, rest)) = no_other _ kinds.Fork (λ e. cc) (λ e. cc) k
  keeps place n (E07 (k, rest)) = no_other _ kinds.Join (λ e. cc) (λ e. cc) k
  keeps place n (E08 (k, rest)) = no_other _ kinds.Fork (λ e. cc) (λ e. cc) k
  keeps place n (E09 (inl k, rest)) = no_other _ kinds.Junction (λ e. cc) (λ e. cc) k
  keeps place n (E09 (inr k, rest)) = no_other _ kinds.Choice (λ e. cc) (λ e. cc) k
  keeps place n (E10 (v, l, inl (p, h))) = no_trigger _ v l (initial_alone v p) h
  keeps place n (E10 (v, l, inr (u, g))) = no_guard _ g
  keeps place n (E11 (k, rest)) = no_other _ kinds.Final (λ e. cc) (λ e. cc) k
  keeps place n (E12 (k, rest)) = no_other _ kinds.Terminate (λ e. cc) (λ e. cc) k
  keeps place n (E13 (g, rest)) = let e = goes_external _ _ g in cc
  keeps place n (E14 (g, rest)) = let e = goes_external _ _ g in cc
  keeps place n (E15 (k, rest)) = no_other _ kinds.EntryPoint (λ e. cc) (λ e. cc) k
  keeps place n (E16 (k, rest)) = no_other _ kinds.ExitPoint (λ e. cc) (λ e. cc) k
  keeps place n (E17 (h, rest)) = no_else _ h
  keeps place n (E18 (sure, inl k)) = no_other _ kinds.Choice (λ e. cc) (λ e. cc) k
  keeps place n (E18 (sure, inr (k, rest))) = no_other _ kinds.Junction (λ e. cc) (λ e. cc) k
  keeps place n (E19 h) = leads_nowhere _ _ h
  keeps place n (E20 (inl (late, (t, r, l, o, (w, c, outside))))) = outside (stays t _ w r l o c)
  keeps place n (E20 (inr (k, rest))) = no_other _ kinds.EntryPoint (λ e. cc) (λ e. cc) k
  keeps place n (E21 (v, w, l, e, inl apart)) = let h = same_home _ v w l e in apart (h.0, owned h.1, owned h.2)
  keeps place n (E21 (v, w, l, e, inr (k, rest))) = no_other _ kinds.Join (λ e. cc) (λ e. cc) k

  pub plain_keeps : KeepsModelRules m
  plain_keeps = keeps

  region_shape : (r : RegionId) (p : Owner) → owner_of m (Region r) ≡ Some p → OwnsRegion m p × ((n : ℕ) × (n ≤ 32) × HasRegionsAbove m (Region r) n)
  region_shape r p e =
      let held = plain.regions r (slice_get_within m.regions r.0 p e) in
      let same : held.owner ≡ p = cc in
      (subst (OwnsRegion m) same held.may, (held.depth, omega (arith, held.few), held.above))

  vertex_shape : (v : VertexId) (x : Vertex) → vertex_at m v ≡ Some x → OwnsVertex m v x.owner × ((n : ℕ) × (n ≤ 32) × HasRegionsAbove m (State v) n)
  vertex_shape v x e =
      let y = plain.vertices v x e in
      let held = plain.regions y.home y.there in
      let owner_is : owner_of m (State v) ≡ Some (Region y.home) = mapped_at (λ (z : Vertex). z.owner) (vertex_at m v) x e ∙ ap Some y.owner_is in
      (subst (OwnsVertex m v) (sym y.owner_is) (λ point. no_point v point, y.there), (suc held.depth, omega (arith, held.few), region owner_is held.above))

  pub plain_shape : HasShape m
  plain_shape = record {
    regions = region_shape;
    vertices = vertex_shape;
    ends = λ t x e.
        let is = plain.transitions t x e in
        let source = mapped_some (λ (z : Vertex). z.owner) (vertex_at m x.source) (Region is.home) is.source_home in
        let target = mapped_some (λ (z : Vertex). z.owner) (vertex_at m x.target) (Region is.home) is.target_home in
        (slice_get_within m.vertices x.source.0 source.0 source.1, slice_get_within m.vertices x.target.0 target.0 target.1);
    limits = plain.limits;
  }
