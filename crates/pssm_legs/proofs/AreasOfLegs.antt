-- Where a leg exits and enters, by its shape: a chain over junctions, or all transitions into a join or out of a fork.
use Rattle.std.proofs.Common.{◌≡◌, ◌≢◌, ◌⊎◌, ◌<◌, suc, List, ◌∷◌, length, Some, Contains, refl, sym, subst, inl, inr, ⊎_elim, arith}
use Rattle.pssm_model.specs.declared.ids.VertexId.{VertexId}
use Rattle.pssm_model.specs.declared.ids.RegionId.{RegionId}
use Rattle.pssm_model.specs.declared.ids.TransId.{TransId}
use Rattle.pssm_model.specs.declared.elements.DraftMachine.{DraftMachine}
use Rattle.pssm_model.specs.declared.elements.VertexKind.TheVariants as kinds
use Rattle.pssm_model.specs.declared.elements.TransKind.TheVariants.{Local, Internal}
use Rattle.pssm_model.specs.declared.elements.Owner.TheVariants.{Region, State}
use Rattle.pssm_model.specs.declared.steps.Route.{Route}
use Rattle.pssm_model.specs.Shapes.{HasShape}
use Rattle.pssm_model.specs.Forest.{HasKind, owner_of, IsScope, IsHome, LiesUnder, LiesInRegion, LiesInState}
use Rattle.pssm_model.specs.Forest.LiesUnder.{owned}
use Rattle.pssm_model.specs.Legs.{On, Leaves, Enters, Goes, SameLeg, IsLocalFrom, IsInternal, IsOfLeg, PassesPoint, PassesSomePoint, LegScope}
use Rattle.pssm_model.specs.Legs.Scope.{Nowhere, Inside, Within}
use Rattle.pssm_model.specs.Legs.SameLeg.{itself}
use Rattle.pssm_model.specs.Legs.LegScope.{internal, local, point, other}
use Rattle.pssm_model.specs.Items.{PathBefore}
use Rattle.pssm_model.specs.Routes.{IsRoute}
use Rattle.pssm_model.specs.RouteWords.{IsStepRoute}
use Rattle.pssm_model.specs.WellFormed.{KeepsModelRules}
use Rattle.pssm_model.proofs.ElementLaws.{leaves_one, enters_one}
use Rattle.pssm_model_laws.proofs.Known.{sure}
use Rattle.pssm_model_laws.proofs.KnownPlaces.{known_in_region}
use Rattle.pssm_model.proofs.OwnerChains.{under_further, circle_is_endless}
use Rattle.pssm_model.proofs.Nesting.{region_cases, shallower, lies_within}
use Rattle.pssm_model_laws.proofs.RegionChains.{counted}
use Rattle.pssm_model_laws.proofs.CommonRegions.{scope_same}
use Rattle.pssm_model_laws.proofs.Through.{kinds_clash, end_not_through, source_there, target_there, join_from_state, fork_to_end, fork_beside}
use Rattle.pssm_model_laws.proofs.RouteOrder.{ComesTo, route_of, source_of, through_is_rest, stays_behind}
use Rattle.pssm_model_laws.proofs.RouteOrder.ComesTo.{here}
use Rattle.pssm_model_laws.proofs.LegShapes.{IsJoinStar, IsForkStar, last_step}
use Rattle.pssm_legs.specs.inner.Chained.{BeginsChain, IsChainOf, IsMet, IsRegionAt, IsRegionOfPath}
use Rattle.pssm_legs.proofs.Places.{contains_at}
use Rattle.pssm_legs.proofs.Chains.{path_comes}
use Rattle.pssm_legs.proofs.PathRegions.{in_head, in_tail, head_or_tail, source_is_target, exit_stays}
use Rattle.pssm_legs.proofs.ScopesOfLegs.{internal_ends, local_to_no_join, join_beside}

module _ {m : DraftMachine} (shape : HasShape m) (rules : KeepsModelRules m) (p : Route) (step : IsStepRoute m p) where
  route : IsRoute m p
  route = route_of m p step

  -- a leg that takes one transition after another
  module _ (t : TransId) (begins : BeginsChain m p t) (ts : List TransId) (v : VertexId) (chain : IsChainOf m p t ts v) (s : VertexId) (l : Leaves m t s) where
    itself_in : SameLeg m p t t
    itself_in = itself begins.on

    later_path : (u : TransId) → Contains ts u → PathBefore m p t u
    later_path u h =
        let at = contains_at ts u h in
        (chain.order t u (in_head t ts)).1 (0, suc at.0, omega arith, refl, at.1)

    later_leaves : (u : TransId) (x : VertexId) → Contains ts u → Leaves m u x → HasKind m x kinds.Junction
    later_leaves u x h a =
        let last = last_step m p t u (later_path u h) in
        subst (λ y. HasKind m y kinds.Junction) (leaves_one m u last.1.at x last.1.leaves a) last.1.kind

    -- what leaves no junction is the first
    first_leaves : (u : TransId) (x : VertexId) → SameLeg m p t u → Leaves m u x → (HasKind m x kinds.Junction → ⊥) → u ≡ t
    first_leaves u x leg a none =
        ⊎_elim (λ same. same) (λ later. absurd (none (later_leaves u x later a))) (head_or_tail t u ts ((chain.leg u).1 leg))

    -- its vertices are its source and its targets
    of_leg_met : (x : VertexId) → IsOfLeg m p t x → IsMet m t ts (length ts) x
    of_leg_met x h = ⊎_elim (λ a. source_met h.0 x ((chain.leg h.0).1 h.1) a) (λ e. target_met h.0 x ((chain.leg h.0).1 h.1) e) h.2
      where
        target_met : (u : TransId) (y : VertexId) → Contains (t ∷ ts) u → Enters m u y → IsMet m t ts (length ts) y
        target_met u y inside e =
            ⊎_elim
            (λ same. inl (inr (subst (λ z. Enters m z y) same e)))
            (λ later. inr (later.0, u, later.1, sym later.2, e))
            (head_or_tail t u ts inside)

        source_met : (u : TransId) (y : VertexId) → Contains (t ∷ ts) u → Leaves m u y → IsMet m t ts (length ts) y
        source_met u y inside a =
            ⊎_elim
            (λ same. inl (inl (subst (λ z. Leaves m z y) same a)))
            (λ later. let w = source_is_target m t u ts v y chain.path later a in target_met w.0 y w.1 w.2)
            (head_or_tail t u ts inside)

    met_of_leg : (x : VertexId) → IsMet m t ts (length ts) x → IsOfLeg m p t x
    met_of_leg x (inl (inl a)) = (t, itself_in, inl a)
    met_of_leg x (inl (inr e)) = (t, itself_in, inr e)
    met_of_leg x (inr few) = (few.1, (chain.leg few.1).0 (in_tail t few.1 ts (few.0, few.2, sym few.3)), inr few.4)

    comes_to : (u : TransId) → Contains (t ∷ ts) u → ComesTo m p t u
    comes_to u inside =
        ⊎_elim (λ same. subst (ComesTo m p t) (sym same) here) (λ later. path_comes p step t u (later_path u later)) (head_or_tail t u ts inside)

    -- behind an entry point all lies in one region of its State
    entry_target_stays : (q w x : VertexId) (r : RegionId) (u : TransId) → HasKind m s kinds.EntryPoint → owner_of m (State s) ≡ Some (State q) → Enters m t w
        → owner_of m (Region r) ≡ Some (State q) → LiesInRegion m w r → Contains (t ∷ ts) u → Enters m u x → LiesInRegion m x r
    entry_target_stays q w x r u k own e region_is lies inside f =
        stays_behind shape rules p route s q t u w x r k own (through_is_rest p step t s begins.on l (inr (inr (inr (inl k)))))
        l e region_is lies (comes_to u inside) f

    entry_stays : (q w x : VertexId) (r : RegionId) → HasKind m s kinds.EntryPoint → owner_of m (State s) ≡ Some (State q) → Enters m t w
        → owner_of m (Region r) ≡ Some (State q) → LiesInRegion m w r → IsOfLeg m p t x → x ≢ s → LiesInRegion m x r
    entry_stays q w x r k own e region_is lies h apart =
        let inside = (chain.leg h.0).1 h.1 in
        ⊎_elim
        (λ a. ⊎_elim
        (λ same. absurd (apart (leaves_one m t x s (subst (λ z. Leaves m z x) same a) l)))
        (λ later. (let u = source_is_target m t h.0 ts v x chain.path later a in entry_target_stays q w x r u.0 k own e region_is lies u.1 u.2))
        (head_or_tail t h.0 ts inside))
        (λ f. entry_target_stays q w x r h.0 k own e region_is lies inside f)
        h.2

    entry_scope : (r : RegionId) → HasKind m s kinds.EntryPoint → (w : VertexId) → Enters m t w → IsRegionAt m s w r → LegScope m p t (Within r)
    entry_scope r k w e h =
        point (h.1, (t, itself_in, inl (k, l))) h.2 (λ x is apart. entry_stays h.0 w x r k h.1 e h.2 h.3 is apart)

    -- up to an exit point
    exit_scope : (r : RegionId) → HasKind m v kinds.ExitPoint → IsRegionAt m v s r → LegScope m p t (Within r)
    exit_scope r k h =
        let last = (chain.last v).1 refl in
        point (h.1, (last.0, last.1, inr (k, last.2))) h.2 (λ x is apart.
        exit_stays shape rules t is.0 ts s v h.0 x r k h.1 h.2 h.3 l chain.path ((chain.leg is.0).1 is.1) is.2 apart)

    passes_none : (HasKind m s kinds.EntryPoint → ⊥) → (HasKind m v kinds.ExitPoint → ⊥) → PassesSomePoint m p t → ⊥
    passes_none no_entry no_exit h =
        let passes = h.2.1 in
        ⊎_elim
        (λ entry.
        let same = first_leaves passes.0 h.0 passes.1 entry.1 (λ k. kinds_clash m h.0 kinds.EntryPoint kinds.Junction (λ e. cc) entry.0 k) in
        no_entry (subst (λ x. HasKind m x kinds.EntryPoint) (leaves_one m t h.0 s (subst (λ z. Leaves m z h.0) same entry.1) l) entry.0))
        (λ exit.
        let last = (chain.last h.0).0 (passes.0, passes.1, exit.1, λ k. kinds_clash m h.0 kinds.ExitPoint kinds.Junction (λ e. cc) exit.0 k) in
        no_exit (subst (λ x. HasKind m x kinds.ExitPoint) last exit.0))
        passes.2

    local_none : (Goes m t Local → HasKind m s kinds.State → ⊥) → (q : VertexId) → IsLocalFrom m p t q → ⊥
    local_none none q h =
        let same = first_leaves h.0 q h.1 h.2 (λ k. kinds_clash m q kinds.State kinds.Junction (λ e. cc) h.3 k) in
        none (subst (λ z. Goes m z Local) same h.4)
        (subst (λ x. HasKind m x kinds.State) (leaves_one m t q s (subst (λ z. Leaves m z q) same h.2) l) h.3)

    pub path_scope : (r : RegionId) → (Goes m t Internal → ⊥) → (Goes m t Local → HasKind m s kinds.State → ⊥) → IsRegionOfPath m t ts s v r
        → LegScope m p t (Within r)
    path_scope r no_internal no_local h =
        ⊎_elim
        (λ entry. entry_scope r entry.0 entry.1.0 entry.1.1 entry.1.2)
        (⊎_elim
        (λ exit. exit_scope r exit.1 exit.2)
        (λ rest. other begins.on
        (λ i. no_internal i.1)
        (local_none no_local)
        (passes_none rest.0 rest.1)
        (scope_same m (IsMet m t ts (length ts)) (IsOfLeg m p t) r of_leg_met met_of_leg rest.2)))
        h

    pub internal_scope : Goes m t Internal → LegScope m p t Nowhere
    internal_scope goes = internal (begins.on, goes)

    pub local_scope : Goes m t Local → HasKind m s kinds.State → LegScope m p t (Inside s)
    local_scope goes k = local (t, itself_in, l, k, goes)

  -- a leg around one vertex: its other vertices lie in a State beside that
  around_home : (t : TransId) (hub : VertexId) (home : RegionId) → IsHome m hub home → IsOfLeg m p t hub → hub.0 < length m.vertices
      → ((v : VertexId) → IsOfLeg m p t v
      → ((v ≡ hub) ⊎ ((q : VertexId) × (r : RegionId) × (owner_of m (State q) ≡ Some (Region r)) × (owner_of m (State hub) ≡ Some (Region r)) × LiesInState m v q) → ⊥) → ⊥)
      → IsScope m (IsOfLeg m p t) home
  around_home t hub home h is there beside = record {
    common = λ v of. sure (known_in_region shape v home) (λ no. beside v of (λ two. no (⊎_elim
        (λ same. subst (λ x. LiesInRegion m x home) (sym same) h.lies)
        (λ near. (
        let up : LiesInRegion m v near.1 = under_further {m = m} (under_further {m = m} near.4.2 (owned near.4.1)) (owned near.2) in
        lies_within m v near.1 home up (region_cases m (State hub) near.1 home near.3 h.lies)))
        two)));
    innermost = λ q all under. (
        let above = counted shape hub there in
        let inner = shallower m (State hub) q above.0 (all hub is) above.1 in
        ⊎_elim
        (λ same. circle_is_endless (subst (λ x. LiesUnder m (Region q) (Region x)) same under) inner.2)
        (λ out. circle_is_endless (under_further under out) inner.2)
        (h.innermost q (all hub is)));
  }

  star_no_internal : (t : TransId) → IsInternal m p t → (v : VertexId) → Enters m t v ⊎ Leaves m t v → (HasKind m v kinds.State → ⊥) → ⊥
  star_no_internal t i v ends none =
      let source = source_of shape rules p route t i.0 in
      let h = internal_ends rules t source.0 i.1 source.1 in
      ⊎_elim
      (λ e. none (subst (λ x. HasKind m x kinds.State) (enters_one m t source.0 v h.1 e) h.0))
      (λ l. none (subst (λ x. HasKind m x kinds.State) (leaves_one m t source.0 v source.1 l) h.0))
      ends

  -- all transitions into a join
  pub join_scope : (t : TransId) (j : VertexId) (home : RegionId) → On p t → IsJoinStar m p t j → IsHome m j home → LegScope m p t (Within home)
  join_scope t j home is star h =
      let enters = (star.1 t).0 (itself is) in
      other is
      (λ i. star_no_internal t i j (inl enters) (λ k. kinds_clash m j kinds.State kinds.Join (λ e. cc) k star.0))
      (λ s loc. local_to_no_join rules shape loc.0 s j loc.4 loc.2 loc.3 star.0 ((star.1 loc.0).0 loc.1))
      (λ some. join_no_point some.0 some.1 some.2)
      (around_home t j home h (t, itself is, inr enters) (target_there shape t j enters) (λ v of none. join_beside rules j star.0 (λ beside.
      none (⊎_elim
      (λ l. inr (beside.0, beside.1, beside.3, beside.4, beside.5.inside of.0 v ((star.1 of.0).0 of.1, l)))
      (λ e. inl (enters_one m of.0 v j e ((star.1 of.0).0 of.1)))
      of.2))))
    where
      join_no_point : (v s : VertexId) → PassesPoint m p t v s → ⊥
      join_no_point v s passes =
          let e = (star.1 passes.1.0).0 passes.1.1 in
          ⊎_elim
          (λ entry. kinds_clash m v kinds.State kinds.EntryPoint (λ c. cc) (join_from_state rules passes.1.0 j v star.0 e entry.1) entry.0)
          (λ exit. kinds_clash m j kinds.Join kinds.ExitPoint (λ c. cc) star.0
          (subst (λ x. HasKind m x kinds.ExitPoint) (enters_one m passes.1.0 v j exit.1 e) exit.0))
          passes.1.2

  -- all transitions out of a fork
  pub fork_scope : (t : TransId) (f : VertexId) (home : RegionId) → On p t → IsForkStar m p t f → IsHome m f home → LegScope m p t (Within home)
  fork_scope t f home is star h =
      let leaves = (star.1 t).0 (itself is) in
      other is
      (λ i. star_no_internal t i f (inr leaves) (λ k. kinds_clash m f kinds.State kinds.Fork (λ e. cc) k star.0))
      (λ s loc. kinds_clash m f kinds.State kinds.Fork (λ e. cc)
      (subst (λ x. HasKind m x kinds.State) (leaves_one m loc.0 s f loc.2 ((star.1 loc.0).0 loc.1)) loc.3) star.0)
      (λ some. fork_no_point some.0 some.1 some.2)
      (around_home t f home h (t, itself is, inl leaves) (source_there shape t f leaves) (λ v of none. fork_beside rules f star.0 (λ beside.
      none (⊎_elim
      (λ l. inl (leaves_one m of.0 v f l ((star.1 of.0).0 of.1)))
      (λ e. inr (beside.0, beside.1, beside.3, beside.4, beside.5.inside of.0 v ((star.1 of.0).0 of.1, e)))
      of.2))))
    where
      fork_no_point : (v s : VertexId) → PassesPoint m p t v s → ⊥
      fork_no_point v s passes =
          let l = (star.1 passes.1.0).0 passes.1.1 in
          ⊎_elim
          (λ entry. kinds_clash m f kinds.Fork kinds.EntryPoint (λ c. cc) star.0
          (subst (λ x. HasKind m x kinds.EntryPoint) (leaves_one m passes.1.0 v f entry.1 l) entry.0))
          (λ exit. end_not_through m v (fork_to_end rules passes.1.0 f v star.0 l exit.1) (inr (inr (inr (inr exit.0)))))
          passes.1.2
