-- Where a leg exits and enters: in one scope, by whichever of its transitions it is named.
use Rattle.std.proofs.Common.{◌≡◌, ◌≢◌, List, [], ◌∷◌, Some, refl, sym, ap, subst, inl, inr, ⊎_elim}
use Rattle.pssm_model.specs.declared.ids.VertexId.{VertexId}
use Rattle.pssm_model.specs.declared.ids.RegionId.{RegionId}
use Rattle.pssm_model.specs.declared.ids.TransId.{TransId}
use Rattle.pssm_model.specs.declared.elements.DraftMachine.{DraftMachine}
use Rattle.pssm_model.specs.declared.elements.VertexKind.TheVariants as kinds
use Rattle.pssm_model.specs.declared.elements.TransKind.TheVariants.{Local, Internal}
use Rattle.pssm_model.specs.declared.elements.Element.TheVariants as elements
use Rattle.pssm_model.specs.declared.elements.FaultPlace.TheVariants as places
use Rattle.pssm_model.specs.declared.elements.Owner.TheVariants.{Region, State}
use Rattle.pssm_model.specs.declared.steps.Route.{Route}
use Rattle.pssm_model.specs.Shapes.{HasShape}
use Rattle.pssm_model.specs.Forest.{HasKind, owner_of, IsScope, LiesUnder, LiesInRegion, LiesInState}
use Rattle.pssm_model.specs.Forest.LiesUnder.{owned}
use Rattle.pssm_model.specs.Legs.{On, Leaves, Enters, Goes, SameLeg, IsLocalFrom, IsInternal, IsOfLeg, PassesPoint, LegScope, Scope}
use Rattle.pssm_model.specs.Legs.Scope.{Inside, Within}
use Rattle.pssm_model.specs.Legs.SameLeg.{itself}
use Rattle.pssm_model.specs.Legs.LegScope.{internal, local, point, other}
use Rattle.pssm_model.specs.Items.{PathBefore}
use Rattle.pssm_model.specs.Paths.{IsJunctionPath}
use Rattle.pssm_model.specs.Paths.IsJunctionPath.{one}
use Rattle.pssm_model.specs.Routes.{IsRoute}
use Rattle.pssm_model.specs.RouteWords.{IsStepRoute}
use Rattle.pssm_model.specs.WellFormed.{KeepsModelRules, LieApartBeside}
use Rattle.pssm_model.specs.WellFormed.Breaks.{E07, E13, E14}
use Rattle.pssm_model.proofs.ElementLaws.{leaves_one, enters_one}
use Rattle.pssm_model_laws.proofs.Known.{sure}
use Rattle.pssm_model_laws.proofs.KnownPlaces.{known_vertex_kind, known_in_state}
use Rattle.pssm_model_laws.proofs.KnownClosures.{known_enters}
use Rattle.pssm_model.proofs.OwnerChains.{under_further}
use Rattle.pssm_model.proofs.Nesting.{under_cases}
use Rattle.pssm_model_laws.proofs.RegionChains.{on_one_chain, under_state}
use Rattle.pssm_model_laws.proofs.CommonRegions.{scope_same}
use Rattle.pssm_model_laws.proofs.Through.{kinds_clash, end_not_through, not_in_itself, one_region, no_cycle, step_leads, fork_to_end, exit_keeps, entry_to_no_exit}
use Rattle.pssm_model_laws.proofs.RouteOrder.{route_of, source_of, target_of}
use Rattle.pssm_model_laws.proofs.LegShapes.{InLeg, in_leg, ends_on, leg_on, leg_turned, first_step, last_step, join_from_no_through, one_beginning}
use Rattle.pssm_model_laws.proofs.LegShapes.InLeg.{one_and_same, path_to, path_from, in_join, in_fork}
use Rattle.pssm_legs.proofs.PathRegions.{in_head, path_join}

-- the ends of an internal transition are one State
module _ {m : DraftMachine} (rules : KeepsModelRules m) where
  pub internal_ends : (t : TransId) (v : VertexId) → Goes m t Internal → Leaves m t v → HasKind m v kinds.State × Enters m t v
  internal_ends t v goes l = (
    sure (known_vertex_kind m v kinds.State) (λ no. rules (places.At (elements.Transition t)) 13 (E13 (goes, (v, l, inl no)))),
    sure (known_enters m t v) (λ no. rules (places.At (elements.Transition t)) 13 (E13 (goes, (v, l, inr no)))),
  )

  -- what a local path out of a State comes to lies in it
  pub local_inside : HasShape m → (t : TransId) (ts : List TransId) (s v : VertexId) → Goes m t Local → Leaves m t s → HasKind m s kinds.State
      → IsJunctionPath m (t ∷ ts) v → LiesInState m v s
  local_inside shape t ts s v goes l k path =
      sure (known_in_state shape v s) (λ no. rules (places.At (elements.Transition t)) 14 (E14 (goes, inr (s, v, ts, inl (l, k), path, no))))

  pub join_beside : (j : VertexId) → HasKind m j kinds.Join → (LieApartBeside m j (λ t s. Enters m t j × Leaves m t s) → ⊥) → ⊥
  join_beside j k none = rules (places.At (elements.Vertex j)) 7 (E07 (k, inr none))

  -- so none into a join is local
  pub local_to_no_join : HasShape m → (t : TransId) (s j : VertexId) → Goes m t Local → Leaves m t s → HasKind m s kinds.State → HasKind m j kinds.Join
      → Enters m t j → ⊥
  local_to_no_join shape t s j goes l k join e =
      join_beside j join (λ beside.
      let q = beside.0 in
      let r = beside.1 in
      let down = local_inside shape t [] s j goes l k (one e) in
      let up = beside.5.inside t s (e, l) in
      let under : LiesUnder m (State j) (State q) =
      under_further {m = m} (under_further {m = m} down.2 (owned down.1)) (under_further {m = m} up.2 (owned up.1)) in
      ⊎_elim
      (λ wrong. absurd (cc))
      (λ more. not_in_itself shape q beside.2 (under_further {m = m} (owned beside.3) more))
      (under_cases m (State j) (Region r) (State q) beside.4 under))

module _ {m : DraftMachine} (shape : HasShape m) (rules : KeepsModelRules m) (p : Route) (step : IsStepRoute m p) where
  route : IsRoute m p
  route = route_of m p step

  -- an internal transition is alone in its leg
  pub internal_alone : (t u : TransId) → IsInternal m p t → SameLeg m p t u → u ≡ t
  internal_alone t u i leg = by (in_leg shape rules p route t u leg)
    where
      by : InLeg m p t u → u ≡ t
      by h =
          let source = source_of shape rules p route t i.0 in
          let ends = internal_ends rules t source.0 i.1 source.1 in
          let is_state = λ (v : VertexId) (e : Enters m t v). subst (λ x. HasKind m x kinds.State) (enters_one m t source.0 v ends.1 e) ends.0 in
          let leaves_state = λ (v : VertexId) (l : Leaves m t v). subst (λ x. HasKind m x kinds.State) (leaves_one m t source.0 v source.1 l) ends.0 in
          cases h is_state leaves_state
        where
          cases : InLeg m p t u → ((v : VertexId) → Enters m t v → HasKind m v kinds.State) → ((v : VertexId) → Leaves m t v → HasKind m v kinds.State) → u ≡ t
          cases (one_and_same same) a c = sym same
          cases (path_to on) a c =
              let f = first_step m p t u on in absurd (kinds_clash m f.1.at kinds.State kinds.Junction (λ e. cc) (a f.1.at f.1.enters) f.1.kind)
          cases (path_from back) a c =
              let l = last_step m p u t back in absurd (kinds_clash m l.1.at kinds.State kinds.Junction (λ e. cc) (c l.1.at l.1.leaves) l.1.kind)
          cases (in_join v k e f) a c = absurd (kinds_clash m v kinds.State kinds.Join (λ e. cc) (a v e) k)
          cases (in_fork v k l g) a c = absurd (kinds_clash m v kinds.State kinds.Fork (λ e. cc) (c v l) k)

  -- a State or a vertex that cuts the route is left by the first transitions of a leg alone
  junction_left : (u w : TransId) (v : VertexId) → PathBefore m p u w → Leaves m w v → HasKind m v kinds.Junction
  junction_left u w v h l = let last = last_step m p u w h in subst (λ x. HasKind m x kinds.Junction) (leaves_one m w last.1.at v last.1.leaves l) last.1.kind

  junction_entered : (u w : TransId) (v : VertexId) → PathBefore m p u w → Enters m u v → HasKind m v kinds.Junction
  junction_entered u w v h e =
      let first = first_step m p u w h in subst (λ x. HasKind m x kinds.Junction) (enters_one m u first.1.at v first.1.enters e) first.1.kind

  local_not_internal : (t : TransId) (s : VertexId) → IsInternal m p t → IsLocalFrom m p t s → ⊥
  local_not_internal t s i h =
      let goes = subst (λ x. Goes m x Local) (internal_alone t h.0 i h.1) h.4 in
      let other = i.1 in cc

  point_not_internal : (t : TransId) (v s : VertexId) → IsInternal m p t → PassesPoint m p t v s → ⊥
  point_not_internal t v s i h =
      let same = internal_alone t h.1.0 i h.1.1 in
      let source = source_of shape rules p route t i.0 in
      let ends = internal_ends rules t source.0 i.1 source.1 in
      ⊎_elim
      (λ entry. kinds_clash m v kinds.State kinds.EntryPoint (λ e. cc)
      (subst (λ x. HasKind m x kinds.State) (leaves_one m t source.0 v source.1 (subst (λ x. Leaves m x v) same entry.1)) ends.0) entry.0)
      (λ exit. kinds_clash m v kinds.State kinds.ExitPoint (λ e. cc)
      (subst (λ x. HasKind m x kinds.State) (enters_one m t source.0 v ends.1 (subst (λ x. Enters m x v) same exit.1)) ends.0) exit.0)
      h.1.2

  -- it is local from one State
  local_once : (t : TransId) (s q : VertexId) → IsLocalFrom m p t s → IsLocalFrom m p t q → s ≡ q
  local_once t s q h g = by (in_leg shape rules p route h.0 g.0 (leg_on m p h.0 t g.0 (leg_turned m p t h.0 h.1) g.1))
    where
      by : InLeg m p h.0 g.0 → s ≡ q
      by (one_and_same same) = leaves_one m g.0 s q (subst (λ x. Leaves m x s) same h.2) g.2
      by (path_to on) = absurd (kinds_clash m q kinds.State kinds.Junction (λ e. cc) g.3 (junction_left h.0 g.0 q on g.2))
      by (path_from back) = absurd (kinds_clash m s kinds.State kinds.Junction (λ e. cc) h.3 (junction_left g.0 h.0 s back h.2))
      by (in_join j k e f) = absurd (local_to_no_join rules shape h.0 s j h.4 h.2 h.3 k e)
      by (in_fork f k l m2) = absurd (kinds_clash m s kinds.State kinds.Fork (λ e. cc) h.3 (subst (λ x. HasKind m x kinds.Fork) (leaves_one m h.0 f s l h.2) k))

  -- a leg that is local from a State neither begins at an entry point nor ends on an exit point
  local_to_no_exit : (u : TransId) (ts : List TransId) (s v q : VertexId) → Goes m u Local → Leaves m u s → HasKind m s kinds.State → HasKind m v kinds.ExitPoint
      → owner_of m (State v) ≡ Some (State q) → IsJunctionPath m (u ∷ ts) v → ⊥
  local_to_no_exit u ts s v q goes l k exit own path =
      let down = local_inside rules shape u ts s v goes l k path in
      exit_keeps rules v q (u ∷ ts) exit own path (λ keeps.
      let here = keeps.2 s (u, in_head u ts, inl l) (λ same.
      kinds_clash m v kinds.State kinds.ExitPoint (λ e. cc) (subst (λ x. HasKind m x kinds.State) same k) exit) in
      let above : LiesUnder m (State s) (State q) = under_further {m = m} here (owned keeps.1) in
      let below : LiesUnder m (State q) (State s) = under_further {m = m} (under_state m (State v) q down.0 own down.2) (owned down.1) in
      not_in_itself shape s k (under_further {m = m} above below))

  local_entry : (u w : TransId) (s v : VertexId) → Goes m u Local → Leaves m u s → HasKind m s kinds.State → HasKind m v kinds.EntryPoint → Leaves m w v
      → InLeg m p u w → ⊥
  local_entry u w s v goes l k entry g (one_and_same same) =
      kinds_clash m v kinds.State kinds.EntryPoint (λ e. cc)
      (subst (λ x. HasKind m x kinds.State) (leaves_one m w s v (subst (λ x. Leaves m x s) same l) g) k) entry
  local_entry u w s v goes l k entry g (path_to on) = kinds_clash m v kinds.EntryPoint kinds.Junction (λ e. cc) entry (junction_left u w v on g)
  local_entry u w s v goes l k entry g (path_from back) = kinds_clash m s kinds.State kinds.Junction (λ e. cc) k (junction_left w u s back l)
  local_entry u w s v goes l k entry g (in_join j join e f) = local_to_no_join rules shape u s j goes l k join e
  local_entry u w s v goes l k entry g (in_fork f fork a c) =
      kinds_clash m s kinds.State kinds.Fork (λ e. cc) k (subst (λ x. HasKind m x kinds.Fork) (leaves_one m u f s a l) fork)

  local_exit : (u w : TransId) (s v q : VertexId) → Goes m u Local → Leaves m u s → HasKind m s kinds.State → HasKind m v kinds.ExitPoint
      → owner_of m (State v) ≡ Some (State q) → Enters m w v → InLeg m p u w → ⊥
  local_exit u w s v q goes l k exit own e (one_and_same same) =
      local_to_no_exit u [] s v q goes l k exit own (one (subst (λ x. Enters m x v) (sym same) e))
  local_exit u w s v q goes l k exit own e (path_to on) =
      let path = path_join m p u w [] v on (one e) in local_to_no_exit u path.0 s v q goes l k exit own path.1
  local_exit u w s v q goes l k exit own e (path_from back) = kinds_clash m s kinds.State kinds.Junction (λ e. cc) k (junction_left w u s back l)
  local_exit u w s v q goes l k exit own e (in_join j join f g) =
      kinds_clash m v kinds.Join kinds.ExitPoint (λ e. cc) (subst (λ x. HasKind m x kinds.Join) (enters_one m w j v g e) join) exit
  local_exit u w s v q goes l k exit own e (in_fork f fork a c) =
      kinds_clash m s kinds.State kinds.Fork (λ e. cc) k (subst (λ x. HasKind m x kinds.Fork) (leaves_one m u f s a l) fork)

  pub local_no_point : (t : TransId) (s v q : VertexId) → IsLocalFrom m p t s → PassesPoint m p t v q → ⊥
  local_no_point t s v q h g =
      let leg = in_leg shape rules p route h.0 g.1.0 (leg_on m p h.0 t g.1.0 (leg_turned m p t h.0 h.1) g.1.1) in
      ⊎_elim
      (λ entry. local_entry h.0 g.1.0 s v h.4 h.2 h.3 entry.0 entry.1 leg)
      (λ exit. local_exit h.0 g.1.0 s v q h.4 h.2 h.3 exit.0 g.0 exit.1 leg)
      g.1.2

  -- it passes one point
  two_exits : (u w : TransId) (v x : VertexId) → HasKind m v kinds.ExitPoint → Enters m u v → HasKind m x kinds.ExitPoint → Enters m w x → InLeg m p u w → v ≡ x
  two_exits u w v x a e c f (one_and_same same) = enters_one m w v x (subst (λ y. Enters m y v) same e) f
  two_exits u w v x a e c f (path_to on) = absurd (kinds_clash m v kinds.ExitPoint kinds.Junction (λ e. cc) a (junction_entered u w v on e))
  two_exits u w v x a e c f (path_from back) = absurd (kinds_clash m x kinds.ExitPoint kinds.Junction (λ e. cc) c (junction_entered w u x back f))
  two_exits u w v x a e c f (in_join j join g h) =
      absurd (kinds_clash m v kinds.Join kinds.ExitPoint (λ e. cc) (subst (λ y. HasKind m y kinds.Join) (enters_one m u j v g e) join) a)
  two_exits u w v x a e c f (in_fork k fork g h) =
      absurd (end_not_through m v (fork_to_end rules u k v fork g e) (inr (inr (inr (inr a)))))

  entry_and_exit : (u w : TransId) (v x : VertexId) → HasKind m v kinds.EntryPoint → Leaves m u v → HasKind m x kinds.ExitPoint → Enters m w x → InLeg m p u w → ⊥
  entry_and_exit u w v x a l c f (one_and_same same) =
      entry_to_no_exit rules shape v x u [] a l (one (subst (λ y. Enters m y x) (sym same) f)) c
  entry_and_exit u w v x a l c f (path_to on) =
      let path = path_join m p u w [] x on (one f) in entry_to_no_exit rules shape v x u path.0 a l path.1 c
  entry_and_exit u w v x a l c f (path_from back) = kinds_clash m x kinds.ExitPoint kinds.Junction (λ e. cc) c (junction_entered w u x back f)
  entry_and_exit u w v x a l c f (in_join j join g h) =
      join_from_no_through shape rules p route u j v join g l (inr (inr (inr (inl a))))
  entry_and_exit u w v x a l c f (in_fork k fork g h) =
      kinds_clash m v kinds.Fork kinds.EntryPoint (λ e. cc) (subst (λ y. HasKind m y kinds.Fork) (leaves_one m u k v g l) fork) a

  one_point : (t : TransId) (v s x q : VertexId) → PassesPoint m p t v s → PassesPoint m p t x q → v ≡ x
  one_point t v s x q h g =
      let leg = leg_on m p h.1.0 t g.1.0 (leg_turned m p t h.1.0 h.1.1) g.1.1 in
      let first = in_leg shape rules p route h.1.0 g.1.0 leg in
      let back = in_leg shape rules p route g.1.0 h.1.0 (leg_turned m p h.1.0 g.1.0 leg) in
      ⊎_elim
      (λ entry. ⊎_elim
      (λ too. one_beginning shape rules p route h.1.0 g.1.0 v x leg (inr (inr (inl entry.0))) (inr (inr (inl too.0))) entry.1 too.1)
      (λ exit. absurd (entry_and_exit h.1.0 g.1.0 v x entry.0 entry.1 exit.0 exit.1 first))
      g.1.2)
      (λ exit. ⊎_elim
      (λ entry. absurd (entry_and_exit g.1.0 h.1.0 x v entry.0 entry.1 exit.0 exit.1 back))
      (λ too. two_exits h.1.0 g.1.0 v x exit.0 exit.1 too.0 too.1 first)
      g.1.2)
      h.1.2

  -- and has another vertex
  beside_point : (t : TransId) (v s : VertexId) → PassesPoint m p t v s → (w : VertexId) × IsOfLeg m p t w × (w ≢ v)
  beside_point t v s h =
      ⊎_elim
      (λ entry.
      let w = target_of shape rules p route h.1.0 (ends_on m p t h.1.0 h.1.1) in (
        w.0,
        (h.1.0, h.1.1, inr w.1),
        λ same.
            (let cycle = step_leads m v v h.1.0 (inr (inr (inr (inl entry.0)))) (inr (inr (inr (inl entry.0)))) entry.1 (subst (Enters m h.1.0) same w.1) in
            no_cycle rules v cycle),
      ))
      (λ exit.
      let w = source_of shape rules p route h.1.0 (ends_on m p t h.1.0 h.1.1) in (
        w.0,
        (h.1.0, h.1.1, inl w.1),
        λ same.
            (let cycle = step_leads m v v h.1.0 (inr (inr (inr (inr exit.0)))) (inr (inr (inr (inr exit.0)))) (subst (Leaves m h.1.0) same w.1) exit.1 in
            no_cycle rules v cycle),
      ))
      h.1.2

  one_point_region : (t : TransId) (v s x q : VertexId) (r k : RegionId) → PassesPoint m p t v s → PassesPoint m p t x q
      → owner_of m (Region r) ≡ Some (State s) → owner_of m (Region k) ≡ Some (State q)
      → ((w : VertexId) → IsOfLeg m p t w → w ≢ v → LiesInRegion m w r) → ((w : VertexId) → IsOfLeg m p t w → w ≢ x → LiesInRegion m w k) → r ≡ k
  one_point_region t v s x q r k h g e f all too =
      let at = one_point t v s x q h g in
      let first = h.0 in
      let second = subst (λ y. owner_of m (State y) ≡ Some (State q)) (sym at) g.0 in
      let state : s ≡ q = cc (first, second) in
      let w = beside_point t v s h in
      one_region shape (State w.0) s r k e (subst (λ y. owner_of m (Region k) ≡ Some (State y)) (sym state) f)
      (all w.0 w.1 w.2)
      (too w.0 w.1 (λ same. w.2 (subst (λ y. w.0 ≡ y) (sym at) same)))

  -- the innermost region of its vertices is one
  one_innermost : (t : TransId) (r k : RegionId) → On p t → IsScope m (IsOfLeg m p t) r → IsScope m (IsOfLeg m p t) k → r ≡ k
  one_innermost t r k is h g =
      let s = source_of shape rules p route t is in
      let at : IsOfLeg m p t s.0 = (t, itself is, inl s.1) in
      ⊎_elim
      (⊎_elim (λ same. same) (λ under. absurd (g.innermost r h.common under)))
      (⊎_elim (λ same. sym same) (λ under. absurd (h.innermost k g.common under)))
      (on_one_chain m (State s.0) r k (h.common s.0 at) (g.common s.0 at))

  pub one_scope : (t : TransId) (a c : Scope) → LegScope m p t a → LegScope m p t c → a ≡ c
  one_scope t _ _ (internal i) (internal j) = refl
  one_scope t _ _ (internal i) (local {s = s} h) = absurd (local_not_internal t s i h)
  one_scope t _ _ (internal i) (point {s = s} {v = v} h e all) = absurd (point_not_internal t v s i h)
  one_scope t _ _ (internal i) (other is n l o scope) = absurd (n i)
  one_scope t _ _ (local {s = s} h) (internal i) = absurd (local_not_internal t s i h)
  one_scope t _ _ (local {s = s} h) (local {s = q} g) = ap Inside (local_once t s q h g)
  one_scope t _ _ (local {s = s} h) (point {s = q} {v = v} g e all) = absurd (local_no_point t s v q h g)
  one_scope t _ _ (local {s = s} h) (other is n l o scope) = absurd (l s h)
  one_scope t _ _ (point {s = s} {v = v} h e all) (internal i) = absurd (point_not_internal t v s i h)
  one_scope t _ _ (point {s = q} {v = v} g e all) (local {s = s} h) = absurd (local_no_point t s v q h g)
  one_scope t _ _ (point {s = s} {v = v} {r = r} h e all) (point {s = q} {v = x} {r = k} g f too) =
      ap Within (one_point_region t v s x q r k h g e f all too)
  one_scope t _ _ (point {s = s} {v = v} h e all) (other is n l o scope) = absurd (o (v, s, h))
  one_scope t _ _ (other is n l o scope) (internal i) = absurd (n i)
  one_scope t _ _ (other is n l o scope) (local {s = s} h) = absurd (l s h)
  one_scope t _ _ (other is n l o scope) (point {s = s} {v = v} h e all) = absurd (o (v, s, h))
  one_scope t _ _ (other {r = r} is n l o scope) (other {r = k} too n2 l2 o2 scope2) = ap Within (one_innermost t r k is scope scope2)

  -- by whichever of its transitions the leg is named
  of_leg_too : (t u : TransId) (v : VertexId) → SameLeg m p t u → IsOfLeg m p u v → IsOfLeg m p t v
  of_leg_too t u v leg h = (h.0, leg_on m p t u h.0 leg h.1, h.2)

  local_too : (t u : TransId) (s : VertexId) → SameLeg m p t u → IsLocalFrom m p u s → IsLocalFrom m p t s
  local_too t u s leg h = (h.0, leg_on m p t u h.0 leg h.1, h.2, h.3, h.4)

  passes_too : (t u : TransId) (v s : VertexId) → SameLeg m p t u → PassesPoint m p u v s → PassesPoint m p t v s
  passes_too t u v s leg h = (h.0, (h.1.0, leg_on m p t u h.1.0 leg h.1.1, h.1.2))

  pub scope_too : (t u : TransId) (a : Scope) → SameLeg m p t u → LegScope m p t a → LegScope m p u a
  scope_too t u _ leg (internal i) = internal (subst (IsInternal m p) (sym (internal_alone t u i leg)) i)
  scope_too t u _ leg (local {s = s} h) = local (local_too u t s (leg_turned m p t u leg) h)
  scope_too t u _ leg (point {s = s} {v = v} h e all) =
      point (passes_too u t v s (leg_turned m p t u leg) h) e (λ w is apart. all w (of_leg_too t u w leg is) apart)
  scope_too t u _ leg (other {r = r} is n l o scope) =
      let back = leg_turned m p t u leg in
      other (ends_on m p t u leg)
      (λ i. n (subst (IsInternal m p) (sym (internal_alone u t i back)) i))
      (λ s h. l s (local_too t u s leg h))
      (λ h. o (h.0, h.1, passes_too t u h.0 h.1 leg h.2))
      (scope_same m (IsOfLeg m p t) (IsOfLeg m p u) r (λ v. of_leg_too t u v leg) (λ v. of_leg_too u t v back) scope)

  pub scope_is_one : (t u : TransId) (a c : Scope) → SameLeg m p t u → LegScope m p t a → LegScope m p u c → c ≡ a
  scope_is_one t u a c leg h g = one_scope u c a g (scope_too t u a leg h)
