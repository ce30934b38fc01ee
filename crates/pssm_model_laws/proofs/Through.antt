-- What the rules of models say of junctions, forks, joins, entry and exit points, and of the transitions that meet there.
use Rattle.std.proofs.Common.{◌≡◌, ◌≢◌, ◌⊎◌, ◌<◌, ◌++◌, List, [], ◌∷◌, length, Some, sym, subst, inl, inr, ⊎_elim}
use Rattle.std.proofs.lemmas.List.Elements.{Contains-append_left}
use Rattle.pssm_model.specs.declared.ids.VertexId.{VertexId}
use Rattle.pssm_model.specs.declared.ids.RegionId.{RegionId}
use Rattle.pssm_model.specs.declared.ids.TransId.{TransId}
use Rattle.pssm_model.specs.declared.elements.DraftMachine.{DraftMachine}
use Rattle.pssm_model.specs.declared.elements.Vertex.{Vertex}
use Rattle.pssm_model.specs.declared.elements.Transition.{Transition}
use Rattle.pssm_model.specs.declared.elements.VertexKind.{VertexKind}
use Rattle.pssm_model.specs.declared.elements.VertexKind.TheVariants as kinds
use Rattle.pssm_model.specs.declared.elements.Owner.{Owner}
use Rattle.pssm_model.specs.declared.elements.Owner.TheVariants.{Top, Region, State}
use Rattle.pssm_model.specs.declared.elements.Element.TheVariants as elements
use Rattle.pssm_model.specs.declared.elements.FaultPlace.TheVariants as places
use Rattle.pssm_model.specs.Forest.{vertex_at, transition_at, HasKind, IsStateOrFinal, owner_of, LiesUnder, LiesInRegion, LiesInState}
use Rattle.pssm_model.specs.Forest.LiesUnder.{owned}
use Rattle.pssm_model.specs.Legs.{Leaves, Enters, IsPoint}
use Rattle.pssm_model.specs.Paths.{IsPseudostate, IsJunctionPath, ComesAfter, LeadsOn}
use Rattle.pssm_model.specs.Paths.IsJunctionPath.{one, more}
use Rattle.pssm_model.specs.Paths.ComesAfter.{end, inner}
use Rattle.pssm_model.specs.Paths.LeadsOn.{next as leads_next, after as leads_after}
use Rattle.pssm_model.specs.Shapes.{HasShape, OwnsVertex}
use Rattle.pssm_model.specs.WellFormed.{KeepsModelRules, LieApart, LieApartBeside, KeepsToOneRegion}
use Rattle.pssm_model.specs.WellFormed.Breaks.{E05, E06, E08, E15, E16, E19, E20, E21}
use Rattle.pssm_model_laws.specs.inner.RouteWords.{IsThrough}
use Rattle.pssm_model.proofs.ElementLaws.{mapped_some, mapped_at, kind_unique, enters_one}
use Rattle.pssm_model.proofs.RouteLaws.{in_one}
use Rattle.pssm_model.proofs.OwnerChains.{under_further, circle_is_endless}
use Rattle.pssm_model_laws.proofs.RegionChains.{vertex_there, on_one_chain, under_state}
use Rattle.pssm_model_laws.proofs.Known.{Known, sure, known_either, known_transition}
use Rattle.pssm_model_laws.proofs.KnownPlaces.{known_vertex_kind, known_in_region, known_in_state}

-- a junction, fork, join, entry or exit point
abbrev pub IsThroughKind : VertexKind → Type 0
IsThroughKind kinds.Junction = Unit {0}
IsThroughKind kinds.Fork = Unit {0}
IsThroughKind kinds.Join = Unit {0}
IsThroughKind kinds.EntryPoint = Unit {0}
IsThroughKind kinds.ExitPoint = Unit {0}
IsThroughKind _ = ⊥

module _ (m : DraftMachine) where
  -- a vertex is of one kind
  pub kinds_clash : (v : VertexId) (k l : VertexKind) → k ≢ l → HasKind m v k → HasKind m v l → ⊥
  kinds_clash v k l apart h g = apart (kind_unique m v k l h g)

  through_kind : (v : VertexId) → IsThrough m v → (k : VertexKind) × HasKind m v k × IsThroughKind k
  through_kind v h =
      ⊎_elim
      (λ is. (kinds.Junction, is, tt))
      (⊎_elim
      (λ is. (kinds.Fork, is, tt))
      (⊎_elim
      (λ is. (kinds.Join, is, tt))
      (⊎_elim (λ is. (kinds.EntryPoint, is, tt)) (λ is. (kinds.ExitPoint, is, tt)))))
      h

  -- a vertex of another kind is none of these
  pub not_through : (v : VertexId) (k : VertexKind) → (IsThroughKind k → ⊥) → HasKind m v k → IsThrough m v → ⊥
  not_through v k other h through =
      let at = through_kind v through in
      other (subst IsThroughKind (kind_unique m v at.0 k at.1 h) at.2)

  pub end_not_through : (v : VertexId) → IsStateOrFinal m v → IsThrough m v → ⊥
  end_not_through v h through =
      ⊎_elim (λ s. not_through v kinds.State (λ none. none) s through) (λ f. not_through v kinds.Final (λ none. none) f through) h

  pub known_through : (v : VertexId) → Known (IsThrough m v)
  known_through v =
      known_either
      (known_vertex_kind m v kinds.Junction)
      (known_either
      (known_vertex_kind m v kinds.Fork)
      (known_either
      (known_vertex_kind m v kinds.Join)
      (known_either (known_vertex_kind m v kinds.EntryPoint) (known_vertex_kind m v kinds.ExitPoint))))

  pub known_end : (v : VertexId) → Known (IsStateOrFinal m v)
  known_end v = known_either (known_vertex_kind m v kinds.State) (known_vertex_kind m v kinds.Final)

  -- they are pseudostates, and lead on from one to another
  is_pseudostate : (v : VertexId) → IsThrough m v → IsPseudostate m v
  is_pseudostate v h =
      ⊎_elim
      (λ is. (kinds.Junction, is, tt))
      (⊎_elim
      (λ is. (kinds.Fork, is, tt))
      (⊎_elim
      (λ is. (kinds.Join, is, tt))
      (⊎_elim (λ is. (kinds.EntryPoint, is, tt)) (λ is. (kinds.ExitPoint, is, tt)))))
      h

  pub step_leads : (v w : VertexId) (u : TransId) → IsThrough m v → IsThrough m w → Leaves m u v → Enters m u w → LeadsOn m v w
  step_leads v w u a b l e = leads_next (is_pseudostate v a) (is_pseudostate w b) (inl (u, l, e))

  pub then_leads : (v w x : VertexId) → (v ≡ w) ⊎ LeadsOn m v w → LeadsOn m w x → LeadsOn m v x
  then_leads v w x before h = ⊎_elim (λ same. subst (λ y. LeadsOn m y x) (sym same) h) (λ so_far. leads_after so_far h) before

  pub leads_then : (v w x : VertexId) → LeadsOn m v w → (w ≡ x) ⊎ LeadsOn m w x → LeadsOn m v x
  leads_then v w x h behind = ⊎_elim (λ same. subst (LeadsOn m v) same h) (λ on. leads_after h on) behind

  -- junction paths: where the first transition ends, and one transition further
  pub path_target : (t : TransId) (rest : List TransId) (v : VertexId) → IsJunctionPath m (t ∷ rest) v → (w : VertexId) × Enters m t w
  path_target t _ v (one e) = (v, e)
  path_target t _ v (more {v = w} k e l onward) = (w, e)

  pub path_push : (path : List TransId) (u : TransId) (v w : VertexId) → IsJunctionPath m path v → HasKind m v kinds.Junction → Leaves m u v
      → Enters m u w → IsJunctionPath m (path ++ u ∷ []) w
  path_push _ u v w (one e) k l f = more k e l (one f)
  path_push _ u v w (more {u = x} {rest = rest} j e g onward) k l f = more j e g (path_push (x ∷ rest) u v w onward k l f)

  along_path : (t u : TransId) (rest : List TransId) (v w : VertexId) → ComesAfter m t v → HasKind m v kinds.Junction → Leaves m u v
      → IsJunctionPath m (u ∷ rest) w → ComesAfter m t w
  along_path t u _ v w after k l (one e) = inner u after (inl k) l e
  along_path t u _ v w after k l (more {u = x} {rest = rest} {v = q} j e g onward) =
      along_path t x rest q w (inner u after (inl k) l e) j g onward

  -- what stands at the end of a junction path comes after it
  pub path_after : (t : TransId) (rest : List TransId) (v : VertexId) → IsJunctionPath m (t ∷ rest) v → ComesAfter m t v
  path_after t _ v (one e) = end e
  path_after t _ v (more {u = x} {rest = rest} {v = q} j e g onward) = along_path t x rest q v (end e) j g onward

module _ {m : DraftMachine} (shape : HasShape m) where
  -- the ends of a transition are there, and have kinds
  pub source_there : (t : TransId) (v : VertexId) → Leaves m t v → v.0 < length m.vertices
  source_there t v l =
      let x = mapped_some (λ (y : Transition). y.source) (transition_at m t) v l in
      subst (λ (y : VertexId). y.0 < length m.vertices) x.2 (shape.ends t x.0 x.1).0

  pub target_there : (t : TransId) (v : VertexId) → Enters m t v → v.0 < length m.vertices
  target_there t v e =
      let x = mapped_some (λ (y : Transition). y.target) (transition_at m t) v e in
      subst (λ (y : VertexId). y.0 < length m.vertices) x.2 (shape.ends t x.0 x.1).1

  pub kind_of : (v : VertexId) → v.0 < length m.vertices → (k : VertexKind) × HasKind m v k
  kind_of v lt = let x = vertex_there shape v lt in (x.0.kind, mapped_at (λ (y : Vertex). y.kind) (vertex_at m v) x.0 x.1)

  -- an entry or exit point is one of a State
  pub point_owner : (v : VertexId) → IsPoint m v → (s : VertexId) × (owner_of m (State v) ≡ Some (State s)) × HasKind m s kinds.State
  point_owner v point =
      let x = ⊎_elim (λ h. there kinds.EntryPoint h) (λ h. there kinds.ExitPoint h) point in
      by x.0.owner (shape.vertices v x.0 x.1).0 (mapped_at (λ (y : Vertex). y.owner) (vertex_at m v) x.0 x.1)
    where
      there : (k : VertexKind) → HasKind m v k → (x : Vertex) × (vertex_at m v ≡ Some x)
      there k h = let x = mapped_some (λ (y : Vertex). y.kind) (vertex_at m v) k h in (x.0, x.1)

      by : (p : Owner) → OwnsVertex m v p → owner_of m (State v) ≡ Some p → (s : VertexId) × (owner_of m (State v) ≡ Some (State s)) × HasKind m s kinds.State
      by Top owns e = absurd owns
      by (Region r) owns e = absurd (owns.0 point)
      by (State s) owns e = (s, e, owns.1)

  -- no State lies in itself
  pub not_in_itself : (s : VertexId) → HasKind m s kinds.State → LiesUnder m (State s) (State s) → ⊥
  not_in_itself s k round =
      let x = mapped_some (λ (y : Vertex). y.kind) (vertex_at m s) kinds.State k in
      circle_is_endless {m = m} round (shape.vertices s x.0 x.1).1.2

  -- a place lies in one region of a State
  not_nested_beside : (s : VertexId) (q r : RegionId) → owner_of m (Region q) ≡ Some (State s) → owner_of m (Region r) ≡ Some (State s)
      → LiesUnder m (Region q) (Region r) → ⊥
  not_nested_beside s q r e f under =
      not_in_itself s (shape.regions r (State s) f).0 (under_further {m = m} (under_state m (Region q) s r e under) (owned f))

  pub one_region : (p : Owner) (s : VertexId) (q r : RegionId) → owner_of m (Region q) ≡ Some (State s) → owner_of m (Region r) ≡ Some (State s)
      → LiesUnder m p (Region q) → LiesUnder m p (Region r) → q ≡ r
  one_region p s q r e f first second =
      ⊎_elim
      (⊎_elim (λ same. same) (λ under. absurd (not_nested_beside s q r e f under)))
      (⊎_elim (λ same. sym same) (λ under. absurd (not_nested_beside s r q f e under)))
      (on_one_chain m p q r first second)

module _ {m : DraftMachine} (rules : KeepsModelRules m) where
  -- they stand on no cycle
  pub no_cycle : (v : VertexId) → LeadsOn m v v → ⊥
  no_cycle v h = rules (places.At (elements.Vertex v)) 19 (E19 h)

  -- into a join from States alone, out of a fork to States and final states alone
  pub join_from_state : (t : TransId) (v s : VertexId) → HasKind m v kinds.Join → Enters m t v → Leaves m t s → HasKind m s kinds.State
  join_from_state t v s k e l =
      sure (known_vertex_kind m s kinds.State) (λ no. rules (places.At (elements.Transition t)) 21 (E21 (s, v, l, e, inr (k, no))))

  pub fork_to_end : (t : TransId) (v s : VertexId) → HasKind m v kinds.Fork → Leaves m t v → Enters m t s → IsStateOrFinal m s
  fork_to_end t v s k l e =
      sure (known_end m s) (λ no. rules (places.At (elements.Vertex v)) 8 (E08 (
        k,
        inl (t, l, inr (λ w f is. no (subst (IsStateOrFinal m) (enters_one m t w s f e) is))),
      )))

  -- one way out of a join and of an exit point, one into a fork
  pub join_one_out : (v : VertexId) (t u : TransId) → HasKind m v kinds.Join → Leaves m t v → Leaves m u v → t ≡ u
  join_one_out v t u k l g =
      sure (known_transition t u) (λ apart. rules (places.At (elements.Vertex v)) 5 (E05 (k, inr (inr (t, u, apart, l, g)))))

  pub exit_one_out : (v : VertexId) (t u : TransId) → HasKind m v kinds.ExitPoint → Leaves m t v → Leaves m u v → t ≡ u
  exit_one_out v t u k l g =
      sure (known_transition t u) (λ apart. rules (places.At (elements.Vertex v)) 16 (E16 (k, inl (inr (t, u, apart, l, g)))))

  pub fork_one_in : (v : VertexId) (t u : TransId) → HasKind m v kinds.Fork → Enters m t v → Enters m u v → t ≡ u
  fork_one_in v t u k e f =
      sure (known_transition t u) (λ apart. rules (places.At (elements.Vertex v)) 6 (E06 (k, inl (inr (t, u, apart, e, f)))))

  -- the targets of a fork and of an entry point lie apart
  pub fork_beside : (v : VertexId) → HasKind m v kinds.Fork → (LieApartBeside m v (λ t s. Leaves m t v × Enters m t s) → ⊥) → ⊥
  fork_beside v k none = rules (places.At (elements.Vertex v)) 8 (E08 (k, inr none))

  pub entry_beside : (v s : VertexId) → HasKind m v kinds.EntryPoint → owner_of m (State v) ≡ Some (State s)
      → (LieApart m s (λ t w. Leaves m t v × Enters m t w) → ⊥) → ⊥
  entry_beside v s k e none =
      rules (places.At (elements.Vertex v)) 15 (E15 (
        k,
        λ q f apart. (let same : q ≡ s = cc in none (subst (λ x. LieApart m x (λ t w. Leaves m t v × Enters m t w)) same apart)),
      ))

  pub fork_splits : (v w : VertexId) (t u : TransId) → HasKind m v kinds.Fork → Leaves m t v → Leaves m u v → Enters m t w → Enters m u w → t ≡ u
  fork_splits v w t u k l g e f =
      sure (known_transition t u) (λ apart. fork_beside v k (λ beside.
      (let inside = beside.5.inside t w (l, e) in beside.5.apart t u w w inside.0 apart (l, e) (g, f) inside.1 inside.2 inside.2)))

  pub entry_splits : (v s w x : VertexId) (r : RegionId) (t u : TransId) → HasKind m v kinds.EntryPoint → owner_of m (State v) ≡ Some (State s)
      → Leaves m t v → Leaves m u v → Enters m t w → Enters m u x → owner_of m (Region r) ≡ Some (State s) → LiesInRegion m w r → LiesInRegion m x r
      → t ≡ u
  entry_splits v s w x r t u k own l g e f region_is a b =
      sure (known_transition t u) (λ apart. entry_beside v s k own (λ lie. lie.apart t u w x r apart (l, e) (g, f) region_is a b))

  -- the other vertices of a junction path to an exit point lie in one region of its State
  pub exit_keeps : (v s : VertexId) (path : List TransId) → HasKind m v kinds.ExitPoint → owner_of m (State v) ≡ Some (State s) → IsJunctionPath m path v
      → (KeepsToOneRegion m path v s → ⊥) → ⊥
  exit_keeps v s path k own leads none = rules (places.At (elements.Vertex v)) 16 (E16 (k, inr (inr (s, path, own, leads, none))))

  module _ (shape : HasShape m) where
    -- from an entry point into its State, and on in the region in which the first transition ends
    pub entry_inside : (v s w : VertexId) (t : TransId) → HasKind m v kinds.EntryPoint → owner_of m (State v) ≡ Some (State s) → Leaves m t v
        → Enters m t w → LiesInState m w s
    entry_inside v s w t k own l e = sure (known_in_state shape w s) (λ no. entry_beside v s k own (λ lie. no (lie.inside t w (l, e))))

    pub entry_keeps : (v s w x : VertexId) (r : RegionId) (t : TransId) → HasKind m v kinds.EntryPoint → owner_of m (State v) ≡ Some (State s)
        → Leaves m t v → Enters m t w → owner_of m (Region r) ≡ Some (State s) → LiesInRegion m w r → ComesAfter m t x → LiesInRegion m x r
    entry_keeps v s w x r t k own l e region_is lies after =
        sure (known_in_region shape x r) (λ no.
        rules (places.At (elements.Vertex v)) 20 (E20 (inr (k, (t, w, s, r, l, e, own, region_is, lies, (x, after, no))))))

    -- no junction path leads from an entry point to an exit point
    pub entry_to_no_exit : (v x : VertexId) (t : TransId) (rest : List TransId) → HasKind m v kinds.EntryPoint → Leaves m t v
        → IsJunctionPath m (t ∷ rest) x → HasKind m x kinds.ExitPoint → ⊥
    entry_to_no_exit v x t rest k l leads exit =
        let s = point_owner shape v (inl k) in
        let q = point_owner shape x (inr exit) in
        let w = path_target m t rest x leads in
        let inside = entry_inside v s.0 w.0 t k s.1 l w.1 in
        let lies = entry_keeps v s.0 w.0 x inside.0 t k s.1 l w.1 inside.1 inside.2 (path_after m t rest x leads) in
        let up : LiesUnder m (State q.0) (State s.0) =
        under_further {m = m} (under_state m (State x) q.0 inside.0 q.1 lies) (owned inside.1) in
        exit_keeps x q.0 (t ∷ rest) exit q.1 leads (λ keeps.
        (let here = keeps.2 v (t, Contains-append_left (t ∷ []) rest t (in_one t), inl l) (λ same.
        kinds_clash m x kinds.EntryPoint kinds.ExitPoint (λ e. cc) (subst (λ y. HasKind m y kinds.EntryPoint) same k) exit) in
        let down : LiesUnder m (State s.0) (State q.0) =
        under_further {m = m} (under_state m (State v) s.0 keeps.0 s.1 here) (owned keeps.1) in
        not_in_itself shape s.0 s.2 (under_further {m = m} down up)))
