-- Where the vertices of a path over junctions lie.
use Rattle.std.proofs.Common.{◌≡◌, ◌≢◌, ◌⊎◌, ◌<◌, List, [], ◌∷◌, length, Some, Contains, sym, subst, inl, inr, ⊎_elim}
use Rattle.std.proofs.lemmas.Option.{slice_get_within}
use Rattle.std.proofs.lemmas.List.Elements.{Contains-append_left, Contains-append_right, Contains-append_cases}
use Rattle.pssm_model.specs.declared.ids.VertexId.{VertexId}
use Rattle.pssm_model.specs.declared.ids.RegionId.{RegionId}
use Rattle.pssm_model.specs.declared.ids.TransId.{TransId}
use Rattle.pssm_model.specs.declared.elements.DraftMachine.{DraftMachine}
use Rattle.pssm_model.specs.declared.elements.Vertex.{Vertex}
use Rattle.pssm_model.specs.declared.elements.Transition.{Transition}
use Rattle.pssm_model.specs.declared.elements.VertexKind.{VertexKind}
use Rattle.pssm_model.specs.declared.elements.VertexKind.TheVariants as kinds
use Rattle.pssm_model.specs.declared.elements.Element.TheVariants as elements
use Rattle.pssm_model.specs.declared.elements.FaultPlace.TheVariants as places
use Rattle.pssm_model.specs.declared.elements.Owner.TheVariants.{Region, State}
use Rattle.pssm_model.specs.declared.steps.Route.{Route}
use Rattle.pssm_model.specs.Shapes.{HasShape}
use Rattle.pssm_model.specs.Forest.{vertex_at, transition_at, HasKind, owner_of, LiesInRegion, LiesInState}
use Rattle.pssm_model.specs.Forest.LiesUnder.{further}
use Rattle.pssm_model.specs.Legs.{Leaves, Enters}
use Rattle.pssm_model.specs.Items.{PathBefore}
use Rattle.pssm_model.specs.Items.PathBefore.{next, after}
use Rattle.pssm_model.specs.Paths.{IsJunctionPath, LeadsOn}
use Rattle.pssm_model.specs.Paths.IsJunctionPath.{one, more}
use Rattle.pssm_model.specs.Paths.LeadsOn.{after as leads_after}
use Rattle.pssm_model.specs.WellFormed.{KeepsModelRules, ShareRegion}
use Rattle.pssm_model.specs.WellFormed.Breaks.{E21}
use Rattle.pssm_model_laws.specs.inner.RouteWords.{IsThrough}
use Rattle.pssm_model.proofs.ElementLaws.{mapped_some, leaves_one, nothing_in_nil}
use Rattle.pssm_model.proofs.RouteLaws.{in_one, is_one}
use Rattle.pssm_model_laws.proofs.Known.{sure, known_either}
use Rattle.pssm_model_laws.proofs.KnownPlaces.{known_vertex_kind, known_in_region, known_in_state}
use Rattle.pssm_model_laws.proofs.RegionChains.{IsTopmost, topmost, shares_topmost, topmost_of_other, lies_or_not, vertex_there, counted, some_region}
use Rattle.pssm_model_laws.proofs.Through.{kinds_clash, source_there, target_there, point_owner, one_region, no_cycle, exit_keeps, step_leads}

-- the first of a list is in it, and so are the others
pub in_head : {X : Type 0} (x : X) (xs : List X) → Contains (x ∷ xs) x
in_head x xs = Contains-append_left (x ∷ []) xs x (in_one x)

pub in_tail : {X : Type 0} (x y : X) (xs : List X) → Contains xs y → Contains (x ∷ xs) y
in_tail x y xs h = Contains-append_right (x ∷ []) xs y h

pub head_or_tail : {X : Type 0} (x y : X) (xs : List X) → Contains (x ∷ xs) y → (y ≡ x) ⊎ Contains xs y
head_or_tail x y xs h = ⊎_elim (λ first. inl (is_one x y first)) (λ later. inr later) (Contains-append_cases (x ∷ []) xs y h)

-- a vertex with a kind is there
pub kind_there : (m : DraftMachine) (v : VertexId) (k : VertexKind) → HasKind m v k → v.0 < length m.vertices
kind_there m v k h =
    let x = mapped_some (λ (y : Vertex). y.kind) (vertex_at m v) k h in
    slice_get_within m.vertices v.0 x.0 x.1

-- a transition with an end is there
pub leaves_there : (m : DraftMachine) (t : TransId) (v : VertexId) → Leaves m t v → t.0 < length m.transitions
leaves_there m t v h =
    let x = mapped_some (λ (y : Transition). y.source) (transition_at m t) v h in slice_get_within m.transitions t.0 x.0 x.1

pub enters_there : (m : DraftMachine) (t : TransId) (v : VertexId) → Enters m t v → t.0 < length m.transitions
enters_there m t v h =
    let x = mapped_some (λ (y : Transition). y.target) (transition_at m t) v h in slice_get_within m.transitions t.0 x.0 x.1

module _ (m : DraftMachine) where
  -- each of the path ends somewhere
  pub path_enters : (t u : TransId) (ts : List TransId) (v : VertexId) → IsJunctionPath m (t ∷ ts) v → Contains (t ∷ ts) u → (w : VertexId) × Enters m u w
  path_enters t u _ v (one e) h = (v, subst (λ x. Enters m x v) (sym (is_one t u h)) e)
  path_enters t u _ v (more {u = k} {rest = rest} {v = y} kind e g onward) h =
      ⊎_elim
      (λ same. (y, subst (λ x. Enters m x y) (sym same) e))
      (λ later. path_enters k u rest v onward later)
      (head_or_tail t u (k ∷ rest) h)

  -- what a further transition leaves is entered by one of the path
  pub source_is_target : (t u : TransId) (ts : List TransId) (v x : VertexId) → IsJunctionPath m (t ∷ ts) v → Contains ts u → Leaves m u x
      → (w : TransId) × Contains (t ∷ ts) w × Enters m w x
  source_is_target t u _ v x (one e) h l = absurd (nothing_in_nil u h)
  source_is_target t u _ v x (more {u = k} {rest = rest} {v = y} kind e g onward) h l =
      ⊎_elim
      (λ same. (t, in_head t (k ∷ rest), subst (Enters m t) (leaves_one m k y x g (subst (λ z. Leaves m z x) same l)) e))
      (λ later.
      let w = source_is_target k u rest v x onward later l in
      (w.0, in_tail t w.0 (k ∷ rest) w.1, w.2))
      (head_or_tail k u rest h)

  -- its last transition enters the vertex on which it ends
  pub path_ends : (t : TransId) (ts : List TransId) (v : VertexId) → IsJunctionPath m (t ∷ ts) v → (w : TransId) × Contains (t ∷ ts) w × Enters m w v
  path_ends t _ v (one e) = (t, in_head t [], e)
  path_ends t _ v (more {u = k} {rest = rest} kind e l onward) =
      let w = path_ends k rest v onward in (w.0, in_tail t w.0 (k ∷ rest) w.1, w.2)

  -- from a vertex through which routes go on to one such
  pub path_leads : (t : TransId) (ts : List TransId) (s v : VertexId) → IsThrough m s → IsThrough m v → Leaves m t s → IsJunctionPath m (t ∷ ts) v → LeadsOn m s v
  path_leads t _ s v a c l (one e) = step_leads m s v t a c l e
  path_leads t _ s v a c l (more {u = k} {rest = rest} {v = x} kind e g onward) =
      leads_after (step_leads m s x t a (inl kind) l e) (path_leads k rest x v (inl kind) c g onward)

  -- a path of a route with one behind it
  pub path_join : (p : Route) (t u : TransId) (ts : List TransId) (v : VertexId) → PathBefore m p t u → IsJunctionPath m (u ∷ ts) v
      → (rest : List TransId) × IsJunctionPath m (t ∷ rest) v
  path_join p t u ts v (next is there x k e l) onward = (u ∷ ts, more k e l onward)
  path_join p t u ts v (after {u = w} before behind) onward =
      let later = path_join p w u ts v behind onward in path_join p t w later.0 v before later.1

module _ {m : DraftMachine} (shape : HasShape m) where
  -- a vertex lies in some region
  pub any_region : (s : VertexId) → s.0 < length m.vertices → (r : RegionId) × LiesInRegion m s r
  any_region s lt =
      ⊎_elim
      (λ point.
      let q = point_owner shape s point in
      let there = vertex_there shape q.0 (kind_there m q.0 kinds.State q.2) in
      let r = some_region shape q.0 there.0 there.1 (λ other. ⊎_elim
      (λ entry. kinds_clash m q.0 kinds.State kinds.EntryPoint (λ e. cc) q.2 entry)
      (λ exit. kinds_clash m q.0 kinds.State kinds.ExitPoint (λ e. cc) q.2 exit)
      other) in
      (r.0, further q.1 r.1))
      (λ none. let x = vertex_there shape s lt in some_region shape s x.0 x.1 none)
      (known_either (known_vertex_kind m s kinds.EntryPoint) (known_vertex_kind m s kinds.ExitPoint))

  module _ (rules : KeepsModelRules m) where
    -- a transition stays in the topmost region
    connected : (top : RegionId) (u : TransId) (v w : VertexId) → IsTopmost m (State v) top → Leaves m u v → Enters m u w → IsTopmost m (State w) top
    connected top u v w h leaves e =
        let chain = counted shape w (target_there shape u w e) in
        ⊎_elim
        (λ lies. topmost_of_other m v w top h lies)
        (λ out. absurd (rules (places.At (elements.Transition u)) 21 (E21 (v, w, leaves, e, inl (λ shared. out (shares_topmost m v w top h shared))))))
        (lies_or_not m (State w) chain.0 top chain.1)

    path_topmost : (top : RegionId) (t u : TransId) (ts : List TransId) (s v w : VertexId) → IsTopmost m (State s) top → Leaves m t s
        → IsJunctionPath m (t ∷ ts) v → Contains (t ∷ ts) u → Enters m u w → IsTopmost m (State w) top
    path_topmost top t u _ s v w h l (one e) inside f = connected top t s w h l (subst (λ x. Enters m x w) (is_one t u inside) f)
    path_topmost top t u _ s v w h l (more {u = k} {rest = rest} {v = x} kind e g onward) inside f =
        ⊎_elim
        (λ same. connected top t s w h l (subst (λ y. Enters m y w) same f))
        (λ later. path_topmost top k u rest x v w (connected top t s x h l e) g onward later f)
        (head_or_tail t u (k ∷ rest) inside)

    -- all its targets share a region with its source
    pub path_shares : (t u : TransId) (ts : List TransId) (s v w : VertexId) → Leaves m t s → IsJunctionPath m (t ∷ ts) v → Contains (t ∷ ts) u
        → Enters m u w → ShareRegion m s w
    path_shares t u ts s v w l path inside e =
        let lt = source_there shape t s l in
        let some = any_region s lt in
        let above = counted shape s lt in
        let top = topmost m (State s) above.0 some.0 above.1 some.1 in
        (top.0, top.1.lies, (path_topmost top.0 t u ts s v w top.1 l path inside e).lies)

    -- a path to an exit point begins elsewhere, in its State
    pub exit_begins_apart : (t : TransId) (ts : List TransId) (s v : VertexId) → HasKind m v kinds.ExitPoint → Leaves m t s → IsJunctionPath m (t ∷ ts) v → s ≢ v
    exit_begins_apart t ts s v k l path same =
        let through : IsThrough m v = inr (inr (inr (inr k))) in
        no_cycle rules v (path_leads m t ts v v through through (subst (Leaves m t) same l) path)

    pub exit_begins_inside : (t : TransId) (ts : List TransId) (s v q : VertexId) → HasKind m v kinds.ExitPoint → owner_of m (State v) ≡ Some (State q)
        → Leaves m t s → IsJunctionPath m (t ∷ ts) v → LiesInState m s q
    exit_begins_inside t ts s v q k own l path =
        sure (known_in_state shape s q) (λ no. exit_keeps rules v q (t ∷ ts) k own path (λ keeps.
        no (keeps.0, keeps.1, keeps.2 s (t, in_head t ts, inl l) (exit_begins_apart t ts s v k l path))))

    -- and stays in the region of it in which it begins
    pub exit_stays : (t u : TransId) (ts : List TransId) (s v q w : VertexId) (r : RegionId) → HasKind m v kinds.ExitPoint
        → owner_of m (State v) ≡ Some (State q) → owner_of m (Region r) ≡ Some (State q) → LiesInRegion m s r → Leaves m t s → IsJunctionPath m (t ∷ ts) v
        → Contains (t ∷ ts) u → (Leaves m u w ⊎ Enters m u w) → w ≢ v → LiesInRegion m w r
    exit_stays t u ts s v q w r k own region_is lies l path inside ends apart =
        sure (known_in_region shape w r) (λ no. exit_keeps rules v q (t ∷ ts) k own path (λ keeps.
        (let begins = keeps.2 s (t, in_head t ts, inl l) (exit_begins_apart t ts s v k l path) in
        let same = one_region shape (State s) q keeps.0 r keeps.1 region_is begins lies in
        no (subst (LiesInRegion m w) same (keeps.2 w (u, inside, ends) apart)))))
