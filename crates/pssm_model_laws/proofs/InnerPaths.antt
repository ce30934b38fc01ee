-- From where a step goes on within itself, from a fork and from an entry point paths over junctions, forks and entry points go further in:
-- they come to no exit point and to no join.
use Rattle.std.proofs.Common.{◌≡◌, ◌≢◌, ◌⊎◌, ◌<◌, List, [], ◌∷◌, ◌++◌, length, Some, Contains, refl, sym, subst, ◌∙◌, inl, inr, ⊎_elim}
use Rattle.std.proofs.lemmas.List.Elements.{Contains-append_left}
use Rattle.std.proofs.lemmas.Option.{slice_get_within}
use Rattle.pssm_model.specs.declared.ids.VertexId.{VertexId}
use Rattle.pssm_model.specs.declared.ids.RegionId.{RegionId}
use Rattle.pssm_model.specs.declared.ids.TransId.{TransId}
use Rattle.pssm_model.specs.declared.elements.DraftMachine.{DraftMachine}
use Rattle.pssm_model.specs.declared.elements.Vertex.{Vertex}
use Rattle.pssm_model.specs.declared.elements.Transition.{Transition}
use Rattle.pssm_model.specs.declared.elements.VertexKind.{VertexKind}
use Rattle.pssm_model.specs.declared.elements.VertexKind.TheVariants as kinds
use Rattle.pssm_model.specs.declared.elements.Owner.{Owner}
use Rattle.pssm_model.specs.declared.elements.Owner.TheVariants.{Top, Region, State}
use Rattle.pssm_model.specs.declared.elements.Element.TheVariants as elements
use Rattle.pssm_model.specs.declared.elements.FaultPlace.TheVariants as places
use Rattle.pssm_model.specs.Forest.{vertex_at, transition_at, owner_of, HasKind, IsStateOrFinal, LiesUnder, LiesInRegion}
use Rattle.pssm_model.specs.Forest.LiesUnder.{owned, further}
use Rattle.pssm_model.specs.Legs.{Leaves, Enters, IsPoint}
use Rattle.pssm_model.specs.FiringSets.{IsLateOrigin}
use Rattle.pssm_model.specs.Paths.{IsJunctionPath, IsInner, ComesAfter}
use Rattle.pssm_model.specs.Paths.IsJunctionPath.{one, more}
use Rattle.pssm_model.specs.Paths.ComesAfter.{end, inner}
use Rattle.pssm_model.specs.Shapes.{HasShape, OwnsVertex}
use Rattle.pssm_model.specs.WellFormed.{KeepsModelRules}
use Rattle.pssm_model.specs.WellFormed.Breaks.{E08, E15, E16, E20, E21}
use Rattle.pssm_model.proofs.ElementLaws.{mapped_some, mapped_at, some_at, kind_unique, enters_one}
use Rattle.pssm_model.proofs.RouteLaws.{in_one}
use Rattle.pssm_model.proofs.OwnerChains.{under_further, circle_is_endless}
use Rattle.pssm_model.proofs.Nesting.{region_cases, lies_within}
use Rattle.pssm_model_laws.proofs.RegionChains.{under_state, on_one_chain}
use Rattle.pssm_model_laws.proofs.Known.{sure}
use Rattle.pssm_model_laws.proofs.KnownPlaces.{known_in_region, chain_above}

-- where a path goes in: from where a step goes on within itself, a fork, or an entry point
abbrev pub GoesIn : DraftMachine → VertexId → Type 0
GoesIn m v = IsLateOrigin m v ⊎ HasKind m v kinds.Fork ⊎ HasKind m v kinds.EntryPoint

-- its kind
abbrev pub IsInKind : VertexKind → Type 0
IsInKind kinds.Initial = Unit {0}
IsInKind kinds.ShallowHistory = Unit {0}
IsInKind kinds.DeepHistory = Unit {0}
IsInKind kinds.Choice = Unit {0}
IsInKind kinds.Fork = Unit {0}
IsInKind kinds.EntryPoint = Unit {0}
IsInKind _ = ⊥

record HasInKind (m : DraftMachine) (v : VertexId) : Type 0 where
  kind : VertexKind
  is : HasKind m v kind
  in_kind : IsInKind kind

has_in_kind : (m : DraftMachine) (v : VertexId) → GoesIn m v → HasInKind m v
has_in_kind m v h =
    ⊎_elim
    (⊎_elim
    (λ k. record { kind = kinds.Initial; is = k; in_kind = tt })
    (⊎_elim
    (⊎_elim
    (λ k. record { kind = kinds.ShallowHistory; is = k; in_kind = tt })
    (λ k. record { kind = kinds.DeepHistory; is = k; in_kind = tt }))
    (λ k. record { kind = kinds.Choice; is = k; in_kind = tt })))
    (⊎_elim
    (λ k. record { kind = kinds.Fork; is = k; in_kind = tt })
    (λ k. record { kind = kinds.EntryPoint; is = k; in_kind = tt }))
    h

-- so it is of no other kind
pub in_kind_of : (m : DraftMachine) (v : VertexId) (kind : VertexKind) → GoesIn m v → HasKind m v kind → IsInKind kind
in_kind_of m v kind h k =
    let has = has_in_kind m v h in
    subst IsInKind (kind_unique m v has.kind kind has.is k) has.in_kind

-- the kind of a vertex from which a step goes on within itself
abbrev pub IsLateOriginKind : VertexKind → Type 0
IsLateOriginKind kinds.Initial = Unit {0}
IsLateOriginKind kinds.ShallowHistory = Unit {0}
IsLateOriginKind kinds.DeepHistory = Unit {0}
IsLateOriginKind kinds.Choice = Unit {0}
IsLateOriginKind _ = ⊥

pub late_is_kind : (m : DraftMachine) (v : VertexId) (kind : VertexKind) → IsLateOrigin m v → HasKind m v kind → IsLateOriginKind kind
late_is_kind m v kind h k =
    ⊎_elim
    (λ i. subst IsLateOriginKind (kind_unique m v kinds.Initial kind i k) tt)
    (⊎_elim
    (⊎_elim
    (λ i. subst IsLateOriginKind (kind_unique m v kinds.ShallowHistory kind i k) tt)
    (λ i. subst IsLateOriginKind (kind_unique m v kinds.DeepHistory kind i k) tt))
    (λ i. subst IsLateOriginKind (kind_unique m v kinds.Choice kind i k) tt))
    h

pub late_is_no_point : (m : DraftMachine) (v : VertexId) → IsLateOrigin m v → IsPoint m v → ⊥
late_is_no_point m v h point =
    ⊎_elim (λ entry. late_is_kind m v kinds.EntryPoint h entry) (λ exit. late_is_kind m v kinds.ExitPoint h exit) point

-- a State is neither
pub not_state_or_final : (m : DraftMachine) (v : VertexId) (kind : VertexKind) → IsStateOrFinal m v → HasKind m v kind → kind ≢ kinds.State
    → kind ≢ kinds.Final → ⊥
not_state_or_final m v kind h k first second =
    ⊎_elim (λ s. first (kind_unique m v kind kinds.State k s)) (λ f. second (kind_unique m v kind kinds.Final k f)) h

module _ {m : DraftMachine} where
  pub path_more : {t : TransId} {ts : List TransId} {v : VertexId} (u : TransId) (w : VertexId) → IsJunctionPath m (t ∷ ts) v → HasKind m v kinds.Junction
      → Leaves m u v → Enters m u w → IsJunctionPath m (t ∷ (ts ++ u ∷ [])) w
  path_more u w (one e) k l f = more k e l (one f)
  path_more u w (more i e h rest) k l f = more i e h (path_more u w rest k l f)

  path_after : {t u : TransId} {ts : List TransId} {v w : VertexId} → ComesAfter m t v → HasKind m v kinds.Junction → Leaves m u v
      → IsJunctionPath m (u ∷ ts) w
      → ComesAfter m t w
  path_after {u = u} c k l (one e) = inner u c (inl k) l e
  path_after {u = u} c k l (more i e h rest) = path_after (inner u c (inl k) l e) i h rest

  -- a path over junctions comes to its end
  pub path_comes : {t : TransId} {ts : List TransId} {w : VertexId} → IsJunctionPath m (t ∷ ts) w → ComesAfter m t w
  path_comes (one e) = end e
  path_comes (more k e l rest) = path_after (end e) k l rest

  pub path_first : {t : TransId} {ts : List TransId} {w : VertexId} → IsJunctionPath m (t ∷ ts) w
      → (v : VertexId) × Enters m t v × ((v ≡ w) ⊎ HasKind m v kinds.Junction)
  path_first {w = w} (one e) = (w, e, inl refl)
  path_first (more {v = v} k e l rest) = (v, e, inr k)

pub in_head : {X : Type 0} (x : X) (xs : List X) → Contains (x ∷ xs) x
in_head x xs = Contains-append_left (x ∷ []) xs x (in_one x)

module _ {m : DraftMachine} (shape : HasShape m) where
  -- a vertex that is there has a kind
  pub kind_of : (v : VertexId) → v.0 < length m.vertices → (kind : VertexKind) × HasKind m v kind
  kind_of v lt =
      let x = some_at m.vertices v.0 lt in
      (x.0.kind, mapped_at (λ (y : Vertex). y.kind) (vertex_at m v) x.0 x.1)

  pub vertex_with_kind : (v : VertexId) (kind : VertexKind) → HasKind m v kind → v.0 < length m.vertices
  vertex_with_kind v kind k =
      let x = mapped_some (λ (y : Vertex). y.kind) (vertex_at m v) kind k in
      slice_get_within m.vertices v.0 x.0 x.1

  pub source_there : (t : TransId) (v : VertexId) → Leaves m t v → v.0 < length m.vertices
  source_there t v l =
      let x = mapped_some (λ (y : Transition). y.source) (transition_at m t) v l in
      subst (λ (y : VertexId). y.0 < length m.vertices) x.2 (shape.ends t x.0 x.1).0

  pub target_there : (t : TransId) (v : VertexId) → Enters m t v → v.0 < length m.vertices
  target_there t v e =
      let x = mapped_some (λ (y : Transition). y.target) (transition_at m t) v e in
      subst (λ (y : VertexId). y.0 < length m.vertices) x.2 (shape.ends t x.0 x.1).1

  first_owner : (p q : Owner) → LiesUnder m p q → (k : Owner) × (owner_of m p ≡ Some k)
  first_owner p q (owned e) = (q, e)
  first_owner p q (further {q = k} e rest) = (k, e)

  -- nothing lies under itself
  pub no_circle : (p : Owner) → LiesUnder m p p → ⊥
  no_circle p h =
      let first = first_owner p p h in
      circle_is_endless h (chain_above shape p first.0 first.1).1

  -- a point is owned by a State, and another vertex by a region
  pub point_owner : (v : VertexId) → IsPoint m v → (s : VertexId) × (owner_of m (State v) ≡ Some (State s)) × HasKind m s kinds.State
  point_owner v point =
      let lt = ⊎_elim (λ k. vertex_with_kind v kinds.EntryPoint k) (λ k. vertex_with_kind v kinds.ExitPoint k) point in
      let x = some_at m.vertices v.0 lt in
      by x.0.owner (shape.vertices v x.0 x.1).0 (mapped_at (λ (y : Vertex). y.owner) (vertex_at m v) x.0 x.1)
    where
      by : (p : Owner) → OwnsVertex m v p → owner_of m (State v) ≡ Some p
          → (s : VertexId) × (owner_of m (State v) ≡ Some (State s)) × HasKind m s kinds.State
      by Top owns e = absurd owns
      by (Region r) owns e = absurd (owns.0 point)
      by (State s) owns e = (s, e, owns.1)

  pub home_owner : (v : VertexId) → v.0 < length m.vertices → (IsPoint m v → ⊥) → (r : RegionId) × (owner_of m (State v) ≡ Some (Region r))
  home_owner v lt no_point =
      let x = some_at m.vertices v.0 lt in
      by x.0.owner (shape.vertices v x.0 x.1).0 (mapped_at (λ (y : Vertex). y.owner) (vertex_at m v) x.0 x.1)
    where
      by : (p : Owner) → OwnsVertex m v p → owner_of m (State v) ≡ Some p → (r : RegionId) × (owner_of m (State v) ≡ Some (Region r))
      by Top owns e = absurd owns
      by (Region r) owns e = (r, e)
      by (State s) owns e = absurd (no_point owns.0)

  -- a vertex does not lie in two regions of one State
  pub regions_apart : (v s : VertexId) (r q : RegionId) → owner_of m (Region r) ≡ Some (State s) → owner_of m (Region q) ≡ Some (State s)
      → LiesInRegion m v r → LiesInRegion m v q → r ≡ q
  regions_apart v s r q e f first second =
      ⊎_elim
      (⊎_elim (λ same. same) (λ under. absurd (no_circle (State s) (under_further (under_state m (Region r) s q e under) (owned f)))))
      (⊎_elim (λ same. sym same) (λ under. absurd (no_circle (State s) (under_further (under_state m (Region q) s r f under) (owned e)))))
      (on_one_chain m (State v) r q first second)

  module _ (rules : KeepsModelRules m) where
    -- a transition into a join leaves a State
    pub join_from_state : (t : TransId) (v j : VertexId) → Leaves m t v → Enters m t j → HasKind m j kinds.Join → (HasKind m v kinds.State → ⊥) → ⊥
    join_from_state t v j l e k none = rules (places.At (elements.Transition t)) 21 (E21 (v, j, l, e, inr (k, none)))

    -- from where a step goes on within itself, all that comes after lies in the region
    pub late_after : (o x : VertexId) (t : TransId) (r : RegionId) → IsLateOrigin m o → owner_of m (State o) ≡ Some (Region r) → Leaves m t o
        → ComesAfter m t x
        → LiesInRegion m x r
    late_after o x t r late e l comes =
        sure (known_in_region shape x r) (λ out.
        rules (places.At (elements.Vertex o)) 20 (E20 (inl (late, (t, r, l, e, (x, comes, out))))))

    -- and from an entry point in the region of its State in which the first target lies
    pub entry_after : (o s w x : VertexId) (t : TransId) (r : RegionId) → HasKind m o kinds.EntryPoint → owner_of m (State o) ≡ Some (State s)
        → owner_of m (Region r) ≡ Some (State s) → Leaves m t o → Enters m t w → LiesInRegion m w r → ComesAfter m t x → LiesInRegion m x r
    entry_after o s w x t r k e f l enters lies comes =
        sure (known_in_region shape x r) (λ out.
        rules (places.At (elements.Vertex o)) 20 (E20 (inr (k, (t, w, s, r, l, enters, e, f, lies, (x, comes, out))))))

    late_circle : (o x s : VertexId) (r q : RegionId) → owner_of m (State o) ≡ Some (Region r) → LiesInRegion m x r → owner_of m (State x) ≡ Some (State s)
        → owner_of m (Region q) ≡ Some (State s) → LiesInRegion m o q → ⊥
    late_circle o x s r q e lies f g back =
        no_circle (State s) (under_further (lies_within m s r q (under_state m (State x) s r f lies) (region_cases m (State o) r q e back)) (owned g))

    entry_circle : (o x z s : VertexId) (r q : RegionId) → owner_of m (State o) ≡ Some (State z) → owner_of m (Region r) ≡ Some (State z)
        → LiesInRegion m x r
        → owner_of m (State x) ≡ Some (State s) → owner_of m (Region q) ≡ Some (State s) → LiesInRegion m o q → ⊥
    entry_circle o x z s r q e i lies f g back =
        no_circle (State s)
        (under_further (under_state m (State x) s r f lies) (further i (under_further (under_state m (State o) z q e back) (owned g))))

    -- no path over junctions from a vertex that goes in ends on an exit point
    pub exit_behind : (o x : VertexId) (t : TransId) (ts : List TransId) → GoesIn m o → Leaves m t o → IsJunctionPath m (t ∷ ts) x
        → HasKind m x kinds.ExitPoint → ⊥
    exit_behind o x t ts inside l path k =
        let owner = point_owner x (inr k) in
        let stray = λ (circle : (q : RegionId) → owner_of m (Region q) ≡ Some (State owner.0) → LiesInRegion m o q → ⊥). (
        rules (places.At (elements.Vertex x)) 16 (E16 (
          k,
          inr (inr (
            owner.0,
            t ∷ ts,
            owner.1,
            path,
            λ keeps. circle keeps.0 keeps.1
                (keeps.2 o (t, in_head t ts, inl l) (λ same. in_kind_of m x kinds.ExitPoint (subst (GoesIn m) same inside) k)),
          )),
        ))
        ) in
        ⊎_elim
        (λ late.
        let home = home_owner o (source_there t o l) (late_is_no_point m o late) in
        let lies = late_after o x t home.0 late home.1 l (path_comes path) in
        stray (λ q g back. late_circle o x owner.0 home.0 q home.1 lies owner.1 g back))
        (⊎_elim
        (λ fork.
        let first = path_first path in
        rules (places.At (elements.Vertex o)) 8 (E08 (
          fork,
          inl (
            t,
            l,
            inr (λ s e is. ⊎_elim
                (λ same. not_state_or_final m s kinds.ExitPoint is (subst (λ y. HasKind m y kinds.ExitPoint)
                (sym same ∙ enters_one m t first.0 s first.1 e) k) (λ c. cc) (λ c. cc))
                (λ junction. not_state_or_final m s kinds.Junction is (subst (λ y. HasKind m y kinds.Junction)
                (enters_one m t first.0 s first.1 e) junction) (λ c. cc) (λ c. cc))
                first.2),
          ),
        )))
        (λ entry.
        let z = point_owner o (inl entry) in
        let first = path_first path in
        rules (places.At (elements.Vertex o)) 15 (E15 (
          entry,
          λ s e apart. (
              let into = apart.inside t first.0 (l, first.1) in
              let lies = entry_after o s first.0 x t into.0 entry e into.1 l first.1 into.2 (path_comes path) in
              stray (λ q g back. entry_circle o x s owner.0 into.0 q e into.1 lies owner.1 g back)),
        ))))
        inside

    -- the last part of an inner path: over junctions, from a vertex that goes in
    record HasTail (x : VertexId) : Type 0 where
      from : VertexId
      first : TransId
      rest : List TransId
      inside : GoesIn m from
      leaves : Leaves m first from
      path : IsJunctionPath m (first ∷ rest) x

    tail_of : {t : TransId} {x : VertexId} (o : VertexId) → GoesIn m o → Leaves m t o → ComesAfter m t x → HasTail x
    tail_of {t = t} o inside l (end e) = record { from = o; first = t; rest = []; inside = inside; leaves = l; path = one e }
    tail_of {x = x} o inside l (inner {v = v} u before is leaves e) =
        ⊎_elim
        (λ junction.
        let tail = tail_of o inside l before in
        record {
          from = tail.from;
          first = tail.first;
          rest = tail.rest ++ u ∷ [];
          inside = tail.inside;
          leaves = tail.leaves;
          path = path_more u x tail.path junction leaves e;
        })
        (λ goes. record { from = v; first = u; rest = []; inside = inr goes; leaves = leaves; path = one e })
        is

    -- no inner path from there comes to an exit point or a join
    pub after_no_exit : (o x : VertexId) (t : TransId) → GoesIn m o → Leaves m t o → ComesAfter m t x → HasKind m x kinds.ExitPoint → ⊥
    after_no_exit o x t inside l comes k =
        let tail = tail_of o inside l comes in
        exit_behind tail.from x tail.first tail.rest tail.inside tail.leaves tail.path k

    inner_no_state : (v : VertexId) → IsInner m v → HasKind m v kinds.State → ⊥
    inner_no_state v is k =
        ⊎_elim (λ junction. let clash = kind_unique m v kinds.Junction kinds.State junction k in cc) (λ goes. in_kind_of m v kinds.State (inr goes) k) is

    pub after_no_join : {t : TransId} {x : VertexId} (o : VertexId) → GoesIn m o → Leaves m t o → ComesAfter m t x → HasKind m x kinds.Join → ⊥
    after_no_join {t = t} {x = x} o inside l (end e) k = join_from_state t o x l e k (λ s. in_kind_of m o kinds.State inside s)
    after_no_join {x = x} o inside l (inner {v = v} u before is leaves e) k = join_from_state u v x leaves e k (inner_no_state v is)
