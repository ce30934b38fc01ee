-- Routes of a plain machine: each is one transition, which is one leg; where it exits, and what it enters.
use Rattle.std.proofs.Common.{◌≡◌, ◌<◌, [], ◌∷◌, length, Contains, Some, sym, subst, ◌∙◌, inl, inr, ⊎_elim}
use Rattle.std.proofs.lemmas.List.Elements.{All-contains}
use Rattle.std.proofs.lemmas.Option.{slice_get_within}
use Rattle.pssm_model.specs.declared.ids.VertexId.{VertexId}
use Rattle.pssm_model.specs.declared.ids.RegionId.{RegionId}
use Rattle.pssm_model.specs.declared.ids.TransId.{TransId}
use Rattle.pssm_model.specs.declared.elements.DraftMachine.{DraftMachine}
use Rattle.pssm_model.specs.declared.elements.Vertex.{Vertex}
use Rattle.pssm_model.specs.declared.elements.Transition.{Transition}
use Rattle.pssm_model.specs.declared.elements.VertexKind.TheVariants as kinds
use Rattle.pssm_model.specs.declared.elements.TransKind.TheVariants.{Local}
use Rattle.pssm_model.specs.declared.elements.Owner.{Owner}
use Rattle.pssm_model.specs.declared.elements.Owner.TheVariants.{Region, State}
use Rattle.pssm_model.specs.declared.steps.Route.{Route}
use Rattle.pssm_model.specs.declared.steps.Item.{Item}
use Rattle.pssm_model.specs.declared.steps.Item.TheVariants as items
use Rattle.pssm_model.specs.declared.steps.Mode.TheVariants.{Plain, Shallow, Deep}
use Rattle.pssm_model.specs.Forest.{vertex_at, transition_at, owner_of, LiesUnder, LiesInRegion}
use Rattle.pssm_model.specs.Forest.LiesUnder.{owned, further}
use Rattle.pssm_model.specs.Legs.{Leaves, Enters, On, transitions_of, SameLeg, IsCut, LaterLeg, IsOfLeg, PassesPoint, Scope, LiesInScope, LegScope, LegExits, LegEnters}
use Rattle.pssm_model.specs.Legs.SameLeg.{itself}
use Rattle.pssm_model.specs.Legs.LaterLeg.{next as leg_next, after as leg_after}
use Rattle.pssm_model.specs.Legs.LegScope.{internal, local, point, other}
use Rattle.pssm_model.specs.Items.{LegEnds, LegOpens}
use Rattle.pssm_model.specs.Routes.{IsReached, IsRoute}
use Rattle.pssm_model.specs.Routes.IsReached.{start, on}
use Rattle.pssm_model.proofs.ElementLaws.{mapped_some, mapped_at, some_at, leaves_one, enters_one}
use Rattle.pssm_model.proofs.RouteLaws.{is_one, reached_is_on}
use Rattle.pssm_model.proofs.OwnerChains.{under_further, circle_is_endless}
use Rattle.pssm_model.proofs.Nesting.{region_cases}
use Rattle.pssm_model_laws.proofs.StateRoutes.{start_is_on}
use Rattle.pssm_model_laws.proofs.LegShapes.{begins_on, ends_on}
use Rattle.pssm_suite.proofs.PlainMachines.{IsPlain, no_other, enters_state, goes_external, same_home}

-- a route of one transition, with the ends of it
pub record IsLone (m : DraftMachine) (p : Route) (t : TransId) : Type 0 where
  pub starts : p.starts ≡ t ∷ []
  pub only : (u : TransId) → On p u → u ≡ t
  pub source : VertexId
  pub leaves : Leaves m t source
  pub target : VertexId
  pub enters : Enters m t target
  pub home : RegionId
  pub source_home : owner_of m (State source) ≡ Some (Region home)
  pub target_home : owner_of m (State target) ≡ Some (Region home)

-- No region lies under the region.
abbrev pub IsBottom : DraftMachine → RegionId → Type 0
IsBottom m r = (q : RegionId) → LiesUnder m (Region q) (Region r) → ⊥

module _ (m : DraftMachine) (plain : IsPlain m) where
  -- a route has one start, and goes no further
  one_start : (p : Route) → IsRoute m p → (t : TransId) × (p.starts ≡ t ∷ [])
  one_start p route =
      ⊎_elim
      (λ one. (one.0, one.1))
      (λ join. absurd (no_other m plain join.0 kinds.Join (λ e. cc) (λ e. cc) join.1))
      route.starts

  only_reached : (p : Route) → IsRoute m p → (t : TransId) → p.starts ≡ t ∷ [] → (u : TransId) → IsReached m p u → u ≡ t
  only_reached p route t starts u (start h) = is_one t u (subst (λ ts. Contains ts u) starts h)
  only_reached p route t starts u (on {u = k} {v = v} r e l h) =
      absurd (route.goes_on k v kinds.State (reached_is_on m p k r) e (enters_state m plain k v e) u h l)

  pub lone_route : (p : Route) → IsRoute m p → (t : TransId) × IsLone m p t
  lone_route p route =
      let begin = one_start p route in
      let t = begin.0 in
      let there : t.0 < length m.transitions =
      All-contains (λ (u : TransId). u.0 < length m.transitions) (transitions_of p) t route.in_range (start_is_on p t begin.1) in
      let x = some_at m.transitions t.0 there in
      let leaves : Leaves m t x.0.source = mapped_at (λ (y : Transition). y.source) (transition_at m t) x.0 x.1 in
      let enters : Enters m t x.0.target = mapped_at (λ (y : Transition). y.target) (transition_at m t) x.0 x.1 in
      let home = same_home m plain t x.0.source x.0.target leaves enters in (
        t,
        record {
          starts = begin.1;
          only = λ u is. only_reached p route t begin.1 u (route.reached u is);
          source = x.0.source;
          leaves = leaves;
          target = x.0.target;
          enters = enters;
          home = home.0;
          source_home = home.1;
          target_home = home.2;
        },
      )

  -- no leg follows another
  no_cut : (v : VertexId) → IsCut m v → ⊥
  no_cut v (inl k) = no_other m plain v kinds.Fork (λ e. cc) (λ e. cc) k
  no_cut v (inr (inl k)) = no_other m plain v kinds.Join (λ e. cc) (λ e. cc) k
  no_cut v (inr (inr (inl k))) = no_other m plain v kinds.EntryPoint (λ e. cc) (λ e. cc) k
  no_cut v (inr (inr (inr k))) = no_other m plain v kinds.ExitPoint (λ e. cc) (λ e. cc) k

  pub no_later : (p : Route) (t u : TransId) → LaterLeg m p t u → ⊥
  no_later p t u (leg_next h) = no_cut h.2 h.5
  no_later p t u (leg_after h rest) = no_cut h.2 h.5

  pub no_passing : (p : Route) (u : TransId) (v z : VertexId) → PassesPoint m p u v z → ⊥
  no_passing p u v z (o, (w, leg, inl (k, l))) = no_other m plain v kinds.EntryPoint (λ e. cc) (λ e. cc) k
  no_passing p u v z (o, (w, leg, inr (k, e))) = no_other m plain v kinds.ExitPoint (λ e. cc) (λ e. cc) k

  -- a vertex stands directly in a region, which is there, and in no circle
  vertex_home : (v : VertexId) (k : Owner) → owner_of m (State v) ≡ Some k → (r : RegionId) × (k ≡ Region r)
  vertex_home v k e =
      let x = mapped_some (λ (y : Vertex). y.owner) (vertex_at m v) k e in
      let held = plain.vertices v x.0 x.1 in
      (held.home, sym x.2 ∙ held.owner_is)

  pub lies_direct : (s : VertexId) (home : RegionId) → IsBottom m home → LiesInRegion m s home → owner_of m (State s) ≡ Some (Region home)
  lies_direct s home bottom (owned e) = e
  lies_direct s home bottom (further {q = k} e rest) =
      let at = vertex_home s k e in absurd (bottom at.0 (subst (λ o. LiesUnder m o (Region home)) at.1 rest))

  pub region_there : (r : RegionId) (q : Owner) → LiesUnder m (Region r) q → r.0 < length m.regions
  region_there r q (owned e) = slice_get_within m.regions r.0 q e
  region_there r q (further {q = k} e rest) = slice_get_within m.regions r.0 k e

  pub no_circle : (r : RegionId) → LiesUnder m (Region r) (Region r) → ⊥
  no_circle r under = circle_is_endless under (plain.regions r (region_there r (Region r) under)).above

  -- the region in which a vertex stands directly is there
  pub home_there : (v : VertexId) (r : RegionId) → owner_of m (State v) ≡ Some (Region r) → r.0 < length m.regions
  home_there v r e =
      let x = mapped_some (λ (y : Vertex). y.owner) (vertex_at m v) (Region r) e in
      let held = plain.vertices v x.0 x.1 in
      let same : held.home ≡ r = (let is : Region held.home ≡ Region r = sym held.owner_is ∙ x.2 in cc) in
      subst (λ (q : RegionId). q.0 < length m.regions) same held.there

  -- a leg calls nothing at its end, and opens nothing
  pub ends_nothing : (p : Route) (u : TransId) (item : Item) → LegEnds m p u item → ⊥
  ends_nothing p u (items.Exit s) h = h
  ends_nothing p u (items.Effect t) h = h
  ends_nothing p u (items.Enter s) h = h
  ends_nothing p u (items.Opened r Plain) h = h
  ends_nothing p u (items.Opened r Shallow) h = no_other m plain h.0 kinds.ShallowHistory (λ e. cc) (λ e. cc) h.2
  ends_nothing p u (items.Opened r Deep) h = no_other m plain h.0 kinds.DeepHistory (λ e. cc) (λ e. cc) h.2
  ends_nothing p u (items.Pick c) h = no_other m plain c kinds.Choice (λ e. cc) (λ e. cc) h.1

  pub opens_nothing : (p : Route) (u : TransId) (item : Item) → LegOpens m p u item → ⊥
  opens_nothing p u (items.Exit s) h = h
  opens_nothing p u (items.Effect t) h = h
  opens_nothing p u (items.Enter s) h = h
  opens_nothing p u (items.Opened r Plain) h = let e = goes_external m plain h.1.0 Local h.1.4 in cc
  opens_nothing p u (items.Opened r Shallow) h = h
  opens_nothing p u (items.Opened r Deep) h = h
  opens_nothing p u (items.Pick c) h = h

  module _ (p : Route) (t : TransId) (lone : IsLone m p t) where
    -- the leg is the transition
    pub leg_is : (u w : TransId) → SameLeg m p u w → (u ≡ t) × (w ≡ t)
    leg_is u w leg = (lone.only u (begins_on m p u w leg), lone.only w (ends_on m p u w leg))

    pub left_is : (u : TransId) (v : VertexId) → u ≡ t → Leaves m u v → v ≡ lone.source
    left_is u v e l = leaves_one m t v lone.source (subst (λ k. Leaves m k v) e l) lone.leaves

    pub entered_is : (u : TransId) (v : VertexId) → u ≡ t → Enters m u v → v ≡ lone.target
    entered_is u v e l = enters_one m t v lone.target (subst (λ k. Enters m k v) e l) lone.enters

    -- its vertices lie in its home
    pub of_leg_home : (u : TransId) (v : VertexId) → IsOfLeg m p u v → LiesInRegion m v lone.home
    of_leg_home u v (w, leg, inl l) =
        subst (λ k. LiesInRegion m k lone.home) (sym (left_is w v (leg_is u w leg).1 l)) (owned lone.source_home)
    of_leg_home u v (w, leg, inr e) =
        subst (λ k. LiesInRegion m k lone.home) (sym (entered_is w v (leg_is u w leg).1 e)) (owned lone.target_home)

    -- so its scope is its home
    pub scope_home : (u : TransId) (scope : Scope) (s : VertexId) → LegScope m p u scope → LiesInScope m s scope → LiesInRegion m s lone.home
    scope_home u _ s (internal i) lies = absurd lies
    scope_home u _ s (local h) lies = absurd (let e = goes_external m plain h.0 Local h.4 in cc)
    scope_home u _ s (point {s = z} {v = v} passes f all) lies = absurd (no_passing p u v z passes)
    scope_home u _ s (other {r = r} on_it i j k span) lies =
        let is : u ≡ t = lone.only u on_it in
        let of_it : IsOfLeg m p u lone.source = (u, itself on_it, inl (subst (λ w. Leaves m w lone.source) (sym is) lone.leaves)) in
        ⊎_elim
        (λ same. subst (λ q. LiesInRegion m s q) (sym same) lies)
        (λ under. absurd (span.innermost lone.home (of_leg_home u) under))
        (region_cases m (State lone.source) lone.home r lone.source_home (span.common lone.source of_it))

    -- what it exits stands directly there, where no region lies under it
    pub exits_direct : IsBottom m lone.home → (Active : VertexId → Type 0) (u : TransId) (s : VertexId) → LegExits m Active p u s
        → Active s × (owner_of m (State s) ≡ Some (Region lone.home))
    exits_direct bottom Active u s h =
        (h.0.0, lies_direct s lone.home bottom (scope_home u h.0.1.0 s h.0.1.1 h.0.1.2))

    -- and it enters its target alone
    pub enters_target : (u : TransId) (s : VertexId) → LegEnters m p u s → s ≡ lone.target
    enters_target u s (v, last, entered, external, inl (scope, leg, lies, (r, o, deep))) =
        let at : v ≡ lone.target = entered_is last.0 v (leg_is u last.0 last.1).1 last.2 in
        let up : LiesUnder m (Region r) (Region lone.home) = further o (scope_home u scope s leg lies) in
        let down : LiesInRegion m lone.target r = subst (λ k. LiesInRegion m k r) at deep in
        absurd (⊎_elim
        (λ (same : lone.home ≡ r). no_circle lone.home (subst (λ q. LiesUnder m (Region q) (Region lone.home)) (sym same) up))
        (λ under. no_circle lone.home (under_further under up))
        (region_cases m (State lone.target) lone.home r lone.target_home down))
    enters_target u s (v, last, entered, external, inr (inl (is, same))) = same ∙ entered_is last.0 v (leg_is u last.0 last.1).1 last.2
    enters_target u s (v, last, entered, external, inr (inr (k, o))) = absurd (no_other m plain v kinds.EntryPoint (λ e. cc) (λ e. cc) k)
