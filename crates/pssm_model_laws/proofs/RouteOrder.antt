-- The order in which a route comes to its transitions: of two of them one leads to the other, or they part at a fork or an entry point.
use Rattle.std.proofs.Common.{◌≡◌, ◌≢◌, ◌⊎◌, ◌<◌, ◌++◌, List, [], ◌∷◌, length, Some, Contains, refl, sym, subst, ◌∙◌, inl, inr, ⊎_elim}
use Rattle.std.proofs.lemmas.List.Elements.{Contains-append_left, Contains-append_right, Contains-append_cases, All-contains}
use Rattle.pssm_model.specs.declared.ids.VertexId.{VertexId}
use Rattle.pssm_model.specs.declared.ids.RegionId.{RegionId}
use Rattle.pssm_model.specs.declared.ids.TransId.{TransId}
use Rattle.pssm_model.specs.declared.elements.DraftMachine.{DraftMachine}
use Rattle.pssm_model.specs.declared.elements.Transition.{Transition}
use Rattle.pssm_model.specs.declared.elements.VertexKind.{VertexKind}
use Rattle.pssm_model.specs.declared.elements.VertexKind.TheVariants as kinds
use Rattle.pssm_model.specs.declared.elements.Owner.TheVariants.{Region, State}
use Rattle.pssm_model.specs.declared.steps.Route.{Route}
use Rattle.pssm_model.specs.Forest.{transition_at, HasKind, IsStateOrFinal, owner_of, LiesInRegion}
use Rattle.pssm_model.specs.Legs.{Leaves, Enters, On, transitions_of}
use Rattle.pssm_model.specs.Paths.{IsJunctionPath, ComesAfter, LeadsOn}
use Rattle.pssm_model.specs.Paths.IsJunctionPath.{one}
use Rattle.pssm_model.specs.Paths.ComesAfter.{end, inner}
use Rattle.pssm_model.specs.Routes.{GoesOnAt, IsReached, IsRoute}
use Rattle.pssm_model.specs.Routes.IsReached.{start as reached_first, on as reached_after}
use Rattle.pssm_model.specs.FiringSets.{IsLateOrigin}
use Rattle.pssm_model.specs.Shapes.{HasShape}
use Rattle.pssm_model.specs.WellFormed.{KeepsModelRules}
use Rattle.pssm_model.specs.RouteWords.{IsStepRoute}
use Rattle.pssm_model_laws.specs.inner.RouteWords.{IsThrough}
use Rattle.pssm_model.proofs.ElementLaws.{mapped_at, some_at, leaves_one, enters_one}
use Rattle.pssm_model.proofs.RouteLaws.{is_one, reached_is_on}
use Rattle.pssm_model_laws.proofs.Known.{known_transition}
use Rattle.pssm_model_laws.proofs.Through.{not_through, end_not_through, step_leads, then_leads, path_push, target_there, kind_of, point_owner, one_region, no_cycle, join_from_state, fork_to_end, join_one_out, exit_one_out, fork_splits, entry_splits, entry_inside, entry_keeps, entry_to_no_exit}

-- The second transition, which is no start, goes on from where the first ends.
pub record Follows (m : DraftMachine) (p : Route) (t u : TransId) : Type 0 where
  pub first : On p t
  pub further : Contains p.rest u
  pub at : VertexId
  pub enters : Enters m t at
  pub leaves : Leaves m u at

-- By such steps the first transition leads to the second.
pub data ComesTo (m : DraftMachine) (p : Route) (t : TransId) : TransId → Type 0 where
  here : ComesTo m p t t
  onward : {u w : TransId} → ComesTo m p t u → Follows m p u w → ComesTo m p t w

-- a route of a step is a route
pub route_of : (m : DraftMachine) (p : Route) → IsStepRoute m p → IsRoute m p
route_of m p step = ⊎_elim (λ states. states.0) (λ late. late.3) step

module _ (m : DraftMachine) (p : Route) where
  pub of_start : (t : TransId) → Contains p.starts t → On p t
  of_start t h = Contains-append_left p.starts p.rest t h

  pub of_rest : (t : TransId) → Contains p.rest t → On p t
  of_rest t h = Contains-append_right p.starts p.rest t h

  pub start_or_rest : (t : TransId) → On p t → Contains p.starts t ⊎ Contains p.rest t
  start_or_rest t h = Contains-append_cases p.starts p.rest t h

  pub comes_further : (t u w : TransId) → ComesTo m p t u → ComesTo m p u w → ComesTo m p t w
  comes_further t u w before here = before
  comes_further t u w before (onward {u = k} after step) = onward (comes_further t u k before after) step

  -- where it leads anywhere, it leads to a next one first
  pub record HasNext (t u : TransId) : Type 0 where
    pub next : TransId
    pub step : Follows m p t next
    pub further : ComesTo m p next u

  pub first_next : (t u : TransId) → ComesTo m p t u → (t ≡ u) ⊎ HasNext t u
  first_next t u here = inl refl
  first_next t u (onward {u = k} before step) =
      inr (⊎_elim
      (λ same. record { next = u; step = subst (λ x. Follows m p x u) (sym same) step; further = here })
      (λ has. record { next = has.next; step = has.step; further = onward has.further step })
      (first_next t k before))

  pub comes_on : (t u : TransId) → On p t → ComesTo m p t u → On p u
  comes_on t u is here = is
  comes_on t u is (onward before step) = of_rest u step.further

  -- The two come from different transitions out of one fork or entry point, which the route comes to.
  pub record PartAt (t u : TransId) : Type 0 where
    pub at : VertexId
    pub first : TransId
    pub second : TransId
    pub kind : HasKind m at kinds.Fork ⊎ HasKind m at kinds.EntryPoint
    pub apart : first ≢ second
    pub first_further : Contains p.rest first
    pub second_further : Contains p.rest second
    pub first_leaves : Leaves m first at
    pub second_leaves : Leaves m second at
    pub to_first : ComesTo m p first t
    pub to_second : ComesTo m p second u

  pub parts_turned : (t u : TransId) → PartAt t u → PartAt u t
  parts_turned t u h = record {
    at = h.at;
    first = h.second;
    second = h.first;
    kind = h.kind;
    apart = λ same. h.apart (sym same);
    first_further = h.second_further;
    second_further = h.first_further;
    first_leaves = h.second_leaves;
    second_leaves = h.first_leaves;
    to_first = h.to_second;
    to_second = h.to_first;
  }

  -- One leads to the other, or both are starts, or they part.
  pub data InOrder (t u : TransId) : Type 0 where
    ahead : ComesTo m p t u → InOrder t u
    in_back : ComesTo m p u t → InOrder t u
    both_start : Contains p.starts t → Contains p.starts u → InOrder t u
    parting : PartAt t u → InOrder t u

module _ {m : DraftMachine} (shape : HasShape m) (rules : KeepsModelRules m) (p : Route) (route : IsRoute m p) where
  -- the transitions are there, with their ends
  pub on_there : (t : TransId) → On p t → (x : Transition) × (transition_at m t ≡ Some x)
  on_there t h = some_at m.transitions t.0 (All-contains (λ w. w.0 < length m.transitions) (transitions_of p) t route.in_range h)

  pub source_of : (t : TransId) → On p t → (v : VertexId) × Leaves m t v
  source_of t h = let x = on_there t h in (x.0.source, mapped_at (λ (y : Transition). y.source) (transition_at m t) x.0 x.1)

  pub target_of : (t : TransId) → On p t → (v : VertexId) × Enters m t v
  target_of t h = let x = on_there t h in (x.0.target, mapped_at (λ (y : Transition). y.target) (transition_at m t) x.0 x.1)

  -- where the route goes on is a junction, fork, join, entry or exit point
  through_kind : (t : TransId) (v : VertexId) (k : VertexKind) → Contains p.rest t → Leaves m t v → HasKind m v k → GoesOnAt m p v k → IsThrough m v
  through_kind t v kinds.Junction further l k on = inl k
  through_kind t v kinds.Fork further l k on = inr (inl k)
  through_kind t v kinds.Join further l k on = inr (inr (inl k))
  through_kind t v kinds.EntryPoint further l k on = inr (inr (inr (inl k)))
  through_kind t v kinds.ExitPoint further l k on = inr (inr (inr (inr k)))
  through_kind t v kinds.State further l k on = absurd (on t further l)
  through_kind t v kinds.Final further l k on = absurd (on t further l)
  through_kind t v kinds.Initial further l k on = absurd (on t further l)
  through_kind t v kinds.DeepHistory further l k on = absurd (on t further l)
  through_kind t v kinds.ShallowHistory further l k on = absurd (on t further l)
  through_kind t v kinds.Choice further l k on = absurd (on t further l)
  through_kind t v kinds.Terminate further l k on = absurd (on t further l)

  pub passes_through : (t u : TransId) (v : VertexId) → On p t → Enters m t v → Contains p.rest u → Leaves m u v → IsThrough m v
  passes_through t u v is e further l =
      let kind = kind_of shape v (target_there shape t v e) in
      through_kind u v kind.0 further l kind.1 (route.goes_on t v kind.0 is e kind.1)

  pub follows_through : (t u : TransId) (step : Follows m p t u) → IsThrough m step.at
  follows_through t u step = passes_through t u step.at step.first step.enters step.further step.leaves

  -- each that is no start follows one
  follows_reached : (t : TransId) → Contains p.rest t → IsReached m p t → (u : TransId) × Follows m p u t
  follows_reached t further (reached_first h) = absurd (route.apart t h further)
  follows_reached t further (reached_after {u = u} {v = v} before e l h) =
      (u, record { first = reached_is_on m p u before; further = h; at = v; enters = e; leaves = l })

  pub before_rest : (t : TransId) → Contains p.rest t → (u : TransId) × Follows m p u t
  before_rest t further = follows_reached t further (route.reached t (of_rest m p t further))

  pub rest_leaves_through : (t : TransId) (v : VertexId) → Contains p.rest t → Leaves m t v → IsThrough m v
  rest_leaves_through t v further l =
      let before = before_rest t further in
      subst (IsThrough m) (leaves_one m t before.1.at v before.1.leaves l) (follows_through before.0 t before.1)

  -- into a join leads a start alone
  pub into_join : (t : TransId) (v : VertexId) → On p t → Enters m t v → HasKind m v kinds.Join → Contains p.starts t
  into_join t v is e k =
      ⊎_elim
      (λ start. start)
      (λ further.
      let s = source_of t is in
      absurd (not_through m s.0 kinds.State (λ none. none) (join_from_state rules t v s.0 k e s.1) (rest_leaves_through t s.0 further s.1)))
      (start_or_rest m p t is)

  -- the starts are one, or all enter one join
  pub same_or_join : (t u : TransId) → Contains p.starts t → Contains p.starts u
      → (t ≡ u) ⊎ ((v : VertexId) × HasKind m v kinds.Join × Enters m t v × Enters m u v)
  same_or_join t u first second =
      ⊎_elim
      (λ single. inl (is_one single.0 t (subst (λ ts. Contains ts t) single.1 first) ∙ sym (is_one single.0 u (subst (λ ts. Contains ts u) single.1 second))))
      (λ group. inr (group.0, group.1, group.2 t first, group.2 u second))
      route.starts

  pub all_into_join : (t u : TransId) (v : VertexId) → On p t → Enters m t v → HasKind m v kinds.Join → Enters m u v → Contains p.starts u
  all_into_join t u v is e k f =
      let start = into_join t v is e k in
      ⊎_elim
      (λ single. absurd (single.2 v (subst (λ x. Enters m x v) (is_one single.0 t (subst (λ ts. Contains ts t) single.1 start)) e) k))
      (λ group. group.3 u (subst (Enters m u) (enters_one m t v group.0 e (group.2 t start)) f))
      route.starts

  -- each comes from a start
  from_start_reached : (t : TransId) → IsReached m p t → (s : TransId) × Contains p.starts s × ComesTo m p s t
  from_start_reached t (reached_first h) = (t, h, here)
  from_start_reached t (reached_after {u = u} {v = v} before e l h) =
      let from = from_start_reached u before in
      (from.0, from.1, onward from.2 (record { first = reached_is_on m p u before; further = h; at = v; enters = e; leaves = l }))

  pub from_start : (t : TransId) → On p t → (s : TransId) × Contains p.starts s × ComesTo m p s t
  from_start t is = from_start_reached t (route.reached t is)

  -- two that follow one are one, or part
  two_at : (t u w : TransId) (v : VertexId) → On p t → Enters m t v → Contains p.rest u → Contains p.rest w → Leaves m u v → Leaves m w v
      → (u ≡ w) ⊎ (HasKind m v kinds.Fork ⊎ HasKind m v kinds.EntryPoint)
  two_at t u w v is e first second l g =
      ⊎_elim
      (λ junction.
      let only = route.goes_on t v kinds.Junction is e junction in
      inl (only.3 u (of_rest m p u first) l ∙ sym (only.3 w (of_rest m p w second) g)))
      (⊎_elim
      (λ fork. inr (inl fork))
      (⊎_elim
      (λ join. inl (join_one_out rules v u w join l g))
      (⊎_elim (λ entry. inr (inr entry)) (λ exit. inl (exit_one_out rules v u w exit l g)))))
      (passes_through t u v is e first l)

  pub two_next : (t u w : TransId) → Follows m p t u → Follows m p t w → (u ≡ w) ⊎ PartAt m p u w
  two_next t u w first second =
      let at = enters_one m t second.at first.at second.enters first.enters in
      let leaves = subst (Leaves m w) at second.leaves in
      ⊎_elim
      (λ same. inl same)
      (λ kind. ⊎_elim
      (λ same. inl same)
      (λ apart. inr (record {
        at = first.at;
        first = u;
        second = w;
        kind = kind;
        apart = apart;
        first_further = first.further;
        second_further = second.further;
        first_leaves = first.leaves;
        second_leaves = leaves;
        to_first = here;
        to_second = here;
      }))
      (known_transition u w))
      (two_at t u w first.at first.first first.enters first.further second.further first.leaves leaves)

  -- of two transitions of the route one leads to the other, or both are starts, or they part
  part_further : (t u v w : TransId) → PartAt m p t u → ComesTo m p t v → ComesTo m p u w → PartAt m p v w
  part_further t u v w h first second = record {
    at = h.at;
    first = h.first;
    second = h.second;
    kind = h.kind;
    apart = h.apart;
    first_further = h.first_further;
    second_further = h.second_further;
    first_leaves = h.first_leaves;
    second_leaves = h.second_leaves;
    to_first = comes_further m p h.first t v h.to_first first;
    to_second = comes_further m p h.second u w h.to_second second;
  }

  with_start : (t s u : TransId) → Contains p.starts s → Contains p.starts u → ComesTo m p s t → InOrder m p t u
  with_start t s u first second leads =
      ⊎_elim
      (λ same. in_back (subst (λ x. ComesTo m p x t) same leads))
      (λ join. ⊎_elim
      (λ here_is. both_start (subst (Contains p.starts) here_is first) second)
      (λ has.
      let at = enters_one m s has.step.at join.0 has.step.enters join.2 in
      in_back (comes_further m p u has.next t
      (onward here (record { first = of_start m p u second; further = has.step.further; at = join.0; enters = join.3; leaves = subst (Leaves m has.next) at has.step.leaves }))
      has.further))
      (first_next m p s t leads))
      (same_or_join s u first second)

  order_step : (t u w : TransId) → Follows m p u w → InOrder m p t u → InOrder m p t w
  order_step t u w step (ahead leads) = ahead (onward leads step)
  order_step t u w step (in_back leads) =
      ⊎_elim
      (λ same. ahead (onward (subst (ComesTo m p t) (sym same) here) step))
      (λ has. ⊎_elim
      (λ same. in_back (subst (λ x. ComesTo m p x t) same has.further))
      (λ parts. parting (part_further has.next w t w parts has.further here))
      (two_next u has.next w has.step step))
      (first_next m p u t leads)
  order_step t u w step (both_start first second) =
      ⊎_elim
      (λ same. ahead (onward (subst (ComesTo m p t) same here) step))
      (λ join.
      let at = enters_one m u step.at join.0 step.enters join.3 in
      ahead (onward here (record { first = of_start m p t first; further = step.further; at = join.0; enters = join.2; leaves = subst (Leaves m w) at step.leaves })))
      (same_or_join t u first second)
  order_step t u w step (parting parts) = parting (part_further t u t w parts here (onward here step))

  order_reached : (t u : TransId) → On p t → IsReached m p u → InOrder m p t u
  order_reached t u is (reached_first h) = let from = from_start t is in with_start t from.0 u from.1 h from.2
  order_reached t u is (reached_after {u = k} {v = v} r e l h) =
      order_step t k u (record { first = reached_is_on m p k r; further = h; at = v; enters = e; leaves = l }) (order_reached t k is r)

  pub in_order : (t u : TransId) → On p t → On p u → InOrder m p t u
  in_order t u first second = order_reached t u first (route.reached u second)

  -- The vertices from where the first ends to where the second begins lead on from one to another.
  pub record LeadsAlong (t u : TransId) : Type 0 where
    pub first : VertexId
    pub last : VertexId
    pub first_through : IsThrough m first
    pub last_through : IsThrough m last
    pub enters : Enters m t first
    pub leaves : Leaves m u last
    pub leads : (first ≡ last) ⊎ LeadsOn m first last

  along_next : (t u w : TransId) → Follows m p u w → (t ≡ u) ⊎ LeadsAlong t u → LeadsAlong t w
  along_next t u w step before =
      let through = follows_through u w step in
      ⊎_elim
      (λ same. record {
        first = step.at;
        last = step.at;
        first_through = through;
        last_through = through;
        enters = subst (λ x. Enters m x step.at) (sym same) step.enters;
        leaves = step.leaves;
        leads = inl refl;
      })
      (λ a. record {
        first = a.first;
        last = step.at;
        first_through = a.first_through;
        last_through = through;
        enters = a.enters;
        leaves = step.leaves;
        leads = inr (then_leads m a.first a.last step.at a.leads (step_leads m a.last step.at u a.last_through through a.leaves step.enters));
      })
      before

  pub leads_along : (t u : TransId) → ComesTo m p t u → (t ≡ u) ⊎ LeadsAlong t u
  leads_along t u here = inl refl
  leads_along t u (onward {u = k} before step) = inr (along_next t k u step (leads_along t k before))

  -- no transition comes before itself
  pub no_way_back : (t u : TransId) → ComesTo m p t u → Follows m p u t → ⊥
  no_way_back t u leads step =
      let a = along_next t u t step (leads_along t u leads) in
      let around = step_leads m a.last a.first t a.last_through a.first_through a.leaves a.enters in
      no_cycle rules a.first (then_leads m a.first a.last a.first a.leads around)

  -- one that enters the same vertex as one before it is that
  pub enters_again : (t u : TransId) (v : VertexId) → ComesTo m p t u → Enters m t v → Enters m u v → t ≡ u
  enters_again t u v leads e f =
      ⊎_elim
      (λ same. same)
      (λ a.
      let back = subst (Enters m u) (enters_one m t v a.first e a.enters) f in
      absurd (no_cycle rules a.first
      (then_leads m a.first a.last a.first a.leads (step_leads m a.last a.first u a.last_through a.first_through a.leaves back))))
      (leads_along t u leads)

  -- behind a fork nothing follows
  pub fork_is_last : (t u : TransId) (v : VertexId) → HasKind m v kinds.Fork → Leaves m t v → Follows m p t u → ⊥
  fork_is_last t u v k l step = end_not_through m step.at (fork_to_end rules t v step.at k l step.enters) (follows_through t u step)

  pub fork_ends_there : (t u : TransId) (v : VertexId) → HasKind m v kinds.Fork → Leaves m t v → ComesTo m p t u → t ≡ u
  fork_ends_there t u v k l leads = ⊎_elim (λ same. same) (λ has. absurd (fork_is_last t has.next v k l has.step)) (first_next m p t u leads)

  -- Behind a transition out of an entry point a route comes to what stands after it on inner paths, and to no exit point.
  record IsInnerTo (t : TransId) (w : VertexId) : Type 0 where
    after : ComesAfter m t w
    last : IsStateOrFinal m w ⊎ ((v : VertexId) × (u : TransId) × (path : List TransId) × HasKind m v kinds.EntryPoint × Leaves m u v × IsJunctionPath m (u ∷ path) w)

  inner_next : (t u w : TransId) (x y : VertexId) → IsInnerTo t x → Contains p.rest u → Enters m u x → Contains p.rest w → Leaves m w x → Enters m w y
      → IsInnerTo t y
  inner_next t u w x y h is e further l f =
      ⊎_elim
      (λ ends. absurd (end_not_through m x ends through))
      (λ entry. ⊎_elim
      (λ junction. record {
        after = inner w h.after (inl junction) l f;
        last = inr (entry.0, entry.1, entry.2 ++ w ∷ [], entry.3, entry.4, path_push m (entry.1 ∷ entry.2) w x y entry.5 junction l f);
      })
      (⊎_elim
      (λ fork. record { after = inner w h.after (inr (inl fork)) l f; last = inl (fork_to_end rules w x y fork l f) })
      (⊎_elim
      (λ join. absurd (route.apart u (into_join u x (of_rest m p u is) e join) is))
      (⊎_elim
      (λ point. record { after = inner w h.after (inr (inr point)) l f; last = inr (x, w, [], point, l, one f) })
      (λ exit. absurd (entry_to_no_exit rules shape entry.0 x entry.1 entry.2 entry.3 entry.4 entry.5 exit)))))
      through)
      h.last
    where
      through : IsThrough m x
      through = passes_through u w x (of_rest m p u is) e further l

  rest_comes : (t u : TransId) → Contains p.rest t → ComesTo m p t u → Contains p.rest u
  rest_comes t u further here = further
  rest_comes t u further (onward before step) = step.further

  inner_to : (v : VertexId) (t u : TransId) (w : VertexId) → HasKind m v kinds.EntryPoint → Contains p.rest t → Leaves m t v → ComesTo m p t u
      → Enters m u w → IsInnerTo t w
  inner_to v t u w k further l here e = record { after = end e; last = inr (v, t, [], k, l, one e) }
  inner_to v t u w k further l (onward {u = x} before step) e =
      inner_next t x u step.at w (inner_to v t x step.at k further l before step.enters) (rest_comes t x further before) step.enters step.further step.leaves e

  pub after_entry : (v : VertexId) (t u : TransId) (w : VertexId) → HasKind m v kinds.EntryPoint → Contains p.rest t → Leaves m t v
      → ComesTo m p t u → Enters m u w → ComesAfter m t w
  after_entry v t u w k further l leads e = (inner_to v t u w k further l leads e).after

  pub no_exit_behind : (v : VertexId) (t u : TransId) (w : VertexId) → HasKind m v kinds.EntryPoint → Contains p.rest t → Leaves m t v
      → ComesTo m p t u → Enters m u w → HasKind m w kinds.ExitPoint → ⊥
  no_exit_behind v t u w k further l leads e exit =
      ⊎_elim
      (λ ends. end_not_through m w ends (inr (inr (inr (inr exit)))))
      (λ entry. entry_to_no_exit rules shape entry.0 w entry.1 entry.2 entry.3 entry.4 entry.5 exit)
      (inner_to v t u w k further l leads e).last

  -- all behind it lies in one region of its State
  pub stays_behind : (v s : VertexId) (t u : TransId) (x w : VertexId) (r : RegionId) → HasKind m v kinds.EntryPoint → owner_of m (State v) ≡ Some (State s)
      → Contains p.rest t → Leaves m t v → Enters m t x → owner_of m (Region r) ≡ Some (State s) → LiesInRegion m x r → ComesTo m p t u → Enters m u w
      → LiesInRegion m w r
  stays_behind v s t u x w r k own further l f region_is lies leads e =
      entry_keeps rules shape v s x w r t k own l f region_is lies (after_entry v t u w k further l leads e)

  -- where two part they come to different vertices
  apart_at_entry : (v : VertexId) (first second t u : TransId) (w : VertexId) → HasKind m v kinds.EntryPoint → Contains p.rest first → Contains p.rest second
      → Leaves m first v → Leaves m second v → ComesTo m p first t → ComesTo m p second u → Enters m t w → Enters m u w → first ≡ second
  apart_at_entry v first second t u w k a b l g to_t to_u e f =
      let s = point_owner shape v (inl k) in
      let x = target_of first (of_rest m p first a) in
      let y = target_of second (of_rest m p second b) in
      let q = entry_inside rules shape v s.0 x.0 first k s.1 l x.1 in
      let r = entry_inside rules shape v s.0 y.0 second k s.1 g y.1 in
      let one_lies = stays_behind v s.0 first t x.0 w q.0 k s.1 a l x.1 q.1 q.2 to_t e in
      let two_lies = stays_behind v s.0 second u y.0 w r.0 k s.1 b g y.1 r.1 r.2 to_u f in
      let same = one_region shape (State w) s.0 r.0 q.0 r.1 q.1 two_lies one_lies in
      entry_splits rules v s.0 x.0 y.0 q.0 first second k s.1 l g x.1 y.1 q.1 q.2 (subst (LiesInRegion m y.0) same r.2)

  pub parted_apart : (t u : TransId) (w : VertexId) → PartAt m p t u → Enters m t w → Enters m u w → ⊥
  parted_apart t u w h e f =
      ⊎_elim
      (λ fork.
      let same = fork_ends_there h.first t h.at fork h.first_leaves h.to_first in
      let too = fork_ends_there h.second u h.at fork h.second_leaves h.to_second in
      h.apart (fork_splits rules h.at w h.first h.second fork h.first_leaves h.second_leaves
      (subst (λ x. Enters m x w) (sym same) e) (subst (λ x. Enters m x w) (sym too) f)))
      (λ entry. h.apart (apart_at_entry h.at h.first h.second t u w entry h.first_further h.second_further h.first_leaves h.second_leaves
      h.to_first h.to_second e f))
      h.kind

  -- each vertex but a join is entered by one transition of the route
  pub entered_once : (v : VertexId) (t u : TransId) → (HasKind m v kinds.Join → ⊥) → On p t → On p u → Enters m t v → Enters m u v → t ≡ u
  entered_once v t u no_join first second e f = by (in_order t u first second)
    where
      by : InOrder m p t u → t ≡ u
      by (ahead leads) = enters_again t u v leads e f
      by (in_back leads) = sym (enters_again u t v leads f e)
      by (both_start a b) =
          ⊎_elim
          (λ same. same)
          (λ join. absurd (no_join (subst (λ x. HasKind m x kinds.Join) (enters_one m t join.0 v join.2 e) join.1)))
          (same_or_join t u a b)
      by (parting parts) = absurd (parted_apart t u v parts e f)

-- the starts of a route of a step leave no vertex through which routes go on
module _ {m : DraftMachine} (p : Route) (step : IsStepRoute m p) where
  late_not_through : (v : VertexId) → IsLateOrigin m v → IsThrough m v → ⊥
  late_not_through v origin through =
      ⊎_elim
      (λ k. not_through m v kinds.Initial (λ none. none) k through)
      (⊎_elim
      (⊎_elim
      (λ k. not_through m v kinds.ShallowHistory (λ none. none) k through)
      (λ k. not_through m v kinds.DeepHistory (λ none. none) k through))
      (λ k. not_through m v kinds.Choice (λ none. none) k through))
      origin

  pub start_not_through : (t : TransId) (v : VertexId) → Contains p.starts t → Leaves m t v → IsThrough m v → ⊥
  start_not_through t v start l through =
      ⊎_elim
      (λ states. not_through m v kinds.State (λ none. none) (states.1 v (t, start, l)) through)
      (λ late.
      let same = is_one late.1 t (subst (λ ts. Contains ts t) late.4 start) in
      let at = leaves_one m t v late.0 l (subst (λ x. Leaves m x late.0) (sym same) late.5) in
      late_not_through v (subst (IsLateOrigin m) (sym at) late.2) through)
      step

  pub through_is_rest : (t : TransId) (v : VertexId) → On p t → Leaves m t v → IsThrough m v → Contains p.rest t
  through_is_rest t v is l through =
      ⊎_elim (λ start. absurd (start_not_through t v start l through)) (λ further. further) (start_or_rest m p t is)
