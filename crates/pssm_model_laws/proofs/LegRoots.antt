-- The legs of a route by the transitions with which they begin.
use Rattle.std.proofs.Common.{◌≡◌, ◌⊎◌, Contains, refl, sym, subst, inl, inr, ⊎_elim}
use Rattle.std.proofs.lemmas.List.Elements.{Contains-append_cases}
use Rattle.pssm_model.specs.declared.ids.VertexId.{VertexId}
use Rattle.pssm_model.specs.declared.ids.TransId.{TransId}
use Rattle.pssm_model.specs.declared.elements.DraftMachine.{DraftMachine}
use Rattle.pssm_model.specs.declared.elements.VertexKind.TheVariants as kinds
use Rattle.pssm_model.specs.declared.steps.Route.{Route}
use Rattle.pssm_model.specs.Forest.{HasKind}
use Rattle.pssm_model.specs.Legs.{Leaves, Enters, On, IsCut, AreJoined, SameLeg, NextLeg, LaterLeg}
use Rattle.pssm_model.specs.Legs.SameLeg.{itself as itself_leg, joined}
use Rattle.pssm_model.specs.Legs.LaterLeg.{next as next_leg, after as after_leg}
use Rattle.pssm_model.specs.Routes.{IsRoute, IsReached}
use Rattle.pssm_model.specs.Routes.IsReached.{start, on}
use Rattle.pssm_model.specs.FiringSets.{IsLateOrigin}
use Rattle.pssm_model.specs.Shapes.{HasShape}
use Rattle.pssm_model.specs.WellFormed.{KeepsModelRules}
use Rattle.pssm_model.specs.RouteWords.{IsStepRoute}
use Rattle.pssm_model_laws.specs.inner.RouteWords.{IsThrough}
use Rattle.pssm_model.proofs.ElementLaws.{kind_unique, leaves_one, enters_one}
use Rattle.pssm_model.proofs.RouteLaws.{is_one, reached_is_on}
use Rattle.pssm_model_laws.proofs.InnerPaths.{late_is_kind, join_from_state}
use Rattle.pssm_model_laws.proofs.Branches.{Along, Beside, of_rest, of_starts, along_begins, along_ends, along_further, along_cases, through_not_ends, goes_through, fork_last_step}
use Rattle.pssm_model_laws.proofs.Branches.Along.{itself, goes}
use Rattle.pssm_model_laws.proofs.EndsApart.{step_is_route, one_way_in}

-- The first transition leads to the second over junctions of the route.
pub data Over (m : DraftMachine) (p : Route) (w : TransId) : TransId → Type 0 where
  same : On p w → Over m p w w
  over : {t u : TransId} {v : VertexId} → Over m p w t → HasKind m v kinds.Junction → Enters m t v → Leaves m u v → Contains p.rest u → Over m p w u

-- A transition of the rest leaves the vertex, at which the route is cut and on which another of its transitions ends.
pub record IsBehind (m : DraftMachine) (p : Route) (w : TransId) (c : VertexId) : Type 0 where
  pub before : TransId
  pub before_on : On p before
  pub enters : Enters m before c
  pub cut : IsCut m c
  pub leaves : Leaves m w c
  pub in_rest : Contains p.rest w

-- A leg begins with it: a start, or one that leaves a vertex at which the route is cut.
abbrev pub IsRoot : DraftMachine → Route → TransId → Type 0
IsRoot m p w = Contains p.starts w ⊎ ((c : VertexId) × IsBehind m p w c)

-- Both leave one fork.
abbrev pub AreForked : DraftMachine → TransId → TransId → Type 0
AreForked m t u = (f : VertexId) × HasKind m f kinds.Fork × Leaves m t f × Leaves m u f

-- one leg begins with both
abbrev pub BeginOneLeg : DraftMachine → TransId → TransId → Type 0
BeginOneLeg m t u = (t ≡ u) ⊎ Beside m t u ⊎ AreForked m t u

-- a transition with which a leg begins and that leads to the transition over junctions, where one like it leads to another
pub record HasRootBy (m : DraftMachine) (p : Route) (w u : TransId) : Type 0 where
  pub first : TransId
  pub root : IsRoot m p first
  pub leads : Over m p first u
  pub by : BeginOneLeg m w first

module _ (m : DraftMachine) (p : Route) where
  pub over_begins : {w t : TransId} → Over m p w t → On p w
  over_begins (same is) = is
  over_begins (over o k e l h) = over_begins o

  pub over_ends : {w t : TransId} → Over m p w t → On p t
  over_ends (same is) = is
  over_ends (over {u = u} o k e l h) = of_rest m p u h

  pub over_along : {w t : TransId} → Over m p w t → Along m p w t
  over_along (same is) = itself is
  over_along (over {v = v} o k e l h) = goes {v = v} (over_along o) e l h

  pub over_further : {w t u : TransId} → Over m p w t → Over m p t u → Over m p w u
  over_further o (same is) = o
  over_further o (over {v = v} q k e l h) = over {v = v} (over_further o q) k e l h

  -- the transitions of a leg are of its route
  pub leg_begins : {t u : TransId} → SameLeg m p t u → On p t
  leg_begins (itself_leg is) = is
  leg_begins (joined is j rest) = is

  pub leg_ends : {t u : TransId} → SameLeg m p t u → On p u
  leg_ends (itself_leg is) = is
  leg_ends (joined is j rest) = leg_ends rest

  pub leg_more : {t u : TransId} (w : TransId) → SameLeg m p t u → AreJoined m u w → On p w → SameLeg m p t w
  leg_more w (itself_leg is) j there = joined is j (itself_leg there)
  leg_more w (joined is i rest) j there = joined is i (leg_more w rest j there)

  pub legs_meet : {t u w : TransId} → SameLeg m p t u → SameLeg m p u w → SameLeg m p t w
  legs_meet (itself_leg is) h = h
  legs_meet (joined is j rest) h = joined is j (legs_meet rest h)

  joined_turned : (t u : TransId) → AreJoined m t u → AreJoined m u t
  joined_turned t u h =
      ⊎_elim
      (λ a. inr (inl (a.0, a.1, a.3, a.2)))
      (⊎_elim
      (λ a. inl (a.0, a.1, a.3, a.2))
      (⊎_elim (λ a. inr (inr (inl (a.0, a.1, a.3, a.2)))) (λ a. inr (inr (inr (a.0, a.1, a.3, a.2))))))
      h

  pub leg_turned : {t u : TransId} → SameLeg m p t u → SameLeg m p u t
  leg_turned (itself_leg is) = itself_leg is
  leg_turned {t = t} (joined {u = k} is j rest) = leg_more t (leg_turned rest) (joined_turned t k j) is

  pub over_leg : {w t : TransId} → Over m p w t → SameLeg m p w t
  over_leg (same is) = itself_leg is
  over_leg (over {t = t} {u = u} {v = v} o k e l h) = leg_more u (over_leg o) (inl (v, k, e, l)) (of_rest m p u h)

  -- later legs
  pub later_more : {t u w : TransId} → LaterLeg m p t u → NextLeg m p u w → LaterLeg m p t w
  later_more (next_leg n) more = after_leg n (next_leg more)
  later_more (after_leg n rest) more = after_leg n (later_more rest more)

  pub later_further : {t u w : TransId} → LaterLeg m p t u → LaterLeg m p u w → LaterLeg m p t w
  later_further (next_leg n) more = after_leg n more
  later_further (after_leg n rest) more = after_leg n (later_further rest more)

  next_to : {t u w : TransId} → NextLeg m p t u → SameLeg m p u w → NextLeg m p t w
  next_to n leg = (n.0, n.1, n.2, n.3, legs_meet n.4 leg, n.5, n.6, n.7)

  next_from : {t u w : TransId} → SameLeg m p w t → NextLeg m p t u → NextLeg m p w u
  next_from leg n = (n.0, n.1, n.2, legs_meet leg n.3, n.4, n.5, n.6, n.7)

  pub later_to : {t u w : TransId} → LaterLeg m p t u → SameLeg m p u w → LaterLeg m p t w
  later_to (next_leg n) leg = next_leg (next_to n leg)
  later_to (after_leg n rest) leg = after_leg n (later_to rest leg)

  pub later_from : {t u w : TransId} → SameLeg m p w t → LaterLeg m p t u → LaterLeg m p w u
  later_from leg (next_leg n) = next_leg (next_from leg n)
  later_from leg (after_leg n rest) = after_leg (next_from leg n) rest

  -- the leg just before a later one
  pub later_last : {t u : TransId} → LaterLeg m p t u → (k : TransId) × NextLeg m p k u × (SameLeg m p t k ⊎ LaterLeg m p t k)
  later_last {t = t} (next_leg n) = (t, n, inl (itself_leg (leg_begins n.3)))
  later_last (after_leg n rest) =
      let last = later_last rest in
      (last.0, last.1, ⊎_elim (λ leg. inr (next_leg (next_to n leg))) (λ later. inr (after_leg n later)) last.2)

module _ {m : DraftMachine} (shape : HasShape m) (rules : KeepsModelRules m) (p : Route) (step : IsStepRoute m p) where
  route_is : IsRoute m p
  route_is = step_is_route step

  -- a start leaves a State, or a vertex from which a step goes on within itself
  pub start_source : (t : TransId) (v : VertexId) → Contains p.starts t → Leaves m t v → HasKind m v kinds.State ⊎ IsLateOrigin m v
  start_source t v h l =
      ⊎_elim
      (λ states. inl (states.1 v (t, h, l)))
      (λ within.
      let same_start : t ≡ within.1 = is_one within.1 t (subst (λ ts. Contains ts t) within.4 h) in
      inr (subst (IsLateOrigin m) (leaves_one m within.1 within.0 v within.5 (subst (λ x. Leaves m x v) same_start l)) within.2))
      step

  pub start_not_through : (t : TransId) (v : VertexId) → Contains p.starts t → Leaves m t v → IsThrough m v → ⊥
  start_not_through t v h l through =
      ⊎_elim
      (λ state. through_not_ends m v through (inl state))
      (λ late. ⊎_elim
      (λ k. late_is_kind m v kinds.Junction late k)
      (⊎_elim
      (λ k. late_is_kind m v kinds.Fork late k)
      (⊎_elim
      (λ k. late_is_kind m v kinds.Join late k)
      (⊎_elim (λ k. late_is_kind m v kinds.EntryPoint late k) (λ k. late_is_kind m v kinds.ExitPoint late k))))
      through)
      (start_source t v h l)

  -- what leaves a vertex through which routes go is of the rest
  pub through_in_rest : (t : TransId) (v : VertexId) → On p t → Leaves m t v → IsThrough m v → Contains p.rest t
  through_in_rest t v is l through =
      ⊎_elim (λ h. absurd (start_not_through t v h l through)) (λ h. h) (Contains-append_cases p.starts p.rest t is)

  -- Another transition ends where it begins.
  pub record ComesFrom (t : TransId) : Type 0 where
    pub before : TransId
    pub at : VertexId
    pub before_on : On p before
    pub enters : Enters m before at
    pub leaves : Leaves m t at
    pub through : IsThrough m at

  comes_reached : (t : TransId) → Contains p.rest t → IsReached m p t → ComesFrom t
  comes_reached t h (start s) = absurd (route_is.apart t s h)
  comes_reached t h (on {u = u} {v = v} r e l g) = record {
    before = u;
    at = v;
    before_on = reached_is_on m p u r;
    enters = e;
    leaves = l;
    through = goes_through shape p route_is u t v (reached_is_on m p u r) e l h;
  }

  pub comes_from : (t : TransId) → Contains p.rest t → ComesFrom t
  comes_from t h = comes_reached t h (route_is.reached t (of_rest m p t h))

  -- what ends on a join is a start
  pub join_start : (t : TransId) (j : VertexId) → On p t → Enters m t j → HasKind m j kinds.Join → Contains p.starts t
  join_start t j is e k =
      ⊎_elim
      (λ h. h)
      (λ h.
      let from = comes_from t h in
      absurd (join_from_state shape rules t from.at j from.leaves e k (λ s. through_not_ends m from.at from.through (inl s))))
      (Contains-append_cases p.starts p.rest t is)

  -- what leaves a vertex at which the route is cut begins a leg
  pub cut_root : (t : TransId) (c : VertexId) → On p t → Leaves m t c → IsCut m c → IsBehind m p t c
  cut_root t c is l cut =
      let h = through_in_rest t c is l (inr cut) in
      let from = comes_from t h in
      record {
        before = from.before;
        before_on = from.before_on;
        enters = subst (Enters m from.before) (leaves_one m t from.at c from.leaves l) from.enters;
        cut = cut;
        leaves = l;
        in_rest = h;
      }

  cut_no_junction : (c : VertexId) → IsCut m c → HasKind m c kinds.Junction → ⊥
  cut_no_junction c cut k =
      ⊎_elim
      (λ f. let clash = kind_unique m c kinds.Junction kinds.Fork k f in cc)
      (⊎_elim
      (λ f. let clash = kind_unique m c kinds.Junction kinds.Join k f in cc)
      (⊎_elim
      (λ f. let clash = kind_unique m c kinds.Junction kinds.EntryPoint k f in cc)
      (λ f. let clash = kind_unique m c kinds.Junction kinds.ExitPoint k f in cc)))
      cut

  pub root_no_junction : (w : TransId) (v : VertexId) → IsRoot m p w → Leaves m w v → HasKind m v kinds.Junction → ⊥
  root_no_junction w v root l k =
      ⊎_elim
      (λ h. start_not_through w v h l (inl k))
      (λ behind. cut_no_junction behind.0 behind.1.cut (subst (λ x. HasKind m x kinds.Junction) (leaves_one m w v behind.0 l behind.1.leaves) k))
      root

  -- over junctions alone a leg's first transition is not come to
  pub over_root : {w t : TransId} → Over m p w t → IsRoot m p t → w ≡ t
  over_root (same is) root = refl
  over_root (over {u = u} {v = v} o k e l h) root = absurd (root_no_junction u v root l k)

  -- each transition has a first one of its leg
  rooted_reached : (t : TransId) → IsReached m p t → (w : TransId) × IsRoot m p w × Over m p w t
  rooted_reached t (start h) = (t, inl h, same (of_starts m p t h))
  rooted_reached t (on {u = u} {v = v} r e l h) =
      ⊎_elim
      (λ k.
      let before = rooted_reached u r in
      (before.0, before.1, over {v = v} before.2 k e l h))
      (λ cut. (t, inr (v, cut_root t v (of_rest m p t h) l cut), same (of_rest m p t h)))
      (goes_through shape p route_is u t v (reached_is_on m p u r) e l h)

  pub rooted : (t : TransId) → On p t → (w : TransId) × IsRoot m p w × Over m p w t
  rooted t is = rooted_reached t (route_is.reached t is)

  junction_no_join : (v : VertexId) → HasKind m v kinds.Junction → HasKind m v kinds.Join → ⊥
  junction_no_join v k j = let clash = kind_unique m v kinds.Junction kinds.Join k j in cc

  -- and only one
  over_back : {w t : TransId} (k : TransId) (v : VertexId) → IsRoot m p w → Over m p w t → HasKind m v kinds.Junction → Leaves m t v → On p k → Enters m k v
      → Over m p w k
  over_back {w = w} k v root (same is) junction l there e = absurd (root_no_junction w v root l junction)
  over_back {w = w} k v root (over {t = t} {u = u} {v = x} o i f g h) junction l there e =
      let here = leaves_one m u x v g l in
      subst (Over m p w)
      (one_way_in shape rules p step v t k (junction_no_join v junction) (over_ends m p o) there (subst (Enters m t) here f) e)
      o

  pub one_root : {w k t : TransId} → IsRoot m p w → IsRoot m p k → Over m p w t → Over m p k t → w ≡ k
  one_root first second o (same is) = over_root o second
  one_root first second o (over {t = t} {v = v} q k e l h) =
      one_root first second (over_back t v first o k l (over_ends m p q) e) q

  root_step : (w t k : TransId) → IsRoot m p w → Over m p w t → On p k → AreJoined m t k → HasRootBy m p w k
  root_step w t k root o there j =
      ⊎_elim
      (λ a. record {
        first = w;
        root = root;
        leads = over {v = a.0} o a.1 a.2 a.3 (through_in_rest k a.0 there a.3 (inl a.1));
        by = inl refl;
      })
      (⊎_elim
      (λ a. record { first = w; root = root; leads = over_back k a.0 root o a.1 a.2 there a.3; by = inl refl })
      (⊎_elim
      (λ a.
      let starts = join_start t a.0 (over_ends m p o) a.2 a.1 in
      record {
        first = k;
        root = inl (join_start k a.0 there a.3 a.1);
        leads = same there;
        by = inr (inl (a.0, a.1, subst (λ x. Enters m x a.0) (sym (over_root o (inl starts))) a.2, a.3));
      })
      (λ a.
      let behind = cut_root t a.0 (over_ends m p o) a.2 (inl a.1) in
      record {
        first = k;
        root = inr (a.0, cut_root k a.0 there a.3 (inl a.1));
        leads = same there;
        by = inr (inr (a.0, a.1, subst (λ x. Leaves m x a.0) (sym (over_root o (inr (a.0, behind)))) a.2, a.3));
      })))
      j

  join_no_fork : (t : TransId) (j f : VertexId) → Enters m t j → HasKind m j kinds.Join → Leaves m t f → HasKind m f kinds.Fork → ⊥
  join_no_fork t j f e k l fork = join_from_state shape rules t f j l e k (λ s. let clash = kind_unique m f kinds.Fork kinds.State fork s in cc)

  begin_further : (t u w : TransId) → BeginOneLeg m t u → BeginOneLeg m u w → BeginOneLeg m t w
  begin_further t u w h g =
      ⊎_elim
      (λ e. subst (λ x. BeginOneLeg m x w) (sym e) g)
      (⊎_elim
      (λ a. ⊎_elim
      (λ e. subst (BeginOneLeg m t) e (inr (inl a)))
      (⊎_elim
      (λ b. inr (inl (a.0, a.1, a.2, subst (Enters m w) (enters_one m u b.0 a.0 b.2 a.3) b.3)))
      (λ b. absurd (join_no_fork u a.0 b.0 a.3 a.1 b.2 b.1)))
      g)
      (λ a. ⊎_elim
      (λ e. subst (BeginOneLeg m t) e (inr (inr a)))
      (⊎_elim
      (λ b. absurd (join_no_fork u b.0 a.0 b.2 b.1 a.3 a.1))
      (λ b. inr (inr (a.0, a.1, a.2, subst (Leaves m w) (leaves_one m u b.0 a.0 b.2 a.3) b.3))))
      g))
      h

  -- what is in one leg comes from first transitions with which one leg begins
  pub leg_root : {t u : TransId} (w : TransId) → IsRoot m p w → Over m p w t → SameLeg m p t u → HasRootBy m p w u
  leg_root w root o (itself_leg is) = record { first = w; root = root; leads = o; by = inl refl }
  leg_root {t = t} w root o (joined {u = k} is j rest) =
      let near = root_step w t k root o (leg_begins m p rest) j in
      let far = leg_root near.first near.root near.leads rest in
      record { first = far.first; root = far.root; leads = far.leads; by = begin_further w near.first far.first near.by far.by }

  pub begin_leg : (t u : TransId) → On p t → On p u → BeginOneLeg m t u → SameLeg m p t u
  begin_leg t u first second h =
      ⊎_elim
      (λ e. subst (SameLeg m p t) e (itself_leg first))
      (⊎_elim
      (λ a. joined first (inr (inr (inl a))) (itself_leg second))
      (λ a. joined first (inr (inr (inr a))) (itself_leg second)))
      h

  -- what comes after a transition is in its leg, or in a later one
  pub along_leg : {t u : TransId} → Along m p t u → SameLeg m p t u ⊎ LaterLeg m p t u
  along_leg (itself is) = inl (itself_leg is)
  along_leg {t = t} (goes {u = u} {w = w} {v = v} a e l h) =
      let there = of_rest m p w h in
      ⊎_elim
      (λ k. ⊎_elim
      (λ leg. inl (leg_more m p w leg (inl (v, k, e, l)) there))
      (λ later. inr (later_to m p later (joined (along_ends m p a) (inl (v, k, e, l)) (itself_leg there))))
      (along_leg a))
      (λ cut.
      let n : NextLeg m p u w = (u, w, v, itself_leg (along_ends m p a), itself_leg there, cut, e, l) in
      inr (⊎_elim
      (λ leg. later_from m p leg (next_leg n))
      (λ later. later_more m p later n)
      (along_leg a)))
      (goes_through shape p route_is u w v (along_ends m p a) e l h)

  -- a fork's transitions are the last
  fork_no_cut : (w a : TransId) (f c : VertexId) (b : TransId) → HasKind m f kinds.Fork → Leaves m w f → Along m p w a → Enters m a c → Leaves m b c
      → Contains p.rest b → ⊥
  fork_no_cut w a f c b fork l path e k h =
      fork_last_step shape p route_is rules w b f fork l (along_begins m p path)
      (⊎_elim
      (λ here. record {
        next = b;
        at = c;
        enters = subst (λ x. Enters m x c) (sym here) e;
        leaves = k;
        in_rest = h;
        along = itself (of_rest m p b h);
      })
      (λ more. record {
        next = more.next;
        at = more.at;
        enters = more.enters;
        leaves = more.leaves;
        in_rest = more.in_rest;
        along = goes {v = c} more.along e k h;
      })
      (along_cases m p path))

  over_cases : {k t : TransId} → Over m p k t → (k ≡ t) ⊎ ((v : VertexId) × HasKind m v kinds.Junction × Enters m k v)
  over_cases (same is) = inl refl
  over_cases (over {v = v} o j e l h) =
      ⊎_elim (λ here. inr (v, j, subst (λ x. Enters m x v) (sym here) e)) (λ more. inr more) (over_cases o)

  -- from a first transition of the leg the route comes to what leaves the vertex on which the leg ends
  next_first : (w u b : TransId) → IsRoot m p w → (n : NextLeg m p w u) → Leaves m b n.2 → Contains p.rest b → Along m p w b
  next_first w u b root n l h =
      let to = leg_root w root (same (leg_begins m p n.3)) n.3 in
      ⊎_elim
      (λ e. goes {v = n.2} (subst (λ x. Along m p x n.0) (sym e) (over_along m p to.leads)) n.6 l h)
      (⊎_elim
      (λ a.
      let end_is : to.first ≡ n.0 = ⊎_elim
      (λ e. e)
      (λ junction. absurd (junction_no_join junction.0 junction.1 (subst (λ x. HasKind m x kinds.Join)
      (enters_one m to.first a.0 junction.0 a.3 junction.2) a.1)))
      (over_cases to.leads) in
      goes {v = n.2} (itself (leg_begins m p n.3))
      (subst (Enters m w) (enters_one m n.0 a.0 n.2 (subst (λ x. Enters m x a.0) end_is a.3) n.6) a.2)
      l h)
      (λ a. absurd (fork_no_cut to.first n.0 a.0 n.2 b a.1 a.3 (over_along m p to.leads) n.6 l h)))
      to.by

  -- and so to all that is in the next leg
  next_along : (w u : TransId) → IsRoot m p w → NextLeg m p w u → Along m p w u
  next_along w u root n =
      let there = leg_begins m p n.4 in
      let behind = cut_root n.1 n.2 there n.7 n.5 in
      let from = leg_root n.1 (inr (n.2, behind)) (same there) n.4 in
      ⊎_elim
      (λ e. along_further m p (next_first w u n.1 root n n.7 behind.in_rest) (subst (λ x. Along m p x u) (sym e) (over_along m p from.leads)))
      (⊎_elim
      (λ a. absurd (start_not_through n.1 n.2 (join_start n.1 a.0 there a.2 a.1) n.7 (inr n.5)))
      (λ a.
      let l = subst (Leaves m from.first) (leaves_one m n.1 a.0 n.2 a.2 n.7) a.3 in
      along_further m p
      (next_first w u from.first root n l (through_in_rest from.first n.2 (over_begins m p from.leads) l (inr n.5)))
      (over_along m p from.leads)))
      from.by

  later_from_root : {t u : TransId} (w : TransId) → IsRoot m p w → SameLeg m p w t → LaterLeg m p t u → Along m p w u
  later_from_root {u = u} w root leg (next_leg n) = next_along w u root (next_from m p leg n)
  later_from_root {u = u} w root leg (after_leg n rest) =
      let there = leg_begins m p n.4 in
      along_further m p
      (next_along w n.1 root (n.0, n.1, n.2, legs_meet m p leg n.3, itself_leg there, n.5, n.6, n.7))
      (later_from_root n.1 (inr (n.2, cut_root n.1 n.2 there n.7 n.5)) n.4 rest)

  pub later_along : {u : TransId} (w : TransId) → IsRoot m p w → LaterLeg m p w u → Along m p w u
  later_along w root (next_leg n) = later_from_root w root (itself_leg (leg_begins m p n.3)) (next_leg n)
  later_along w root (after_leg n rest) = later_from_root w root (itself_leg (leg_begins m p n.3)) (after_leg n rest)
