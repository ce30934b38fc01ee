-- A route goes up over joins and exit points, and then down over forks and entry points.
use Rattle.std.proofs.Common.{◌≡◌, ◌⊎◌, ◌<◌, List, [], ◌∷◌, length, Some, Contains, sym, subst, inl, inr, ⊎_elim}
use Rattle.std.proofs.lemmas.List.Elements.{Contains-append_left, Contains-append_right, Contains-append_cases, All-contains}
use Rattle.pssm_model.specs.declared.ids.VertexId.{VertexId}
use Rattle.pssm_model.specs.declared.ids.TransId.{TransId}
use Rattle.pssm_model.specs.declared.elements.DraftMachine.{DraftMachine}
use Rattle.pssm_model.specs.declared.elements.Transition.{Transition}
use Rattle.pssm_model.specs.declared.elements.VertexKind.{VertexKind}
use Rattle.pssm_model.specs.declared.elements.VertexKind.TheVariants as kinds
use Rattle.pssm_model.specs.declared.elements.Element.TheVariants as elements
use Rattle.pssm_model.specs.declared.elements.FaultPlace.TheVariants as places
use Rattle.pssm_model.specs.declared.steps.Route.{Route}
use Rattle.pssm_model.specs.Forest.{transition_at, HasKind}
use Rattle.pssm_model.specs.Legs.{transitions_of, Leaves, Enters, On, SameLeg, LaterLeg}
use Rattle.pssm_model.specs.Routes.{IsRoute, IsReached, EndsAt}
use Rattle.pssm_model.specs.Routes.IsReached.{start, on}
use Rattle.pssm_model.specs.Paths.{ComesAfter}
use Rattle.pssm_model.specs.Shapes.{HasShape}
use Rattle.pssm_model.specs.WellFormed.{KeepsModelRules}
use Rattle.pssm_model.specs.WellFormed.Breaks.{E05, E16}
use Rattle.pssm_model.specs.RouteWords.{IsStepRoute}
use Rattle.pssm_model_laws.specs.inner.RouteWords.{IsThrough}
use Rattle.pssm_model.proofs.ElementLaws.{some_at, mapped_at, kind_unique, leaves_one, enters_one, nothing_in_nil}
use Rattle.pssm_model.proofs.RouteLaws.{in_one, is_one, reached_is_on}
use Rattle.pssm_model_laws.proofs.Known.{Known}
use Rattle.pssm_model_laws.proofs.InnerPaths.{regions_apart}
use Rattle.pssm_model_laws.proofs.Branches.{Along, GoesNext, Branch, branch_further, of_rest, of_starts, along_begins, along_ends, along_further, along_cases, goes_through, never_again, route_comes, stand, branch_apart}
use Rattle.pssm_model_laws.proofs.Branches.Along.{itself, goes}
use Rattle.pssm_model_laws.proofs.EndsApart.{step_is_route, one_way_in}
use Rattle.pssm_model_laws.proofs.LegRoots.{Over, over_along, over_leg, leg_root, rooted, join_start, start_not_through, through_in_rest, later_from, later_along}
use Rattle.pssm_model_laws.proofs.LegRoots.Over.{same, over}

-- a junction, join or exit point
abbrev pub GoesUp : DraftMachine → VertexId → Type 0
GoesUp m v = HasKind m v kinds.Junction ⊎ HasKind m v kinds.Join ⊎ HasKind m v kinds.ExitPoint

-- a fork or entry point
abbrev pub GoesDown : DraftMachine → VertexId → Type 0
GoesDown m v = HasKind m v kinds.Fork ⊎ HasKind m v kinds.EntryPoint

abbrev pub IsUpKind : VertexKind → Type 0
IsUpKind kinds.Junction = Unit {0}
IsUpKind kinds.Join = Unit {0}
IsUpKind kinds.ExitPoint = Unit {0}
IsUpKind _ = ⊥

pub up_kind : (m : DraftMachine) (v : VertexId) (kind : VertexKind) → GoesUp m v → HasKind m v kind → IsUpKind kind
up_kind m v kind h k =
    ⊎_elim
    (λ i. subst IsUpKind (kind_unique m v kinds.Junction kind i k) tt)
    (⊎_elim
    (λ i. subst IsUpKind (kind_unique m v kinds.Join kind i k) tt)
    (λ i. subst IsUpKind (kind_unique m v kinds.ExitPoint kind i k) tt))
    h

pub up_or_down_kind : (m : DraftMachine) (v : VertexId) → IsThrough m v → GoesUp m v ⊎ GoesDown m v
up_or_down_kind m v h =
    ⊎_elim
    (λ k. inl (inl k))
    (⊎_elim (λ k. inr (inl k)) (⊎_elim (λ k. inl (inr (inl k))) (⊎_elim (λ k. inr (inr k)) (λ k. inl (inr (inr k))))))
    h

pub up_through : (m : DraftMachine) (v : VertexId) → GoesUp m v → IsThrough m v
up_through m v h = ⊎_elim (λ k. inl k) (⊎_elim (λ k. inr (inr (inl k))) (λ k. inr (inr (inr (inr k))))) h

pub not_up_and_down : (m : DraftMachine) (v : VertexId) → GoesUp m v → GoesDown m v → ⊥
not_up_and_down m v h down = ⊎_elim (λ k. up_kind m v kinds.Fork h k) (λ k. up_kind m v kinds.EntryPoint h k) down

-- The route comes to the transition from a start over junctions, joins and exit points.
pub data IsUp (m : DraftMachine) (p : Route) : TransId → Type 0 where
  begins : {t : TransId} → Contains p.starts t → IsUp m p t
  rises : {t u : TransId} {v : VertexId} → IsUp m p t → Enters m t v → GoesUp m v → Leaves m u v → Contains p.rest u → IsUp m p u

-- It comes to it from a fork or an entry point.
pub record IsBelow (m : DraftMachine) (p : Route) (t : TransId) : Type 0 where
  pub first : TransId
  pub at : VertexId
  pub kind : GoesDown m at
  pub leaves : Leaves m first at
  pub in_rest : Contains p.rest first
  pub along : Along m p first t

module _ {m : DraftMachine} (shape : HasShape m) (rules : KeepsModelRules m) (p : Route) (step : IsStepRoute m p) where
  route_is : IsRoute m p
  route_is = step_is_route step

  -- before what is up all is
  pub up_before : {u : TransId} (t : TransId) (v : VertexId) → IsUp m p u → On p t → Enters m t v → Leaves m u v → Contains p.rest u
      → IsUp m p t × GoesUp m v
  up_before {u = u} t v (begins s) is e l h = absurd (route_is.apart u s h)
  up_before {u = u} t v (rises {t = k} {v = x} up f goes_up g i) is e l h =
      let here = leaves_one m u x v g l in
      let goes_here = subst (GoesUp m) here goes_up in
      let like = λ (no_join : HasKind m v kinds.Join → ⊥) (on_k : On p k). (
      let found : IsUp m p t = subst (IsUp m p) (one_way_in shape rules p step v k t no_join on_k is (subst (Enters m k) here f) e) up in found
      ) in (
        ⊎_elim
            (λ junction. like (λ join. let clash = kind_unique m v kinds.Junction kinds.Join junction join in cc) (up_on up))
            (⊎_elim
            (λ join. begins (join_start shape rules p step t v is e join))
            (λ exit. like (λ join. let clash = kind_unique m v kinds.ExitPoint kinds.Join exit join in cc) (up_on up)))
            goes_here,
        goes_here,
      )
    where
      up_on : {k : TransId} → IsUp m p k → On p k
      up_on {k = k} (begins h) = of_starts m p k h
      up_on {k = k} (rises up e g l h) = of_rest m p k h

  pub up_along : {t u : TransId} → Along m p t u → IsUp m p u → IsUp m p t
  up_along (itself is) up = up
  up_along (goes {u = k} {v = v} a e l h) up = up_along a (up_before k v up (along_ends m p a) e l h).0

  pub up_no_down : {t : TransId} (v : VertexId) → IsUp m p t → Leaves m t v → GoesDown m v → ⊥
  up_no_down {t = t} v (begins h) l down =
      start_not_through shape rules p step t v h l (⊎_elim (λ k. inr (inl k)) (λ k. inr (inr (inr (inl k)))) down)
  up_no_down {t = t} v (rises {v = x} up e goes_up g h) l down =
      not_up_and_down m v (subst (GoesUp m) (leaves_one m t x v g l) goes_up) down

  pub up_over : {w t : TransId} → Over m p w t → IsUp m p w → IsUp m p t
  up_over (same is) up = up
  up_over (over {v = v} o k e l h) up = rises {v = v} (up_over o up) e (inl k) l h

  pub up_leg : {t u : TransId} → SameLeg m p t u → On p t → IsUp m p t → IsUp m p u
  up_leg {t = t} {u = u} leg is up =
      let root = rooted shape rules p step t is in
      let to = leg_root shape rules p step root.0 root.1 root.2 leg in
      let first_up = up_along (over_along m p root.2) up in
      ⊎_elim
      (λ e. up_over to.leads (subst (IsUp m p) e first_up))
      (⊎_elim
      (λ a. up_over to.leads (begins (join_start shape rules p step to.first a.0 (along_begins m p (over_along m p to.leads)) a.3 a.1)))
      (λ a. absurd (up_no_down a.0 first_up a.2 (inl a.1))))
      to.by

  pub up_earlier : {t u : TransId} → LaterLeg m p t u → On p t → IsUp m p u → IsUp m p t
  up_earlier {t = t} {u = u} later is up =
      let root = rooted shape rules p step t is in
      up_over root.2 (up_along (later_along shape rules p step root.0 root.1 (later_from m p (over_leg m p root.2) later)) up)

  -- a transition of a route is up, or below
  below_more : {t u : TransId} (v : VertexId) → IsBelow m p t → Enters m t v → Leaves m u v → Contains p.rest u → IsBelow m p u
  below_more v b e l h = record { first = b.first; at = b.at; kind = b.kind; leaves = b.leaves; in_rest = b.in_rest; along = goes {v = v} b.along e l h }

  up_or_below : (t : TransId) → IsReached m p t → IsUp m p t ⊎ IsBelow m p t
  up_or_below t (start h) = inl (begins h)
  up_or_below t (on {u = u} {v = v} r e l h) =
      ⊎_elim
      (λ goes_up. ⊎_elim
      (λ up. inl (rises {v = v} up e goes_up l h))
      (λ below. inr (below_more v below e l h))
      (up_or_below u r))
      (λ down. inr (record { first = t; at = v; kind = down; leaves = l; in_rest = h; along = itself (of_rest m p t h) }))
      (up_or_down_kind m v (goes_through shape p route_is u t v (reached_is_on m p u r) e l h))

  pub height : (t : TransId) → On p t → IsUp m p t ⊎ IsBelow m p t
  height t is = up_or_below t (route_is.reached t is)

  pub below_not_up : {t : TransId} → IsBelow m p t → IsUp m p t → ⊥
  below_not_up b up = up_no_down b.at (up_along b.along up) b.leaves b.kind

  pub known_up : (t : TransId) → On p t → Known (IsUp m p t)
  known_up t is = ⊎_elim (λ up. inl up) (λ below. inr (below_not_up below)) (height t is)

  pub below_comes : {t : TransId} (x : VertexId) (b : IsBelow m p t) → Enters m t x → ComesAfter m b.first x
  below_comes x b e = route_comes shape p route_is rules b.at (inr b.kind) b.leaves b.along e

  -- all transitions of the route are before one that is up and does not go further up, or after it
  pub turn_stand : {t : TransId} (v : VertexId) (u : TransId) → IsUp m p t → On p t → Enters m t v → (GoesUp m v → ⊥) → On p u
      → Along m p u t ⊎ GoesNext m p t u
  turn_stand {t = t} v u up is e turn there =
      ⊎_elim
      (λ a. ⊎_elim (λ here. inl (subst (λ x. Along m p x t) here (itself is))) (λ more. inr more) (along_cases m p a))
      (⊎_elim
      (λ a. inl a)
      (⊎_elim
      (λ beside. absurd (turn (inr (inl (subst (λ x. HasKind m x kinds.Join) (enters_one m t beside.0 v beside.2 e) beside.1)))))
      (λ b. absurd (up_no_down b.at (up_along b.to_first up) b.leaves_first b.kind))))
      (stand shape p route_is rules t u is there)

-- From the transition the route comes to the further one, after which it goes on to none of the list that fits.
pub record HasFurthest (m : DraftMachine) (p : Route) (Fits : TransId → Type 0) (xs : List TransId) (t : TransId) : Type 0 where
  pub furthest : TransId
  pub fits : Fits furthest
  pub along : Along m p t furthest
  pub none : (y : TransId) → Contains xs y → Fits y → GoesNext m p furthest y → ⊥

pub next_from : {m : DraftMachine} {p : Route} {t u w : TransId} → Along m p t u → GoesNext m p u w → GoesNext m p t w
next_from {m = m} {p = p} {t = t} {u = u} {w = w} a n =
    ⊎_elim
    (λ here. subst (λ x. GoesNext m p x w) (sym here) n)
    (λ more. record {
      next = more.next;
      at = more.at;
      enters = more.enters;
      leaves = more.leaves;
      in_rest = more.in_rest;
      along = along_further m p (goes {v = n.at} more.along n.enters n.leaves n.in_rest) n.along;
    })
    (along_cases m p a)

pub next_on : {m : DraftMachine} {p : Route} {t u w : TransId} → GoesNext m p t u → Along m p u w → GoesNext m p t w
next_on {m = m} {p = p} n a = record {
  next = n.next;
  at = n.at;
  enters = n.enters;
  leaves = n.leaves;
  in_rest = n.in_rest;
  along = along_further m p n.along a;
}

pub next_along : {m : DraftMachine} {p : Route} {t u : TransId} → On p t → GoesNext m p t u → Along m p t u
next_along {m = m} {p = p} is n = along_further m p (goes {v = n.at} (itself is) n.enters n.leaves n.in_rest) n.along

pub along_in_rest : {m : DraftMachine} {p : Route} {t u : TransId} → Along m p t u → Contains p.rest t → Contains p.rest u
along_in_rest (itself is) h = h
along_in_rest (goes a e l g) h = g

pub next_in_rest : {m : DraftMachine} {p : Route} {t u : TransId} → GoesNext m p t u → Contains p.rest u
next_in_rest n = along_in_rest n.along n.in_rest

module _ {m : DraftMachine} (shape : HasShape m) (rules : KeepsModelRules m) (p : Route) (step : IsStepRoute m p) where
  is_route : IsRoute m p
  is_route = step_is_route step

  -- the transitions of a route are there, with their ends
  pub there : (t : TransId) → On p t → (x : Transition) × (transition_at m t ≡ Some x)
  there t h = some_at m.transitions t.0 (All-contains (λ w. w.0 < length m.transitions) (transitions_of p) t is_route.in_range h)

  pub source_of : (t : TransId) → On p t → (v : VertexId) × Leaves m t v
  source_of t h = let x = there t h in (x.0.source, mapped_at (λ (y : Transition). y.source) (transition_at m t) x.0 x.1)

  pub target_of : (t : TransId) → On p t → (v : VertexId) × Enters m t v
  target_of t h = let x = there t h in (x.0.target, mapped_at (λ (y : Transition). y.target) (transition_at m t) x.0 x.1)

  -- no transition comes after two branches
  pub one_branch : {t u : TransId} → Branch m p t u → Along m p t u → ⊥
  one_branch {u = u} b a =
      let x = target_of u (along_ends m p a) in
      branch_apart shape p is_route rules u u x.0 x.0 (branch_further b (along_further m p b.to_first a)) x.1 x.1
      (λ h. h.apart (regions_apart shape x.0 h.state h.first h.second h.owns_first h.owns_second h.lies_first h.lies_second))

  module _ (Fits : TransId → Type 0) (known : (y : TransId) → On p y → Known (Fits y)) (t : TransId) (is : On p t) (fits : Fits t) where
    skip : (x : TransId) (xs : List TransId) (h : HasFurthest m p Fits xs t) → (Fits x → GoesNext m p h.furthest x → ⊥) → HasFurthest m p Fits (x ∷ xs) t
    skip x xs h out = record {
      furthest = h.furthest;
      fits = h.fits;
      along = h.along;
      none = λ y inside y_fits n. ⊎_elim
          (λ first. let here = is_one x y first in out (subst Fits here y_fits) (subst (GoesNext m p h.furthest) here n))
          (λ rest. h.none y rest y_fits n)
          (Contains-append_cases (x ∷ []) xs y inside);
    }

    take_next : (x : TransId) (xs : List TransId) (h : HasFurthest m p Fits xs t) → Fits x → Along m p h.furthest x → HasFurthest m p Fits (x ∷ xs) t
    take_next x xs h x_fits a = record {
      furthest = x;
      fits = x_fits;
      along = along_further m p h.along a;
      none = λ y inside y_fits n. ⊎_elim
          (λ first. never_again shape p is_route rules x (subst (GoesNext m p x) (is_one x y first) n))
          (λ rest. h.none y rest y_fits (next_from a n))
          (Contains-append_cases (x ∷ []) xs y inside);
    }

    pub furthest_of : (xs : List TransId) → ((y : TransId) → Contains xs y → On p y) → HasFurthest m p Fits xs t
    furthest_of [] all = record { furthest = t; fits = fits; along = itself is; none = λ y inside y_fits n. nothing_in_nil y inside }
    furthest_of (x ∷ xs) all =
        let h = furthest_of xs (λ y inside. all y (Contains-append_right (x ∷ []) xs y inside)) in
        let x_on = all x (Contains-append_left (x ∷ []) xs x (in_one x)) in
        ⊎_elim
        (λ x_fits. ⊎_elim
        (λ a. take_next x xs h x_fits a)
        (⊎_elim
        (λ a. skip x xs h (λ y_fits n. never_again shape p is_route rules x (next_from a n)))
        (⊎_elim
        (λ beside. skip x xs h (λ y_fits n. is_route.apart x (join_start shape rules p step x beside.0 x_on beside.3 beside.1) (next_in_rest n)))
        (λ b. skip x xs h (λ y_fits n. one_branch b (next_along (along_ends m p h.along) n)))))
        (stand shape p is_route rules h.furthest x (along_ends m p h.along) x_on))
        (λ out. skip x xs h (λ y_fits n. out y_fits))
        (known x x_on)

  -- From the transition the route comes to one that is up and does not go further up.
  pub record HasTurn (t : TransId) : Type 0 where
    pub last : TransId
    pub at : VertexId
    pub up : IsUp m p last
    pub enters : Enters m last at
    pub turns : GoesUp m at → ⊥
    pub along : Along m p t last

  pub last_up : (t : TransId) → On p t → IsUp m p t → HasTurn t
  last_up t is up =
      let h = furthest_of (IsUp m p) (known_up shape rules p step) t is up (transitions_of p) (λ y inside. inside) in
      let z_on = along_ends m p h.along in
      let v = target_of h.furthest z_on in
      let further = λ (u : TransId) (u_on : On p u) (l : Leaves m u v.0) (goes_up : GoesUp m v.0). (
      let in_rest = through_in_rest shape rules p step u v.0 u_on l (up_through m v.0 goes_up) in
      let wrong : ⊥ = h.none u u_on (rises {v = v.0} h.fits v.1 goes_up l in_rest) (record {
        next = u;
        at = v.0;
        enters = v.1;
        leaves = l;
        in_rest = in_rest;
        along = itself u_on;
      }) in wrong) in
      record {
        last = h.furthest;
        at = v.0;
        up = h.fits;
        enters = v.1;
        turns = λ goes_up. ⊎_elim
            (λ junction. let one = is_route.goes_on h.furthest v.0 kinds.Junction z_on v.1 junction in further one.0 one.1 one.2 goes_up)
            (⊎_elim
            (λ join. rules (places.At (elements.Vertex v.0)) 5 (E05 (
              join,
              inr (inl (λ out.
                  further out.0 (is_route.goes_on h.furthest v.0 kinds.Join z_on v.1 join out.0 out.1) out.1 goes_up)),
            )))
            (λ exit. rules (places.At (elements.Vertex v.0)) 16 (E16 (
              exit,
              inl (inl (λ out.
                  further out.0 (is_route.goes_on h.furthest v.0 kinds.ExitPoint z_on v.1 exit out.0 out.1) out.1 goes_up)),
            ))))
            goes_up;
        along = h.along;
      }

  -- From the transition the route comes to one on which it ends.
  pub record HasEnd (t : TransId) : Type 0 where
    pub last : TransId
    pub at : VertexId
    pub enters : Enters m last at
    pub ends : EndsAt m p at
    pub along : Along m p t last

  pub some_end : (t : TransId) → On p t → HasEnd t
  some_end t is =
      let h = furthest_of (λ y. Unit {0}) (λ y y_on. inl tt) t is tt (transitions_of p) (λ y inside. inside) in
      let v = target_of h.furthest (along_ends m p h.along) in
      record {
        last = h.furthest;
        at = v.0;
        enters = v.1;
        ends = λ k in_rest l. h.none k (of_rest m p k in_rest) tt (record {
          next = k;
          at = v.0;
          enters = v.1;
          leaves = l;
          in_rest = in_rest;
          along = itself (of_rest m p k in_rest);
        });
        along = h.along;
      }
