-- The shapes of legs: a chain over junctions, the star of all transitions into one join, or the star of all transitions out of one fork.
use Rattle.std.proofs.Common.{◌≡◌, ◌⊎◌, ◌↔◌, Contains, refl, sym, subst, ◌∙◌, inl, inr, ⊎_elim}
use Rattle.pssm_model.specs.declared.ids.VertexId.{VertexId}
use Rattle.pssm_model.specs.declared.ids.TransId.{TransId}
use Rattle.pssm_model.specs.declared.elements.DraftMachine.{DraftMachine}
use Rattle.pssm_model.specs.declared.elements.VertexKind.TheVariants as kinds
use Rattle.pssm_model.specs.declared.elements.Element.TheVariants as elements
use Rattle.pssm_model.specs.declared.elements.FaultPlace.TheVariants as places
use Rattle.pssm_model.specs.declared.steps.Route.{Route}
use Rattle.pssm_model.specs.Forest.{HasKind, IsStateOrFinal}
use Rattle.pssm_model.specs.Legs.{Leaves, Enters, On, transitions_of, AreJoined, IsCut, SameLeg, NextLeg, LaterLeg, IsLastVertex}
use Rattle.pssm_model.specs.Legs.SameLeg.{itself, joined}
use Rattle.pssm_model.specs.Legs.LaterLeg.{next as leg_next, after as leg_after}
use Rattle.pssm_model.specs.Items.{PathBefore}
use Rattle.pssm_model.specs.Items.PathBefore.{next, after}
use Rattle.pssm_model.specs.Routes.{IsRoute}
use Rattle.pssm_model.specs.Shapes.{HasShape}
use Rattle.pssm_model.specs.WellFormed.{KeepsModelRules}
use Rattle.pssm_model.specs.WellFormed.Breaks.{E05}
use Rattle.pssm_model.specs.RouteWords.{IsStepRoute}
use Rattle.pssm_model_laws.specs.inner.RouteWords.{IsThrough}
use Rattle.pssm_model.proofs.ElementLaws.{leaves_one, enters_one}
use Rattle.pssm_model_laws.proofs.Known.{sure, known_transition, known_inside}
use Rattle.pssm_model_laws.proofs.KnownPlaces.{known_vertex_kind}
use Rattle.pssm_model_laws.proofs.Through.{kinds_clash, not_through, end_not_through, join_from_state, fork_to_end}
use Rattle.pssm_model_laws.proofs.RouteOrder.{Follows, ComesTo, route_of, of_start, of_rest, source_of, target_of, into_join, same_or_join, all_into_join, before_rest, follows_through, from_start, entered_once, through_is_rest}
use Rattle.pssm_model_laws.proofs.RouteOrder.ComesTo.{here, onward}

-- Of two transitions of the leg one leads to the other over junctions.
abbrev pub IsChainLeg : DraftMachine → Route → TransId → Type 0
IsChainLeg m p t =
    ((u : TransId) (v : VertexId) → SameLeg m p t u → Enters m u v → HasKind m v kinds.Join → ⊥)
    × ((u : TransId) (v : VertexId) → SameLeg m p t u → Leaves m u v → HasKind m v kinds.Fork → ⊥)
    × ((u w : TransId) → SameLeg m p t u → SameLeg m p t w → (u ≡ w) ⊎ PathBefore m p u w ⊎ PathBefore m p w u)

-- The leg is all transitions into the join.
abbrev pub IsJoinStar : DraftMachine → Route → TransId → VertexId → Type 0
IsJoinStar m p t j = HasKind m j kinds.Join × ((u : TransId) → SameLeg m p t u ↔ Enters m u j)

-- The leg is all transitions out of the fork.
abbrev pub IsForkStar : DraftMachine → Route → TransId → VertexId → Type 0
IsForkStar m p t f = HasKind m f kinds.Fork × ((u : TransId) → SameLeg m p t u ↔ Leaves m u f)

-- the transitions of a leg and of later legs are of their route
module _ (m : DraftMachine) (p : Route) where
  pub begins_on : (t u : TransId) → SameLeg m p t u → On p t
  begins_on t u (itself is) = is
  begins_on t u (joined is j rest) = is

  pub ends_on : (t u : TransId) → SameLeg m p t u → On p u
  ends_on t u (itself is) = is
  ends_on t u (joined {u = k} is j rest) = ends_on k u rest

  pub later_begins_on : (t u : TransId) → LaterLeg m p t u → On p t
  later_begins_on t u (leg_next h) = begins_on t h.0 h.3
  later_begins_on t u (leg_after h rest) = begins_on t h.0 h.3

  pub later_ends_on : (t u : TransId) → LaterLeg m p t u → On p u
  later_ends_on t u (leg_next h) = ends_on h.1 u h.4
  later_ends_on t u (leg_after {u = k} h rest) = later_ends_on k u rest

  -- a leg is one by whichever of its transitions it is named
  pub leg_on : (t u w : TransId) → SameLeg m p t u → SameLeg m p u w → SameLeg m p t w
  leg_on t u w (itself is) further = further
  leg_on t u w (joined {u = k} is j rest) further = joined is j (leg_on k u w rest further)

  pub joined_turned : (t u : TransId) → AreJoined m t u → AreJoined m u t
  joined_turned t u h =
      ⊎_elim
      (λ a. inr (inl (a.0, a.1, a.3, a.2)))
      (⊎_elim
      (λ a. inl (a.0, a.1, a.3, a.2))
      (⊎_elim (λ a. inr (inr (inl (a.0, a.1, a.3, a.2)))) (λ a. inr (inr (inr (a.0, a.1, a.3, a.2))))))
      h

  pub leg_turned : (t u : TransId) → SameLeg m p t u → SameLeg m p u t
  leg_turned t u (itself is) = itself is
  leg_turned t u (joined {u = k} is j rest) =
      leg_on u k t (leg_turned k u rest) (joined (begins_on k u rest) (joined_turned t k j) (itself is))

  pub later_from : (k t u : TransId) → SameLeg m p k t → LaterLeg m p t u → LaterLeg m p k u
  later_from k t u leg (leg_next h) = leg_next (h.0, h.1, h.2, leg_on k t h.0 leg h.3, h.4, h.5, h.6, h.7)
  later_from k t u leg (leg_after h rest) = leg_after (h.0, h.1, h.2, leg_on k t h.0 leg h.3, h.4, h.5, h.6, h.7) rest

  pub next_to : (t u w : TransId) → NextLeg m p t u → SameLeg m p u w → NextLeg m p t w
  next_to t u w h leg = (h.0, h.1, h.2, h.3, leg_on h.1 u w h.4 leg, h.5, h.6, h.7)

  pub later_to : (t u w : TransId) → LaterLeg m p t u → SameLeg m p u w → LaterLeg m p t w
  later_to t u w (leg_next h) leg = leg_next (next_to t u w h leg)
  later_to t u w (leg_after {u = k} h rest) leg = leg_after h (later_to k u w rest leg)

  pub later_on : (t u w : TransId) → LaterLeg m p t u → LaterLeg m p u w → LaterLeg m p t w
  later_on t u w (leg_next h) further = leg_after h further
  later_on t u w (leg_after {u = k} h rest) further = leg_after h (later_on k u w rest further)

  -- the first and the last of a chain of legs
  pub first_leg : (t u : TransId) → LaterLeg m p t u → (k : TransId) × NextLeg m p t k
  first_leg t u (leg_next h) = (u, h)
  first_leg t u (leg_after {u = k} h rest) = (k, h)

  pub last_leg : (t u : TransId) → LaterLeg m p t u → (k : TransId) × NextLeg m p k u
  last_leg t u (leg_next h) = (t, h)
  last_leg t u (leg_after {u = k} h rest) = last_leg k u rest

  -- The second transition leaves the junction on which the first ends.
  pub record MeetsAt (t u : TransId) : Type 0 where
    pub at : VertexId
    pub kind : HasKind m at kinds.Junction
    pub first : On p t
    pub second : On p u
    pub enters : Enters m t at
    pub leaves : Leaves m u at

  pub first_step : (t u : TransId) → PathBefore m p t u → (k : TransId) × MeetsAt t k × ((k ≡ u) ⊎ PathBefore m p k u)
  first_step t u (next is there v k e l) = (u, record { at = v; kind = k; first = is; second = there; enters = e; leaves = l }, inl refl)
  first_step t u (after {u = w} before rest) =
      let first = first_step t w before in (
        first.0,
        first.1,
        inr (⊎_elim (λ same. subst (λ x. PathBefore m p x u) (sym same) rest) (λ on. after on rest) first.2),
      )

  pub last_step : (t u : TransId) → PathBefore m p t u → (k : TransId) × MeetsAt k u × ((t ≡ k) ⊎ PathBefore m p t k)
  last_step t u (next is there v k e l) = (t, record { at = v; kind = k; first = is; second = there; enters = e; leaves = l }, inl refl)
  last_step t u (after {u = w} before rest) =
      let last = last_step w u rest in (
        last.0,
        last.1,
        inr (⊎_elim (λ same. subst (PathBefore m p t) same before) (λ on. after before on) last.2),
      )

-- How two transitions of a leg stand to each other.
pub data InLeg (m : DraftMachine) (p : Route) (t u : TransId) : Type 0 where
  one_and_same : t ≡ u → InLeg m p t u
  path_to : PathBefore m p t u → InLeg m p t u
  path_from : PathBefore m p u t → InLeg m p t u
  in_join : (v : VertexId) → HasKind m v kinds.Join → Enters m t v → Enters m u v → InLeg m p t u
  in_fork : (v : VertexId) → HasKind m v kinds.Fork → Leaves m t v → Leaves m u v → InLeg m p t u

-- a vertex that cuts a route is no junction
pub cut_no_junction : (m : DraftMachine) (v : VertexId) → IsCut m v → HasKind m v kinds.Junction → ⊥
cut_no_junction m v cut k =
    ⊎_elim
    (λ is. kinds_clash m v kinds.Fork kinds.Junction (λ e. cc) is k)
    (⊎_elim
    (λ is. kinds_clash m v kinds.Join kinds.Junction (λ e. cc) is k)
    (⊎_elim
    (λ is. kinds_clash m v kinds.EntryPoint kinds.Junction (λ e. cc) is k)
    (λ is. kinds_clash m v kinds.ExitPoint kinds.Junction (λ e. cc) is k)))
    cut

module _ {m : DraftMachine} (shape : HasShape m) (rules : KeepsModelRules m) (p : Route) (route : IsRoute m p) where
  -- what enters a join leaves a State, and no junction, fork or point
  pub join_from_no_through : (t : TransId) (v w : VertexId) → HasKind m v kinds.Join → Enters m t v → Leaves m t w → IsThrough m w → ⊥
  join_from_no_through t v w k e l through = not_through m w kinds.State (λ none. none) (join_from_state rules t v w k e l) through

  pub fork_to_no_through : (t : TransId) (v w : VertexId) → HasKind m v kinds.Fork → Leaves m t v → Enters m t w → IsThrough m w → ⊥
  fork_to_no_through t v w k l e through = end_not_through m w (fork_to_end rules t v w k l e) through

  joins_ahead : (t k u : TransId) → MeetsAt m p t k → InLeg m p k u → InLeg m p t u
  joins_ahead t k u at (one_and_same e) = path_to (subst (PathBefore m p t) e (next at.first at.second at.at at.kind at.enters at.leaves))
  joins_ahead t k u at (path_to on) = path_to (after (next at.first at.second at.at at.kind at.enters at.leaves) on)
  joins_ahead t k u at (path_from back) =
      let last = last_step m p u k back in
      let place = leaves_one m k last.1.at at.at last.1.leaves at.leaves in
      let same : last.0 ≡ t = entered_once shape rules p route at.at last.0 t
      (λ join. kinds_clash m at.at kinds.Join kinds.Junction (λ e. cc) join at.kind)
      last.1.first at.first (subst (Enters m last.0) place last.1.enters) at.enters in
      ⊎_elim
      (λ here. one_and_same (sym (here ∙ same)))
      (λ on. path_from (subst (PathBefore m p u) same on))
      last.2
  joins_ahead t k u at (in_join v j e f) = absurd (join_from_no_through k v at.at j e at.leaves (inl at.kind))
  joins_ahead t k u at (in_fork v f l g) =
      absurd (kinds_clash m at.at kinds.Fork kinds.Junction (λ e. cc) (subst (λ x. HasKind m x kinds.Fork) (leaves_one m k v at.at l at.leaves) f) at.kind)

  joins_behind : (t k u : TransId) → MeetsAt m p k t → InLeg m p k u → InLeg m p t u
  joins_behind t k u at (one_and_same e) =
      path_from (subst (λ x. PathBefore m p x t) e (next at.first at.second at.at at.kind at.enters at.leaves))
  joins_behind t k u at (path_to on) =
      let first = first_step m p k u on in
      let place = enters_one m k first.1.at at.at first.1.enters at.enters in
      let only = route.goes_on k at.at kinds.Junction at.first at.enters at.kind in
      let same : first.0 ≡ t = only.3 first.0 first.1.second (subst (Leaves m first.0) place first.1.leaves) ∙ sym (only.3 t at.second at.leaves) in
      ⊎_elim
      (λ here. one_and_same (sym same ∙ here))
      (λ further. path_to (subst (λ x. PathBefore m p x u) same further))
      first.2
  joins_behind t k u at (path_from back) = path_from (after back (next at.first at.second at.at at.kind at.enters at.leaves))
  joins_behind t k u at (in_join v j e f) =
      absurd (kinds_clash m at.at kinds.Join kinds.Junction (λ e. cc) (subst (λ x. HasKind m x kinds.Join) (enters_one m k v at.at e at.enters) j) at.kind)
  joins_behind t k u at (in_fork v f l g) = absurd (fork_to_no_through k v at.at f l at.enters (inl at.kind))

  joins_join : (t k u : TransId) (v : VertexId) → HasKind m v kinds.Join → Enters m t v → Enters m k v → InLeg m p k u → InLeg m p t u
  joins_join t k u v j e f (one_and_same same) = in_join v j e (subst (λ x. Enters m x v) same f)
  joins_join t k u v j e f (path_to on) =
      let first = first_step m p k u on in
      absurd (kinds_clash m v kinds.Join kinds.Junction (λ e. cc) j
      (subst (λ x. HasKind m x kinds.Junction) (enters_one m k first.1.at v first.1.enters f) first.1.kind))
  joins_join t k u v j e f (path_from back) =
      let last = last_step m p u k back in
      absurd (join_from_no_through k v last.1.at j f last.1.leaves (inl last.1.kind))
  joins_join t k u v j e f (in_join w other a b) = in_join v j e (subst (Enters m u) (enters_one m k w v a f) b)
  joins_join t k u v j e f (in_fork w fork l g) = absurd (join_from_no_through k v w j f l (inr (inl fork)))

  joins_fork : (t k u : TransId) (v : VertexId) → HasKind m v kinds.Fork → Leaves m t v → Leaves m k v → InLeg m p k u → InLeg m p t u
  joins_fork t k u v f l g (one_and_same same) = in_fork v f l (subst (λ x. Leaves m x v) same g)
  joins_fork t k u v f l g (path_to on) =
      let first = first_step m p k u on in
      absurd (fork_to_no_through k v first.1.at f g first.1.enters (inl first.1.kind))
  joins_fork t k u v f l g (path_from back) =
      let last = last_step m p u k back in
      absurd (kinds_clash m v kinds.Fork kinds.Junction (λ e. cc) f
      (subst (λ x. HasKind m x kinds.Junction) (leaves_one m k last.1.at v last.1.leaves g) last.1.kind))
  joins_fork t k u v f l g (in_join w join a b) = absurd (join_from_no_through k w v join a g (inr (inl f)))
  joins_fork t k u v f l g (in_fork w other a b) = in_fork v f l (subst (Leaves m u) (leaves_one m k w v a g) b)

  leg_step : (t k u : TransId) → On p t → On p k → AreJoined m t k → InLeg m p k u → InLeg m p t u
  leg_step t k u first second h rest =
      ⊎_elim
      (λ a. joins_ahead t k u (record { at = a.0; kind = a.1; first = first; second = second; enters = a.2; leaves = a.3 }) rest)
      (⊎_elim
      (λ a. joins_behind t k u (record { at = a.0; kind = a.1; first = second; second = first; enters = a.3; leaves = a.2 }) rest)
      (⊎_elim (λ a. joins_join t k u a.0 a.1 a.2 a.3 rest) (λ a. joins_fork t k u a.0 a.1 a.2 a.3 rest)))
      h

  pub in_leg : (t u : TransId) → SameLeg m p t u → InLeg m p t u
  in_leg t u (itself is) = one_and_same refl
  in_leg t u (joined {u = k} is j rest) = leg_step t k u is (begins_on m p k u rest) j (in_leg k u rest)

  -- with one that enters a join or leaves a fork all of its leg do
  pub join_leg : (t u : TransId) (v : VertexId) → HasKind m v kinds.Join → Enters m t v → SameLeg m p t u → Enters m u v
  join_leg t u v j e leg = by (in_leg t u leg)
    where
      by : InLeg m p t u → Enters m u v
      by (one_and_same same) = subst (λ x. Enters m x v) same e
      by (path_to on) =
          let first = first_step m p t u on in
          absurd (kinds_clash m v kinds.Join kinds.Junction (λ e. cc) j
          (subst (λ x. HasKind m x kinds.Junction) (enters_one m t first.1.at v first.1.enters e) first.1.kind))
      by (path_from back) = let last = last_step m p u t back in absurd (join_from_no_through t v last.1.at j e last.1.leaves (inl last.1.kind))
      by (in_join w other a b) = subst (Enters m u) (enters_one m t w v a e) b
      by (in_fork w fork l g) = absurd (join_from_no_through t v w j e l (inr (inl fork)))

  pub fork_leg : (t u : TransId) (v : VertexId) → HasKind m v kinds.Fork → Leaves m t v → SameLeg m p t u → Leaves m u v
  fork_leg t u v f l leg = by (in_leg t u leg)
    where
      by : InLeg m p t u → Leaves m u v
      by (one_and_same same) = subst (λ x. Leaves m x v) same l
      by (path_to on) = let first = first_step m p t u on in absurd (fork_to_no_through t v first.1.at f l first.1.enters (inl first.1.kind))
      by (path_from back) =
          let last = last_step m p u t back in
          absurd (kinds_clash m v kinds.Fork kinds.Junction (λ e. cc) f
          (subst (λ x. HasKind m x kinds.Junction) (leaves_one m t last.1.at v last.1.leaves l) last.1.kind))
      by (in_join w join a b) = absurd (join_from_no_through t w v join a l (inr (inl f)))
      by (in_fork w other a b) = subst (Leaves m u) (leaves_one m t w v a l) b

  -- where a leg begins at a vertex that cuts the route
  pub one_beginning : (t u : TransId) (v w : VertexId) → SameLeg m p t u → IsCut m v → IsCut m w → Leaves m t v → Leaves m u w → v ≡ w
  one_beginning t u v w leg a b l g = by (in_leg t u leg)
    where
      by : InLeg m p t u → v ≡ w
      by (one_and_same same) = leaves_one m u v w (subst (λ x. Leaves m x v) same l) g
      by (path_to on) =
          let last = last_step m p t u on in
          absurd (cut_no_junction m w b (subst (λ x. HasKind m x kinds.Junction) (leaves_one m u last.1.at w last.1.leaves g) last.1.kind))
      by (path_from back) =
          let last = last_step m p u t back in
          absurd (cut_no_junction m v a (subst (λ x. HasKind m x kinds.Junction) (leaves_one m t last.1.at v last.1.leaves l) last.1.kind))
      by (in_join x join c d) = absurd (join_from_no_through t x v join c l (inr a))
      by (in_fork x fork c d) = leaves_one m t v x l c ∙ leaves_one m u x w d g

  -- a start and what goes on from it
  pub start_legs : (t u : TransId) → Contains p.starts t → Contains p.starts u → SameLeg m p t u
  start_legs t u first second =
      ⊎_elim
      (λ same. subst (SameLeg m p t) same (itself (of_start m p t first)))
      (λ join. joined (of_start m p t first) (inr (inr (inl (join.0, join.1, join.2, join.3)))) (itself (of_start m p u second)))
      (same_or_join shape rules p route t u first second)

  leg_or_later : (s t u : TransId) → Follows m p t u → SameLeg m p s t ⊎ LaterLeg m p s t → SameLeg m p s u ⊎ LaterLeg m p s u
  leg_or_later s t u step so_far =
      let there = of_rest m p u step.further in
      ⊎_elim
      (λ junction.
      let leg : SameLeg m p t u = joined step.first (inl (step.at, junction, step.enters, step.leaves)) (itself there) in
      ⊎_elim (λ same. inl (leg_on m p s t u same leg)) (λ later. inr (later_to m p s t u later leg)) so_far)
      (λ cut. inr (⊎_elim
      (λ same. leg_next (t, u, step.at, same, itself there, cut, step.enters, step.leaves))
      (λ later. later_on m p s t u later (leg_next (t, u, step.at, itself step.first, itself there, cut, step.enters, step.leaves)))
      so_far))
      (follows_through shape rules p route t u step)

  pub comes_in_legs : (s u : TransId) → On p s → ComesTo m p s u → SameLeg m p s u ⊎ LaterLeg m p s u
  comes_in_legs s u is here = inl (itself is)
  comes_in_legs s u is (onward {u = k} before step) = leg_or_later s k u step (comes_in_legs s k is before)

module _ {m : DraftMachine} (shape : HasShape m) (rules : KeepsModelRules m) (p : Route) (step : IsStepRoute m p) where
  route : IsRoute m p
  route = route_of m p step

  -- all transitions out of a fork to which a transition of the route leads, or which one of it leaves, are of it
  pub fork_all_on : (t u : TransId) (v : VertexId) → On p t → HasKind m v kinds.Fork → Leaves m t v → Leaves m u v → On p u
  fork_all_on t u v is f l g =
      let before = before_rest shape rules p route t (through_is_rest p step t v is l (inr (inl f))) in
      let place = leaves_one m t before.1.at v before.1.leaves l in
      route.goes_on before.0 v kinds.Fork before.1.first (subst (Enters m before.0) place before.1.enters) f u g

  chain_leg : (t : TransId) (v w : VertexId) → On p t → Leaves m t v → Enters m t w → (HasKind m v kinds.Fork → ⊥) → (HasKind m w kinds.Join → ⊥)
      → IsChainLeg m p t
  chain_leg t v w is l e no_fork no_join =
      let joinless = λ (u : TransId) (x : VertexId) (leg : SameLeg m p t u) (f : Enters m u x) (k : HasKind m x kinds.Join).
      (let back = join_leg shape rules p route u t x k f (leg_turned m p t u leg) in
      no_join (subst (λ y. HasKind m y kinds.Join) (enters_one m t x w back e) k)) in
      let forkless = λ (u : TransId) (x : VertexId) (leg : SameLeg m p t u) (g : Leaves m u x) (k : HasKind m x kinds.Fork).
      (let back = fork_leg shape rules p route u t x k g (leg_turned m p t u leg) in
      no_fork (subst (λ y. HasKind m y kinds.Fork) (leaves_one m t x v back l) k)) in (
        joinless,
        forkless,
        λ u x a b. (by u x a (in_leg shape rules p route u x (leg_on m p u t x (leg_turned m p t u a) b)) joinless forkless),
      )
    where
      by : (u x : TransId) → SameLeg m p t u → InLeg m p u x
          → ((u : TransId) (v : VertexId) → SameLeg m p t u → Enters m u v → HasKind m v kinds.Join → ⊥)
          → ((u : TransId) (v : VertexId) → SameLeg m p t u → Leaves m u v → HasKind m v kinds.Fork → ⊥)
          → (u ≡ x) ⊎ PathBefore m p u x ⊎ PathBefore m p x u
      by u x a (one_and_same same) joinless forkless = inl same
      by u x a (path_to on) joinless forkless = inr (inl on)
      by u x a (path_from back) joinless forkless = inr (inr back)
      by u x a (in_join y k c d) joinless forkless = absurd (joinless u y a c k)
      by u x a (in_fork y k c d) joinless forkless = absurd (forkless u y a c k)

  pub join_star : (t : TransId) (j : VertexId) → On p t → HasKind m j kinds.Join → Enters m t j → IsJoinStar m p t j
  join_star t j is k e = (
    k,
    λ u. (
      join_leg shape rules p route t u j k e,
      λ f. joined is (inr (inr (inl (j, k, e, f)))) (itself (of_start m p u (all_into_join shape rules p route t u j is e k f))),
    ),
  )

  pub fork_star : (t : TransId) (f : VertexId) → On p t → HasKind m f kinds.Fork → Leaves m t f → IsForkStar m p t f
  fork_star t f is k l = (
    k,
    λ u. (
      fork_leg shape rules p route t u f k l,
      λ g. joined is (inr (inr (inr (f, k, l, g)))) (itself (fork_all_on t u f is k l g)),
    ),
  )

  pub leg_shape : (t : TransId) → On p t → IsChainLeg m p t ⊎ ((j : VertexId) × IsJoinStar m p t j) ⊎ ((f : VertexId) × IsForkStar m p t f)
  leg_shape t is =
      let source = source_of shape rules p route t is in
      let target = target_of shape rules p route t is in
      ⊎_elim
      (λ join. inr (inl (target.0, join_star t target.0 is join target.1)))
      (λ no_join. ⊎_elim
      (λ fork. inr (inr (source.0, fork_star t source.0 is fork source.1)))
      (λ no_fork. inl (chain_leg t source.0 target.0 is source.1 target.1 no_fork no_join))
      (known_vertex_kind m source.0 kinds.Fork))
      (known_vertex_kind m target.0 kinds.Join)

  -- a star has no path in it
  pub join_pathless : (t u w : TransId) (j : VertexId) → IsJoinStar m p t j → SameLeg m p t u → PathBefore m p u w ⊎ PathBefore m p w u → ⊥
  join_pathless t u w j star is h =
      let e = (star.1 u).0 is in
      ⊎_elim
      (λ on.
      let first = first_step m p u w on in
      kinds_clash m j kinds.Join kinds.Junction (λ e. cc) star.0
      (subst (λ x. HasKind m x kinds.Junction) (enters_one m u first.1.at j first.1.enters e) first.1.kind))
      (λ back. let last = last_step m p w u back in join_from_no_through shape rules p route u j last.1.at star.0 e last.1.leaves (inl last.1.kind))
      h

  pub fork_pathless : (t u w : TransId) (f : VertexId) → IsForkStar m p t f → SameLeg m p t u → PathBefore m p u w ⊎ PathBefore m p w u → ⊥
  fork_pathless t u w f star is h =
      let l = (star.1 u).0 is in
      ⊎_elim
      (λ on. let first = first_step m p u w on in fork_to_no_through shape rules p route u f first.1.at star.0 l first.1.enters (inl first.1.kind))
      (λ back.
      let last = last_step m p w u back in
      kinds_clash m f kinds.Fork kinds.Junction (λ e. cc) star.0
      (subst (λ x. HasKind m x kinds.Junction) (leaves_one m u last.1.at f last.1.leaves l) last.1.kind))
      h

  -- the star into a join is the starts, and no leg is before it
  join_is_on : (t : TransId) (j : VertexId) → IsJoinStar m p t j → On p t
  join_is_on t j star =
      sure (known_inside known_transition (transitions_of p) t) (λ none. rules (places.At (elements.Vertex j)) 5 (E05 (
        star.0,
        inl (λ two. none (begins_on m p t two.0 ((star.1 two.0).1 two.3))),
      )))

  pub join_is_starts : (t : TransId) (j : VertexId) → IsJoinStar m p t j → (u : TransId) → SameLeg m p t u ↔ Contains p.starts u
  join_is_starts t j star u =
      let is = join_is_on t j star in
      let start = into_join shape rules p route t j is ((star.1 t).0 (itself is)) star.0 in (
        λ leg. into_join shape rules p route u j (ends_on m p t u leg) ((star.1 u).0 leg) star.0,
        λ other. start_legs shape rules p route t u start other,
      )

  pub join_first : (t u : TransId) (j : VertexId) → IsJoinStar m p t j → LaterLeg m p u t → ⊥
  join_first t u j star h =
      let last = last_leg m p u t h in
      let b = last.1.1 in
      let e = (star.1 b).0 (leg_turned m p b t last.1.4) in
      join_from_no_through shape rules p route b j last.1.2 star.0 e last.1.7 (inr last.1.5)

  -- the star out of a fork has no leg after it, and ends on States and final states alone
  pub fork_last : (t u : TransId) (f : VertexId) → IsForkStar m p t f → LaterLeg m p t u → ⊥
  fork_last t u f star h =
      let first = first_leg m p t u h in
      fork_to_no_through shape rules p route first.1.0 f first.1.2 star.0 ((star.1 first.1.0).0 first.1.3) first.1.6 (inr first.1.5)

  pub fork_ends : (t : TransId) (f v : VertexId) → IsForkStar m p t f → IsLastVertex m p t v → IsStateOrFinal m v
  fork_ends t f v star h = fork_to_end rules h.0 f v star.0 ((star.1 h.0).0 h.1) h.2

  -- what the route comes to is in the leg of a start, or in a later one
  pub first_or_later : (t u : TransId) → Contains p.starts t → On p u → SameLeg m p t u ⊎ LaterLeg m p t u
  first_or_later t u start is =
      let from = from_start shape rules p route u is in
      let leg = start_legs shape rules p route t from.0 start from.1 in
      ⊎_elim
      (λ same. inl (leg_on m p t from.0 u leg same))
      (λ later. inr (later_from m p t from.0 u leg later))
      (comes_in_legs shape rules p route from.0 u (of_start m p from.0 from.1) from.2)
