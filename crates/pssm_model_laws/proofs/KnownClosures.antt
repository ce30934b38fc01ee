-- Chains of a relation that is known are known, and so is which transitions of a route are of one leg, which leg is later, and what a route comes to.
use Rattle.std.proofs.Common.{◌≡◌, ◌⊎◌, ◌<◌, ◌+◌, ℕ, zero, suc, List, [], ◌∷◌, Contains, refl, subst, inl, inr, ⊎_elim, arith}
use Rattle.std.proofs.lemmas.Bool.{cases_eq}
use Rattle.std.proofs.lemmas.List.Elements.{Contains-append_right, Contains-append_cases}
use Rattle.pssm_model.specs.declared.ids.VertexId.{VertexId}
use Rattle.pssm_model.specs.declared.ids.TransId.{TransId}
use Rattle.pssm_model.specs.declared.elements.DraftMachine.{DraftMachine}
use Rattle.pssm_model.specs.declared.elements.VertexKind.TheVariants as kinds
use Rattle.pssm_model.specs.declared.elements.TransKind.TheVariants.{Local, Internal}
use Rattle.pssm_model.specs.declared.steps.Route.{Route}
use Rattle.pssm_model.specs.Forest.{HasKind}
use Rattle.pssm_model.specs.Legs.{Leaves, Enters, Goes, On, transitions_of, AreJoined, IsCut, SameLeg, NextLeg, LaterLeg, IsLastVertex, IsLocalFrom, IsInternal, IsOfLeg}
use Rattle.pssm_model.specs.Legs.SameLeg.{itself, joined}
use Rattle.pssm_model.specs.Legs.LaterLeg.{next as leg_next, after as leg_after}
use Rattle.pssm_model.specs.Items.{PathBefore}
use Rattle.pssm_model.specs.Items.PathBefore.{next, after}
use Rattle.pssm_model.specs.Routes.{IsReached, IsSource, EndsAt}
use Rattle.pssm_model.specs.Routes.IsReached.{start as reached_first, on as reached_after}
use Rattle.pssm_model_laws.specs.inner.RouteWords.{EndsOn}
use Rattle.pssm_model.proofs.ElementLaws.{nothing_in_nil}
use Rattle.pssm_model.proofs.RouteLaws.{is_one}
use Rattle.pssm_model_laws.proofs.Known.{Known, known_as, known_both, known_either, known_not, known_among, known_all, known_inside, known_vertex, known_transition}
use Rattle.pssm_model_laws.proofs.KnownPlaces.{known_vertex_kind, known_goes, known_source_some, known_target_some}

-- a chain of steps from the first to the last
pub data Chain {X : Type 0} (R : X → X → Type 0) : X → X → Type 0 where
  one : {x y : X} → R x y → Chain R x y
  more : {x y z : X} → R x y → Chain R y z → Chain R x z

pub chain_on : {X : Type 0} (R : X → X → Type 0) (x y z : X) → Chain R x y → Chain R y z → Chain R x z
chain_on R x y z (one r) further = more r further
chain_on R x y z (more {y = k} r rest) further = more r (chain_on R k y z rest further)

-- a chain between numbers whose inner ones are below the bound (Warshall's way)
module _ (R : ℕ → ℕ → Type 0) where
  Through : ℕ → ℕ → ℕ → Type 0
  Through zero i j = R i j
  Through (suc k) i j = Through k i j ⊎ (Through k i k × Through k k j)

  through_step : (k i j : ℕ) → R i j → Through k i j
  unfolding Through
  through_step zero i j r = r
  through_step (suc k) i j r = inl (through_step k i j r)

  known_between : ((i j : ℕ) → Known (R i j)) → (k i j : ℕ) → Known (Through k i j)
  unfolding Through
  known_between each zero i j = each i j
  known_between each (suc k) i j =
      known_either (known_between each k i j) (known_both (known_between each k i k) (known_between each k k j))

  chain_between : (k i j : ℕ) → Through k i j → Chain R i j
  unfolding Through
  chain_between zero i j r = one r
  chain_between (suc k) i j h =
      ⊎_elim (chain_between k i j) (λ both. chain_on R i k j (chain_between k i k both.0) (chain_between k k j both.1)) h

  -- through the new number, whichever way it is told
  to_new : (k i : ℕ) → Through (suc k) i k → Through k i k
  unfolding Through
  to_new k i h = ⊎_elim (λ old. old) (λ both. both.0) h

  from_new : (k j : ℕ) → Through (suc k) k j → Through k k j
  unfolding Through
  from_new k j h = ⊎_elim (λ old. old) (λ both. both.1) h

  meet_at : (k i x j : ℕ) → x < k → Through k i x → Through k x j → Through k i j
  unfolding Through
  meet_at zero i x j lt first second = absurd (omega arith)
  meet_at (suc k) i x j lt first second =
      ⊎_elim
      (λ (same : x ≡ k). inr (
        to_new k i (subst (Through (suc k) i) same first),
        from_new k j (subst (λ y. Through (suc k) y j) same second),
      ))
      (λ apart.
      let less : x < k = omega (arith, lt, apart) in
      ⊎_elim
      (λ a. ⊎_elim (λ c. inl (meet_at k i x j less a c)) (λ c. inr (meet_at k i x k less a c.0, c.1)) second)
      (λ a. ⊎_elim (λ c. inr (a.0, meet_at k k x j less a.1 c)) (λ c. inr (a.0, c.1)) second)
      first)
      (cases_eq x k)

  through_all : (n : ℕ) → ((i j : ℕ) → R i j → j < n) → (i j : ℕ) → Chain R i j → Through n i j
  through_all n below i j (one r) = through_step n i j r
  through_all n below i j (more {y = k} r rest) = meet_at n i k j (below i k r) (through_step n i k r) (through_all n below k j rest)

  pub known_chain : (n : ℕ) → ((i j : ℕ) → Known (R i j)) → ((i j : ℕ) → R i j → j < n) → (i j : ℕ) → Known (Chain R i j)
  known_chain n each below i j = known_as (chain_between n i j) (through_all n below i j) (known_between each n i j)

-- the transition of a number
abbrev transition_of : ℕ → TransId
transition_of k = record { 0 = k }

module _ (R : TransId → TransId → Type 0) where
  abbrev OfNumbers : ℕ → ℕ → Type 0
  OfNumbers i j = R (transition_of i) (transition_of j)

  from_numbers : (i j : ℕ) → Chain OfNumbers i j → Chain R (transition_of i) (transition_of j)
  from_numbers i j (one r) = one r
  from_numbers i j (more {y = k} r rest) = more r (from_numbers k j rest)

  to_numbers : (t u : TransId) → Chain R t u → Chain OfNumbers t.0 u.0
  to_numbers t u (one r) = one r
  to_numbers t u (more {y = k} r rest) = more r (to_numbers k u rest)

  pub known_transition_chain : (n : ℕ) → ((t u : TransId) → Known (R t u)) → ((t u : TransId) → R t u → u.0 < n) → (t u : TransId) → Known (Chain R t u)
  known_transition_chain n each below t u =
      known_as
      (from_numbers t.0 u.0)
      (to_numbers t u)
      (known_chain OfNumbers n
      (λ i j. each (transition_of i) (transition_of j))
      (λ i j r. below (transition_of i) (transition_of j) r)
      t.0 u.0)

-- all numbers of a list are below some bound
bounded : (ts : List TransId) → (n : ℕ) × ((t : TransId) → Contains ts t → t.0 < n)
bounded [] = (0, λ t h. absurd (nothing_in_nil t h))
bounded (x ∷ xs) =
    let rest = bounded xs in (
      rest.0 + x.0 + 1,
      λ t h. ⊎_elim
          (λ first. (let same = is_one x t first in let here : t.0 < rest.0 + t.0 + 1 = omega arith in subst (λ (y : TransId). t.0 < rest.0 + y.0 + 1) same here))
          (λ later. (let less = rest.1 t later in omega (arith, less)))
          (Contains-append_cases (x ∷ []) xs t h),
    )

module _ (m : DraftMachine) where
  pub known_leaves : (t : TransId) (v : VertexId) → Known (Leaves m t v)
  known_leaves t v =
      known_as
      (λ h. subst (Leaves m t) h.2 h.1)
      (λ h. (v, h, refl))
      (known_source_some m (λ w. w ≡ v) (λ w. known_vertex w v) t)

  pub known_enters : (t : TransId) (v : VertexId) → Known (Enters m t v)
  known_enters t v =
      known_as
      (λ h. subst (Enters m t) h.2 h.1)
      (λ h. (v, h, refl))
      (known_target_some m (λ w. w ≡ v) (λ w. known_vertex w v) t)

  pub known_cut : (v : VertexId) → Known (IsCut m v)
  known_cut v =
      known_either
      (known_vertex_kind m v kinds.Fork)
      (known_either
      (known_vertex_kind m v kinds.Join)
      (known_either (known_vertex_kind m v kinds.EntryPoint) (known_vertex_kind m v kinds.ExitPoint)))

  -- the second transition goes on from a vertex of some kind on which the first ends
  known_meeting : (P : VertexId → Type 0) → ((v : VertexId) → Known (P v)) → (t u : TransId)
      → Known ((v : VertexId) × P v × Enters m t v × Leaves m u v)
  known_meeting P each t u =
      known_as
      (λ h. (h.0, h.2.0, h.1, h.2.1))
      (λ h. (h.0, h.2, (h.1, h.3)))
      (known_target_some m (λ v. P v × Leaves m u v) (λ v. known_both (each v) (known_leaves u v)) t)

  pub known_joined : (t u : TransId) → Known (AreJoined m t u)
  known_joined t u =
      known_either
      (known_meeting (λ v. HasKind m v kinds.Junction) (λ v. known_vertex_kind m v kinds.Junction) t u)
      (known_either
      (known_as
      (λ h. (h.0, h.1, h.3, h.2))
      (λ h. (h.0, h.1, h.3, h.2))
      (known_meeting (λ v. HasKind m v kinds.Junction) (λ v. known_vertex_kind m v kinds.Junction) u t))
      (known_either
      (known_as
      (λ h. (h.0, h.2.0, h.1, h.2.1))
      (λ h. (h.0, h.2, (h.1, h.3)))
      (known_target_some m
      (λ v. HasKind m v kinds.Join × Enters m u v)
      (λ v. known_both (known_vertex_kind m v kinds.Join) (known_enters u v))
      t))
      (known_as
      (λ h. (h.0, h.2.0, h.1, h.2.1))
      (λ h. (h.0, h.2, (h.1, h.3)))
      (known_source_some m
      (λ v. HasKind m v kinds.Fork × Leaves m u v)
      (λ v. known_both (known_vertex_kind m v kinds.Fork) (known_leaves u v))
      t))))

module _ (m : DraftMachine) (p : Route) where
  pub known_start : (t : TransId) → Known (Contains p.starts t)
  known_start t = known_inside known_transition p.starts t

  pub known_further : (t : TransId) → Known (Contains p.rest t)
  known_further t = known_inside known_transition p.rest t

  pub known_on : (t : TransId) → Known (On p t)
  known_on t = known_inside known_transition (transitions_of p) t

  -- chains whose steps end on the route
  known_chain_on : (R : TransId → TransId → Type 0) → ((t u : TransId) → Known (R t u)) → ((t u : TransId) → R t u → On p u) → (t u : TransId)
      → Known (Chain R t u)
  known_chain_on R each on t u =
      let bound = bounded (transitions_of p) in
      known_transition_chain R bound.0 each (λ x y r. bound.1 y (on x y r)) t u

  -- legs
  abbrev AreNeighbours : TransId → TransId → Type 0
  AreNeighbours t u = On p t × On p u × AreJoined m t u

  leg_of_chain : (t u : TransId) → Chain AreNeighbours t u → SameLeg m p t u
  leg_of_chain t u (one r) = joined r.0 r.2 (itself r.1)
  leg_of_chain t u (more {y = k} r rest) = joined r.0 r.2 (leg_of_chain k u rest)

  leg_begins : (t u : TransId) → SameLeg m p t u → On p t
  leg_begins t u (itself is) = is
  leg_begins t u (joined is j rest) = is

  chain_of_leg : (t u : TransId) → SameLeg m p t u → (t ≡ u) ⊎ Chain AreNeighbours t u
  chain_of_leg t u (itself is) = inl refl
  chain_of_leg t u (joined {u = k} is j rest) =
      let there = leg_begins k u rest in
      inr (⊎_elim
      (λ same. subst (Chain AreNeighbours t) same (one (is, there, j)))
      (λ on. more (is, there, j) on)
      (chain_of_leg k u rest))

  pub known_same_leg : (t u : TransId) → Known (SameLeg m p t u)
  known_same_leg t u =
      known_as
      (λ h. ⊎_elim (λ same. subst (SameLeg m p t) same (itself h.0)) (leg_of_chain t u) h.1)
      (λ h. (leg_begins t u h, chain_of_leg t u h))
      (known_both
      (known_on t)
      (known_either
      (known_transition t u)
      (known_chain_on AreNeighbours
      (λ x y. known_as (λ h. (h.0, h.1.0, h.1.1)) (λ h. (h.0, (h.1, h.2))) (known_both (known_on x) (known_both (known_on y) (known_joined m x y))))
      (λ x y r. r.1)
      t u)))

  leg_ends : (t u : TransId) → SameLeg m p t u → On p u
  leg_ends t u (itself is) = is
  leg_ends t u (joined {u = k} is j rest) = leg_ends k u rest

  -- some transition of the leg is such
  pub known_in_leg : (P : TransId → Type 0) → ((u : TransId) → Known (P u)) → (t : TransId) → Known ((u : TransId) × SameLeg m p t u × P u)
  known_in_leg P each t =
      known_as
      (λ h. (h.0, h.2.0, h.2.1))
      (λ h. (h.0, leg_ends t h.0 h.1, (h.1, h.2)))
      (known_among (λ u. SameLeg m p t u × P u) (transitions_of p) (λ u on. known_both (known_same_leg t u) (each u)))

  known_cut_between : (a b : TransId) → Known ((v : VertexId) × IsCut m v × Enters m a v × Leaves m b v)
  known_cut_between a b = known_meeting m (IsCut m) (known_cut m) a b

  known_beginning : (a u : TransId) → Known ((b : TransId) × On p b × (SameLeg m p b u × ((v : VertexId) × IsCut m v × Enters m a v × Leaves m b v)))
  known_beginning a u =
      known_among
      (λ b. SameLeg m p b u × ((v : VertexId) × IsCut m v × Enters m a v × Leaves m b v))
      (transitions_of p)
      (λ b on. known_both (known_same_leg b u) (known_cut_between a b))

  pub known_next_leg : (t u : TransId) → Known (NextLeg m p t u)
  known_next_leg t u =
      known_as
      (λ h. (h.0, h.2.0, h.2.2.1.0, h.1, h.2.2.0, h.2.2.1.1, h.2.2.1.2, h.2.2.1.3))
      (λ h. (h.0, h.3, (h.1, leg_begins h.1 u h.4, (h.4, (h.2, h.5, h.6, h.7)))))
      (known_in_leg
      (λ a. (b : TransId) × On p b × (SameLeg m p b u × ((v : VertexId) × IsCut m v × Enters m a v × Leaves m b v)))
      (λ a. known_beginning a u)
      t)

  later_of_chain : (t u : TransId) → Chain (NextLeg m p) t u → LaterLeg m p t u
  later_of_chain t u (one h) = leg_next h
  later_of_chain t u (more {y = k} h rest) = leg_after h (later_of_chain k u rest)

  chain_of_later : (t u : TransId) → LaterLeg m p t u → Chain (NextLeg m p) t u
  chain_of_later t u (leg_next h) = one h
  chain_of_later t u (leg_after {u = k} h rest) = more h (chain_of_later k u rest)

  pub known_later_leg : (t u : TransId) → Known (LaterLeg m p t u)
  known_later_leg t u =
      known_as
      (later_of_chain t u)
      (chain_of_later t u)
      (known_chain_on (NextLeg m p) known_next_leg (λ x y h. leg_ends h.1 y h.4) t u)

  -- paths over junctions
  abbrev GoesOver : TransId → TransId → Type 0
  GoesOver t u = On p t × On p u × ((v : VertexId) × HasKind m v kinds.Junction × Enters m t v × Leaves m u v)

  path_of_chain : (t u : TransId) → Chain GoesOver t u → PathBefore m p t u
  path_of_chain t u (one r) = next r.0 r.1 r.2.0 r.2.1 r.2.2 r.2.3
  path_of_chain t u (more {y = k} r rest) = after (next r.0 r.1 r.2.0 r.2.1 r.2.2 r.2.3) (path_of_chain k u rest)

  chain_of_path : (t u : TransId) → PathBefore m p t u → Chain GoesOver t u
  chain_of_path t u (next is there v k e l) = one (is, there, (v, k, e, l))
  chain_of_path t u (after {u = w} first rest) = chain_on GoesOver t w u (chain_of_path t w first) (chain_of_path w u rest)

  pub known_path : (t u : TransId) → Known (PathBefore m p t u)
  known_path t u =
      known_as
      (path_of_chain t u)
      (chain_of_path t u)
      (known_chain_on GoesOver
      (λ x y. known_as
      (λ h. (h.0, h.1.0, h.1.1))
      (λ h. (h.0, (h.1, h.2)))
      (known_both
      (known_on x)
      (known_both (known_on y) (known_meeting m (λ v. HasKind m v kinds.Junction) (λ v. known_vertex_kind m v kinds.Junction) x y))))
      (λ x y r. r.1)
      t u)

  -- what the route comes to
  abbrev GoesTo : TransId → TransId → Type 0
  GoesTo u t = Contains p.rest t × ((v : VertexId) × Unit {0} × Enters m u v × Leaves m t v)

  reached_along : (s t : TransId) → IsReached m p s → Chain GoesTo s t → IsReached m p t
  reached_along s t before (one r) = reached_after before r.1.2 r.1.3 r.0
  reached_along s t before (more {y = k} r rest) = reached_along k t (reached_after before r.1.2 r.1.3 r.0) rest

  abbrev IsFromStart : TransId → Type 0
  IsFromStart t = Contains p.starts t ⊎ ((s : TransId) × Contains p.starts s × Chain GoesTo s t)

  from_start : (t : TransId) → IsReached m p t → IsFromStart t
  from_start t (reached_first h) = inl h
  from_start t (reached_after {u = u} {v = v} r e l h) =
      ⊎_elim
      (λ first. inr (u, first, one (h, (v, tt, e, l))))
      (λ so_far. inr (so_far.0, so_far.1, chain_on GoesTo so_far.0 u t so_far.2 (one (h, (v, tt, e, l)))))
      (from_start u r)

  known_goes_to : (u t : TransId) → Known (GoesTo u t)
  known_goes_to u t = known_both (known_further t) (known_meeting m (λ v. Unit {0}) (λ v. inl tt) u t)

  pub known_reached : (t : TransId) → Known (IsReached m p t)
  known_reached t =
      known_as
      (λ h. ⊎_elim (λ first. reached_first first) (λ so_far. reached_along so_far.0 t (reached_first so_far.1) so_far.2) h)
      (from_start t)
      (known_either
      (known_start t)
      (known_among
      (λ s. Chain GoesTo s t)
      p.starts
      (λ s first. known_chain_on GoesTo known_goes_to (λ x y r. Contains-append_right p.starts p.rest y r.0) s t)))

  -- where the leg begins and ends, and how it goes
  pub known_last_vertex : (t : TransId) (v : VertexId) → Known (IsLastVertex m p t v)
  known_last_vertex t v =
      known_as
      (λ h. (h.0, h.1, h.2.0, h.2.1))
      (λ h. (h.0, h.1, (h.2, h.3)))
      (known_in_leg
      (λ u. Enters m u v × (HasKind m v kinds.Junction → ⊥))
      (λ u. known_both (known_enters m u v) (known_not (known_vertex_kind m v kinds.Junction)))
      t)

  pub known_of_leg : (t : TransId) (v : VertexId) → Known (IsOfLeg m p t v)
  known_of_leg t v = known_in_leg (λ u. Leaves m u v ⊎ Enters m u v) (λ u. known_either (known_leaves m u v) (known_enters m u v)) t

  pub known_local_from : (t : TransId) (s : VertexId) → Known (IsLocalFrom m p t s)
  known_local_from t s =
      known_as
      (λ h. (h.0, h.1, h.2.0, h.2.1, h.2.2))
      (λ h. (h.0, h.1, (h.2, h.3, h.4)))
      (known_in_leg
      (λ u. Leaves m u s × HasKind m s kinds.State × Goes m u Local)
      (λ u. known_as
      (λ h. (h.0, h.1.0, h.1.1))
      (λ h. (h.0, (h.1, h.2)))
      (known_both (known_leaves m u s) (known_both (known_vertex_kind m s kinds.State) (known_goes m u Local))))
      t)

  pub known_internal : (t : TransId) → Known (IsInternal m p t)
  known_internal t = known_both (known_on t) (known_goes m t Internal)

  -- where the route starts and ends
  pub known_source : (s : VertexId) → Known (IsSource m p s)
  known_source s = known_among (λ t. Leaves m t s) p.starts (λ t first. known_leaves m t s)

  pub known_ends_at : (v : VertexId) → Known (EndsAt m p v)
  known_ends_at v = known_all (λ t. Leaves m t v → ⊥) p.rest (λ t further. known_not (known_leaves m t v))

  pub known_ends_on : (v : VertexId) → Known (EndsOn m p v)
  known_ends_on v =
      known_as
      (λ h. (h.0, h.1, h.2.0, h.2.1))
      (λ h. (h.0, h.1, (h.2, h.3)))
      (known_among
      (λ t. Enters m t v × EndsAt m p v)
      (transitions_of p)
      (λ t on. known_both (known_enters m t v) (known_ends_at v)))
