-- With which transitions legs begin: those of the starts, and those behind the vertex on which a leg ends.
use Rattle.std.proofs.Common.{◌≡◌, ◌⊎◌, ◌↔◌, ◌<◌, ◌≤◌, ◌+◌, ℕ, List, [], ◌∷◌, ◌++◌, length, slice_get, Some, None, Contains, AllPairs, refl, sym, ap, subst, inl, inr, ⊎_elim, arith}
use Rattle.std.proofs.lemmas.Bool.{cases_lt}
use Rattle.std.proofs.lemmas.Option.{slice_get_within}
use Rattle.pssm_model.specs.declared.ids.VertexId.{VertexId}
use Rattle.pssm_model.specs.declared.ids.TransId.{TransId}
use Rattle.pssm_model.specs.declared.elements.DraftMachine.{DraftMachine}
use Rattle.pssm_model.specs.declared.elements.VertexKind.TheVariants as kinds
use Rattle.pssm_model.specs.declared.elements.Element.TheVariants as elements
use Rattle.pssm_model.specs.declared.elements.FaultPlace.TheVariants as places
use Rattle.pssm_model.specs.declared.steps.Route.{Route}
use Rattle.pssm_model.specs.Shapes.{HasShape}
use Rattle.pssm_model.specs.Forest.{HasKind}
use Rattle.pssm_model.specs.Legs.{On, Leaves, Enters, IsCut, SameLeg, NextLeg, IsLastVertex}
use Rattle.pssm_model.specs.Legs.SameLeg.{itself}
use Rattle.pssm_model.specs.Routes.{IsRoute}
use Rattle.pssm_model.specs.RouteWords.{IsStepRoute}
use Rattle.pssm_model.specs.WellFormed.{KeepsModelRules}
use Rattle.pssm_model.specs.WellFormed.Breaks.{E05}
use Rattle.pssm_model.proofs.ElementLaws.{leaves_one, enters_one, nothing_in_nil}
use Rattle.pssm_model_laws.proofs.Through.{kinds_clash, target_there}
use Rattle.pssm_model_laws.proofs.RouteOrder.{route_of, of_start, all_into_join, start_not_through}
use Rattle.pssm_model_laws.proofs.LegShapes.{ends_on, leg_on, cut_no_junction, join_from_no_through, join_is_starts, join_star, fork_star}
use Rattle.pssm_legs.specs.declared.legs.Leg.{Leg}
use Rattle.pssm_legs.specs.declared.legs.Legs.{Legs}
use Rattle.pssm_legs.specs.inner.Chained.{BeginsChain, BeginsChains, BeginsRoute, IsStarAt, IsMade, AreDone, EndsLeg, IsAmongFirst, ArePut, NothingPut}
use Rattle.pssm_legs.proofs.Places.{contains_at, at_contains, same_at}
use Rattle.pssm_legs.proofs.Among.{ordered}
use Rattle.pssm_legs.proofs.LegsSoFar.{one_cut_end, one_out_alone, put_same, kept_at, one_leg_more, all_put}

module _ (m : DraftMachine) (v : VertexId) where
  pub chains_cut : BeginsChains m v → IsCut m v
  chains_cut h = ⊎_elim (λ join. inr (inl join)) (λ point. ⊎_elim (λ entry. inr (inr (inl entry))) (λ exit. inr (inr (inr exit))) point) h

  pub chains_no_fork : BeginsChains m v → HasKind m v kinds.Fork → ⊥
  chains_no_fork h fork =
      ⊎_elim
      (λ join. kinds_clash m v kinds.Join kinds.Fork (λ e. cc) join fork)
      (λ point. ⊎_elim
      (λ entry. kinds_clash m v kinds.EntryPoint kinds.Fork (λ e. cc) entry fork)
      (λ exit. kinds_clash m v kinds.ExitPoint kinds.Fork (λ e. cc) exit fork)
      point)
      h

  pub not_cut : (HasKind m v kinds.Fork → ⊥) → (BeginsChains m v → ⊥) → IsCut m v → ⊥
  not_cut no_fork none h =
      ⊎_elim no_fork (λ more. ⊎_elim (λ join. none (inl join)) (λ point. none (inr point)) more) h

-- The leg is the one of the starts.
pub begins_route : (m : DraftMachine) (p : Route) (t : TransId) (leg : Leg) → Contains p.starts t → IsMade m p t None leg → BeginsRoute m p leg
begins_route m p t leg start made = (subst (Contains p.starts) (sym made.named) start, subst (λ u. IsMade m p u None leg) (sym made.named) made)

module _ {m : DraftMachine} (shape : HasShape m) (rules : KeepsModelRules m) (p : Route) (step : IsStepRoute m p) where
  route : IsRoute m p
  route = route_of m p step

  -- a route has a start
  pub some_starts : 0 < length p.starts
  some_starts =
      ⊎_elim
      (λ single. (let lt : 0 < length (single.0 ∷ []) = omega arith in subst (λ ts. 0 < length ts) (sym single.1) lt))
      (λ join. by p.starts join.0 join.1 join.3)
      route.starts
    where
      by : (ts : List TransId) (j : VertexId) → HasKind m j kinds.Join → ((t : TransId) → Enters m t j → Contains ts t) → 0 < length ts
      by [] j k all = absurd (rules (places.At (elements.Vertex j)) 5 (E05 (k, inl (λ two. nothing_in_nil two.0 (all two.0 two.3)))))
      by (t ∷ ts) j k all = omega arith

  -- a start that ends on no join
  pub start_begins : (t : TransId) (v : VertexId) → Contains p.starts t → Enters m t v → (HasKind m v kinds.Join → ⊥) → BeginsChain m p t
  start_begins t v start e none = record {
    on = of_start m p t start;
    no_junction = λ w l k. start_not_through p step t w start l (inl k);
    no_fork = λ w l k. start_not_through p step t w start l (inr (inl k));
    no_join = λ w f k. none (subst (λ x. HasKind m x kinds.Join) (enters_one m t w v f e) k);
  }

  -- one that ends on a join, with the others
  pub starts_are_star : (t : TransId) (j : VertexId) → Contains p.starts t → Enters m t j → HasKind m j kinds.Join → IsStarAt m p.starts j
  starts_are_star t j start e k =
      let on = of_start m p t start in
      let star = join_star shape rules p step t j on k e in
      inl (
        k,
        λ u. (
          λ too. (star.1 u).0 ((join_is_starts shape rules p step t j star u).1 too),
          λ f. all_into_join shape rules p route t u j on e k f,
        ),
      )

  -- behind a vertex on which a leg ends
  module _ (a : TransId) (v : VertexId) (last : IsLastVertex m p a v) where
    last_on : On p last.0
    last_on = ends_on m p a last.0 last.1

    pub end_there : v.0 < length m.vertices
    end_there = target_there shape last.0 v last.2

    pub out_of_fork : (u : TransId) → HasKind m v kinds.Fork → Leaves m u v → On p u
    out_of_fork u k l = route.goes_on last.0 v kinds.Fork last_on last.2 k u l

    out_on : (u : TransId) → BeginsChains m v → Leaves m u v → On p u
    out_on u h l =
        ⊎_elim
        (λ join. route.goes_on last.0 v kinds.Join last_on last.2 join u l)
        (λ point. ⊎_elim
        (λ entry. route.goes_on last.0 v kinds.EntryPoint last_on last.2 entry u l)
        (λ exit. route.goes_on last.0 v kinds.ExitPoint last_on last.2 exit u l)
        point)
        h

    pub out_begins : (u : TransId) → BeginsChains m v → Leaves m u v → BeginsChain m p u
    out_begins u h l = record {
      on = out_on u h l;
      no_junction = λ w g k. cut_no_junction m v (chains_cut m v h) (subst (λ x. HasKind m x kinds.Junction) (leaves_one m u w v g l) k);
      no_fork = λ w g k. chains_no_fork m v h (subst (λ x. HasKind m x kinds.Fork) (leaves_one m u w v g l) k);
      no_join = λ w e k. join_from_no_through shape rules p route u w v k e l (inr (chains_cut m v h));
    }

    leads : (u : TransId) → IsCut m v → Leaves m u v → On p u → NextLeg m p a u
    leads u cut l on = (last.0, u, v, last.1, itself on, cut, last.2, l)

    -- what begins behind the leg leaves the vertex
    behind_it : (t : TransId) → NextLeg m p a t → (d : TransId) × Leaves m d v × SameLeg m p d t
    behind_it t h =
        let same = one_cut_end shape rules p step a h.0 h.2 v h.3 h.6 h.5 last in
        (h.1, subst (Leaves m h.1) same h.7, h.4)

  -- nothing is put where nothing begins
  pub none_begin : (legs : Legs) (place : ℕ) (v : VertexId) → AreDone m p legs place → EndsLeg m p legs place v
      → ((d : TransId) → IsCut m v → Leaves m d v → ⊥) → AreDone m p legs (place + 1)
  none_begin legs place v h ends none =
      all_put shape rules p step legs place NothingPut ends.0 ends.1 h (λ t next.
      let last = ends.3 in
      let behind = behind_it ends.0.named v last t next in
      let same = one_cut_end shape rules p step ends.0.named next.0 next.2 v next.3 next.6 next.5 last in
      absurd (none behind.0 (subst (IsCut m) same next.5) behind.1))

  -- the one leg that begins on a fork
  pub star_put : (legs more : Legs) (leg : Leg) → more.first ≡ legs.first → more.more.items ≡ legs.more.items ++ leg ∷ [] → (place : ℕ) (v : VertexId) (x : TransId)
      → HasKind m v kinds.Fork → Leaves m x v → AreDone m p legs place → EndsLeg m p legs place v → IsMade m p x (Some place) leg → AreDone m p more (place + 1)
  star_put legs more leg kept pushed place v x k l h ends made =
      let last = ends.3 in
      let on = out_of_fork ends.0.named v last x k l in
      let one = one_leg_more shape rules p step legs more leg kept pushed place NothingPut h ends.0 ends.1 x made
      (leads ends.0.named v last x (inl k) l on) (λ y none. absurd none) in
      all_put shape rules p step more place (λ y. NothingPut y ⊎ (y ≡ x)) ends.0
      (kept_at shape rules p step legs more leg kept pushed place ends.0 ends.1) one
      (λ t next.
      let behind = behind_it ends.0.named v last t next in
      let star = fork_star shape rules p step x v on k l in
      (x, inr refl, leg_on m p x behind.0 t ((star.1 behind.0).1 behind.1) behind.2))

  -- those that begin on a join, an entry or an exit point, one after another
  module _ (place : ℕ) (v : VertexId) (k : BeginsChains m v) (ts : List TransId) (items : (t : TransId) → Contains ts t ↔ Leaves m t v) where
    pub putting_begins : (legs : Legs) → AreDone m p legs place → EndsLeg m p legs place v → ArePut m p legs place v (IsAmongFirst ts 0)
    putting_begins legs h ends = record {
      ends = ends;
      so_far = put_same shape rules p step legs place NothingPut (IsAmongFirst ts 0)
          (λ t none. absurd none)
          (λ t first. (let lt = first.1 in absurd (omega (arith, lt))))
          h;
    }

    among_more : (n : ℕ) (x : TransId) → slice_get ts n ≡ Some x → (t : TransId) → IsAmongFirst ts n t ⊎ (t ≡ x) → IsAmongFirst ts (n + 1) t
    among_more n x at t h =
        ⊎_elim
        (λ old. (let lt = old.1 in (old.0, omega (arith, lt), old.2)))
        (λ same. (n, omega arith, subst (λ y. slice_get ts n ≡ Some y) (sym same) at))
        h

    among_cases : (n : ℕ) (x : TransId) → slice_get ts n ≡ Some x → (t : TransId) → IsAmongFirst ts (n + 1) t → IsAmongFirst ts n t ⊎ (t ≡ x)
    among_cases n x at t h =
        ⊎_elim
        (λ below. inl (h.0, below, h.2))
        (λ upto.
        let lt = h.1 in
        let same : h.0 ≡ n = omega (arith, lt, upto) in
        inr (same_at ts n t x (subst (λ i. slice_get ts i ≡ Some t) same h.2) at))
        (cases_lt h.0 n)

    leaves_at : (n : ℕ) (x : TransId) → slice_get ts n ≡ Some x → Leaves m x v
    leaves_at n x at = (items x).0 (at_contains ts n x at)

    pub putting_goes_on : AllPairs (λ (t u : TransId). t.0 < u.0) ts → (legs more : Legs) (leg : Leg) → more.first ≡ legs.first
        → more.more.items ≡ legs.more.items ++ leg ∷ [] → (n : ℕ) (x : TransId) → slice_get ts n ≡ Some x → ArePut m p legs place v (IsAmongFirst ts n)
        → IsMade m p x (Some place) leg → ArePut m p more place v (IsAmongFirst ts (n + 1))
    putting_goes_on ascending legs more leg kept pushed n x at h made =
        let a = h.ends.0 in
        let last = h.ends.3 in
        let here = leaves_at n x at in
        record {
          ends = (a, kept_at shape rules p step legs more leg kept pushed place a h.ends.1, h.ends.2, last);
          so_far = put_same shape rules p step more place (λ y. IsAmongFirst ts n y ⊎ (y ≡ x)) (IsAmongFirst ts (n + 1))
              (among_more n x at)
              (among_cases n x at)
              (one_leg_more shape rules p step legs more leg kept pushed place (IsAmongFirst ts n) h.so_far a h.ends.1 x made
              (leads a.named v last x (chains_cut m v k) here (out_on a.named v last x k here))
              fresh);
        }
      where
        fresh : (y : TransId) → IsAmongFirst ts n y → SameLeg m p y x → ⊥
        fresh y put same =
            let there = leaves_at put.0 y put.2 in
            let alone = one_out_alone shape rules p step y x v (chains_cut m v k) (chains_no_fork m v k) there (leaves_at n x at) same in
            let less = ordered ts x ascending put.0 n y x put.1 put.2 at in
            let equal : y.0 ≡ x.0 = ap (λ (z : TransId). z.0) alone in
            omega (arith, less, equal)

    pub putting_ends : (legs : Legs) (n : ℕ) → length ts ≤ n → ArePut m p legs place v (IsAmongFirst ts n) → AreDone m p legs (place + 1)
    putting_ends legs n all h =
        let a = h.ends.0 in
        all_put shape rules p step legs place (IsAmongFirst ts n) a h.ends.1 h.so_far (λ t next.
        let behind = behind_it a.named v h.ends.3 t next in
        let at = contains_at ts behind.0 ((items behind.0).1 behind.1) in
        let within = slice_get_within ts at.0 behind.0 at.1 in
        (behind.0, (at.0, omega (arith, within, all), at.1), behind.2))
