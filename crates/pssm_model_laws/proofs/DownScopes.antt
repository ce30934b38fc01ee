-- The scopes of the legs on the way down, and where what they enter lies.
use Rattle.std.proofs.Common.{◌≡◌, ◌≢◌, ◌⊎◌, length, Some, sym, ap, subst, ◌∙◌, inl, inr, ⊎_elim}
use Rattle.std.proofs.lemmas.Option.{slice_get_within}
use Rattle.pssm_model.specs.declared.ids.VertexId.{VertexId}
use Rattle.pssm_model.specs.declared.ids.RegionId.{RegionId}
use Rattle.pssm_model.specs.declared.ids.TransId.{TransId}
use Rattle.pssm_model.specs.declared.elements.DraftMachine.{DraftMachine}
use Rattle.pssm_model.specs.declared.elements.VertexKind.TheVariants as kinds
use Rattle.pssm_model.specs.declared.elements.Owner.TheVariants.{Region, State}
use Rattle.pssm_model.specs.declared.elements.Element.TheVariants as elements
use Rattle.pssm_model.specs.declared.elements.FaultPlace.TheVariants as places
use Rattle.pssm_model.specs.declared.steps.Route.{Route}
use Rattle.pssm_model.specs.Forest.{owner_of, HasKind, LiesUnder, LiesInRegion, LiesInState, IsScope}
use Rattle.pssm_model.specs.Forest.LiesUnder.{owned, further}
use Rattle.pssm_model.specs.Legs.{Leaves, Enters, On, SameLeg, IsOfLeg, IsInternal, IsLocalFrom, PassesPoint, PassesSomePoint, Scope, LegScope, IsEndState}
use Rattle.pssm_model.specs.Legs.Scope.{Within}
use Rattle.pssm_model.specs.Legs.SameLeg.{itself as itself_leg}
use Rattle.pssm_model.specs.Legs.LegScope.{internal, local, point, other}
use Rattle.pssm_model.specs.Routes.{IsRoute}
use Rattle.pssm_model.specs.Shapes.{HasShape}
use Rattle.pssm_model.specs.WellFormed.{KeepsModelRules}
use Rattle.pssm_model.specs.WellFormed.Breaks.{E08, E15}
use Rattle.pssm_model.specs.RouteWords.{IsStepRoute}
use Rattle.pssm_model.proofs.ElementLaws.{kind_unique, leaves_one, enters_one}
use Rattle.pssm_model.proofs.OwnerChains.{under_further}
use Rattle.pssm_model.proofs.Nesting.{region_cases, lies_within}
use Rattle.pssm_model_laws.proofs.RegionChains.{under_state, on_one_chain}
use Rattle.pssm_model.proofs.Scopes.{one_scope}
use Rattle.pssm_model_laws.proofs.Known.{sure, known_below, known_both}
use Rattle.pssm_model_laws.proofs.KnownPlaces.{known_owner, known_in_region, region_of}
use Rattle.pssm_model_laws.proofs.InnerPaths.{not_state_or_final, no_circle, regions_apart, point_owner, home_owner, source_there, entry_after, after_no_exit}
use Rattle.pssm_model_laws.proofs.Branches.{Along, route_comes, fork_ends_here}
use Rattle.pssm_model_laws.proofs.EndsApart.{step_is_route}
use Rattle.pssm_model_laws.proofs.LegRoots.{Over, IsRoot, IsBehind, over_along, over_leg, over_ends, leg_begins, leg_ends, leg_turned, legs_meet, leg_root, over_root, join_start, start_not_through, cut_root}
use Rattle.pssm_model_laws.proofs.LegRoots.Over.{same, over}
use Rattle.pssm_model_laws.proofs.UpAndDown.{GoesDown, target_of}
use Rattle.pssm_model_laws.proofs.RouteKinds.{state_start, internal_start}
use Rattle.pssm_model_laws.proofs.DownLegs.{down_leg}
use Rattle.pssm_model_laws.proofs.Widening.{LiesAround, behind_no_start, behind_no_back}

-- What stands around a vertex of the region and not in the region stands around the beginning of the leg too, or is the State of the point there.
abbrev pub IsOutside : DraftMachine → VertexId → RegionId → Type 0
IsOutside m c r =
    (v s : VertexId) → LiesInRegion m v r → LiesInState m v s → (LiesInRegion m s r → ⊥) → IsEndState m c s ⊎ LiesInState m c s

-- the one scope of a leg on the way down, which begins at the vertex
pub record HasDownScope (m : DraftMachine) (p : Route) (t : TransId) (c : VertexId) : Type 0 where
  pub region : RegionId
  pub is : LegScope m p t (Within region)
  pub only : (other : Scope) → LegScope m p t other → other ≡ Within region
  pub targets : (u : TransId) (x : VertexId) → SameLeg m p t u → Enters m u x → LiesInRegion m x region
  pub around : LiesAround m (Within region) c
  pub part : (z : VertexId) → HasKind m c kinds.EntryPoint → owner_of m (State c) ≡ Some (State z) → owner_of m (Region region) ≡ Some (State z)
  pub outside : IsOutside m c region

module _ {m : DraftMachine} (shape : HasShape m) (rules : KeepsModelRules m) (p : Route) (step : IsStepRoute m p) where
  the_route : IsRoute m p
  the_route = step_is_route step

  module _ (w t : TransId) (c : VertexId) (behind : IsBehind m p w c) (o : Over m p w t) where
    leg_to : SameLeg m p w t
    leg_to = over_leg m p o

    leg_from : SameLeg m p t w
    leg_from = leg_turned m p leg_to

    t_on : On p t
    t_on = over_ends m p o

    not_internal : IsInternal m p t → ⊥
    not_internal i = behind_no_start shape rules p step w t c behind leg_to (internal_start shape rules p step t i.0 i.1)

    not_local : (s : VertexId) → IsLocalFrom m p t s → ⊥
    not_local s h =
        behind_no_start shape rules p step w h.0 c behind (legs_meet m p leg_to h.1)
        (state_start shape rules p step h.0 s (leg_ends m p h.1) h.2 h.3)

    -- behind a fork
    module _ (fork : HasKind m c kinds.Fork) where
      fork_leaves : (u : TransId) → SameLeg m p t u → Leaves m u c
      fork_leaves u leg =
          let to = leg_root shape rules p step w (inr (c, behind)) o leg in
          let ends = λ (first : TransId) (l : Leaves m first c) (a : Over m p first u). (
          let here = fork_ends_here shape p the_route rules first u c fork l (over_along m p a) in
          let found : Leaves m u c = subst (λ x. Leaves m x c) here l in found) in
          ⊎_elim
          (λ here. ends to.first (subst (λ x. Leaves m x c) here behind.leaves) to.leads)
          (⊎_elim
          (λ a. absurd (start_not_through shape rules p step w c
          (join_start shape rules p step w a.0 (leg_begins m p leg_to) a.2 a.1) behind.leaves (inr behind.cut)))
          (λ a. ends to.first (subst (Leaves m to.first) (leaves_one m w a.0 c a.2 behind.leaves) a.3) to.leads))
          to.by

      fork_no_point : PassesSomePoint m p t → ⊥
      fork_no_point h =
          let u = h.2.1.0 in
          let l = fork_leaves u h.2.1.1 in
          ⊎_elim
          (λ entry. let clash = kind_unique m c kinds.Fork kinds.EntryPoint fork (subst (λ x. HasKind m x kinds.EntryPoint)
          (leaves_one m u h.0 c entry.1 l) entry.0) in cc)
          (λ exit. rules (places.At (elements.Vertex c)) 8 (E08 (
            fork,
            inl (
              u,
              l,
              inr (λ s e ends.
                  not_state_or_final m s kinds.ExitPoint ends (subst (λ x. HasKind m x kinds.ExitPoint) (enters_one m u h.0 s exit.1 e) exit.0)
                  (λ k. cc) (λ k. cc)),
            ),
          )))
          h.2.1.2

      fork_home : (r : RegionId) × (owner_of m (State c) ≡ Some (Region r))
      fork_home = home_owner shape c (source_there shape w c behind.leaves) (λ at_point. ⊎_elim
          (λ k. let clash = kind_unique m c kinds.Fork kinds.EntryPoint fork k in cc)
          (λ k. let clash = kind_unique m c kinds.Fork kinds.ExitPoint fork k in cc)
          at_point)

      fork_span : IsScope m (IsOfLeg m p t) fork_home.0
      fork_span = record {
        common = λ x h. down_leg shape rules p step w t c x fork_home.0 behind (inl fork) (owned fork_home.1) o h;
        innermost = λ q all under. ⊎_elim
            (λ here. no_circle shape (Region q) (subst (λ x. LiesUnder m (Region q) (Region x)) here under))
            (λ out. no_circle shape (Region q) (under_further under out))
            (region_cases m (State c) fork_home.0 q fork_home.1 (all c (w, leg_from, inl behind.leaves)));
      }

      fork_scope_is : (scope : Scope) → LegScope m p t scope → scope ≡ Within fork_home.0
      fork_scope_is _ (internal i) = absurd (not_internal i)
      fork_scope_is _ (local {s = s} h) = absurd (not_local s h)
      fork_scope_is _ (point {s = k} {v = v} passes f all) = absurd (fork_no_point (v, k, passes))
      fork_scope_is _ (other {r = q} is i j k span) =
          ap Within (one_scope m (IsOfLeg m p t) c q fork_home.0 (w, leg_from, inl behind.leaves) span fork_span)

      fork_outside : IsOutside m c fork_home.0
      fork_outside v s lies inside out =
          let h = fork_home.0 in
          inr (
            inside.0,
            inside.1,
            ⊎_elim
                (λ within. ⊎_elim
                (λ here. subst (LiesInRegion m c) (sym here) (owned fork_home.1))
                (λ under. absurd (out (under_state m (Region inside.0) s h inside.1 under)))
                within)
                (λ within. lies_within m c h inside.0 (owned fork_home.1) within)
                (on_one_chain m (State v) inside.0 h inside.2 lies),
          )

      pub fork_down : HasDownScope m p t c
      fork_down = record {
        region = fork_home.0;
        is = other t_on not_internal not_local fork_no_point fork_span;
        only = fork_scope_is;
        targets = λ u x leg e. down_leg shape rules p step w t c x fork_home.0 behind (inl fork) (owned fork_home.1) o (u, leg, inr e);
        around = λ x q lies inside. lies_within m x fork_home.0 q lies (region_cases m (State c) fork_home.0 q fork_home.1 inside);
        part = λ z entry owner. (let clash = kind_unique m c kinds.Fork kinds.EntryPoint fork entry in absurd (cc));
        outside = fork_outside;
      }

    -- behind an entry point
    module _ (entry : HasKind m c kinds.EntryPoint) (z : VertexId) (owner : owner_of m (State c) ≡ Some (State z)) where
      entry_chain : (u : TransId) → SameLeg m p t u → Over m p w u
      entry_chain u leg =
          let to = leg_root shape rules p step w (inr (c, behind)) o leg in
          ⊎_elim
          (λ here. subst (λ x. Over m p x u) (sym here) to.leads)
          (⊎_elim
          (λ a. absurd (start_not_through shape rules p step w c
          (join_start shape rules p step w a.0 (leg_begins m p leg_to) a.2 a.1) behind.leaves (inr behind.cut)))
          (λ a. let clash = kind_unique m c kinds.EntryPoint kinds.Fork entry (subst (λ x. HasKind m x kinds.Fork)
          (leaves_one m w a.0 c a.2 behind.leaves) a.1) in absurd (cc)))
          to.by

      -- The first target lies in the region, a part of the State of the point.
      abbrev IsEntryRegion : RegionId → Type 0
      IsEntryRegion r = (owner_of m (Region r) ≡ Some (State z)) × ((x : VertexId) → Enters m w x → LiesInRegion m x r)

      entry_region : (r : RegionId) × IsEntryRegion r
      entry_region =
          let y = target_of shape rules p step w (leg_begins m p leg_to) in
          let found = sure
          (known_below
          (λ k. (owner_of m (Region (region_of k)) ≡ Some (State z)) × LiesInRegion m y.0 (region_of k))
          (λ k. known_both (known_owner m (Region (region_of k)) (State z)) (known_in_region shape y.0 (region_of k)))
          (length m.regions))
          (λ none. rules (places.At (elements.Vertex c)) 15 (E15 (
            entry,
            λ s e apart. (
                let into = apart.inside w y.0 (behind.leaves, y.1) in
                let here : s ≡ z = cc in
                none (
                  into.0.0,
                  slice_get_within m.regions into.0.0 (State s) into.1,
                  (subst (λ x. owner_of m (Region into.0) ≡ Some (State x)) here into.1, into.2),
                )),
          ))) in
          (region_of found.0, (found.2.0, λ x e. subst (λ k. LiesInRegion m k (region_of found.0)) (enters_one m w y.0 x y.1 e) found.2.1))

      module _ (r : RegionId) (at : IsEntryRegion r) where
        entry_target : (u : TransId) (x : VertexId) → Along m p w u → Enters m u x → LiesInRegion m x r
        entry_target u x a e =
            let y = target_of shape rules p step w (leg_begins m p leg_to) in
            entry_after shape rules c z y.0 x w r entry owner at.0 behind.leaves y.1 (at.1 y.0 y.1)
            (route_comes shape p the_route rules c (inr (inr entry)) behind.leaves a e)

        entry_source : (u : TransId) (x : VertexId) → Over m p w u → Leaves m u x → x ≢ c → LiesInRegion m x r
        entry_source u x (same is) l apart = absurd (apart (leaves_one m w x c l behind.leaves))
        entry_source u x (over {t = k} {v = v} q j e h g) l apart =
            subst (λ y. LiesInRegion m y r) (leaves_one m u v x h l) (entry_target k v (over_along m p q) e)

        entry_all : (x : VertexId) → IsOfLeg m p t x → x ≢ c → LiesInRegion m x r
        entry_all x h apart =
            let q = entry_chain h.0 h.1 in
            ⊎_elim (λ l. entry_source h.0 x q l apart) (λ e. entry_target h.0 x (over_along m p q) e) h.2

        entry_passes : PassesPoint m p t c z
        entry_passes = (owner, (w, leg_from, inl (entry, behind.leaves)))

        entry_scope_is : (scope : Scope) → LegScope m p t scope → scope ≡ Within r
        entry_scope_is _ (internal i) = absurd (not_internal i)
        entry_scope_is _ (local {s = s} h) = absurd (not_local s h)
        entry_scope_is _ (point {s = k} {v = v} {r = q} passes f all) =
            let u = passes.1.0 in
            let chain = entry_chain u passes.1.1 in
            ⊎_elim
            (λ starts.
            let u_root : IsRoot m p u = inr (v, cut_root shape rules p step u v (leg_ends m p passes.1.1) starts.1 (inr (inr (inl starts.0)))) in
            let w_is : w ≡ u = over_root shape rules p step chain u_root in
            let v_is : v ≡ c = leaves_one m u v c starts.1 (subst (λ x. Leaves m x c) w_is behind.leaves) in
            let owner_is : owner_of m (State c) ≡ Some (State k) = subst (λ x. owner_of m (State x) ≡ Some (State k)) v_is passes.0 in
            let k_is : k ≡ z = cc in
            let y = target_of shape rules p step w (leg_begins m p leg_to) in
            let lies = all y.0 (w, leg_from, inr y.1) (λ here. behind_no_back shape rules p step w w c behind (itself_leg (leg_begins m p leg_to))
            (subst (Enters m w) (here ∙ v_is) y.1)) in
            ap Within (regions_apart shape y.0 z q r (subst (λ x. owner_of m (Region q) ≡ Some (State x)) k_is f) at.0 lies (at.1 y.0 y.1)))
            (λ ends. absurd (after_no_exit shape rules c v w (inr (inr entry)) behind.leaves
            (route_comes shape p the_route rules c (inr (inr entry)) behind.leaves (over_along m p chain) ends.1) ends.0))
            passes.1.2
        entry_scope_is _ (other is i j k span) = absurd (k (c, z, entry_passes))

        entry_state : (s : VertexId) (q : RegionId) → owner_of m (Region q) ≡ Some (State s) → q ≡ r → IsEndState m c s
        entry_state s q e here =
            let f : owner_of m (Region r) ≡ Some (State s) = subst (λ x. owner_of m (Region x) ≡ Some (State s)) here e in
            let g = at.0 in
            let s_is : s ≡ z = cc in
            inr (entry, subst (λ x. owner_of m (State c) ≡ Some (State x)) (sym s_is) owner)

        entry_outside : IsOutside m c r
        entry_outside v s lies inside out =
            ⊎_elim
            (λ within. ⊎_elim
            (λ here. inl (entry_state s inside.0 inside.1 here))
            (λ under. absurd (out (under_state m (Region inside.0) s r inside.1 under)))
            within)
            (λ within. ⊎_elim
            (λ here. inl (entry_state s inside.0 inside.1 (sym here)))
            (λ under. inr (inside.0, inside.1, further owner (under_state m (Region r) z inside.0 at.0 under)))
            within)
            (on_one_chain m (State v) inside.0 r inside.2 lies)

        pub entry_down_at : HasDownScope m p t c
        entry_down_at = record {
          region = r;
          is = point entry_passes at.0 entry_all;
          only = entry_scope_is;
          targets = λ u x leg e. entry_target u x (over_along m p (entry_chain u leg)) e;
          around = λ x q lies inside. under_further lies (further at.0 (under_state m (State c) z q owner inside));
          part = λ k is f. (let g = owner in let here : k ≡ z = cc in subst (λ x. owner_of m (Region r) ≡ Some (State x)) (sym here) at.0);
          outside = entry_outside;
        }

      pub entry_down : HasDownScope m p t c
      entry_down = entry_down_at entry_region.0 entry_region.1

    pub down_scope : GoesDown m c → HasDownScope m p t c
    down_scope down =
        ⊎_elim
        (λ fork. fork_down fork)
        (λ entry. let z = point_owner shape c (inl entry) in entry_down entry z.0 z.1)
        down
