-- A route enters what stands at its stations and what lies in its area around one; where it ends tells at which regions its legs aim.
use Rattle.std.proofs.Common.{◌≡◌, ◌⊎◌, ◌↔◌, Some, Contains, sym, subst, inl, inr, ⊎_elim}
use Rattle.pssm_model.specs.declared.ids.VertexId.{VertexId}
use Rattle.pssm_model.specs.declared.ids.RegionId.{RegionId}
use Rattle.pssm_model.specs.declared.ids.TransId.{TransId}
use Rattle.pssm_model.specs.declared.elements.DraftMachine.{DraftMachine}
use Rattle.pssm_model.specs.declared.elements.VertexKind.{VertexKind}
use Rattle.pssm_model.specs.declared.elements.VertexKind.TheVariants as kinds
use Rattle.pssm_model.specs.declared.elements.TransKind.TheVariants.{External, Local, Internal}
use Rattle.pssm_model.specs.declared.elements.Owner.TheVariants.{Region, State}
use Rattle.pssm_model.specs.declared.steps.Route.{Route}
use Rattle.pssm_model.specs.Forest.{owner_of, HasKind, LiesInRegion, LiesInState}
use Rattle.pssm_model.specs.Forest.LiesUnder.{further}
use Rattle.pssm_model.specs.Legs.{Leaves, Enters, Goes, On, IsCut, SameLeg, NextLeg, LaterLeg, IsLastVertex, IsInternal, IsLocalFrom, Scope, LiesInScope, IsEnteredFor, LegEnters}
use Rattle.pssm_model.specs.Legs.Scope.{Within}
use Rattle.pssm_model.specs.Legs.SameLeg.{itself as itself_leg, joined}
use Rattle.pssm_model.specs.Legs.LaterLeg.{next as next_leg, after as after_leg}
use Rattle.pssm_model.specs.Items.{IsAimedAt}
use Rattle.pssm_model.specs.Routes.{IsRoute, IsReached}
use Rattle.pssm_model.specs.Routes.IsReached.{start, on}
use Rattle.pssm_model.specs.Shapes.{HasShape}
use Rattle.pssm_model.specs.WellFormed.{KeepsModelRules}
use Rattle.pssm_model.specs.RouteWords.{IsStepRoute}
use Rattle.pssm_model_laws.specs.inner.RouteWords.{GoesAs, IsAreaOf, EndsOn, EndsIn, IsEnteredBy}
use Rattle.pssm_model.proofs.ElementLaws.{kind_unique, leaves_one, enters_one}
use Rattle.pssm_model.proofs.RouteLaws.{reached_is_on}
use Rattle.pssm_model.proofs.OwnerChains.{under_further}
use Rattle.pssm_model_laws.proofs.KnownPlaces.{known_in_region}
use Rattle.pssm_model_laws.proofs.InnerPaths.{after_no_exit}
use Rattle.pssm_model_laws.proofs.Branches.{Along, of_rest, of_starts, along_ends, along_cases, goes_through, stand}
use Rattle.pssm_model_laws.proofs.Branches.Along.{itself}
use Rattle.pssm_model_laws.proofs.EndsApart.{step_is_route}
use Rattle.pssm_model_laws.proofs.LegRoots.{leg_begins, leg_ends, leg_turned, legs_meet, along_leg, later_to, later_from, later_further, later_more, cut_root, over_root, join_start, through_in_rest}
use Rattle.pssm_model_laws.proofs.LegRoots.Over.{same}
use Rattle.pssm_model_laws.proofs.UpAndDown.{GoesUp, GoesDown, up_or_down_kind, not_up_and_down, IsUp, IsBelow, up_before, up_along, up_leg, up_earlier, height, below_comes, turn_stand, some_end, along_in_rest}
use Rattle.pssm_model_laws.proofs.UpAndDown.IsUp.{begins}
use Rattle.pssm_model_laws.proofs.RouteKinds.{goes_one, state_start, internal_start, internal_alone, join_external, kinds_agree, local_over, local_no_exit}
use Rattle.pssm_model_laws.proofs.DownLegs.{down_target}
use Rattle.pssm_model_laws.proofs.UpScopes.{scope_turned, scope_in_area, last_up_scope, below_root}
use Rattle.pssm_model_laws.proofs.DownScopes.{down_scope}
use Rattle.pssm_model_laws.proofs.RouteAreas.{has_area}
use Rattle.pssm_model_laws.proofs.RouteTree.{not_after_itself}
use Rattle.pssm_legs.proofs.LegEntries.{enters_by, enters_turned, not_up, not_beside, fork_leg, behind_second, branch_enters_not, leg_or_later, entries_stand}

-- a kind for which something is entered
abbrev IsEnteredKind : VertexKind → Type 0
IsEnteredKind kinds.Terminate = ⊥
IsEnteredKind kinds.ExitPoint = ⊥
IsEnteredKind kinds.Join = ⊥
IsEnteredKind _ = Unit {0}

entered_kind : (m : DraftMachine) (v : VertexId) (kind : VertexKind) → HasKind m v kind → IsEnteredKind kind → IsEnteredFor m v
entered_kind m v kind k is = (
  λ other. subst IsEnteredKind (kind_unique m v kind kinds.Terminate k other) is,
  λ other. subst IsEnteredKind (kind_unique m v kind kinds.ExitPoint k other) is,
  λ other. subst IsEnteredKind (kind_unique m v kind kinds.Join k other) is,
)

-- A leg enters the State, and it is the one with the name or an earlier one.
pub record EntersUpTo (m : DraftMachine) (p : Route) (t : TransId) (s : VertexId) : Type 0 where
  pub leg : TransId
  pub enters : LegEnters m p leg s
  pub up_to : SameLeg m p leg t ⊎ LaterLeg m p leg t

module _ {m : DraftMachine} (shape : HasShape m) (rules : KeepsModelRules m) (p : Route) (step : IsStepRoute m p) where
  the_route : IsRoute m p
  the_route = step_is_route step

  -- a leg that enters something in a State that another enters is the same or a later one
  pub nested_entries : (t u : TransId) (s q : VertexId) → LegEnters m p t s → LegEnters m p u q → LiesInState m q s → SameLeg m p t u ⊎ LaterLeg m p t u
  nested_entries t u s q first second inside = entries_stand shape rules p step (enters_by first) (enters_by second) (inr inside)

  -- a station around which the State lies in the area: it is entered on the way there
  module _ (s : VertexId) (area : Scope) (is : IsAreaOf m p area) (s_in : LiesInScope m s area) (outward : GoesAs m p Internal → ⊥) where
    step_inward : (t : TransId) → IsInternal m p t → ⊥
    step_inward t i = outward (t, internal_start shape rules p step t i.0 i.1, i.1)

    -- A last vertex of the leg for which something is entered lies in the State.
    record EndsAround (t : TransId) : Type 0 where
      at : VertexId
      last : IsLastVertex m p t at
      entered : IsEnteredFor m at
      inside : LiesInState m at s

    around_turned : {t k : TransId} → SameLeg m p k t → EndsAround t → EndsAround k
    around_turned leg h = record {
      at = h.at;
      last = (h.last.0, legs_meet m p leg h.last.1, h.last.2, h.last.3);
      entered = h.entered;
      inside = h.inside;
    }

    entered_up : (t : TransId) → On p t → IsUp m p t → EndsAround t → EntersUpTo m p t s
    entered_up t t_on up h =
        let last = h.last in
        let a_up = up_leg shape rules p step last.1 t_on up in
        let scope = last_up_scope shape rules p step last.0 h.at area a_up (leg_ends m p last.1) last.2
        (not_up shape rules p step h.at last.3 h.entered) is in
        record {
          leg = t;
          enters = (
            h.at,
            last,
            h.entered,
            step_inward t,
            inl (area, scope_turned shape rules p step last.0 t area (leg_turned m p last.1) scope, s_in, h.inside),
          );
          up_to = inl (itself_leg t_on);
        }

    later_up_to : {k t : TransId} → NextLeg m p k t → EntersUpTo m p k s → EntersUpTo m p t s
    later_up_to n h = record {
      leg = h.leg;
      enters = h.enters;
      up_to = ⊎_elim (λ leg. inr (later_from m p leg (next_leg n))) (λ later. inr (later_more m p later n)) h.up_to;
    }

    walk : (t : TransId) → IsReached m p t → EndsAround t → EntersUpTo m p t s
    walk t (start h) around = entered_up t (of_starts m p t h) (begins h) around
    walk t (on {u = k} {v = c} r e l h) around =
        let t_on = of_rest m p t h in
        let k_on = reached_is_on m p k r in
        let through = goes_through shape p the_route k t c k_on e l h in
        let below_turn = λ (cut : IsCut m c) (goes_up : GoesUp m c) (below : IsBelow m p t). (
        let root = below_root shape rules p step t below t_on in
        let behind = cut_root shape rules p step t c t_on l cut in
        let w_is = over_root shape rules p step root.4 (inr (c, behind)) in
        let c_is = leaves_one m t root.1 c (subst (λ x. Leaves m x root.1) w_is root.2.leaves) l in
        let wrong : ⊥ = not_up_and_down m c goes_up (subst (GoesDown m) c_is root.3) in wrong) in
        let rising = λ (cut : IsCut m c) (goes_up : GoesUp m c). (
        let found : EntersUpTo m p t s = ⊎_elim
        (λ up. entered_up t t_on up around)
        (λ below. absurd (below_turn cut goes_up below))
        (height shape rules p step t t_on) in found) in
        let descending = λ (cut : IsCut m c) (down : GoesDown m c) (entered : IsEnteredFor m c) (stops : HasKind m c kinds.Junction → ⊥). (
        let behind = cut_root shape rules p step t c t_on l cut in
        let d = down_scope shape rules p step t t c behind (same t_on) down in
        let n : NextLeg m p k t = (k, t, c, itself_leg k_on, itself_leg t_on, cut, e, l) in
        let last : IsLastVertex m p k c = (k, itself_leg k_on, e, stops) in
        let found : EntersUpTo m p t s = ⊎_elim
        (λ lies. record {
          leg = t;
          enters = (around.at, around.last, around.entered, step_inward t, inl (Within d.region, d.is, lies, around.inside));
          up_to = inl (itself_leg t_on);
        })
        (λ out. ⊎_elim
        (λ ends. later_up_to n (record { leg = k; enters = (c, last, entered, step_inward k, inr ends); up_to = inl (itself_leg k_on) }))
        (λ inside. later_up_to n (walk k r (record { at = c; last = last; entered = entered; inside = inside })))
        (d.outside around.at s (d.targets around.last.0 around.at around.last.1 around.last.2) around.inside out))
        (known_in_region shape s d.region) in found) in
        ⊎_elim
        (λ junction.
        let leg : SameLeg m p k t = joined k_on (inl (c, junction, e, l)) (itself_leg t_on) in
        let before = walk k r (around_turned leg around) in
        record {
          leg = before.leg;
          enters = before.enters;
          up_to = ⊎_elim (λ near. inl (legs_meet m p near leg)) (λ far. inr (later_to m p far leg)) before.up_to;
        })
        (⊎_elim
        (λ fork. descending (inl fork) (inl fork) (entered_kind m c kinds.Fork fork tt)
        (λ j. let clash = kind_unique m c kinds.Fork kinds.Junction fork j in cc))
        (⊎_elim
        (λ join. rising (inr (inl join)) (inr (inl join)))
        (⊎_elim
        (λ entry. descending (inr (inr (inl entry))) (inr entry) (entered_kind m c kinds.EntryPoint entry tt)
        (λ j. let clash = kind_unique m c kinds.EntryPoint kinds.Junction entry j in cc))
        (λ exit. rising (inr (inr (inr exit))) (inr (inr exit))))))
        through

  -- the route enters exactly that
  enters_there : (s : VertexId) → ((t : TransId) × On p t × LegEnters m p t s) → IsEnteredBy m p s
  enters_there s h =
      let enters = enters_by h.2 in
      let t_on = h.1 in (
        λ goes_in. enters.not_internal (
          t_on,
          subst (λ x. Goes m x Internal) (sym (internal_alone shape rules p step goes_in.0 h.0 goes_in.1 goes_in.2 t_on)) goes_in.2,
        ),
        (
          h.2.0,
          (enters.entered, enters.stops, (h.2.1.0, leg_ends m p enters.leg, enters.enters)),
          ⊎_elim
              (λ inside.
              let area = has_area shape rules p step in
              inr (area.0, area.1, scope_in_area shape rules p step h.0 inside.0 area.0 s area.1 inside.1 inside.2, inside.3))
              (λ ends. inl ends)
              enters.by,
        ),
      )

  there_enters : (s : VertexId) → IsEnteredBy m p s → (t : TransId) × On p t × LegEnters m p t s
  there_enters s h =
      let v = h.1.0 in
      let station = h.1.1 in
      let t = station.2.0 in
      let t_on = station.2.1 in
      let last : IsLastVertex m p t v = (t, itself_leg t_on, station.2.2, station.1) in
      ⊎_elim
      (λ ends. (t, t_on, (v, last, station.0, λ i. h.0 (t, internal_start shape rules p step t i.0 i.1, i.1), inr ends)))
      (λ around.
      let found = walk s around.0 around.1 around.2 h.0 t (the_route.reached t t_on)
      (record { at = v; last = last; entered = station.0; inside = around.3 }) in
      (found.leg, leg_begins m p found.enters.1.1, found.enters))
      h.1.2

  pub route_enters : (s : VertexId) → ((t : TransId) × On p t × LegEnters m p t s) ↔ IsEnteredBy m p s
  route_enters s = (enters_there s, there_enters s)

  -- what an end stands in is entered by its leg or an earlier one
  pub entries_around : (t : TransId) (v s : VertexId) → IsLastVertex m p t v → EndsOn m p v → IsEnteredBy m p s → LiesInState m v s
      → LegEnters m p t s ⊎ ((u : TransId) × LaterLeg m p u t × LegEnters m p u s)
  entries_around t v s last ends entered inside =
      let found = there_enters s entered in
      let u = found.0 in
      let enters = enters_by found.2 in
      let a = found.2.1.0 in
      let b = last.0 in
      let b_on = leg_ends m p last.1 in
      let result = λ (h : SameLeg m p u t ⊎ LaterLeg m p u t). (
      let fine : LegEnters m p t s ⊎ ((k : TransId) × LaterLeg m p k t × LegEnters m p k s) = ⊎_elim
      (λ leg. inl (enters_turned shape rules p step u t s leg found.2))
      (λ later. inr (u, later, found.2))
      h in fine) in
      ⊎_elim
      (λ path. result (leg_or_later shape rules p step enters.leg last.1 (along_leg shape rules p step path)))
      (⊎_elim
      (λ path. ⊎_elim
      (λ here. result (leg_or_later shape rules p step enters.leg last.1 (inl (subst (SameLeg m p a) (sym here) (itself_leg (leg_ends m p enters.leg))))))
      (λ n. absurd (ends.3 n.next n.in_rest (subst (Leaves m n.next) (enters_one m b n.at v n.enters last.2) n.leaves)))
      (along_cases m p path))
      (⊎_elim
      (λ beside. absurd (not_beside shape rules p step b enters beside))
      (λ h. ⊎_elim
      (λ fork. result (leg_or_later shape rules p step enters.leg last.1 (inl (fork_leg shape rules p step h fork))))
      (λ entry. absurd (branch_enters_not shape rules p step v enters h entry
      (λ z r owner lies. under_further inside.2 (further inside.1 lies))
      (behind_second shape rules p step v h entry last.2)))
      h.kind)))
      (stand shape p the_route rules a b (leg_ends m p enters.leg) b_on)

  -- an end is no junction
  end_no_junction : (v : VertexId) → EndsOn m p v → HasKind m v kinds.Junction → ⊥
  end_no_junction v ends junction =
      let one = the_route.goes_on ends.0 v kinds.Junction ends.1 ends.2 junction in
      ends.3 one.0 (through_in_rest shape rules p step one.0 v one.1 one.2 (inl junction)) one.2

  aimed_at : (t b : TransId) (v : VertexId) (r : RegionId) → EndsOn m p v → On p b → Enters m b v → LiesInRegion m v r → SameLeg m p t b ⊎ LaterLeg m p t b
      → IsAimedAt m p t r
  aimed_at t b v r ends b_on e lies rel = (b, v, rel, (b, itself_leg b_on, e, end_no_junction v ends), lies)

  -- an end in a region of the State that a leg enters is one of it, or of a later one
  end_aims : (t : TransId) (s : VertexId) (r : RegionId) → LegEnters m p t s → owner_of m (Region r) ≡ Some (State s) → EndsIn m p r → IsAimedAt m p t r
  end_aims t s r h owner in_r =
      let v = in_r.0 in
      let ends = in_r.1 in
      let b = ends.0 in
      let enters = enters_by h in
      let a = h.1.0 in
      let aims_by = λ (rel : SameLeg m p a b ⊎ LaterLeg m p a b). (
      let found : IsAimedAt m p t r = aimed_at t b v r ends ends.1 ends.2 in_r.2 (leg_or_later shape rules p step enters.leg
      (itself_leg ends.1) rel) in found) in
      ⊎_elim
      (λ path. aims_by (along_leg shape rules p step path))
      (⊎_elim
      (λ path. ⊎_elim
      (λ here. aims_by (inl (subst (SameLeg m p a) (sym here) (itself_leg (leg_ends m p enters.leg)))))
      (λ n. absurd (ends.3 n.next n.in_rest (subst (Leaves m n.next) (enters_one m b n.at v n.enters ends.2) n.leaves)))
      (along_cases m p path))
      (⊎_elim
      (λ beside. absurd (not_beside shape rules p step b enters beside))
      (λ k. ⊎_elim
      (λ fork. aims_by (inl (fork_leg shape rules p step k fork)))
      (λ entry. absurd (branch_enters_not shape rules p step v enters k entry
      (λ z q other lies. under_further in_r.2 (further owner lies))
      (behind_second shape rules p step v k entry ends.2)))
      k.kind)))
      (stand shape p the_route rules a b (leg_ends m p enters.leg) ends.1)

  -- and so is each one of a route that is local from the State
  local_end_aims : (t : TransId) (s : VertexId) (r : RegionId) → IsLocalFrom m p t s → EndsIn m p r → IsAimedAt m p t r
  local_end_aims t s r h in_r =
      let k = h.0 in
      let k_on = leg_ends m p h.1 in
      let k_start = state_start shape rules p step k s k_on h.2 h.3 in
      let ends = in_r.1 in
      let b = ends.0 in
      let not_rest = λ (u : TransId) (way : Along m p u k) (in_rest : Contains p.rest u). (
      let wrong : ⊥ = the_route.apart k k_start (along_in_rest way in_rest) in wrong) in
      let aims_by = λ (way : Along m p k b). (
      let found : IsAimedAt m p t r = aimed_at t b in_r.0 r ends ends.1 ends.2 in_r.2
      (leg_or_later shape rules p step h.1 (itself_leg ends.1) (along_leg shape rules p step way)) in found) in
      ⊎_elim
      (λ way. aims_by way)
      (⊎_elim
      (λ way. ⊎_elim
      (λ here. aims_by (subst (Along m p k) (sym here) (itself k_on)))
      (λ n. absurd (not_rest n.next n.along n.in_rest))
      (along_cases m p way))
      (⊎_elim
      (λ beside.
      let clash = goes_one m k Local External h.4 (join_external shape rules p step k beside.0 k_on beside.2 beside.1) in absurd (cc))
      (λ branch. absurd (not_rest branch.first branch.to_first branch.first_rest))))
      (stand shape p the_route rules k b k_on ends.1)

  -- a last vertex in the region has an end in it behind it, if it does not lead up
  end_behind : (b : TransId) (v : VertexId) (r : RegionId) → On p b → Enters m b v → LiesInRegion m v r → (GoesUp m v → ⊥) → EndsIn m p r
  end_behind b v r b_on e lies not_rising =
      let end = some_end shape rules p step b b_on in
      let ends : EndsOn m p end.at = (end.last, along_ends m p end.along, end.enters, end.ends) in
      ⊎_elim
      (λ here. (end.at, ends, subst (λ x. LiesInRegion m x r) (enters_one m b v end.at e (subst (λ x. Enters m x end.at) (sym here) end.enters)) lies))
      (λ n.
      let at_is = enters_one m b n.at v n.enters e in
      let through = goes_through shape p the_route b n.next n.at b_on n.enters n.leaves n.in_rest in
      let down : GoesDown m n.at = ⊎_elim (λ up. absurd (not_rising (subst (GoesUp m) at_is up))) (λ d. d) (up_or_down_kind m n.at through) in (
        end.at,
        ends,
        down_target shape rules p step n.at end.at r down (subst (λ x. LiesInRegion m x r) (sym at_is) lies) n.leaves n.along end.enters,
      ))
      (along_cases m p end.along)

  -- what leads up is up
  rising_up : (c : TransId) (y : VertexId) → On p c → Enters m c y → GoesUp m y → (HasKind m y kinds.Junction → ⊥) → IsUp m p c
  rising_up c y c_on e goes_up stops =
      ⊎_elim
      (λ up. up)
      (λ below. ⊎_elim
      (λ j. absurd (stops j))
      (⊎_elim
      (λ join. begins (join_start shape rules p step c y c_on e join))
      (λ exit. absurd (after_no_exit shape rules below.at y below.first (inr below.kind) below.leaves (below_comes shape rules p step y below e) exit)))
      goes_up)
      (height shape rules p step c c_on)

  -- what is up and does not lead up is the last of the way up
  last_of_all : (a b : TransId) (x v : VertexId) → On p a → Enters m a x → (GoesUp m x → ⊥) → On p b → Enters m b v → GoesUp m v
      → (HasKind m v kinds.Junction → ⊥)
      → SameLeg m p a b ⊎ LaterLeg m p a b → ⊥
  last_of_all a b x v a_on e turn b_on f goes_up stops rel =
      let b_up = rising_up b v b_on f goes_up stops in
      let a_up : IsUp m p a = ⊎_elim (λ leg. up_leg shape rules p step (leg_turned m p leg) b_on b_up)
      (λ later. up_earlier shape rules p step later a_on b_up) rel in
      ⊎_elim
      (λ way. ⊎_elim
      (λ here. turn (subst (GoesUp m) (enters_one m b v x f (subst (λ y. Enters m y x) (sym here) e)) goes_up))
      (λ n.
      let at_is = enters_one m b n.at v n.enters f in
      let through = goes_through shape p the_route b n.next n.at b_on n.enters n.leaves n.in_rest in
      let cut : IsCut m n.at = ⊎_elim (λ j. absurd (stops (subst (λ y. HasKind m y kinds.Junction) at_is j))) (λ c. c) through in
      let next_on = of_rest m p n.next n.in_rest in
      let hop : NextLeg m p b n.next = (b, n.next, n.at, itself_leg b_on, itself_leg next_on, cut, n.enters, n.leaves) in
      let later : LaterLeg m p b a = ⊎_elim
      (λ leg. later_to m p (next_leg hop) leg)
      (λ far. after_leg hop far)
      (along_leg shape rules p step n.along) in
      not_after_itself shape rules p step b (⊎_elim
      (λ leg. later_to m p later leg)
      (λ far. later_further m p later far)
      rel))
      (along_cases m p way))
      (λ n.
      let next_up = up_along shape rules p step n.along b_up in
      let before = up_before shape rules p step a n.at next_up a_on n.enters n.leaves n.in_rest in
      turn (subst (GoesUp m) (enters_one m a n.at x n.enters e) before.1))
      (turn_stand shape rules p step x b a_up a_on e turn b_on)

  aims_not_up : (t b : TransId) (s v : VertexId) → LegEnters m p t s ⊎ IsLocalFrom m p t s → On p b → Enters m b v → (HasKind m v kinds.Junction → ⊥)
      → GoesUp m v → SameLeg m p t b ⊎ LaterLeg m p t b → ⊥
  aims_not_up t b s v by b_on f stops goes_up rel =
      ⊎_elim
      (λ h.
      let enters = enters_by h in
      last_of_all h.1.0 b h.0 v (leg_ends m p enters.leg) enters.enters (not_up shape rules p step h.0 enters.stops enters.entered) b_on f goes_up stops
      (leg_or_later shape rules p step (leg_turned m p enters.leg) (itself_leg b_on) rel))
      (λ local.
      let k = local.0 in
      let k_on = leg_ends m p local.1 in
      let k_start = state_start shape rules p step k s k_on local.2 local.3 in
      let b_up = rising_up b v b_on f goes_up stops in
      ⊎_elim
      (λ j. stops j)
      (⊎_elim
      (λ join.
      let b_start = join_start shape rules p step b v b_on f join in
      let clash = kinds_agree shape rules p step k b Local External k_start b_start local.4 (join_external shape rules p step b v b_on f join) in cc)
      (λ exit. local_no_exit shape rules p step k s k_start local.4 local.2 b v
      (local_over shape rules p step k s k_start local.4 local.2 b_up) f exit))
      goes_up)
      by

  pub aims : (t : TransId) (s : VertexId) (r : RegionId) → LegEnters m p t s ⊎ IsLocalFrom m p t s → owner_of m (Region r) ≡ Some (State s)
      → IsAimedAt m p t r ↔ EndsIn m p r
  aims t s r by owner = (
    λ h.
        let b = h.3.0 in
        let b_on = leg_ends m p h.3.1 in
        let rel : SameLeg m p t b ⊎ LaterLeg m p t b = ⊎_elim
        (λ leg. inl (legs_meet m p leg h.3.1))
        (λ later. inr (later_to m p later h.3.1))
        h.2 in
        end_behind b h.1 r b_on h.3.2 h.4 (λ goes_up. aims_not_up t b s h.1 by b_on h.3.2 h.3.3 goes_up rel),
    λ in_r. ⊎_elim (λ enters. end_aims t s r enters owner in_r) (λ local. local_end_aims t s r local in_r) by,
  )
