-- A route over a way in a region ends in it: what comes behind a fork or an entry point lies where that lies.
use Rattle.std.proofs.Common.{◌≡◌, ◌⊎◌, List, ◌++◌, Some, Contains, sym, subst, inl, inr, ⊎_elim}
use Rattle.pssm_model.specs.declared.ids.VertexId.{VertexId}
use Rattle.pssm_model.specs.declared.ids.RegionId.{RegionId}
use Rattle.pssm_model.specs.declared.ids.TransId.{TransId}
use Rattle.pssm_model.specs.declared.elements.DraftMachine.{DraftMachine}
use Rattle.pssm_model.specs.declared.elements.VertexKind.TheVariants as kinds
use Rattle.pssm_model.specs.declared.steps.Route.{Route}
use Rattle.pssm_model.specs.Forest.{HasKind, LiesInRegion}
use Rattle.pssm_model.specs.Shapes.{HasShape}
use Rattle.pssm_model.specs.Legs.{Leaves, Enters, On}
use Rattle.pssm_model.specs.Routes.{Truth, IsReached}
use Rattle.pssm_model.specs.Routes.IsReached.{start as begins, on as goes_on}
use Rattle.pssm_model.specs.RouteWords.{IsStepRoute}
use Rattle.pssm_model.specs.WellFormed.{KeepsModelRules}
use Rattle.pssm_model_laws.specs.inner.RouteWords.{IsThrough}
use Rattle.pssm_model.proofs.ElementLaws.{enters_one}
use Rattle.pssm_model.proofs.RouteLaws.{is_one}
use Rattle.pssm_model_laws.proofs.RouteOrder.{route_of, of_rest}
use Rattle.pssm_model_laws.proofs.Branches.{Along}
use Rattle.pssm_model_laws.proofs.Branches.Along.{itself, goes as along_on}
use Rattle.pssm_model_laws.proofs.UpAndDown.{GoesUp, GoesDown, up_or_down_kind}
use Rattle.pssm_model_laws.proofs.DownLegs.{down_target}
use Rattle.pssm_routes.specs.inner.Starts.{GoesOnBy}
use Rattle.pssm_enabled.specs.Ways.{IsPassedOver, IsWay}
use Rattle.pssm_enabled.specs.Behind.{GoesOnFrom, IsRouteOver}
use Rattle.pssm_enabled.proofs.Trees.{no_join_after}
use Rattle.pssm_enabled.proofs.WayPaths.{way_is_open, way_goes_on}
use Rattle.pssm_routes.proofs.Routed.{over_cases, passed_apart, behind_leaves, alone_in_path}

module _ {m : DraftMachine} (shape : HasShape m) (rules : KeepsModelRules m) (truth : Truth) (r : RegionId) (t first last : TransId)
    (path : List TransId) (passed : List VertexId) (way : IsWay m truth (Some r) first last passed path) (onward : GoesOnBy m t first)
    (outside : (v : VertexId) → Leaves m t v → IsThrough m v → ⊥) (end : VertexId) (ends : Enters m last end) (behind : List TransId)
    (goes : GoesOnFrom m truth end behind) (q : Route) (over : IsRouteOver m t (path ++ behind) q) (step : IsStepRoute m q)
    (not_over : IsPassedOver m end → ⊥) (no_join : HasKind m end kinds.Join → ⊥)
    (join_lies : (j : VertexId) → Enters m t j → HasKind m j kinds.Join → LiesInRegion m j r) where
  -- The route comes to the transition from a fork or an entry point in the region.
  record IsDown (u : TransId) : Type 0 where
    at : VertexId
    from : TransId
    kind : GoesDown m at
    lies : LiesInRegion m at r
    leaves : Leaves m from at
    along : Along m q from u

  -- The transition ends in the region, and is of the way, or a start, or comes from such a vertex.
  record IsBound (u : TransId) : Type 0 where
    lies : (v : VertexId) → Enters m u v → LiesInRegion m v r
    by : Contains path u ⊎ Contains q.starts u ⊎ IsDown u

  of_path : (u : TransId) → Contains path u → IsBound u
  of_path u inside = record { lies = (way_is_open way u inside).target; by = inl inside }

  of_starts : (u : TransId) → Contains q.starts u → IsBound u
  of_starts u inside =
      ⊎_elim
      (λ single.
      let same = is_one t u (subst (λ ts. Contains ts u) single.0 inside) in
      subst IsBound (sym same) (of_path t (alone_in_path shape rules truth (Some r) t first last path passed way onward outside end ends behind goes q over single.1)))
      (λ join. record {
        lies = λ v enters.
            let here = enters_one m u join.0 v ((join.3 u).0 inside) enters in
            subst (λ x. LiesInRegion m x r) here (join_lies join.0 join.1 join.2);
        by = inr (inl inside);
      })
      over.starts

  of_down : (u : TransId) → IsDown u → IsBound u
  of_down u down = record {
    lies = λ v enters. down_target shape rules q step down.at v r down.kind down.lies down.leaves down.along enters;
    by = inr (inr down);
  }

  -- no vertex behind the end is a join
  come_no_join : (v : VertexId) → Contains goes.come v → HasKind m v kinds.Join → ⊥
  come_no_join v come join =
      ⊎_elim
      (λ same. no_join (subst (λ x. HasKind m x kinds.Join) same join))
      (λ by. (let at = goes.leave by.0 by.1 in no_join_after rules by.0 at.0 v at.3 at.2 by.2 join))
      (goes.entered v come)

  -- behind the end the route goes up only where it has gone down before
  not_from_path : (k : TransId) (v : VertexId) → Contains path k → Enters m k v → Contains goes.come v → IsPassedOver m v → ⊥
  not_from_path k v inside enters come kind =
      ⊎_elim
      (λ same. (let here : end ≡ v = enters_one m last end v ends (subst (λ x. Enters m x v) same enters) in
      not_over (subst (IsPassedOver m) (sym here) kind)))
      (λ left. passed_apart shape rules truth (Some r) t first last path passed way onward outside end ends behind goes q over v left.inside left.over come)
      (way_goes_on way k v inside enters)

  not_from_start : (k : TransId) (v : VertexId) → Contains q.starts k → Enters m k v → Contains goes.come v → IsPassedOver m v → ⊥
  not_from_start k v inside enters come kind =
      ⊎_elim
      (λ single.
      let same = is_one t k (subst (λ ts. Contains ts k) single.0 inside) in
      not_from_path t v (alone_in_path shape rules truth (Some r) t first last path passed way onward outside end ends behind goes q over single.1)
      (subst (λ x. Enters m x v) same enters) come kind)
      (λ join.
      let here : join.0 ≡ v = enters_one m k join.0 v ((join.3 k).0 inside) enters in
      come_no_join v come (subst (λ x. HasKind m x kinds.Join) here join.2))
      over.starts

  down_again : (k u : TransId) (v : VertexId) → IsDown k → Enters m k v → Leaves m u v → Contains q.rest u → IsDown u
  down_again k u v down enters leaves further = record {
    at = down.at;
    from = down.from;
    kind = down.kind;
    lies = down.lies;
    leaves = down.leaves;
    along = along_on {v = v} down.along enters leaves further;
  }

  passed_up : (v : VertexId) → GoesUp m v → Contains goes.come v → IsPassedOver m v
  passed_up v up come = ⊎_elim (λ junction. inl junction) (⊎_elim (λ join. absurd (come_no_join v come join)) (λ exit. inr exit)) up

  of_behind : (k u : TransId) (v : VertexId) → IsBound k → Enters m k v → Leaves m u v → Contains q.rest u → Contains goes.come v → IsThrough m v
      → IsBound u
  of_behind k u v before enters leaves further come through =
      ⊎_elim
      (λ up.
      let kind = passed_up v up come in
      ⊎_elim
      (λ inside. absurd (not_from_path k v inside enters come kind))
      (⊎_elim
      (λ start. absurd (not_from_start k v start enters come kind))
      (λ down. of_down u (down_again k u v down enters leaves further)))
      before.by)
      (λ down. of_down u (record {
        at = v;
        from = u;
        kind = down;
        lies = before.lies v enters;
        leaves = leaves;
        along = itself (of_rest m q u further);
      }))
      (up_or_down_kind m v through)

  bound_reached : (u : TransId) → IsReached m q u → IsBound u
  bound_reached u (begins inside) = of_starts u inside
  bound_reached u (goes_on {u = k} {v = v} before enters leaves further) =
      ⊎_elim
      (λ start. of_starts u start)
      (⊎_elim
      (λ inside. of_path u inside)
      (λ later.
      let at = behind_leaves shape rules truth (Some r) t first last path passed way onward outside end ends behind goes q over u v later leaves in
      of_behind k u v (bound_reached k before) enters leaves further at.0 at.1))
      (over_cases shape rules truth (Some r) t first last path passed way onward outside end ends behind goes q over u (of_rest m q u further))

  -- all transitions of the route end in the region
  pub all_within : (u : TransId) (v : VertexId) → On q u → Enters m u v → LiesInRegion m v r
  all_within u v is enters = (bound_reached u ((route_of m q step).reached u is)).lies v enters
