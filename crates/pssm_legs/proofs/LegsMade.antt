-- When what has been made is a leg of the route: a chain over junctions, or all transitions into a join or out of a fork.
use Rattle.std.proofs.Common.{◌≡◌, ◌⊎◌, ◌↔◌, ◌<◌, ℕ, Option, length, Contains, IsTrue, refl, sym, subst, inl, inr, ⊎_elim}
use Rattle.pssm_model.specs.declared.ids.VertexId.{VertexId}
use Rattle.pssm_model.specs.declared.ids.RegionId.{RegionId}
use Rattle.pssm_model.specs.declared.ids.TransId.{TransId}
use Rattle.pssm_model.specs.declared.elements.DraftMachine.{DraftMachine}
use Rattle.pssm_model.specs.declared.elements.VertexKind.TheVariants as kinds
use Rattle.pssm_model.specs.declared.steps.Route.{Route}
use Rattle.pssm_model.specs.Shapes.{HasShape}
use Rattle.pssm_model.specs.Forest.{HasKind, IsStateOrFinal, IsHome}
use Rattle.pssm_model.specs.Legs.{On, Leaves, Enters, SameLeg, LegScope}
use Rattle.pssm_model.specs.Legs.SameLeg.{itself}
use Rattle.pssm_model.specs.Items.{PathBefore}
use Rattle.pssm_model.specs.Routes.{IsRoute}
use Rattle.pssm_model.specs.RouteWords.{IsStepRoute}
use Rattle.pssm_model.specs.WellFormed.{KeepsModelRules}
use Rattle.pssm_model.proofs.ElementLaws.{enters_one}
use Rattle.pssm_model_laws.proofs.Through.{kinds_clash, end_not_through, fork_to_end}
use Rattle.pssm_model_laws.proofs.RouteOrder.{route_of}
use Rattle.pssm_model_laws.proofs.LegShapes.{ends_on, join_star, fork_star, join_pathless, fork_pathless}
use Rattle.pssm_legs.specs.declared.areas.Area.TheVariants.{Within}
use Rattle.pssm_legs.specs.declared.legs.Leg.{Leg}
use Rattle.pssm_legs.specs.Areas.{scope_of, IsAreaIn}
use Rattle.pssm_legs.specs.LegsOf.{path_of, IsLegOf}
use Rattle.pssm_legs.specs.inner.Chained.{BeginsChain, IsChainOf, IsStarAt, IsMade}
use Rattle.pssm_legs.proofs.Chains.{on_within}
use Rattle.pssm_legs.proofs.PathRegions.{in_head}
use Rattle.pssm_legs.proofs.AreasOfLegs.{join_scope, fork_scope}

module _ {m : DraftMachine} (shape : HasShape m) (rules : KeepsModelRules m) (p : Route) (step : IsStepRoute m p) where
  route : IsRoute m p
  route = route_of m p step

  -- one transition after another
  module _ (leg : Leg) (ordered : IsTrue leg.in_order) (begins : BeginsChain m p leg.named) (chain : IsChainOf m p leg.named leg.further.items leg.last)
      (area : LegScope m p leg.named (scope_of leg.area)) where
    chain_is_leg : IsLegOf m p leg
    chain_is_leg = record {
      on = begins.on;
      path = chain.leg;
      order = λ t u h. (λ path. (ordered, (chain.order t u h).0 path), λ both. (chain.order t u h).1 both.1);
      area = area;
      last = λ v. (
        λ h. inl (ordered, (chain.last v).0 h),
        λ h. ⊎_elim (λ is. (chain.last v).1 is.1) (λ star. absurd (star.0 ordered)) h,
      );
      one_last = (chain.last leg.last).1 refl;
      ends = λ no v h. absurd (no ordered);
    }

    pub chain_is_made : (before : Option ℕ) → leg.before ≡ before → IsAreaIn m leg.area → leg.last.0 < length m.vertices → IsMade m p leg.named before leg
    chain_is_made before behind there within = record {
      named = refl;
      before_is = behind;
      inside = record {
        area = there;
        path = λ t h. on_within shape rules p step t (ends_on m p leg.named t ((chain.leg t).0 h));
        last = within;
      };
      of = chain_is_leg;
    }

  -- all transitions into a join or out of a fork
  module _ (leg : Leg) (no_order : IsTrue leg.in_order → ⊥) (on : On p leg.named) (enters : Enters m leg.named leg.last) (hub : VertexId) (home : RegionId)
      (home_is : IsHome m hub home) (within : leg.area ≡ Within home) where
    -- a leg with such transitions, no path and such ends
    star_leg : ((t : TransId) → Contains (path_of leg) t ↔ SameLeg m p leg.named t)
        → ((t u : TransId) → SameLeg m p leg.named t → PathBefore m p t u → ⊥)
        → ((t : TransId) (v : VertexId) → SameLeg m p leg.named t → Enters m t v → HasKind m v kinds.Join ⊎ IsStateOrFinal m v)
        → LegScope m p leg.named (scope_of leg.area) → IsLegOf m p leg
    star_leg same pathless ends area =
        let no_junction = λ (t : TransId) (v : VertexId) (h : SameLeg m p leg.named t) (e : Enters m t v) (k : HasKind m v kinds.Junction).
        (let wrong : ⊥ = ⊎_elim
        (λ join. kinds_clash m v kinds.Join kinds.Junction (λ c. cc) join k)
        (λ end. end_not_through m v end (inl k))
        (ends t v h e) in wrong) in
        record {
          on = on;
          path = same;
          order = λ t u h. (λ path. absurd (pathless t u ((same t).0 h) path), λ both. absurd (no_order both.0));
          area = area;
          last = λ v. (
            λ h. inr (no_order, (h.0, (same h.0).1 h.1, h.2)),
            λ h. ⊎_elim
                (λ ordered. absurd (no_order ordered.0))
                (λ star. (star.1.0, (same star.1.0).0 star.1.1, star.1.2, no_junction star.1.0 v ((same star.1.0).0 star.1.1) star.1.2))
                h,
          );
          one_last = (leg.named, itself on, enters, no_junction leg.named leg.last (itself on) enters);
          ends = λ no v h. ends h.0 v h.1 h.2;
        }

    named_in : Contains (path_of leg) leg.named
    named_in = in_head leg.named leg.further.items

    join_leg : HasKind m hub kinds.Join → ((t : TransId) → Contains (path_of leg) t ↔ Enters m t hub) → IsLegOf m p leg
    join_leg k all =
        let star = join_star shape rules p step leg.named hub on k ((all leg.named).0 named_in) in
        star_leg
        (λ t. (λ h. (star.1 t).1 ((all t).0 h), λ h. (all t).1 ((star.1 t).0 h)))
        (λ t u h path. join_pathless shape rules p step leg.named t u hub star h (inl path))
        (λ t v h e. inl (subst (λ x. HasKind m x kinds.Join) (enters_one m t hub v ((star.1 t).0 h) e) k))
        (subst (λ x. LegScope m p leg.named (scope_of x)) (sym within) (join_scope shape rules p step leg.named hub home on star home_is))

    fork_leg : HasKind m hub kinds.Fork → ((t : TransId) → Contains (path_of leg) t ↔ Leaves m t hub) → IsLegOf m p leg
    fork_leg k all =
        let star = fork_star shape rules p step leg.named hub on k ((all leg.named).0 named_in) in
        let at_end = λ (t : TransId) (v : VertexId) (h : SameLeg m p leg.named t) (e : Enters m t v). fork_to_end rules t hub v k ((star.1 t).0 h) e in
        star_leg
        (λ t. (λ h. (star.1 t).1 ((all t).0 h), λ h. (all t).1 ((star.1 t).0 h)))
        (λ t u h path. fork_pathless shape rules p step leg.named t u hub star h (inl path))
        (λ t v h e. inr (at_end t v h e))
        (subst (λ x. LegScope m p leg.named (scope_of x)) (sym within) (fork_scope shape rules p step leg.named hub home on star home_is))

    star_is_leg : IsStarAt m (path_of leg) hub → IsLegOf m p leg
    star_is_leg star = ⊎_elim (λ join. join_leg join.0 join.1) (λ fork. fork_leg fork.0 fork.1) star

    pub star_is_made : IsStarAt m (path_of leg) hub → (before : Option ℕ) → leg.before ≡ before → home.0 < length m.regions → leg.last.0 < length m.vertices
        → IsMade m p leg.named before leg
    star_is_made star before behind there last_there =
        let of = star_is_leg star in
        record {
          named = refl;
          before_is = behind;
          inside = record {
            area = subst (IsAreaIn m) (sym within) there;
            path = λ t h. on_within shape rules p step t (ends_on m p leg.named t ((of.path t).0 h));
            last = last_there;
          };
          of = of;
        }
