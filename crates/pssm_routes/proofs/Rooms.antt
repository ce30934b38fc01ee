-- Where a route may go that clashes with none of the footprints, by the kind of its start.
use Rattle.std.proofs.Common.{◌≡◌, List, Some, None, Contains, refl, sym, subst, inl, inr, ⊎_elim}
use Rattle.pssm_model.specs.declared.ids.VertexId.{VertexId}
use Rattle.pssm_model.specs.declared.ids.RegionId.{RegionId}
use Rattle.pssm_model.specs.declared.ids.TransId.{TransId}
use Rattle.pssm_model.specs.declared.elements.DraftMachine.{DraftMachine}
use Rattle.pssm_model.specs.declared.elements.Transition.{Transition}
use Rattle.pssm_model.specs.declared.elements.VertexKind.TheVariants as kinds
use Rattle.pssm_model.specs.declared.elements.TransKind.{TransKind}
use Rattle.pssm_model.specs.declared.elements.TransKind.TheVariants.{External, Local, Internal}
use Rattle.pssm_model.specs.declared.steps.Route.{Route}
use Rattle.pssm_model.specs.Shapes.{HasShape}
use Rattle.pssm_model.specs.Forest.{transition_at, HasKind, LiesInRegion, LiesInState}
use Rattle.pssm_model.specs.Legs.{Enters, Goes, LiesInScope}
use Rattle.pssm_model.specs.Routes.{IsStateRoute}
use Rattle.pssm_model.proofs.ElementLaws.{mapped_at, enters_one}
use Rattle.pssm_model.proofs.Nesting.{lies_within}
use Rattle.pssm_legs.specs.declared.areas.Area.{Area}
use Rattle.pssm_legs.specs.declared.areas.Area.TheVariants.{Within}
use Rattle.pssm_routes.specs.declared.areas.Footprint.{Footprint}
use Rattle.pssm_model.specs.WellFormed.{KeepsModelRules}
use Rattle.pssm_legs.specs.Areas.{scope_of}
use Rattle.pssm_routes.specs.inner.Footprints.{IsFootprintOf, IsAnchorBy, Clash, ClashesWithSome}
use Rattle.pssm_routes.specs.inner.Rooms.{Touches, IsShut, IsOpenRoom}
use Rattle.pssm_routes.specs.inner.Sets.{IsTouched, HoldsSource, IsCeiling}
use Rattle.pssm_routes.proofs.AnchorLaws.{same_under, anchor_is}
use Rattle.pssm_routes.proofs.Conflicts.{area_of_internal, area_of_local, area_of_external}

-- the kind of a transition that is there
pub goes_at : (m : DraftMachine) (t : TransId) (x : Transition) → transition_at m t ≡ Some x → Goes m t x.kind
goes_at m t x e = mapped_at (λ (y : Transition). y.kind) (transition_at m t) x e

pub goes_by : (m : DraftMachine) (t : TransId) (x : Transition) (kind : TransKind) → transition_at m t ≡ Some x → x.kind ≡ kind → Goes m t kind
goes_by m t x kind e is = subst (Goes m t) is (goes_at m t x e)

module _ (m : DraftMachine) (a b : Footprint) where
  -- a footprint clashes with one whose anchor it touches, and else only where its own anchor lies in the area of that
  touching_clashes : Touches m b.source a → Clash m a b
  touching_clashes (inl covers) = inl covers
  touching_clashes (inr chain) = inr (inr chain)

  clash_untouched : (Touches m b.source a → ⊥) → Clash m a b → LiesInScope m a.source (scope_of b.area)
  clash_untouched none (inl covers) = absurd (none (inl covers))
  clash_untouched none (inr (inl lies)) = lies
  clash_untouched none (inr (inr chain)) = absurd (none (inr chain))

module _ {m : DraftMachine} (rules : KeepsModelRules m) (shape : HasShape m) (footprints : List Footprint) (t : TransId) (s : VertexId)
    (by : IsAnchorBy m t s) where
  source_is : (q : Route) (b : Footprint) → IsStateRoute m q → Contains q.starts t → IsFootprintOf m q b → b.source ≡ s
  source_is q b route start footprint = anchor_is shape rules q route t s b.source start by footprint.anchor

  -- the join on which the start ends lies where the anchor lies
  join_beside : (j : VertexId) (r : RegionId) → Enters m t j → HasKind m j kinds.Join → LiesInRegion m s r → LiesInRegion m j r
  join_beside j r enters join lies =
      ⊎_elim
      (λ lone. absurd (lone.1 j enters join))
      (λ group. subst (λ x. LiesInRegion m x r) (enters_one m t group.0 j group.1 enters) (same_under m group.4 lies))
      by

  -- where the anchor is touched there is no room
  pub touched_is_shut : IsTouched m footprints s → IsShut m footprints t
  touched_is_shut (a, is, touches) q b route start footprint free =
      free (a, is, touching_clashes m a b (subst (λ v. Touches m v a) (sym (source_is q b route start footprint)) touches))

  module _ (untouched : IsTouched m footprints s → ⊥) where
    -- elsewhere a route clashes only where an anchor lies in its area
    in_area : (q : Route) (b : Footprint) (area : Area) → IsStateRoute m q → Contains q.starts t → IsFootprintOf m q b → b.area ≡ area
        → ClashesWithSome m footprints b → (a : Footprint) × Contains footprints a × LiesInScope m a.source (scope_of area)
    in_area q b area route start footprint same (a, is, clash) =
        let none : Touches m b.source a → ⊥ = λ touches.
        untouched (a, is, subst (λ v. Touches m v a) (source_is q b route start footprint) touches) in
        (a, is, subst (λ x. LiesInScope m a.source (scope_of x)) same (clash_untouched m a b none clash))

    internal_clear : Goes m t Internal → (q : Route) (b : Footprint) → IsStateRoute m q → Contains q.starts t → IsFootprintOf m q b
        → ClashesWithSome m footprints b → ⊥
    internal_clear goes q b route start footprint clashes =
        (in_area q b _ route start footprint (area_of_internal shape rules q b t route footprint start goes) clashes).2

    local_clear : Goes m t Local → (q : Route) (b : Footprint) → IsStateRoute m q → Contains q.starts t → IsFootprintOf m q b
        → ClashesWithSome m footprints b → ⊥
    local_clear goes q b route start footprint clashes =
        let held = in_area q b _ route start footprint (area_of_local shape rules q b t route footprint start goes) clashes in
        untouched (held.0, held.1, inr (inl (inr (subst (LiesInState m held.0.source) (source_is q b route start footprint) held.2))))

    -- so a route that is not external may go everywhere
    pub open_unless_external : (kind : TransKind) → Goes m t kind → (kind ≡ External → ⊥) → IsOpenRoom m footprints t None
    open_unless_external Internal goes other = record {
      ends = λ q b route start footprint free u v on enters. tt;
      clear = λ q b route start footprint ends. internal_clear goes q b route start footprint;
      joins = λ j enters join. tt;
    }
    open_unless_external Local goes other = record {
      ends = λ q b route start footprint free u v on enters. tt;
      clear = λ q b route start footprint ends. local_clear goes q b route start footprint;
      joins = λ j enters join. tt;
    }
    open_unless_external External goes other = absurd (other refl)

    module _ (goes : Goes m t External) where
      -- a region that is the area of a route that clashes with none
      free_area : (b : Footprint) (r : RegionId) → b.area ≡ Within r → (ClashesWithSome m footprints b → ⊥) → HoldsSource m footprints r → ⊥
      free_area b r same free (a, is, lies) =
          free (a, is, inr (inl (subst (λ x. LiesInScope m a.source (scope_of x)) (sym same) lies)))

      -- an external one may go nowhere where each region around its anchor holds an anchor
      pub shut_without_ceiling : ((r : RegionId) → LiesInRegion m s r → (HoldsSource m footprints r → ⊥) → ⊥) → IsShut m footprints t
      shut_without_ceiling none q b route start footprint free =
          let (r, same, span) = area_of_external shape rules q b t route footprint start goes in
          none r (subst (λ v. LiesInRegion m v r) (source_is q b route start footprint) span.lies) (free_area b r same free)

      -- and else within the largest that holds none
      pub open_below_ceiling : (top : RegionId) → IsCeiling m footprints s top → IsOpenRoom m footprints t (Some top)
      open_below_ceiling top is = record {
        ends = λ q b route start footprint free u v on enters.
            (let area = area_of_external shape rules q b t route footprint start goes in
            let around = subst (λ x. LiesInRegion m x area.0) (source_is q b route start footprint) area.2.lies in
            let within = is.largest area.0 around (free_area b area.0 area.1 free) in
            lies_within m v area.0 top (area.2.targets u v on enters) within);
        clear = λ q b route start footprint ends clashes.
            (let area = area_of_external shape rules q b t route footprint start goes in
            let held = in_area q b _ route start footprint area.1 clashes in
            let around = subst (λ x. LiesInRegion m x top) (sym (source_is q b route start footprint)) is.around in
            is.free (held.0, held.1, lies_within m held.0.source area.0 top held.2 (area.2.innermost top around ends)));
        joins = λ j enters join. join_beside j top enters join is.around;
      }
