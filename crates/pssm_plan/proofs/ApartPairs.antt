-- Pairs of items of which no way puts the first before the second: effects beside each other at a fork or join, and what comes before an exit of the first leg.
use Rattle.std.proofs.Common.{◌≡◌, ◌⊎◌, ◌<◌, Bool, IsTrue, refl, inl, inr, ⊎_elim, arith}
use Rattle.pssm_model.specs.declared.ids.VertexId.{VertexId}
use Rattle.pssm_model.specs.declared.ids.TransId.{TransId}
use Rattle.pssm_model.specs.declared.elements.DraftMachine.{DraftMachine}
use Rattle.pssm_model.specs.declared.elements.VertexKind.TheVariants as kinds
use Rattle.pssm_model.specs.declared.steps.Route.{Route}
use Rattle.pssm_model.specs.declared.steps.Item.{Item}
use Rattle.pssm_model.specs.declared.steps.Item.TheVariants as items
use Rattle.pssm_model.specs.Legs.{On, SameLeg, LaterLeg, LegScope, LegExits, LiesInScope, Scope}
use Rattle.pssm_model.specs.Legs.SameLeg.{itself}
use Rattle.pssm_model.specs.Routes.{IsRoute}
use Rattle.pssm_model.specs.Shapes.{HasShape}
use Rattle.pssm_model.specs.WellFormed.{KeepsModelRules}
use Rattle.pssm_model.specs.RouteWords.{IsStepRoute}
use Rattle.pssm_model_laws.proofs.EndsApart.{step_is_route}
use Rattle.pssm_model_laws.proofs.LegRoots.{leg_ends, leg_turned, later_to, later_from, later_further}
use Rattle.pssm_model_laws.proofs.LegShapes.{fork_star, fork_pathless, fork_last, join_star, join_pathless, join_first, first_or_later, later_begins_on}
use Rattle.pssm_model_laws.proofs.RouteOrder.{from_start}
use Rattle.pssm_legs.proofs.LaterPlaces.{later_lower}
use Rattle.pssm_legs.specs.Areas.{scope_of}
use Rattle.pssm_legs.specs.Calls.{IsItemOfLeg, IsOrderedInLeg}
use Rattle.pssm_legs.specs.Calls.IsOrderedInLeg.{exit_effect, path, effect_enter, effect_end, enter_end, later}
use Rattle.pssm_plan.specs.declared.ways.Way.{Way}
use Rattle.pssm_plan.specs.Ways.{IsWayIn}
use Rattle.pssm_plan.specs.inner.ByWays.{orders_by}
use Rattle.pssm_plan.specs.inner.Clear.{LeavesKind, EntersKind}
use Rattle.pssm_plan.proofs.NearWays.{way_calls_first, way_calls_second}

-- a leg that has an item that is an effect has the transition
pub effect_in_leg : (m : DraftMachine) (fires : Bool) (p : Route) (a w : TransId) → IsItemOfLeg m fires p a (items.Effect w) → SameLeg m p a w
effect_in_leg m fires p a w h = ⊎_elim (λ leg. leg) (λ e. absurd (⊎_elim (λ x. x) (λ x. x) e)) h

module _ {m : DraftMachine} (shape : HasShape m) (rules : KeepsModelRules m) (p : Route) (step : IsStepRoute m p) where
  the_route : IsRoute m p
  the_route = step_is_route step

  module _ (fires : Bool) where
    -- nothing follows the effect of a transition out of a fork but what its leg calls
    fork_leads : (t u : TransId) → On p t → LeavesKind m t kinds.Fork → (a : TransId) → IsOrderedInLeg m fires p a (items.Effect t) (items.Effect u) → ⊥
    fork_leads t u on h a (exit_effect e f cx cy) = e
    fork_leads t u on h a (path leg before) =
        fork_pathless shape rules p step t t u h.0 (fork_star shape rules p step t h.0 on h.1 h.2) (itself on) (inl before)
    fork_leads t u on h a (effect_enter e f cx cy) = f
    fork_leads t u on h a (effect_end e cx ends) = ⊎_elim (λ x. x) (λ x. x) ends
    fork_leads t u on h a (enter_end e cx ends) = e
    fork_leads t u on h a (later next far cx cy) =
        fork_last shape rules p step t next h.0 (fork_star shape rules p step t h.0 on h.1 h.2) (later_from m p (leg_turned m p cx) far)

    -- nothing but exits leads to the effect of a transition into a join
    join_led : (t u : TransId) → On p u → EntersKind m u kinds.Join → (a : TransId) → IsOrderedInLeg m fires p a (items.Effect t) (items.Effect u) → ⊥
    join_led t u on h a (exit_effect e f cx cy) = e
    join_led t u on h a (path leg before) =
        join_pathless shape rules p step u u t h.0 (join_star shape rules p step u h.0 on h.1 h.2) (itself on) (inr before)
    join_led t u on h a (effect_enter e f cx cy) = f
    join_led t u on h a (effect_end e cx ends) = ⊎_elim (λ x. x) (λ x. x) ends
    join_led t u on h a (enter_end e cx ends) = e
    join_led t u on h a (later next far cx cy) =
        join_first shape rules p step u a h.0 (join_star shape rules p step u h.0 on h.1 h.2)
        (later_to m p far (effect_in_leg m fires p next u cy))

  -- a leg that has another before it is behind that of a start, where this is the first
  behind_first : (f a next : TransId) → On p f → ((u : TransId) → On p u → LaterLeg m p u f → ⊥) → LaterLeg m p a next → LaterLeg m p f next
  behind_first f a next on first far =
      let start = from_start shape rules p the_route f on in
      let a_on = later_begins_on m p a next far in
      let begin : SameLeg m p start.0 f = ⊎_elim
      (λ same. same)
      (λ behind. absurd (first start.0 (later_begins_on m p start.0 f behind) behind))
      (first_or_later shape rules p step start.0 f start.1 on) in
      ⊎_elim
      (λ same. later_from m p (leg_turned m p begin) (later_from m p same far))
      (λ behind. later_from m p (leg_turned m p begin) (later_further m p behind far))
      (first_or_later shape rules p step start.0 a start.1 a_on)

  -- nothing comes before an exit where the first leg exits
  not_exited : (fires : Bool) (f : TransId) (scope : Scope) (s : VertexId) → On p f → ((u : TransId) → On p u → LaterLeg m p u f → ⊥) → LegScope m p f scope
      → LiesInScope m s scope → (a : TransId) (x : Item) → IsOrderedInLeg m fires p a x (items.Exit s) → ⊥
  not_exited fires f scope s on first is lies a _ (exit_effect e g cx cy) = g
  not_exited fires f scope s on first is lies a _ (effect_enter e g cx cy) = g
  not_exited fires f scope s on first is lies a _ (effect_end e cx ends) = ⊎_elim (λ x. x) (λ x. x) ends
  not_exited fires f scope s on first is lies a _ (enter_end e cx ends) = ends
  not_exited fires f scope s on first is lies a _ (later next far cx cy) =
      let exits : LegExits m (λ q. IsTrue fires) p next s = ⊎_elim (λ x. x) (λ e. absurd (⊎_elim (λ x. x) (λ x. x) e)) cy in
      exits.1 f (behind_first f a next on first far) (exits.0.0, (scope, is, lies))

pub beside : {m : DraftMachine} (shape : HasShape m) (rules : KeepsModelRules m) (way : Way) → IsWayIn m way → (t u : TransId)
    → LeavesKind m t kinds.Fork ⊎ EntersKind m u kinds.Join → orders_by m way (items.Effect t) (items.Effect u) → ⊥
beside {m} shape rules way is t u h before =
    let p = way.route.value in
    let first = way_calls_first m way (items.Effect t) (items.Effect u) before in
    let second = way_calls_second m way (items.Effect t) (items.Effect u) before in
    ⊎_elim
    (λ fork. fork_leads shape rules p is.route way.fires t u (leg_ends m p (effect_in_leg m way.fires p first.0 t first.2)) fork before.0 before.2)
    (λ join. join_led shape rules p is.route way.fires t u (leg_ends m p (effect_in_leg m way.fires p second.0 u second.2)) join before.0 before.2)
    h

-- the first of the legs is behind none
first_leg_first : {m : DraftMachine} (way : Way) → IsWayIn m way → (u : TransId) → On way.route.value u → LaterLeg m way.route.value u way.legs.first.named → ⊥
first_leg_first {m} way is u on far =
    let p = way.route.value in
    let there = is.all u on in
    let leg = is.each there.0 there.1 there.2 in
    let from : LaterLeg m p there.1.named way.legs.first.named = later_from m p ((leg.path u).0 there.3) far in
    let stands = (is.later there.0 0 there.1 way.legs.first there.2 refl).0 from in
    let low = later_lower way.legs is.inside.before there.0 0 stands in
    absurd (omega (arith, low))

pub exited_first : {m : DraftMachine} (shape : HasShape m) (rules : KeepsModelRules m) (way : Way) → IsWayIn m way → (s : VertexId)
    → LiesInScope m s (scope_of way.legs.first.area) → (x : Item) → orders_by m way x (items.Exit s) → ⊥
exited_first {m} shape rules way is s lies x before =
    let leg = is.each 0 way.legs.first refl in
    not_exited shape rules way.route.value is.route way.fires way.legs.first.named (scope_of way.legs.first.area) s leg.on (first_leg_first way is) leg.area lies
    before.0 x before.2
