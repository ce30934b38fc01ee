-- Chains of arrivals: each goes on from a choice or history on which the route before it has ended, and no two of them from one.
use Rattle.std.proofs.Common.{List, Some, ◌≡◌, ◌⊎◌, refl, sym, subst, ◌∙◌, inl, inr, ⊎_elim}
use Rattle.pssm_model.specs.declared.ids.VertexId.{VertexId}
use Rattle.pssm_model.specs.declared.ids.RegionId.{RegionId}
use Rattle.pssm_model.specs.declared.elements.DraftMachine.{DraftMachine}
use Rattle.pssm_model.specs.declared.elements.VertexKind.TheVariants as kinds
use Rattle.pssm_model.specs.declared.elements.Owner.TheVariants.{Region, State}
use Rattle.pssm_model.specs.declared.steps.Route.{Route}
use Rattle.pssm_model.specs.declared.steps.How.{How}
use Rattle.pssm_model.specs.declared.steps.Item.{Item}
use Rattle.pssm_model.specs.Forest.{IsStateOrFinal, owner_of, LiesUnder, LiesInRegion, IsWithin}
use Rattle.pssm_model.specs.Forest.LiesUnder.{owned, further}
use Rattle.pssm_model.specs.Legs.{Scope}
use Rattle.pssm_model.specs.Shapes.{HasShape}
use Rattle.pssm_model.specs.WellFormed.{KeepsModelRules}
use Rattle.pssm_model.specs.RouteWords.{IsStepRoute}
use Rattle.pssm_model.specs.Configuration.{Configuration}
use Rattle.pssm_model.specs.Course.{Head, Course}
use Rattle.pssm_model.specs.Order.{HasGone, course_by}
use Rattle.pssm_plan.specs.Steadiness.{BeginsWell}
use Rattle.pssm_plan.specs.inner.OverRoutes.{GoesBy, IsItemAt}
use Rattle.pssm_model.proofs.OwnerChains.{under_further}
use Rattle.pssm_model.proofs.Nesting.{under_cases, region_cases, lies_within}
use Rattle.pssm_model_laws.proofs.RegionChains.{on_one_chain, under_state as state_under}
use Rattle.pssm_model_laws.proofs.EndsApart.{alone_at_home}
use Rattle.pssm_plan.proofs.SteadyPlaces.{IsRegionIn, IsGoOn, go_on_is_no, no_circle, within_further, within_in, home_in_scope, in_region_at}
use Rattle.pssm_plan.proofs.RoutePlaces.{late_end_in_area}
use Rattle.pssm_plan.proofs.Arrivals.{Arrival, Arrives, EntersBy, StandsOn, StandsIn, IsPlace, IsProper, IsComingIn, along_same, entered_stand, entered_is_state, comes_area, comes_stands, comes_enters}
use Rattle.pssm_plan.proofs.Arrivals.Arrival.{Along}
use Rattle.pssm_plan.proofs.SteadyStems.{IsNextBy, one_at_end, one_brought, step_route, proper}

-- The second stands at or after the first on a chain.
pub data Continues (m : DraftMachine) (course : Course) (x : Arrival) : Arrival → Type 0 where
  here : Continues m course x x
  on : {w : Route} {u : Arrival} {c : VertexId} {r : RegionId} → Continues m course x (Along w) → IsNextBy m course w u c r → Continues m course x u

-- One of them stands at or after the other.
abbrev pub AreOnChain : DraftMachine → Course → Arrival → Arrival → Type 0
AreOnChain m course x u = Continues m course x u ⊎ Continues m course u x

pub turned : {m : DraftMachine} {course : Course} (x u : Arrival) → AreOnChain m course x u → AreOnChain m course u x
turned x u h = ⊎_elim (λ first. inr first) (λ second. inl second) h

-- The first is along a route, from the end of which the step goes on, and from there the chain leads on.
abbrev pub HasNext : DraftMachine → Course → Arrival → Arrival → Type 0
HasNext m course x u =
    (p : Route) × (y : Arrival) × (c : VertexId) × (r : RegionId) × (x ≡ Along p) × IsNextBy m course p y c r × Continues m course y u

module _ {m : DraftMachine} {course : Course} where
  pub joins : (x u w : Arrival) → Continues m course x u → Continues m course u w → Continues m course x w
  joins x u _ first here = first
  joins x u w first (on {w = k} before by) = on (joins x u (Along k) first before) by

  pub first_step : (x u : Arrival) → Continues m course x u → (x ≡ u) ⊎ HasNext m course x u
  first_step x _ here = inl refl
  first_step x u (on {w = w} {c = c} {r = r} before by) =
      ⊎_elim
      (λ same. inr (w, u, c, r, same, by, here))
      (λ next. inr (next.0, next.1, next.2, next.3, next.4, next.5, on next.6 by))
      (first_step x (Along w) before)

-- The region lies where the arrival exits and enters.
abbrev pub IsOver : DraftMachine → Arrival → RegionId → Type 0
IsOver m x r = (area : Scope) × IsPlace m x area × IsRegionIn m r area

-- two regions around a third
regions_around : (m : DraftMachine) (r q k : RegionId) → IsWithin m r q → IsWithin m r k → IsWithin m q k ⊎ IsWithin m k q
regions_around m r q k first second =
    ⊎_elim
    (λ same. inl (subst (λ x. IsWithin m x k) same second))
    (λ under. ⊎_elim
    (λ same. inr (subst (λ x. IsWithin m x q) same first))
    (λ more. on_one_chain m (Region r) q k under more)
    second)
    first

module _ {m : DraftMachine} (shape : HasShape m) (rules : KeepsModelRules m) (head : Head) (now : Configuration)
    (begins : BeginsWell m head now) (ran : List (Item × How)) (gone : HasGone m head now ran) where
  taken : (x : Arrival) → Arrives (course_by head now ran) x → IsProper m x
  taken x came = proper shape rules head now begins ran gone x came

  taken_route : (p : Route) → GoesBy (course_by head now ran) p → IsStepRoute m p
  taken_route p goes = step_route shape rules head now ran gone p goes

  -- the step goes on in one way from an end of a route
  same_next : (p : Route) (u y : Arrival) (c d : VertexId) (r q : RegionId) → c ≡ d → IsNextBy m (course_by head now ran) p u c r
      → IsNextBy m (course_by head now ran) p y d q → u ≡ y
  same_next p u y c d r q same first second =
      one_brought shape rules head now ran gone first.item second.item u y
      (one_at_end m d first.item second.item (subst (λ v. IsItemAt m v first.item) same first.at) second.at) first.brought second.brought

  -- of two ends of a route whose regions are around one region, one is the other
  same_ends : (p : Route) (u y : Arrival) (c d : VertexId) (r q k : RegionId) → IsNextBy m (course_by head now ran) p u c q
      → IsNextBy m (course_by head now ran) p y d k → IsWithin m r q → IsWithin m r k → c ≡ d
  same_ends p u y c d r q k first second within other =
      let step = taken_route p first.come.goes in
      ⊎_elim
      (λ inner. sym (alone_at_home shape rules p step d c k second.come.ends.0 first.come.ends.0 second.come.home
      (lies_within m c q k (owned first.come.home) inner)))
      (λ outer. alone_at_home shape rules p step c d q first.come.ends.0 second.come.ends.0 first.come.home
      (lies_within m d k q (owned second.come.home) outer))
      (regions_around m r q k within other)

  -- what lies where it goes on lies in the region of the end from where it does, and where the route exits and enters
  within_end : (p : Route) (u : Arrival) (c : VertexId) (r q : RegionId) → IsNextBy m (course_by head now ran) p u c q → IsOver m u r → IsWithin m r q
  within_end p u c r q by over = subst (λ a. IsRegionIn m r a) (comes_area shape rules u q over.0 by.comes over.1) over.2

  over_before : (p : Route) (u : Arrival) (c : VertexId) (r q : RegionId) → IsNextBy m (course_by head now ran) p u c q → IsOver m u r
      → IsOver m (Along p) r
  over_before p u c r q by over =
      let area = late_end_in_area shape rules p (taken_route p by.come.goes) c by.come.ends in
      (area.0, area.1, within_in m r q area.0 (within_end p u c r q by over) (home_in_scope m c q area.0 by.come.home area.2))

  -- what begins in a region goes on in it
  pub chain_comes : (y u : Arrival) (k : RegionId) → IsComingIn m y k → Continues m (course_by head now ran) y u
      → (q : RegionId) × IsComingIn m u q × IsWithin m q k
  chain_comes y _ k comes here = (k, comes, inl refl)
  chain_comes y u k comes (on {w = w} {c = c} {r = r} before by) =
      let at = chain_comes y (Along w) k comes before in
      let inside = comes_stands shape rules (Along w) at.0 at.1 c by.come.ends.0 in
      (r, by.comes, within_further m r at.0 k (region_cases m (State c) r at.0 by.come.home inside) at.2)

  -- so all of what stands after an arrival lies in the region of the end from where that goes on
  pub after_over : (x u : Arrival) (r : RegionId) (next : HasNext m (course_by head now ran) x u) → IsOver m u r → IsWithin m r next.3
  after_over x u r next over =
      let at = chain_comes next.1 u next.3 next.5.comes next.6 in
      let area = comes_area shape rules u at.0 over.0 at.1 over.1 in
      within_further m r at.0 next.3 (subst (λ a. IsRegionIn m r a) area over.2) at.2

  pub after_enters : (x u : Arrival) (s : VertexId) (next : HasNext m (course_by head now ran) x u) → EntersBy m u s → LiesInRegion m s next.3
  after_enters x u s next enters =
      let at = chain_comes next.1 u next.3 next.5.comes next.6 in
      lies_within m s at.0 next.3 (comes_enters shape rules u at.0 s at.1 enters) at.2

  pub after_stands : (x u : Arrival) (v : VertexId) (next : HasNext m (course_by head now ran) x u) → StandsOn m u v → LiesInRegion m v next.3
  after_stands x u v next stands =
      let at = chain_comes next.1 u next.3 next.5.comes next.6 in
      lies_within m v at.0 next.3 (comes_stands shape rules u at.0 at.1 v stands) at.2

  -- and that stands nowhere else in the region
  pub alone_here : (x u : Arrival) (v : VertexId) (next : HasNext m (course_by head now ran) x u) → StandsOn m x v → LiesInRegion m v next.3
      → next.2 ≡ v
  alone_here x u v next stands lies =
      let by = next.5 in
      alone_at_home shape rules next.0 (taken_route next.0 by.come.goes) next.2 v next.3 by.come.ends.0
      (subst (λ y. StandsOn m y v) next.4 stands) by.come.home lies

  -- nor does it enter anything there
  no_state_end : (v : VertexId) → IsGoOn m v → IsStateOrFinal m v → ⊥
  no_state_end v k is =
      ⊎_elim
      (go_on_is_no m v kinds.State (λ e. cc) (λ e. cc) (λ e. cc) k)
      (go_on_is_no m v kinds.Final (λ e. cc) (λ e. cc) (λ e. cc) k)
      is

  pub enters_not_after : (x u : Arrival) (s : VertexId) (next : HasNext m (course_by head now ran) x u) → Arrives (course_by head now ran) x
      → EntersBy m x s → LiesInRegion m s next.3 → ⊥
  enters_not_after x u s next came enters lies =
      let is = taken x came in
      let stand = entered_stand shape rules x s is enters in
      let by = next.5 in
      let same = alone_here x u stand.0 next stand.1 (in_region_at m stand.0 s next.3 stand.2 lies) in
      ⊎_elim
      (λ one. no_state_end next.2 by.come.ends.1
      (subst (λ x. IsStateOrFinal m x) (sym (same ∙ one)) (entered_is_state shape rules x s is enters)))
      (λ under. ⊎_elim
      (λ clash. cc)
      (λ more. no_circle shape next.3 (under_further more lies))
      (under_cases m (State next.2) (Region next.3) (State s) by.come.home (subst (λ x. LiesUnder m (State x) (State s)) (sym same) under)))
      stand.2

  -- so what stands after one arrival, and lies where one region does, stands on one chain
  pub linear : (x u w : Arrival) (r : RegionId) → Continues m (course_by head now ran) x u → Continues m (course_by head now ran) x w
      → IsOver m u r → IsOver m w r → AreOnChain m (course_by head now ran) u w
  linear x _ w r here second a b = inl second
  linear x u w r (on {w = k} {c = c} {r = q} before by) second a b =
      ⊎_elim
      (λ ahead. ⊎_elim
      (λ same. inr (subst (λ y. Continues m (course_by head now ran) y u) same (on here by)))
      (λ next. (
      let too = subst (λ z. IsNextBy m (course_by head now ran) z next.1 next.2 next.3) (sym (along_same k next.0 next.4)) next.5 in
      let ends = same_ends k u next.1 c next.2 r q next.3 by too (within_end k u c r q by a) (after_over (Along k) w r next b) in
      let one = same_next k u next.1 c next.2 q next.3 ends by too in
      inl (subst (λ y. Continues m (course_by head now ran) y w) (sym one) next.6)
      ))
      (first_step (Along k) w ahead))
      (λ back. inr (on back by))
      (linear x (Along k) w r before second (over_before k u c r q by a) b)

  -- only one on a chain enters a State
  pub enters_once : (x u : Arrival) (s : VertexId) → Arrives (course_by head now ran) x → Continues m (course_by head now ran) x u → EntersBy m x s
      → EntersBy m u s → x ≡ u
  enters_once x u s came chain first second =
      ⊎_elim
      (λ same. same)
      (λ next. absurd (enters_not_after x u s next came first (after_enters x u s next second)))
      (first_step x u chain)

  -- an arrival does not stand in a State that one after it enters
  pub stands_not_in : (u w : Arrival) (s v : VertexId) (r : RegionId) (next : HasNext m (course_by head now ran) u w) → EntersBy m w s
      → owner_of m (Region r) ≡ Some (State s) → StandsOn m u v → LiesInRegion m v r → ⊥
  stands_not_in u w s v r next enters e stands lies =
      let around : LiesUnder m (Region r) (Region next.3) = further e (after_enters u w s next enters) in
      let same = alone_here u w v next stands (under_further lies around) in
      let inside = subst (λ x. LiesInRegion m x r) (sym same) lies in
      ⊎_elim
      (λ one. no_circle shape r (subst (λ x. LiesUnder m (Region r) (Region x)) one around))
      (λ under. no_circle shape r (under_further around under))
      (region_cases m (State next.2) next.3 r next.5.come.home inside)

  -- and where one after it stands in a region of a State that it enters, it does too
  pub stands_with : (w u : Arrival) (s v : VertexId) (r : RegionId) (next : HasNext m (course_by head now ran) w u) → Arrives (course_by head now ran) w
      → EntersBy m w s → owner_of m (Region r) ≡ Some (State s) → StandsOn m u v → LiesInRegion m v r → StandsIn m w r
  stands_with w u s v r next came enters e stands lies =
      let by = next.5 in
      let here_in = λ (within : IsWithin m next.3 r). (
      let found : StandsIn m w r =
      (next.2, subst (λ y. StandsOn m y next.2) (sym next.4) by.come.ends.0, lies_within m next.2 next.3 r (owned by.come.home) within) in
      found) in
      ⊎_elim
      (λ within. here_in within)
      (λ within. ⊎_elim
      (λ same. here_in (inl (sym same)))
      (λ under. absurd (enters_not_after w u s next came enters (state_under m (Region r) s next.3 e under)))
      within)
      (on_one_chain m (State v) next.3 r (after_stands w u v next stands) lies)
