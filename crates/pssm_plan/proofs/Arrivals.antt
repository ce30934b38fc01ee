-- How a step comes to stand somewhere: along a route, or back in a State that an opening restores; where it then stands, and what it enters.
use Rattle.std.proofs.Common.{◌≡◌, Some, Contains, refl, sym, ap, subst, inl, inr, ⊎_elim}
use Rattle.pssm_model.specs.declared.ids.VertexId.{VertexId}
use Rattle.pssm_model.specs.declared.ids.RegionId.{RegionId}
use Rattle.pssm_model.specs.declared.elements.DraftMachine.{DraftMachine}
use Rattle.pssm_model.specs.declared.elements.Owner.TheVariants.{Region, State}
use Rattle.pssm_model.specs.declared.steps.Route.{Route}
use Rattle.pssm_model.specs.declared.steps.Mode.{Mode}
use Rattle.pssm_model.specs.declared.steps.Mode.TheVariants.{Plain}
use Rattle.pssm_model.specs.declared.steps.How.{How}
use Rattle.pssm_model.specs.declared.steps.How.TheVariants.{By, Restore}
use Rattle.pssm_model.specs.declared.steps.Item.{Item}
use Rattle.pssm_model.specs.declared.steps.Item.TheVariants as items
use Rattle.pssm_model.specs.Shapes.{HasShape}
use Rattle.pssm_model.specs.Forest.{IsStateOrFinal, owner_of, LiesUnder, LiesInRegion, LiesInState}
use Rattle.pssm_model.specs.Forest.LiesUnder.{owned, further}
use Rattle.pssm_model.specs.Configuration.{IsDirect}
use Rattle.pssm_model.specs.Course.{Head, Course, FiresBy}
use Rattle.pssm_model.specs.Items.{restored_mode}
use Rattle.pssm_model.specs.Legs.{Scope, LiesInScope}
use Rattle.pssm_model.specs.Legs.Scope.{Within}
use Rattle.pssm_model.specs.WellFormed.{KeepsModelRules}
use Rattle.pssm_model.specs.RouteWords.{IsStepRoute}
use Rattle.pssm_model_laws.specs.inner.RouteWords.{IsAreaOf, EndsOn, IsEnteredBy}
use Rattle.pssm_plan.specs.inner.OverRoutes.{GoesBy, OpensFor, IsCalledOver}
use Rattle.pssm_model.proofs.OwnerChains.{one_owner, under_further}
use Rattle.pssm_model.proofs.Nesting.{region_cases}
use Rattle.pssm_plan.proofs.SteadyPlaces.{IsRegionIn, IsAtOrUnder, same_region_place, no_circle}
use Rattle.pssm_plan.proofs.RoutePlaces.{IsLateIn, late_step, late_is_area, late_area, late_ends, late_lies, one_late_region, entered_end, entered_in_area, entered_fills, entered_around, one_entered}
use Rattle.pssm_plan.proofs.RoutePlaces.{entered_is_state as route_enters_state}

pub data Arrival : Type 0 where
  Along : Route → Arrival
  Back : RegionId → Mode → VertexId → Arrival

-- The step has come so: it goes by the route, or an opening of the region in the mode has restored the State.
abbrev pub Arrives : Course → Arrival → Type 0
Arrives course (Along p) = GoesBy course p
Arrives course (Back r mode s) = Contains course.ran (items.Opened r mode, Restore s)

-- It is along a route that fires.
abbrev pub IsFiring : Head → Arrival → Type 0
IsFiring head (Along p) = FiresBy head p
IsFiring head (Back r mode s) = ⊥

-- It enters the State.
abbrev pub EntersBy : DraftMachine → Arrival → VertexId → Type 0
EntersBy m (Along p) s = IsEnteredBy m p s
EntersBy m (Back r mode q) s = q ≡ s

-- It stands on the vertex at an end of it.
abbrev pub StandsOn : DraftMachine → Arrival → VertexId → Type 0
StandsOn m (Along p) v = EndsOn m p v
StandsOn m (Back r mode q) v = q ≡ v

-- It exits and enters in the place.
abbrev pub IsPlace : DraftMachine → Arrival → Scope → Type 0
IsPlace m (Along p) area = IsAreaOf m p area
IsPlace m (Back r mode q) area = area ≡ Within r

-- The vertex lies there.
abbrev pub LiesInPlace : DraftMachine → Arrival → VertexId → Type 0
LiesInPlace m x v = (area : Scope) × IsPlace m x area × LiesInScope m v area

-- It stands somewhere in the region, and it stands nowhere else.
abbrev pub StandsIn : DraftMachine → Arrival → RegionId → Type 0
StandsIn m x r = (v : VertexId) × StandsOn m x v × LiesInRegion m v r

abbrev pub StandsInside : DraftMachine → Arrival → RegionId → Type 0
StandsInside m x r = (v : VertexId) → StandsOn m x v → LiesInRegion m v r

-- It stands in the region, which lies where it exits and enters.
abbrev pub FillsBy : DraftMachine → Arrival → RegionId → Type 0
FillsBy m x r = StandsIn m x r × ((area : Scope) × IsPlace m x area × IsRegionIn m r area)

-- It is one by which steps come.
abbrev pub IsProper : DraftMachine → Arrival → Type 0
IsProper m (Along p) = IsStepRoute m p
IsProper m (Back r mode s) = IsDirect m s r

-- It begins in the region: along a route that starts late in it, or back in a direct vertex of it.
abbrev pub IsComingIn : DraftMachine → Arrival → RegionId → Type 0
IsComingIn m (Along p) r = (v : VertexId) × IsLateIn m p r v
IsComingIn m (Back k mode s) r = (k ≡ r) × IsDirect m s r

-- the way by which an item brings it, and whether the item may
abbrev pub how_of : Arrival → How
how_of (Along p) = By p
how_of (Back r mode s) = Restore s

abbrev pub IsBroughtBy : Arrival → Item → Type 0
IsBroughtBy (Along p) item = Unit {0}
IsBroughtBy (Back r mode s) item = item ≡ items.Opened r mode

-- The item has run and has brought it.
abbrev pub HasBrought : Course → Item → Arrival → Type 0
HasBrought course item x = Contains course.ran (item, how_of x) × IsBroughtBy x item

-- in which mode the regions open of a State that it enters
abbrev pub mode_after : Arrival → Mode
mode_after (Along p) = Plain
mode_after (Back r mode s) = restored_mode mode

pub along_same : (p q : Route) → Along p ≡ Along q → p ≡ q
along_same p q e = cc

pub brought_arrives : (course : Course) (item : Item) (x : Arrival) → HasBrought course item x → Arrives course x
brought_arrives course item (Along p) h = inr (item, h.0)
brought_arrives course item (Back r mode s) h = subst (λ y. Contains course.ran (y, Restore s)) h.1 h.0

-- an entry that is called is that of an arrival
pub enterer_of : (m : DraftMachine) (course : Course) (s : VertexId) → IsCalledOver m course (items.Enter s)
    → (x : Arrival) × Arrives course x × EntersBy m x s
enterer_of m course s h = ⊎_elim (λ over. (Along over.0, over.1.0, over.1.1)) (λ back. (Back back.1.0 back.0 s, back.1.1, refl)) h

module _ {m : DraftMachine} (shape : HasShape m) (rules : KeepsModelRules m) where
  -- it stands on what it enters, or in it
  pub entered_stand : (x : Arrival) (s : VertexId) → IsProper m x → EntersBy m x s → (v : VertexId) × StandsOn m x v × IsAtOrUnder m v s
  entered_stand (Along p) s is h = entered_end shape rules p is s h
  entered_stand (Back r mode q) s is h = (q, refl, inl h)

  -- what it enters is a State or final state
  pub entered_is_state : (x : Arrival) (s : VertexId) → IsProper m x → EntersBy m x s → IsStateOrFinal m s
  entered_is_state (Along p) s is h = route_enters_state shape rules p is s h
  entered_is_state (Back r mode q) s is h = subst (λ v. IsStateOrFinal m v) h is.1

  -- and lies where it exits and enters, so it fills the region of that
  pub entered_in_place : (x : Arrival) (s : VertexId) → IsProper m x → EntersBy m x s → LiesInPlace m x s
  entered_in_place (Along p) s is h = entered_in_area shape rules p is s h
  entered_in_place (Back r mode q) s is h = (Within r, refl, subst (λ v. LiesInRegion m v r) h (owned is.0))

  pub entered_fill : (x : Arrival) (s : VertexId) (r : RegionId) → IsProper m x → owner_of m (State s) ≡ Some (Region r) → EntersBy m x s
      → FillsBy m x r
  entered_fill (Along p) s r is e h = entered_fills shape rules p is s r e h
  entered_fill (Back k mode q) s r is e h =
      let home = subst (λ v. owner_of m (State v) ≡ Some (Region r)) (sym h) e in
      let same = same_region_place r k (one_owner m (State q) (Region r) (Region k) home is.0) in
      ((q, refl, owned home), (Within k, refl, inl same))

  -- of the States of one region it enters one
  pub one_entered_by : (x : Arrival) (s q : VertexId) (r : RegionId) → IsProper m x → owner_of m (State s) ≡ Some (Region r)
      → owner_of m (State q) ≡ Some (Region r) → EntersBy m x s → EntersBy m x q → s ≡ q
  one_entered_by (Along p) s q r is e f first second = one_entered shape rules p is s q r e f first second
  one_entered_by (Back k mode v) s q r is e f first second = (let one = first in let two = second in cc)

  -- and what stands around what it enters, where it exits and enters
  pub enters_around : (x : Arrival) (q s : VertexId) → IsProper m x → EntersBy m x q → LiesInState m q s → LiesInPlace m x s → EntersBy m x s
  enters_around (Along p) q s is h inside place = entered_around shape rules p is q s h inside place
  enters_around (Back k mode v) q s is h inside place =
      let home = subst (λ x. owner_of m (State x) ≡ Some (Region k)) h is.0 in
      let s_in : LiesInRegion m s k = subst (λ a. LiesInScope m s a) place.1 place.2 in
      let around : LiesUnder m (Region inside.0) (Region k) = further inside.1 s_in in
      absurd (⊎_elim
      (λ same. no_circle shape k (subst (λ x. LiesUnder m (Region x) (Region k)) (sym same) around))
      (λ under. no_circle shape k (under_further under around))
      (region_cases m (State q) k inside.0 home inside.2))

  -- what begins in a region exits and enters there, and stands there
  pub comes_area : (x : Arrival) (r : RegionId) (area : Scope) → IsComingIn m x r → IsPlace m x area → area ≡ Within r
  comes_area (Along p) r area h is = late_area shape rules p r h.0 h.1 area is
  comes_area (Back k mode s) r area h is = (let same = h.0 in let at = is in cc)

  pub comes_place : (x : Arrival) (r : RegionId) → IsComingIn m x r → IsPlace m x (Within r)
  comes_place (Along p) r h = late_is_area shape rules p r h.0 h.1
  comes_place (Back k mode s) r h = ap Within (sym h.0)

  pub comes_stands : (x : Arrival) (r : RegionId) → IsComingIn m x r → StandsInside m x r
  comes_stands (Along p) r h v ends = late_ends shape rules p r h.0 h.1 v (ends.0, ends.1, inr ends.2)
  comes_stands (Back k mode s) r h v ends = subst (λ w. LiesInRegion m w r) ends (owned h.1.0)

  pub comes_enters : (x : Arrival) (r : RegionId) (s : VertexId) → IsComingIn m x r → EntersBy m x s → LiesInRegion m s r
  comes_enters (Along p) r s h enters = late_lies shape rules p r h.0 h.1 s enters
  comes_enters (Back k mode q) r s h enters = subst (λ w. LiesInRegion m w r) enters (owned h.1.0)

  pub one_coming : (x : Arrival) (r q : RegionId) → IsComingIn m x r → IsComingIn m x q → r ≡ q
  one_coming (Along p) r q h g = one_late_region shape rules p r h.0 h.1 q g.0 g.1
  one_coming (Back k mode s) r q h g = (let first = h.0 in let second = g.0 in cc)

  pub comes_proper : (x : Arrival) (r : RegionId) → IsComingIn m x r → IsProper m x
  comes_proper (Along p) r h = late_step shape rules p r h.0 h.1
  comes_proper (Back k mode s) r h = subst (λ q. IsDirect m s q) (sym h.0) h.1

  -- what stands in a region stands in the one around it
  pub fill_out : (x : Arrival) (r h : RegionId) (s : VertexId) (area : Scope) → owner_of m (Region r) ≡ Some (State s)
      → owner_of m (State s) ≡ Some (Region h) → StandsIn m x r → IsPlace m x area → IsRegionIn m h area → FillsBy m x h
  fill_out x r h s area e f ends is inside = ((ends.0, ends.1, under_further ends.2 (further e (owned f))), (area, is, inside))

-- The arrival enters the State and stands outside of the region, which so opens in the mode.
pub record IsOpener (m : DraftMachine) (course : Course) (s : VertexId) (r : RegionId) (mode : Mode) (x : Arrival) : Type 0 where
  pub arrives : Arrives course x
  pub enters : EntersBy m x s
  pub outside : StandsIn m x r → ⊥
  pub is_mode : mode ≡ mode_after x

pub opener_of : {m : DraftMachine} → HasShape m → (course : Course) (s : VertexId) (r : RegionId) (mode : Mode)
    → owner_of m (Region r) ≡ Some (State s) → OpensFor m course s r mode → (x : Arrival) × IsOpener m course s r mode x
opener_of {m = m} shape course s r mode e h =
    ⊎_elim
    (λ over. (Along over.0, record { arrives = over.1.0; enters = over.1.1; outside = over.2; is_mode = over.3 }))
    (λ back. (
    let at = back.1 in (
      Back at.0 back.0 s,
      record {
        arrives = at.1;
        enters = refl;
        outside = λ lies. no_circle shape r (further e (subst (λ v. LiesInRegion m v r) (sym lies.1) lies.2));
        is_mode = back.2;
      },
    )
    ))
    h
