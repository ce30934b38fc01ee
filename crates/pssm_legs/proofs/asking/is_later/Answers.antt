-- the walk goes from a leg to the one behind which it stands
use Rattle.std.proofs.Common.{◌≡◌, ◌<◌, true, false, refl, sym, subst}
use Rattle.pssm_model.proofs.ElementLaws.{some_at}
use Rattle.pssm_legs.specs.LegsOf.{leg_list, StandsLater}
use Rattle.pssm_legs.proofs.LaterPlaces.{climb_begins, climb_goes_on, climb_ends, later_there, places_left, fewer_places}
use Rattle.pssm_legs.proofs.asking.is_later.Goals as goal

pub up-init : goal.up-init
up-init c = climb_begins c.args.legs.now (λ j b. j ≡ c.args.other) c.args.place c.args.leg.now c.requires.place

pub leg_at-earlier-requires : goal.leg_at-earlier-requires
leg_at-earlier-requires c =
    later_there c.args.legs.now c.requires.before c.in-Some.i c.args.place c.args.leg.now (c.up.invariant.up c.in-Some.i c.in-Some.is) c.requires.place

pub up-preserved : goal.up-preserved
up-preserved c =
    climb_goes_on c.args.legs.now (λ j b. j ≡ c.args.other) c.args.place c.in-Some.i c.up.before c.leg_at-earlier.result.now c.in-Some.is c.up.invariant
    c.leg_at-earlier.ensures c.if-i-other.false

pub up-smaller : goal.up-smaller
up-smaller c =
    subst (λ before. places_left c.leg_at-earlier.result.now.before < places_left before) (sym c.in-Some.is)
    (fewer_places c.in-Some.i c.leg_at-earlier.result.now.before
    (λ i named. c.requires.before i c.in-Some.i c.leg_at-earlier.result.now c.leg_at-earlier.ensures named))

pub returns-then-i-other : goal.returns-then-i-other
returns-then-i-other c = (
  λ t. subst (λ i. StandsLater (leg_list c.args.legs.now) i c.args.place) c.if-i-other.true (c.up.invariant.up c.in-Some.i c.in-Some.is),
  λ h. refl,
)

pub returns : goal.returns
returns c = (
  λ f. absurd (let e : false ≡ true = f in cc),
  λ h. absurd (let there = some_at (leg_list c.args.legs.now) c.args.other
      (later_there c.args.legs.now c.requires.before c.args.other c.args.place c.args.leg.now h c.requires.place) in
      climb_ends c.args.legs.now (λ j b. j ≡ c.args.other) c.args.place c.up.before c.in_default.is c.up.invariant c.args.other there.0
      h there.1 refl),
)
