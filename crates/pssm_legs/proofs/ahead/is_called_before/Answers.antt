-- the walk goes from a leg to the one behind which it stands
use Rattle.std.proofs.Common.{◌≡◌, ◌<◌, true, false, refl, sym, subst}
use Rattle.pssm_legs.specs.inner.Told.{IsCalledAsTold}
use Rattle.pssm_legs.proofs.NoneSoFar.{refuted}
use Rattle.pssm_legs.proofs.LaterPlaces.{climb_begins, climb_goes_on, climb_ends, later_there, places_left, fewer_places}
use Rattle.pssm_legs.proofs.ahead.is_called_before.Goals as goal

pub up-init : goal.up-init
up-init c = climb_begins c.args.legs.now (λ j b. IsCalledAsTold c.args.machine.now c.args.legs.now j b c.args.fires c.args.item) c.args.place c.args.leg.now c.requires.place

pub leg_at-earlier-requires : goal.leg_at-earlier-requires
leg_at-earlier-requires c =
    later_there c.args.legs.now c.requires.legs.before c.in-Some.i c.args.place c.args.leg.now (c.up.invariant.up c.in-Some.i c.in-Some.is) c.requires.place

pub is_called-requires-clause-leg : goal.is_called-requires-clause-leg
is_called-requires-clause-leg c = c.requires.legs.each c.in-Some.i c.leg_at-earlier.result.now c.leg_at-earlier.ensures

pub up-preserved : goal.up-preserved
up-preserved c =
    climb_goes_on c.args.legs.now (λ j b. IsCalledAsTold c.args.machine.now c.args.legs.now j b c.args.fires c.args.item) c.args.place c.in-Some.i c.up.before c.leg_at-earlier.result.now c.in-Some.is c.up.invariant
    c.leg_at-earlier.ensures (refuted _ c.if-is_called.false c.is_called.ensures)

pub up-smaller : goal.up-smaller
up-smaller c =
    subst (λ before. places_left c.leg_at-earlier.result.now.before < places_left before) (sym c.in-Some.is)
    (fewer_places c.in-Some.i c.leg_at-earlier.result.now.before
    (λ i named. c.requires.legs.before i c.in-Some.i c.leg_at-earlier.result.now c.leg_at-earlier.ensures named))

pub returns-then-is_called : goal.returns-then-is_called
returns-then-is_called c = (
  λ t. (
    c.in-Some.i,
    c.leg_at-earlier.result.now,
    c.up.invariant.up c.in-Some.i c.in-Some.is,
    c.leg_at-earlier.ensures,
    c.is_called.ensures.0 c.if-is_called.true,
  ),
  λ h. refl,
)

pub returns : goal.returns
returns c = (
  λ f. absurd (let e : false ≡ true = f in cc),
  λ h. absurd (climb_ends c.args.legs.now (λ j b. IsCalledAsTold c.args.machine.now c.args.legs.now j b c.args.fires c.args.item) c.args.place c.up.before c.in_default.is c.up.invariant h.0 h.1 h.2 h.3 h.4),
)
