-- the legs that call the two stand one behind the other
use Rattle.std.proofs.Common.{◌≡◌, true, false}
use Rattle.pssm_legs.specs.inner.Told.{IsCalledAsTold}
use Rattle.pssm_legs.proofs.OneCalls.{tells_between, place_found, none_found, none_from}
use Rattle.pssm_legs.proofs.callers.is_called_before_one.Goals as goal

pub is_ahead_of-requires-clause-leg : goal.is_ahead_of-requires-clause-leg
is_ahead_of-requires-clause-leg c = c.requires.legs.each c.args.other c.leg_at-leg.result.now c.leg_at-leg.ensures

pub returns-in-Some : goal.returns-in-Some
returns-in-Some c = λ p are.
    tells_between c.regions-shaped.ensures.shaped c.requires.rules p c.args.legs.now are c.args.fires c.in-Some.place c.args.other c.leg_at-leg.result.now
    c.args.first c.args.second c.is_ahead_of.result c.leg_at-leg.ensures c.requires.one c.requires.two
    (place_found c.args.legs.now (λ k a. IsCalledAsTold c.args.machine.now c.args.legs.now k a c.args.fires c.args.first) c.caller_of.result c.in-Some.place c.in-Some.is c.caller_of.ensures)
    c.requires.other c.is_ahead_of.ensures

pub returns-in-None : goal.returns-in-None
returns-in-None c = λ p are. (
  λ f. absurd (let e : false ≡ true = f in cc),
  λ h. absurd (none_from c.regions-shaped.ensures.shaped c.requires.rules p c.args.legs.now are c.args.fires c.args.first c.args.second
      (none_found c.args.legs.now (λ k a. IsCalledAsTold c.args.machine.now c.args.legs.now k a c.args.fires c.args.first) c.caller_of.result c.in-None.is c.caller_of.ensures) h),
)
