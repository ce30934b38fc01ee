-- where no leg calls the second item, nothing comes before it
use Rattle.std.proofs.Common.{◌≡◌, true, false}
use Rattle.pssm_legs.specs.inner.Told.{IsCalledAsTold}
use Rattle.pssm_legs.proofs.OneCalls.{none_found, none_to}
use Rattle.pssm_legs.proofs.callers.orders_to_one.Goals as goal

pub returns-in-None : goal.returns-in-None
returns-in-None c = λ p are. (
  λ f. absurd (let e : false ≡ true = f in cc),
  λ h. absurd (none_to c.regions-shaped.ensures.shaped c.requires.rules p c.args.legs.now are c.args.fires c.args.first c.args.second
      (none_found c.args.legs.now (λ k a. IsCalledAsTold c.args.machine.now c.args.legs.now k a c.args.fires c.args.second) c.caller_of.result c.in-None.is c.caller_of.ensures) h),
)
