-- the leg that ends there
use Rattle.std.proofs.Common.{IfSome, subst}
use Rattle.pssm_legs.specs.inner.Told.{IsEntered}
use Rattle.pssm_legs.specs.inner.Callers.{IsSuchAt}
use Rattle.pssm_legs.proofs.callers.more_entering.Goals as goal

pub returns-in-Some : goal.returns-in-Some
returns-in-Some c =
    subst (λ place. IfSome place (IsSuchAt c.args.legs.now (λ i a. IsEntered c.args.machine.now a c.args.s))) c.in-Some.is c.further_ending.ensures
