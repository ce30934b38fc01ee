-- the first leg, or a further one
use Rattle.std.proofs.Common.{refl}
use Rattle.pssm_legs.specs.inner.Told.{IsEntered}
use Rattle.pssm_legs.proofs.NoneSoFar.{refuted}
use Rattle.pssm_legs.proofs.OneCalls.{else_further}
use Rattle.pssm_legs.proofs.callers.leg_entering.Goals as goal

pub is_entered-requires-clause-leg : goal.is_entered-requires-clause-leg
is_entered-requires-clause-leg c = c.requires.legs.each 0 c.args.legs.now.first refl

pub returns-else-is_entered : goal.returns-else-is_entered
returns-else-is_entered c =
    else_further c.args.legs.now (λ i a. IsEntered c.args.machine.now a c.args.s) c.more_entering.result
    (refuted _ c.if-is_entered.false c.is_entered.ensures) c.more_entering.ensures
