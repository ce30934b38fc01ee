-- each turn asks one leg more
use Rattle.std.proofs.Common.{length, ap, arith}
use Rattle.std.proofs.Common.{◌+◌}
use Rattle.pssm_legs.specs.inner.Told.{IsEntered}
use Rattle.pssm_legs.proofs.NoneSoFar.{refuted}
use Rattle.pssm_legs.proofs.LaterPlaces.{further_at, one_more_not, none_further}
use Rattle.pssm_legs.proofs.callers.further_entering.Goals as goal

pub is_entered-requires-clause-leg : goal.is_entered-requires-clause-leg
is_entered-requires-clause-leg c = c.requires.legs.each (c.loop-k.k + 1) c.index-more-k.result (further_at c.args.legs.now c.as_slice-more.result.now c.loop-k.k c.index-more-k.result c.as_slice-more.ensures.value c.loop-k-test.true c.index-more-k.is)

pub loop-k-preserved : goal.loop-k-preserved
loop-k-preserved c =
    one_more_not c.args.legs.now (λ i a. IsEntered c.args.machine.now a c.args.s) c.loop-k.k c.index-more-k.result c.loop-k.invariant
    (further_at c.args.legs.now c.as_slice-more.result.now c.loop-k.k c.index-more-k.result c.as_slice-more.ensures.value c.loop-k-test.true c.index-more-k.is)
    (refuted _ c.if-is_entered.false c.is_entered.ensures)

pub returns-then-is_entered : goal.returns-then-is_entered
returns-then-is_entered c = (
  c.index-more-k.result,
  further_at c.args.legs.now c.as_slice-more.result.now c.loop-k.k c.index-more-k.result c.as_slice-more.ensures.value c.loop-k-test.true c.index-more-k.is,
  c.is_entered.ensures.0 c.if-is_entered.true,
)

pub returns : goal.returns
returns c =
    let same = ap length c.as_slice-more.ensures.value in
    let past = c.loop-k-test.false in
    λ h. none_further c.args.legs.now (λ i a. IsEntered c.args.machine.now a c.args.s) c.loop-k.k c.loop-k.invariant (omega (arith, same, past)) h
