-- each turn asks one leg more
use Rattle.std.proofs.Common.{◌≡◌, true, false, length, refl, ap, arith}
use Rattle.pssm_legs.specs.inner.Told.{IsCalledFrom}
use Rattle.pssm_legs.proofs.NoneSoFar.{refuted}
use Rattle.pssm_legs.proofs.LaterPlaces.{further_at, one_more_not, none_further}
use Rattle.pssm_legs.proofs.ahead.are_called_from.Goals as goal

pub is_called_from-requires-clause-place : goal.is_called_from-requires-clause-place
is_called_from-requires-clause-place c =
    further_at c.args.legs.now c.as_slice-more.result.now c.loop-k.k c.index-more-k.result c.as_slice-more.ensures.value c.loop-k-test.true c.index-more-k.is

pub is_called_from-requires-clause-leg : goal.is_called_from-requires-clause-leg
is_called_from-requires-clause-leg c =
    c.requires.legs.each _ c.index-more-k.result
    (further_at c.args.legs.now c.as_slice-more.result.now c.loop-k.k c.index-more-k.result c.as_slice-more.ensures.value c.loop-k-test.true c.index-more-k.is)

pub loop-k-preserved : goal.loop-k-preserved
loop-k-preserved c =
    one_more_not c.args.legs.now (λ i a. IsCalledFrom c.args.machine.now c.args.legs.now i a c.args.fires c.args.first c.args.second) c.loop-k.k c.index-more-k.result c.loop-k.invariant
    (further_at c.args.legs.now c.as_slice-more.result.now c.loop-k.k c.index-more-k.result c.as_slice-more.ensures.value c.loop-k-test.true c.index-more-k.is)
    (refuted _ c.if-is_called_from.false c.is_called_from.ensures)

pub returns-then-is_called_from : goal.returns-then-is_called_from
returns-then-is_called_from c = (
  λ t. (
    c.loop-k.k,
    c.index-more-k.result,
    further_at c.args.legs.now c.as_slice-more.result.now c.loop-k.k c.index-more-k.result c.as_slice-more.ensures.value c.loop-k-test.true c.index-more-k.is,
    c.is_called_from.ensures.0 c.if-is_called_from.true,
  ),
  λ h. refl,
)

pub returns : goal.returns
returns c =
    let same = ap length c.as_slice-more.ensures.value in
    let past = c.loop-k-test.false in (
      λ f. absurd (let e : false ≡ true = f in cc),
      λ h. absurd (none_further c.args.legs.now (λ i a. IsCalledFrom c.args.machine.now c.args.legs.now i a c.args.fires c.args.first c.args.second) c.loop-k.k c.loop-k.invariant (omega (arith, same, past)) h),
    )
