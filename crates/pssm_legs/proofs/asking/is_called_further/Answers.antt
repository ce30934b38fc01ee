-- each turn asks one leg more
use Rattle.std.proofs.Common.{◌≡◌, true, false, length, refl, ap, arith}
use Rattle.pssm_legs.specs.inner.Told.{IsCalledAsTold}
use Rattle.pssm_legs.proofs.NoneSoFar.{refuted}
use Rattle.pssm_legs.proofs.LaterPlaces.{further_at, one_more_not, none_further}
use Rattle.pssm_legs.proofs.asking.is_called_further.Goals as goal

pub is_called-requires-clause-place : goal.is_called-requires-clause-place
is_called-requires-clause-place c =
    further_at c.args.legs.now c.as_slice-more.result.now c.loop-k.k c.index-more-k.result c.as_slice-more.ensures.value c.loop-k-test.true c.index-more-k.is

pub is_called-requires-clause-leg : goal.is_called-requires-clause-leg
is_called-requires-clause-leg c =
    c.requires.legs.each _ c.index-more-k.result
    (further_at c.args.legs.now c.as_slice-more.result.now c.loop-k.k c.index-more-k.result c.as_slice-more.ensures.value c.loop-k-test.true c.index-more-k.is)

pub loop-k-preserved : goal.loop-k-preserved
loop-k-preserved c =
    one_more_not c.args.legs.now (λ i a. IsCalledAsTold c.args.machine.now c.args.legs.now i a c.args.fires c.args.item) c.loop-k.k c.index-more-k.result c.loop-k.invariant
    (further_at c.args.legs.now c.as_slice-more.result.now c.loop-k.k c.index-more-k.result c.as_slice-more.ensures.value c.loop-k-test.true c.index-more-k.is)
    (refuted _ c.if-is_called.false c.is_called.ensures)

pub returns-then-is_called : goal.returns-then-is_called
returns-then-is_called c = (
  λ t. (
    c.loop-k.k,
    c.index-more-k.result,
    further_at c.args.legs.now c.as_slice-more.result.now c.loop-k.k c.index-more-k.result c.as_slice-more.ensures.value c.loop-k-test.true c.index-more-k.is,
    c.is_called.ensures.0 c.if-is_called.true,
  ),
  λ h. refl,
)

pub returns : goal.returns
returns c =
    let same = ap length c.as_slice-more.ensures.value in
    let past = c.loop-k-test.false in (
      λ f. absurd (let e : false ≡ true = f in cc),
      λ h. absurd (none_further c.args.legs.now (λ i a. IsCalledAsTold c.args.machine.now c.args.legs.now i a c.args.fires c.args.item) c.loop-k.k c.loop-k.invariant (omega (arith, same, past)) h),
    )
