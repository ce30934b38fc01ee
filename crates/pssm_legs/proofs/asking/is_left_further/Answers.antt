-- each turn asks one leg more
use Rattle.std.proofs.Common.{◌≡◌, true, false, length, refl, ap, arith}
use Rattle.pssm_legs.specs.inner.Told.{IsLeftToOpen}
use Rattle.pssm_legs.proofs.NoneSoFar.{refuted}
use Rattle.pssm_legs.proofs.LaterPlaces.{further_at, one_more_not, none_further}
use Rattle.pssm_legs.proofs.asking.is_left_further.Goals as goal

pub is_left_to_open-requires-clause-leg : goal.is_left_to_open-requires-clause-leg
is_left_to_open-requires-clause-leg c =
    c.requires.legs.each _ c.index-more-k.result
    (further_at c.args.legs.now c.as_slice-more.result.now c.loop-k.k c.index-more-k.result c.as_slice-more.ensures.value c.loop-k-test.true c.index-more-k.is)

pub loop-k-preserved : goal.loop-k-preserved
loop-k-preserved c =
    one_more_not c.args.legs.now (λ i a. IsLeftToOpen c.args.machine.now c.args.legs.now i a c.args.s c.args.r) c.loop-k.k c.index-more-k.result c.loop-k.invariant
    (further_at c.args.legs.now c.as_slice-more.result.now c.loop-k.k c.index-more-k.result c.as_slice-more.ensures.value c.loop-k-test.true c.index-more-k.is)
    (refuted _ c.if-is_left_to_open.false c.is_left_to_open.ensures)

pub returns-then-is_left_to_open : goal.returns-then-is_left_to_open
returns-then-is_left_to_open c = (
  λ t. (
    c.loop-k.k,
    c.index-more-k.result,
    further_at c.args.legs.now c.as_slice-more.result.now c.loop-k.k c.index-more-k.result c.as_slice-more.ensures.value c.loop-k-test.true c.index-more-k.is,
    c.is_left_to_open.ensures.0 c.if-is_left_to_open.true,
  ),
  λ h. refl,
)

pub returns : goal.returns
returns c =
    let same = ap length c.as_slice-more.ensures.value in
    let past = c.loop-k-test.false in (
      λ f. absurd (let e : false ≡ true = f in cc),
      λ h. absurd (none_further c.args.legs.now (λ i a. IsLeftToOpen c.args.machine.now c.args.legs.now i a c.args.s c.args.r) c.loop-k.k c.loop-k.invariant (omega (arith, same, past)) h),
    )
