-- each turn asks one leg more
use Rattle.std.proofs.Common.{◌≡◌, true, false, length, refl, ap, arith}
use Rattle.pssm_legs.specs.inner.Told.{IsOrderedAsTold}
use Rattle.pssm_legs.proofs.NoneSoFar.{refuted}
use Rattle.pssm_legs.proofs.LaterPlaces.{further_at, one_more_not, none_further}
use Rattle.pssm_legs.proofs.ordering.are_ordered_further.Goals as goal

pub are_ordered-requires-clause-place : goal.are_ordered-requires-clause-place
are_ordered-requires-clause-place c =
    further_at c.args.legs.now c.as_slice-more.result.now c.loop-k.k c.index-more-k.result c.as_slice-more.ensures.value c.loop-k-test.true c.index-more-k.is

pub are_ordered-requires-clause-leg : goal.are_ordered-requires-clause-leg
are_ordered-requires-clause-leg c =
    c.requires.legs.each _ c.index-more-k.result
    (further_at c.args.legs.now c.as_slice-more.result.now c.loop-k.k c.index-more-k.result c.as_slice-more.ensures.value c.loop-k-test.true c.index-more-k.is)

pub loop-k-preserved : goal.loop-k-preserved
loop-k-preserved c =
    one_more_not c.args.legs.now (λ i a. IsOrderedAsTold c.args.machine.now c.args.legs.now i a c.args.fires c.args.first c.args.second) c.loop-k.k c.index-more-k.result c.loop-k.invariant
    (further_at c.args.legs.now c.as_slice-more.result.now c.loop-k.k c.index-more-k.result c.as_slice-more.ensures.value c.loop-k-test.true c.index-more-k.is)
    (refuted _ c.if-are_ordered.false c.are_ordered.ensures)

pub returns-then-are_ordered : goal.returns-then-are_ordered
returns-then-are_ordered c = (
  λ t. (
    c.loop-k.k,
    c.index-more-k.result,
    further_at c.args.legs.now c.as_slice-more.result.now c.loop-k.k c.index-more-k.result c.as_slice-more.ensures.value c.loop-k-test.true c.index-more-k.is,
    c.are_ordered.ensures.0 c.if-are_ordered.true,
  ),
  λ h. refl,
)

pub returns : goal.returns
returns c =
    let same = ap length c.as_slice-more.ensures.value in
    let past = c.loop-k-test.false in (
      λ f. absurd (let e : false ≡ true = f in cc),
      λ h. absurd (none_further c.args.legs.now (λ i a. IsOrderedAsTold c.args.machine.now c.args.legs.now i a c.args.fires c.args.first c.args.second) c.loop-k.k c.loop-k.invariant (omega (arith, same, past)) h),
    )
