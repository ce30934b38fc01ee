-- each turn asks one leg more
use Rattle.std.proofs.Common.{◌≡◌, true, false, length, refl, ap, arith}
use Rattle.pssm_legs.specs.LegsOf.{leg_list, StandsLater}
use Rattle.pssm_legs.specs.inner.Told.{IsCalledAsTold}
use Rattle.pssm_legs.proofs.NoneSoFar.{refuted}
use Rattle.pssm_legs.proofs.LaterPlaces.{further_at, one_more_not, none_further, none_up_to}
use Rattle.pssm_legs.proofs.asking.is_called_later.Goals as goal

pub is_later_calling-requires-clause-other : goal.is_later_calling-requires-clause-other
is_later_calling-requires-clause-other c =
    further_at c.args.legs.now c.as_slice-more.result.now c.loop-k.k c.index-more-k.result c.as_slice-more.ensures.value c.loop-k-test.true c.index-more-k.is

pub is_later_calling-requires-clause-leg : goal.is_later_calling-requires-clause-leg
is_later_calling-requires-clause-leg c =
    c.requires.legs.each _ c.index-more-k.result
    (further_at c.args.legs.now c.as_slice-more.result.now c.loop-k.k c.index-more-k.result c.as_slice-more.ensures.value c.loop-k-test.true c.index-more-k.is)

pub loop-k-init : goal.loop-k-init
loop-k-init c =
    none_up_to c.args.legs.now c.requires.legs.before (λ j b. IsCalledAsTold c.args.machine.now c.args.legs.now j b c.args.fires c.args.item) c.args.place

pub loop-k-preserved : goal.loop-k-preserved
loop-k-preserved c =
    one_more_not c.args.legs.now (λ j b. StandsLater (leg_list c.args.legs.now) c.args.place j × IsCalledAsTold c.args.machine.now c.args.legs.now j b c.args.fires c.args.item) c.loop-k.k c.index-more-k.result c.loop-k.invariant
    (further_at c.args.legs.now c.as_slice-more.result.now c.loop-k.k c.index-more-k.result c.as_slice-more.ensures.value c.loop-k-test.true c.index-more-k.is)
    (refuted _ c.if-is_later_calling.false c.is_later_calling.ensures)

pub returns-then-is_later_calling : goal.returns-then-is_later_calling
returns-then-is_later_calling c = (
  λ t. (
    c.loop-k.k,
    c.index-more-k.result,
    further_at c.args.legs.now c.as_slice-more.result.now c.loop-k.k c.index-more-k.result c.as_slice-more.ensures.value c.loop-k-test.true c.index-more-k.is,
    c.is_later_calling.ensures.0 c.if-is_later_calling.true,
  ),
  λ h. refl,
)

pub returns : goal.returns
returns c =
    let same = ap length c.as_slice-more.ensures.value in
    let past = c.loop-k-test.false in (
      λ f. absurd (let e : false ≡ true = f in cc),
      λ h. absurd (none_further c.args.legs.now (λ j b. StandsLater (leg_list c.args.legs.now) c.args.place j × IsCalledAsTold c.args.machine.now c.args.legs.now j b c.args.fires c.args.item) c.loop-k.k c.loop-k.invariant (omega (arith, same, past)) h),
    )
