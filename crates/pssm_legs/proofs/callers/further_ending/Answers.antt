-- each turn asks one leg more
use Rattle.std.proofs.Common.{◌+◌}
use Rattle.pssm_legs.proofs.LaterPlaces.{further_at}
use Rattle.pssm_legs.proofs.callers.further_ending.Goals as goal

pub enters_at_end-requires-clause-leg : goal.enters_at_end-requires-clause-leg
enters_at_end-requires-clause-leg c = c.requires.legs.each (c.loop-k.k + 1) c.index-more-k.result (further_at c.args.legs.now c.as_slice-more.result.now c.loop-k.k c.index-more-k.result c.as_slice-more.ensures.value c.loop-k-test.true c.index-more-k.is)

pub returns-then-enters_at_end : goal.returns-then-enters_at_end
returns-then-enters_at_end c = (
  c.index-more-k.result,
  further_at c.args.legs.now c.as_slice-more.result.now c.loop-k.k c.index-more-k.result c.as_slice-more.ensures.value c.loop-k-test.true c.index-more-k.is,
  c.enters_at_end.ensures c.if-enters_at_end.true,
)
