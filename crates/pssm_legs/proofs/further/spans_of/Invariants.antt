-- the places so far are noted
use Rattle.pssm_legs.specs.inner.Spans.{AreSpans}
use Rattle.pssm_legs.proofs.further.spans_of.Given as goal

abbrev pub invariant-loop-k : goal.invariant-loop-k
invariant-loop-k l = AreSpans l.items l.k l.spans.items
