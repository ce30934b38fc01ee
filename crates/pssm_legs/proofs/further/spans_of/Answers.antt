-- each turn notes one place more
use Rattle.std.proofs.Common.{inr, refl}
use Rattle.std.proofs.lemmas.Option.{slice_get-get_or}
use Rattle.pssm_legs.proofs.SpanLaws.{all_noted}
use Rattle.pssm_legs.proofs.further.spans_of.Goals as goal

pub loop-k-preserved : goal.loop-k-preserved
loop-k-preserved c =
    c.note.ensures.noted c.args.items.now c.loop-k.k c.loop-k.invariant
    (slice_get-get_or c.args.items.now c.loop-k.k (record { 0 = 0 }) c.loop-k-test.true) refl

pub returns : goal.returns
returns c = inr (all_noted c.args.items.now c.loop-k.k c.loop-k.spans.items c.loop-k-test.false c.loop-k.invariant)
