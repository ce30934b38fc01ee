-- one place more is noted
use Rattle.pssm_legs.proofs.SpanLaws.{noted_by}
use Rattle.pssm_legs.proofs.further.note.Goals as goal

pub returns-clause-noted : goal.returns-clause-noted
returns-clause-noted c = λ ts k are at next.
    noted_by ts k c.args.t c.args.spans.now.items c.from.result c.from-2.result c.first_of-first.result c.args.place c.index-span.result.now
    c.from.ensures c.from-2.ensures c.requires c.index-span.ensures c.first_of-first.ensures.new c.first_of-first.ensures.old are at next
