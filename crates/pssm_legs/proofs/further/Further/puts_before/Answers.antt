-- the table tells where both transitions stand
use Rattle.std.proofs.Common.{ap}
use Rattle.pssm_legs.specs.Transitions.{Transitions}
use Rattle.pssm_legs.proofs.SpanLaws.{table_there, told_before}
use Rattle.pssm_legs.proofs.further.Further.puts_before.Goals as goal

pub returns-else-is_empty : goal.returns-else-is_empty
returns-else-is_empty c =
    let are = table_there c.self.inside.items.items c.self.inside.spans.items c.as_slice-table.result.now c.is_empty.result c.self.invariant
    c.as_slice-table.ensures.value c.is_empty.ensures c.if-is_empty.false in
    told_before c.self.inside.items.items c.args.self.now.items c.args.t c.args.u c.as_slice-table.result.now c.span_of.result c.span_of-else-is_empty.result
    c.begins_before.result (ap (λ (x : Transitions). x.items) c.self.view_is) are c.span_of.ensures c.span_of-else-is_empty.ensures c.begins_before.ensures
