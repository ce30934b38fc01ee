-- the first State goes alone, since each is there once
use Rattle.std.proofs.Common.{rules, ◌==◌, not}
use Rattle.std.proofs.lemmas.Fn.{filter_same}
use Rattle.pssm_model.specs.declared.ids.VertexId.{VertexId}
use Rattle.pssm_object.proofs.QueueMarks.{popped}
use Rattle.pssm_object.proofs.queue.take_out.Goals as goal

pub returns-then-begins_with-clause-items : goal.returns-then-begins_with-clause-items
returns-then-begins_with-clause-items c =
    popped c.args.s c.args.states.now.items c.pop_front.new.self.items c.requires (c.begins_with.ensures.0 c.if-begins_with.true) c.pop_front.ensures.rest

pub returns-else-begins_with-clause-items : goal.returns-else-begins_with-clause-items
returns-else-begins_with-clause-items c =
    filter_same _ (λ (v : VertexId). not (v.0 == c.args.s.0)) _ (λ x b f' k. search rules) _ _ c.retain.ensures.filtered
