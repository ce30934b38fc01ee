-- the marks tell what is in the queue
use Rattle.std.proofs.Common.{ap}
use Rattle.pssm_object.specs.Queue.{CompletionQueue}
use Rattle.pssm_object.proofs.QueueMarks.{told_in}
use Rattle.pssm_object.proofs.queue.Queue.contains.Goals as goal

pub returns : goal.returns
returns c =
    told_in c.self.inside.states.items c.args.self.now.states c.self.inside.waits.items c.as_slice.result.now c.args.s c.is_marked.result c.self.invariant.0
    c.as_slice.ensures.value c.is_marked.ensures (ap (λ (q : CompletionQueue). q.states) c.self.view_is)
