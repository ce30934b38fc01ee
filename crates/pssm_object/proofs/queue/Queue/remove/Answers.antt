-- a State that is not marked is not in the queue
use Rattle.std.proofs.Common.{◌≡◌, false, true, length, sym, ap, ◌∙◌, arith}
use Rattle.std.proofs.Math.ListN.{length-set}
use Rattle.pssm_object.specs.Queue.{CompletionQueue}
use Rattle.pssm_object.proofs.QueueMarks.{told_in, taken, absent_stays}
use Rattle.pssm_object.proofs.queue.Queue.remove.Goals as goal

pub invariant_of-self : goal.invariant_of-self
invariant_of-self c = (
  taken c.self.inside.states.items c.take_out.new.states.items c.self.inside.waits.items c.as_slice.result.now c.args.s c.from.result c.is_marked.result
      c.from.ensures c.as_slice.ensures.value c.is_marked.ensures c.if-is_marked.true c.self.invariant.0 c.take_out.ensures.items,
  let len = length-set c.self.inside.waits.items c.from.result false in
      let cap = c.take_out.ensures.capacity in
      let was = c.self.invariant.1 in
      omega (arith, len, cap, was),
)

pub returns-else-is_marked-clause-states : goal.returns-else-is_marked-clause-states
returns-else-is_marked-clause-states c =
    sym (absent_stays c.args.s c.args.self.now.states (λ inside.
    let told = told_in c.self.inside.states.items c.args.self.now.states c.self.inside.waits.items c.as_slice.result.now c.args.s c.is_marked.result
    c.self.invariant.0 c.as_slice.ensures.value c.is_marked.ensures (ap (λ (q : CompletionQueue). q.states) c.self.view_is) in
    let clash : false ≡ true = sym c.if-is_marked.false ∙ told.1 inside in absurd (cc)))
