-- the State at the end is marked too
use Rattle.std.proofs.Common.{◌≡◌, Contains, length, ap, subst, true, arith}
use Rattle.std.proofs.Math.ListN.{length-set}
use Rattle.pssm_object.specs.Queue.{CompletionQueue}
use Rattle.pssm_object.proofs.QueueMarks.{pushed}
use Rattle.pssm_object.proofs.queue.Queue.push.Goals as goal

pub invariant_of-self : goal.invariant_of-self
invariant_of-self c =
    let room : length c.self.inside.waits.items ≡ c.args.self.now.room = ap (λ (q : CompletionQueue). q.room) c.self.view_is in
    let states = ap (λ (q : CompletionQueue). q.states) c.self.view_is in
    let there = c.requires.there in (
      pushed c.self.inside.states.items c.push_back_reserved.new.self.items c.self.inside.waits.items c.args.s c.from.result c.from.ensures
          (omega (arith, room, there)) c.self.invariant.0 (λ inside. c.requires.absent (subst (λ xs. Contains xs c.args.s) states inside))
          c.push_back_reserved.ensures.items,
      let len = length-set c.self.inside.waits.items c.from.result true in
          let cap = c.push_back_reserved.ensures.capacity in
          let was = c.self.invariant.1 in
          omega (arith, len, cap, was),
    )
