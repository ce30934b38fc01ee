-- there is room for one that is not in the queue
use Rattle.std.proofs.Common.{◌≡◌, ◌∙◌, false, true, sym, arith}
use Rattle.pssm_object.proofs.QueueLists.{has_room}
use Rattle.pssm_object.proofs.queue.Queue.join.Goals as goal

pub push-requires-clause-absent : goal.push-requires-clause-absent
push-requires-clause-absent c = λ inside. (let clash : false ≡ true = sym c.if-not-contains.true ∙ c.contains.ensures.1 inside in absurd (cc))

pub push-requires-clause-room : goal.push-requires-clause-room
push-requires-clause-room c =
    has_room c.args.machine.now c.args.self.now c.args.s c.requires.queue c.requires.vertex
    (λ inside. let clash : false ≡ true = sym c.if-not-contains.true ∙ c.contains.ensures.1 inside in absurd (cc))

pub push-requires-clause-there : goal.push-requires-clause-there
push-requires-clause-there c = let room = c.requires.queue.room in let inside = c.requires.vertex in omega (arith, room, inside)
