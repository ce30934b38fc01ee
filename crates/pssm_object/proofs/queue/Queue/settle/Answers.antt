-- the queue fits the machine also without the one State
use Rattle.pssm_object.proofs.QueueLists.{fits_without}
use Rattle.pssm_object.proofs.queue.Queue.settle.Goals as goal

pub join-requires-clause-queue : goal.join-requires-clause-queue
join-requires-clause-queue c =
    fits_without c.args.machine.now c.args.self.now c.leave.new.self c.args.leaves c.requires.queue c.leave.ensures.states c.leave.ensures.room
