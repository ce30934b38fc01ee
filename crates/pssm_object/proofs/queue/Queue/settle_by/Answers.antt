-- the State that the item takes out
use Rattle.std.proofs.Common.{subst}
use Rattle.pssm_config.specs.Tables.{configuration_of}
use Rattle.pssm_object.specs.inner.Queueing.{completing, IsDue, QueueGoesOn}
use Rattle.pssm_object.proofs.queue.Queue.settle_by.Goals as goal

pub returns-clause-goes_on : goal.returns-clause-goes_on
returns-clause-goes_on c was how =
    let m = c.args.machine.now in
    let completes = completing m c.args.item how in
    subst (λ x. IsDue m (configuration_of was) x completes c.args.due
    → QueueGoesOn m (configuration_of was) (configuration_of c.args.config.now) x completes c.args.self.now.states c.settle.new.self.states)
    c.leaving_by.ensures (c.settle.ensures.goes_on was completes)
