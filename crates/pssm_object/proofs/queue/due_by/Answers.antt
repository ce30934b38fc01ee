-- the State that the item may make complete
use Rattle.std.proofs.Common.{subst}
use Rattle.pssm_config.specs.Tables.{configuration_of}
use Rattle.pssm_object.specs.inner.Queueing.{completing, IsDue}
use Rattle.pssm_object.proofs.queue.due_by.Goals as goal

pub returns-clause-due : goal.returns-clause-due
returns-clause-due c =
    let m = c.args.machine.now in
    let now = configuration_of c.args.config.now in
    subst (λ x. IsDue m now x (completing m c.args.item c.args.how.now) c.due_of.result) c.leaving_by.ensures
    (subst (λ x. IsDue m now c.leaving_by.result x c.due_of.result) c.completing_by.ensures.is c.due_of.ensures.due)
