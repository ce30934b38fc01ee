-- what a vertex makes complete that the item enters
use Rattle.std.proofs.Common.{◌∙◌, sym, ap}
use Rattle.pssm_object.specs.inner.Queueing.{completing}
use Rattle.pssm_object.proofs.queue.completing_by.Goals as goal

pub returns-in-Enter-clause-is : goal.returns-in-Enter-clause-is
returns-in-Enter-clause-is c =
    c.completing_by_entry.ensures.is c.args.how.now ∙ ap (λ item. completing c.args.machine.now item c.args.how.now) (sym c.in-Enter.is)
