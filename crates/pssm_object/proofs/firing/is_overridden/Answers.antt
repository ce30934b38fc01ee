-- what is told of a guard is its value at a take of the signal
use Rattle.std.proofs.Common.{of_calls}
use Rattle.pssm_object.specs.inner.Firing.{truth_at}
use Rattle.pssm_object.proofs.firing.is_overridden.Goals as goal

pub returns : goal.returns
returns c = c.overrides.ensures (truth_at c.args.class.now c.args.store.now c.args.signal.now) (search (of_calls))
