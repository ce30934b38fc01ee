-- what is told of a guard is its value
use Rattle.std.proofs.Common.{of_calls}
use Rattle.pssm_semantics.specs.Behaviours.{guards_under}
use Rattle.pssm_object.proofs.routes.goes_on_by.Goals as goal

pub returns : goal.returns
returns c = c.check_late.ensures (guards_under c.args.class.now c.args.store.now c.args.params.now) (search (of_calls))
