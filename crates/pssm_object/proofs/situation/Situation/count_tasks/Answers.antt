-- those of the step, and the do steps
use Rattle.std.proofs.Common.{◌∙◌}
use Rattle.pssm_object.specs.inner.Situations.{standing_of}
use Rattle.pssm_object.proofs.TaskSums.{counted_none, counted_all, few_both}
use Rattle.pssm_object.proofs.situation.Situation.count_tasks.Goals as goal

pub returns-then-self : goal.returns-then-self
returns-then-self c = counted_none c.args.machine.now (standing_of c.args.self.now) c.if-self.true

pub count_all-requires-clause-few : goal.count_all-requires-clause-few
count_all-requires-clause-few c = few_both c.args.machine.now (standing_of c.args.self.now) c.if-self.false 4294967296 c.requires.few

pub returns-else-self : goal.returns-else-self
returns-else-self c = (c.count_all.ensures ∙ counted_all c.args.machine.now (standing_of c.args.self.now) c.if-self.false)
