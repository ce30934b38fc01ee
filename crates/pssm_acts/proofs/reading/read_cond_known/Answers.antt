use Rattle.pssm_acts.proofs.CondFaults.{answers_fault, answers_first}
use Rattle.pssm_acts.proofs.CondLaws.{answers_spelled, answers_fit, answers_known}
use Rattle.pssm_acts.proofs.Unchanged.{cond_canonical_read, cond_unchanged}
use Rattle.pssm_acts.proofs.reading.read_cond_known.Goals as goal

pub returns-clause-spelled : goal.returns-clause-spelled
returns-clause-spelled c = answers_spelled c.args.names.now c.args.text.now c.guard_of.result c.guard_of.ensures

pub returns-clause-known : goal.returns-clause-known
returns-clause-known c = answers_known c.args.names.now c.args.text.now c.guard_of.result c.guard_of.ensures

pub returns-clause-fits : goal.returns-clause-fits
returns-clause-fits c = answers_fit c.args.names.now c.args.text.now c.guard_of.result c.guard_of.ensures

pub returns-clause-fault : goal.returns-clause-fault
returns-clause-fault c = answers_fault c.args.names.now c.args.text.now c.guard_of.result c.guard_of.ensures

pub returns-clause-first : goal.returns-clause-first
returns-clause-first c = answers_first c.args.names.now c.args.text.now c.guard_of.result c.guard_of.ensures

pub returns-clause-canonical : goal.returns-clause-canonical
returns-clause-canonical c = cond_canonical_read c.args.names.now c.args.text.now c.guard_of.result c.guard_of.ensures

pub returns-clause-unchanged : goal.returns-clause-unchanged
returns-clause-unchanged c = cond_unchanged c.args.names.now c.args.text.now c.guard_of.result c.guard_of.ensures
