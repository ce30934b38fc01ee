use Rattle.pssm_acts.proofs.OneReading.{guard_one_reading, act_one_reading, steps_one_reading}
use Rattle.pssm_acts.proofs.reading.one_reading.Goals as goal

pub returns-clause-guard : goal.returns-clause-guard
returns-clause-guard c = guard_one_reading

pub returns-clause-behaviour : goal.returns-clause-behaviour
returns-clause-behaviour c = act_one_reading

pub returns-clause-steps : goal.returns-clause-steps
returns-clause-steps c = steps_one_reading
