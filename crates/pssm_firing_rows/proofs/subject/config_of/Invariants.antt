-- the configuration stays one of the machine
use Rattle.pssm_config.specs.Tables.{Fits}
use Rattle.pssm_firing_rows.proofs.subject.config_of.Given as goal

abbrev pub invariant-loop-number : goal.invariant-loop-number
invariant-loop-number l = Fits l.machine l.config
