use Rattle.pssm_config.specs.Tables.{configuration_of}
use Rattle.pssm_enabled.specs.inner.Started.{JoinsIn}
use Rattle.pssm_enabled.proofs.ListPlaces.{Below}
use Rattle.pssm_enabled.proofs.starting.join_in.Given as goal

-- those before join in
abbrev pub invariant-loop-t : goal.invariant-loop-t
invariant-loop-t l = Below (JoinsIn l.machine (configuration_of l.config) l.state) l.starts l.t-index
