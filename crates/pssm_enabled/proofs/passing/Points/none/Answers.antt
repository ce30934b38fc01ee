-- at first none is found
use Rattle.pssm_enabled.proofs.Marks.{unmarked}
use Rattle.pssm_enabled.proofs.PassingLaws.{none_found}
use Rattle.pssm_enabled.proofs.passing.Points.none.Goals as goal

pub returns-clause-nothing : goal.returns-clause-nothing
returns-clause-nothing c v h = unmarked 4096 v.0 h

pub returns-clause-once : goal.returns-clause-once
returns-clause-once c m = none_found m 4096 4096 _
