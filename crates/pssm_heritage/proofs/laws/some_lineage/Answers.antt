use Rattle.pssm_heritage.proofs.SomeLineage.{some_lineage}
use Rattle.pssm_heritage.proofs.laws.some_lineage.Goals as goal

pub returns : goal.returns
returns c = some_lineage
