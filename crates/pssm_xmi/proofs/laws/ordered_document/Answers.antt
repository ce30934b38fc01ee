use Rattle.pssm_xmi.proofs.Behind.{stand_behind}
use Rattle.pssm_xmi.proofs.laws.ordered_document.Goals as goal

pub returns : goal.returns
returns c = stand_behind
