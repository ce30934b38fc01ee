use Rattle.pssm_redefine.proofs.SomeFlat.{some_flat}
use Rattle.pssm_redefine.proofs.laws.some_flat.Goals as goal

pub returns : goal.returns
returns c = some_flat
