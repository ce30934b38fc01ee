use Rattle.pssm_redefine.proofs.SameFlat.{one_flat}
use Rattle.pssm_redefine.proofs.laws.one_flat.Goals as goal

pub returns : goal.returns
returns c = one_flat
