use Rattle.pssm_profile.proofs.FirstLaws.{one_comes}
use Rattle.pssm_profile.proofs.laws.one_flaw_comes.Goals as goal

pub returns : goal.returns
returns c = one_comes
