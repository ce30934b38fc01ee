use Rattle.pssm_breaches.proofs.OneLaws.{same_redef_fault}
use Rattle.pssm_breaches.proofs.laws.one_fault.Goals as goal

pub returns : goal.returns
returns c = λ draft m f g h k. same_redef_fault h k
