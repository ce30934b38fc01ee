use Rattle.pssm_roles.proofs.RoleLaws.{same_role}
use Rattle.pssm_roles.proofs.laws.one_role.Goals as goal

pub returns : goal.returns
returns c = λ doc n r s one other. same_role one other
