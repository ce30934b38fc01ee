use Rattle.pssm_heritage.proofs.OneLaws.{same_form}
use Rattle.pssm_heritage.proofs.laws.one_form.Goals as goal

pub returns : goal.returns
returns c = λ draft kind e o p f g. same_form f g
