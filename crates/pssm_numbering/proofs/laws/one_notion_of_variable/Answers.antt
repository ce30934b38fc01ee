use Rattle.pssm_numbering.proofs.VariableLaws.{same_variable}
use Rattle.pssm_numbering.proofs.laws.one_notion_of_variable.Goals as goal

pub returns : goal.returns
returns c = λ file are n. same_variable c.one_role.ensures file are n
