use Rattle.pssm_xml.proofs.SomeText.{some_text}
use Rattle.pssm_xml.proofs.laws.some_tree.Goals as goal

pub returns : goal.returns
returns c = some_text
