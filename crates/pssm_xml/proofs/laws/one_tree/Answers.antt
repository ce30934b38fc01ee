use Rattle.pssm_xml.proofs.CutLaws.{one_list, one_fault, not_both}
use Rattle.pssm_xml.proofs.laws.one_tree.Goals as goal

pub returns-clause-tree : goal.returns-clause-tree
returns-clause-tree c = one_list

pub returns-clause-apart : goal.returns-clause-apart
returns-clause-apart c = not_both

pub returns-clause-fault : goal.returns-clause-fault
returns-clause-fault c = one_fault
