-- The comparison by codes is what the function says.
use Rattle.pssm_model.specs.Codes.{same_by_is}
use Rattle.pssm_semantics.specs.contracts.tree.Cond.{the_row}
use Rattle.pssm_semantics.proofs.trees.CondPartialEq.eq.Goals as goal

pub returns : goal.returns
returns c = same_by_is the_row.coded _ _ _ c.same_cond.ensures
