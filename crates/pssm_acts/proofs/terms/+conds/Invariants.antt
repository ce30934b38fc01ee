-- How much is left to write.
use Rattle.std.proofs.Common.{◌+◌, ◌*◌}
use Rattle.pssm_acts.proofs.ExprText.{operators}
use Rattle.pssm_acts.proofs.terms.+conds.Given as goal

abbrev pub decreases-put_cond : goal.decreases-put_cond
decreases-put_cond l = 4 * operators l.cond.now

abbrev pub decreases-put_chain : goal.decreases-put_chain
decreases-put_chain l = 4 * (operators l.left.now + operators l.right.now) + 3

abbrev pub decreases-put_unit : goal.decreases-put_unit
decreases-put_unit l = 4 * operators l.cond.now + 2
