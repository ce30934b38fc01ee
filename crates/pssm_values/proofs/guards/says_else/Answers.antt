use Rattle.pssm_values.proofs.GuardLaws.{else_is, else_is_not}
use Rattle.pssm_values.proofs.guards.says_else.Goals as goal

pub returns-in-Some : goal.returns-in-Some
returns-in-Some c = else_is c.args.body.now c.behind_blanks.result.now c.in-Some.rest.now c.are_blanks.result c.behind_blanks.ensures c.in-Some.ensures c.are_blanks.ensures

pub returns-in-None : goal.returns-in-None
returns-in-None c = else_is_not c.args.body.now c.behind_blanks.result.now c.behind_blanks.ensures c.in-None.ensures
