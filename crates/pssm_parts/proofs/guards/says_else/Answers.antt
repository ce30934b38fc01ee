use Rattle.pssm_parts.proofs.GuardLaws.{one_else}
use Rattle.pssm_parts.proofs.guards.says_else.Goals as goal

pub returns-clause-word : goal.returns-clause-word
returns-clause-word c = one_else c.args.text.now c.says_else.result c.says_else.ensures
