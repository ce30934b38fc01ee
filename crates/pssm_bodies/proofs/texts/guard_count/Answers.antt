use Rattle.pssm_bodies.proofs.CountLaws.{says_guard}
use Rattle.pssm_bodies.proofs.texts.guard_count.Goals as goal

pub returns-clause-says : goal.returns-clause-says
returns-clause-says c = says_guard c.args.names.now c.args.marks.now c.args.text.now c.in_ok-_cond._cond c.in_ok-_cond.ensures.spelled
