use Rattle.pssm_acts.proofs.GuardBack.{guard_read_back}
use Rattle.pssm_acts.proofs.writing.write_cond.Goals as goal

pub returns-clause-read_back : goal.returns-clause-read_back
returns-clause-read_back c = guard_read_back c.args.names.now c.args.cond.now c.new-text.result.items c.put_cond.new.text.items c.new-text.ensures.items c.in_ok-put_cond.ensures
