use Rattle.std.proofs.Common.{Ok, Err}
use Rattle.pssm_acts.proofs.ActLaws.{act_answers_spelled, act_answers_fit, act_known, act_refused}
use Rattle.pssm_acts.proofs.Unchanged.{act_canonical_read, act_unchanged}
use Rattle.pssm_acts.proofs.TextFaultLaws.{act_answers_fault, act_refused_first, act_read_first}
use Rattle.pssm_acts.proofs.reading.read_act_noting.Goals as goal

pub returns-in-Ok-clause-spelled : goal.returns-in-Ok-clause-spelled
returns-in-Ok-clause-spelled c = act_answers_spelled c.args.names.now c.args.marks.now c.args.text.now (Ok c.in-Ok.act) c.act_in.new.marks c.in-Ok.ensures.gives

pub returns-in-Ok-clause-known : goal.returns-in-Ok-clause-known
returns-in-Ok-clause-known c = act_known c.args.names.now c.args.marks.now c.args.text.now (Ok c.in-Ok.act) c.act_in.new.marks c.in-Ok.ensures.gives

pub returns-in-Ok-clause-fits : goal.returns-in-Ok-clause-fits
returns-in-Ok-clause-fits c = act_answers_fit c.args.names.now c.args.marks.now c.args.text.now (Ok c.in-Ok.act) c.act_in.new.marks c.in-Ok.ensures.gives

pub returns-in-Err-clause-known : goal.returns-in-Err-clause-known
returns-in-Err-clause-known c = act_refused c.args.names.now c.args.marks.now c.args.text.now c.in-Err.fault c.act_in.new.marks c.truncate.new.self c.in-Err.ensures.gives

pub returns-in-Err-clause-fault : goal.returns-in-Err-clause-fault
returns-in-Err-clause-fault c = act_answers_fault c.args.names.now c.args.marks.now c.args.text.now c.in-Err.fault c.act_in.new.marks c.in-Err.ensures.gives

pub returns-in-Ok-clause-unchanged : goal.returns-in-Ok-clause-unchanged
returns-in-Ok-clause-unchanged c = act_unchanged c.args.names.now c.args.marks.now c.args.text.now (Ok c.in-Ok.act) c.act_in.new.marks c.in-Ok.ensures.gives

pub returns-in-Err-clause-canonical : goal.returns-in-Err-clause-canonical
returns-in-Err-clause-canonical c = act_canonical_read c.args.names.now c.args.marks.now c.args.text.now (Err c.in-Err.fault) c.act_in.new.marks c.in-Err.ensures.gives

pub returns-in-Ok-clause-first : goal.returns-in-Ok-clause-first
returns-in-Ok-clause-first c = λ fault is. absurd (act_read_first c.args.names.now c.args.marks.now c.args.text.now c.in-Ok.act c.act_in.new.marks c.in-Ok.ensures.gives fault is)

pub returns-in-Err-clause-first : goal.returns-in-Err-clause-first
returns-in-Err-clause-first c = act_refused_first c.args.names.now c.args.marks.now c.args.text.now c.in-Err.fault c.act_in.new.marks c.in-Err.ensures.gives
