use Rattle.pssm_acts.proofs.ActRead.{act_read}
use Rattle.pssm_flat.proofs.ActFaults.{act_answers}
use Rattle.pssm_flat.proofs.numbering.act_of.Goals as goal

pub returns-in-Ok : goal.returns-in-Ok
returns-in-Ok c = act_read c.args.names.now c.args.marks c.args.text.now c.in-Ok.act c.read_act_noting.new.marks c.in-Ok.ensures.spelled

pub returns-in-Err : goal.returns-in-Err
returns-in-Err c = rw c.refused.ensures (act_answers c.args.names.now c.args.marks c.args.text.now c.in-Err.fault c.in-Err.ensures.fault)
