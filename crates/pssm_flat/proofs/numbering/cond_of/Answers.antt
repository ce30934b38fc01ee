use Rattle.pssm_flat.proofs.ActFaults.{cond_answers}
use Rattle.pssm_flat.proofs.numbering.cond_of.Goals as goal

pub returns : goal.returns
returns c = cond_answers c.args.names.now c.args.text.now c.read_cond_known.result c.read_cond_known.ensures.spelled c.read_cond_known.ensures.fault
