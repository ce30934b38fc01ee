use Rattle.pssm_load.proofs.LoadLaws.{text_wrong}
use Rattle.pssm_load.proofs.loading.read_flat_form.Goals as goal

pub returns-in-Err-clause-fault : goal.returns-in-Err-clause-fault
returns-in-Err-clause-fault c =
    text_wrong c.args.bytes.now c.in-Err.fault c.flat_fault.result c.requires.form (c.in-Err.ensures {u = tt}).fault c.flat_fault.ensures
