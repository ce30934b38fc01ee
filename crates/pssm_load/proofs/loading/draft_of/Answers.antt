use Rattle.pssm_load.proofs.LoadLaws.{file_wrong}
use Rattle.pssm_load.proofs.loading.draft_of.Goals as goal

pub returns-in-Err-clause-fault : goal.returns-in-Err-clause-fault
returns-in-Err-clause-fault c =
    file_wrong c.args.bytes.now c.in-Err.fault c.file_fault.result c.requires.form (c.in-Err.ensures {u = tt}).fault c.file_fault.ensures
