use Rattle.pssm_load.proofs.LoadLaws.{file_reads, file_fails}
use Rattle.pssm_load.proofs.loading.read_model_file.Goals as goal

pub returns-clause-reads : goal.returns-clause-reads
returns-clause-reads c =
    file_reads c.args.bytes.now c.in_ok-draft.draft c.settled.result c.requires.form c.in_ok-draft.ensures.reads c.settled.ensures.setting

pub returns-clause-fault : goal.returns-clause-fault
returns-clause-fault c =
    file_fails c.args.bytes.now c.in_ok-draft.draft c.settled.result c.requires.form c.in_ok-draft.ensures.reads c.settled.ensures.fault
