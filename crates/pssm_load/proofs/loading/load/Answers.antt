use Rattle.pssm_load.proofs.LoadLaws.{loads_kept, well_formed_kept, breaks_rules}
use Rattle.pssm_load.proofs.loading.load.Goals as goal

pub returns-in-Ok-clause-loads : goal.returns-in-Ok-clause-loads
returns-in-Ok-clause-loads c =
    loads_kept c.args.bytes.now c.in-Ok.setting c.well_formed-in-Ok.result c.in-Ok.ensures.reads c.well_formed-in-Ok.ensures.same c.well_formed-in-Ok.ensures.rules

-- Its machines break no rule.
pub returns-in-Ok-clause-well_formed : goal.returns-in-Ok-clause-well_formed
returns-in-Ok-clause-well_formed c =
    well_formed_kept c.in-Ok.setting c.well_formed-in-Ok.result c.in-Ok.ensures.proper c.well_formed-in-Ok.ensures.same c.well_formed-in-Ok.ensures.rules

pub returns-in-Ok-clause-fault : goal.returns-in-Ok-clause-fault
returns-in-Ok-clause-fault c =
    breaks_rules c.args.bytes.now c.in-Ok.setting c.well_formed-in-Ok.result c.in-Ok.ensures.reads c.well_formed-in-Ok.ensures.broken
