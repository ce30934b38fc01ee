use Rattle.pssm_settings.proofs.ClassLaws.{redefined_so}
use Rattle.pssm_settings.proofs.classes.flat_of.Goals as goal

pub returns-in-Err : goal.returns-in-Err
returns-in-Err c = record { flat = tt; fault = redefined_so c.args.draft.now c.args.number c.in-Err.fault c.redef_fault.result c.redef_fault.ensures c.in-Err.ensures.fault }
