use Rattle.pssm_settings.proofs.ClassLaws.{made_fails}
use Rattle.pssm_settings.proofs.classes.class_of.Goals as goal

pub returns-clause-fault : goal.returns-clause-fault
returns-clause-fault c =
    made_fails c.args.draft.now c.args.number c.index-as_slice-number.result c.in_ok-flat.flat c.in_ok-programmed.programmed.machine c.in_ok-programmed.programmed.program
    c.as_slice.result.now c.made.result c.as_slice.ensures c.requires.there c.index-as_slice-number.is c.in_ok-flat.ensures.flat c.in_ok-programmed.ensures.read c.made.ensures.fault
