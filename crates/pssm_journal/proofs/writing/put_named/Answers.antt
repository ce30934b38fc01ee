use Rattle.pssm_journal.proofs.NamedLines.{step_line}
use Rattle.pssm_journal.proofs.writing.put_named.Goals as goal

-- a step of a do-activity
pub returns-in_ok-put_step-in-DoStep : goal.returns-in_ok-put_step-in-DoStep
returns-in_ok-put_step-in-DoStep c =
    step_line c.put_outs-in-DoStep.result c.args.setting.now c.in-DoStep.object c.object_of-own.result c.args.entry.now c.in-DoStep.state c.in-DoStep.step c.in-DoStep.outs
    c.as_slice-in-DoStep.result.now c.args.text.now.items c.put_step.new.text.items c.put_outs-in-DoStep.new.text.items c.object_name-object.result.now
    c.in-DoStep.is c.object_of-own.ensures c.object_name-object.ensures c.as_slice-in-DoStep.ensures c.in_ok-put_step-in-DoStep.ensures c.put_outs-in-DoStep.ensures
