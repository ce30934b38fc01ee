use Rattle.std.proofs.Common.{refl}
use Rattle.pssm_base.specs.Reading.{given}
use Rattle.pssm_semantics.specs.Proper.{IsWellFormed}
use Rattle.pssm_tool.specs.Words.{Judges}
use Rattle.pssm_tool.specs.Due.{File, HasModel}
use Rattle.pssm_tool.specs.inner.Failures.{LacksModel}
use Rattle.pssm_tool.proofs.DueLaws.{lacks_owed, failed_at_model, judged_owed, judged_goes_on, judged_failed}
use Rattle.pssm_tool.proofs.commands.judge_journal.Goals as goal

-- There is no model.
pub returns-in-Ok-Err-clause-owed : goal.returns-in-Ok-Err-clause-owed
returns-in-Ok-Err-clause-owed g c = λ words is.
    let lacks : LacksModel (given (g.I.Inputs.content c.args.inputs.now) (g.I.Inputs.history c.args.inputs.now) (g.I.Inputs.history c.model.new.inputs)) c.args.path.now c.in-Ok-Err.answer = (rw c.in-Ok-Err.field-0-is at c.in-Ok-Err.ensures.lacks) in
    (lacks_owed words (Judges c.args.path.now c.args.journal.now) c.args.path.now (given (g.I.Inputs.content c.args.inputs.now) (g.I.Inputs.history c.args.inputs.now) (g.I.Inputs.history c.model.new.inputs)) c.in-Ok-Err.answer is refl lacks).0

-- Reading the model failed.
pub returns-in-Err-clause-failed : goal.returns-in-Err-clause-failed
returns-in-Err-clause-failed g c = λ words is.
    failed_at_model words (Judges c.args.path.now c.args.journal.now) c.args.path.now (g.I.Inputs.faults c.args.inputs.now) (g.I.Inputs.faults c.model.new.inputs) c.in-Err.failure is refl c.in-Err.ensures.failed

pub judge-requires : goal.judge-requires
judge-requires g c =
    let well : IsWellFormed c.in-Ok-Ok.setting = (rw c.in-Ok-Ok.field-0-is at c.in-Ok-Ok.ensures.well_formed) in
    record { well_formed = well }

-- The journal was judged.
pub returns-clause-owed : goal.returns-clause-owed
returns-clause-owed g c =
    let has : HasModel (given (g.I.Inputs.content c.args.inputs.now) (g.I.Inputs.history c.args.inputs.now) (g.I.Inputs.history c.model.new.inputs)) (File c.args.path.now) c.in-Ok-Ok.setting = (rw c.in-Ok-Ok.field-0-is at c.in-Ok-Ok.ensures.loads) in
    judged_owed (g.I.Inputs.content c.args.inputs.now) (g.I.Inputs.content c.model.new.inputs) (g.I.Inputs.history c.args.inputs.now) (g.I.Inputs.history c.model.new.inputs)
    (g.I.Inputs.history c.judge.new.inputs) (g.I.Inputs.faults c.args.inputs.now) (g.I.Inputs.faults c.model.new.inputs) (g.I.Inputs.faults c.judge.new.inputs)
    c.args.path.now c.args.journal.now c.in-Ok-Ok.setting has c.in-Ok-Ok.ensures.same c.in-Ok-Ok.ensures.counts c.judge.result c.judge.ensures.verdict c.judge.ensures.fault c.answer_of.result c.answer_of.ensures

pub returns-clause-goes_on : goal.returns-clause-goes_on
returns-clause-goes_on g c =
    let has : HasModel (given (g.I.Inputs.content c.args.inputs.now) (g.I.Inputs.history c.args.inputs.now) (g.I.Inputs.history c.model.new.inputs)) (File c.args.path.now) c.in-Ok-Ok.setting = (rw c.in-Ok-Ok.field-0-is at c.in-Ok-Ok.ensures.loads) in
    judged_goes_on (g.I.Inputs.content c.args.inputs.now) (g.I.Inputs.content c.model.new.inputs) (g.I.Inputs.history c.args.inputs.now) (g.I.Inputs.history c.model.new.inputs)
    (g.I.Inputs.history c.judge.new.inputs) (g.I.Inputs.faults c.args.inputs.now) (g.I.Inputs.faults c.model.new.inputs) (g.I.Inputs.faults c.judge.new.inputs)
    c.args.path.now c.args.journal.now c.in-Ok-Ok.setting has c.in-Ok-Ok.ensures.same c.in-Ok-Ok.ensures.counts c.judge.result c.judge.ensures.verdict c.judge.ensures.fault c.answer_of.result c.answer_of.ensures

pub returns-clause-failed : goal.returns-clause-failed
returns-clause-failed g c =
    let has : HasModel (given (g.I.Inputs.content c.args.inputs.now) (g.I.Inputs.history c.args.inputs.now) (g.I.Inputs.history c.model.new.inputs)) (File c.args.path.now) c.in-Ok-Ok.setting = (rw c.in-Ok-Ok.field-0-is at c.in-Ok-Ok.ensures.loads) in
    judged_failed (g.I.Inputs.content c.args.inputs.now) (g.I.Inputs.content c.model.new.inputs) (g.I.Inputs.history c.args.inputs.now) (g.I.Inputs.history c.model.new.inputs)
    (g.I.Inputs.history c.judge.new.inputs) (g.I.Inputs.faults c.args.inputs.now) (g.I.Inputs.faults c.model.new.inputs) (g.I.Inputs.faults c.judge.new.inputs)
    c.args.path.now c.args.journal.now c.in-Ok-Ok.setting has c.in-Ok-Ok.ensures.same c.in-Ok-Ok.ensures.counts c.judge.result c.judge.ensures.verdict c.judge.ensures.fault c.answer_of.result c.answer_of.ensures
