use Rattle.std.proofs.Common.{refl, ◌≡◌}
use Rattle.pssm_base.specs.Reading.{given}
use Rattle.pssm_flat.specs.Text.{flat_text}
use Rattle.pssm_tool.specs.declared.answer.Answer.TheVariants.{Flat}
use Rattle.pssm_tool.specs.Words.{Prints}
use Rattle.pssm_tool.specs.Due.{File, HasModel, on_model}
use Rattle.pssm_tool.specs.inner.Failures.{LacksModel}
use Rattle.pssm_tool.proofs.DueLaws.{lacks_owed, failed_at_model}
use Rattle.pssm_tool.proofs.commands.print_model.Goals as goal

-- There is no model.
pub returns-in-Ok-Err-clause-owed : goal.returns-in-Ok-Err-clause-owed
returns-in-Ok-Err-clause-owed g c = λ words is.
    let lacks : LacksModel (given (g.I.Inputs.content c.args.inputs.now) (g.I.Inputs.history c.args.inputs.now) (g.I.Inputs.history c.model.new.inputs)) c.args.path.now c.in-Ok-Err.answer = (rw c.in-Ok-Err.field-0-is at c.in-Ok-Err.ensures.lacks) in
    (lacks_owed words (Prints c.args.path.now) c.args.path.now (given (g.I.Inputs.content c.args.inputs.now) (g.I.Inputs.history c.args.inputs.now) (g.I.Inputs.history c.model.new.inputs)) c.in-Ok-Err.answer is refl lacks).0

-- Reading the model failed.
pub returns-in-Err-clause-failed : goal.returns-in-Err-clause-failed
returns-in-Err-clause-failed g c = λ words is.
    failed_at_model words (Prints c.args.path.now) c.args.path.now (g.I.Inputs.faults c.args.inputs.now) (g.I.Inputs.faults c.model.new.inputs) c.in-Err.failure is refl c.in-Err.ensures.failed

pub returns-clause-owed : goal.returns-clause-owed
returns-clause-owed g c = λ words is.
    let has : HasModel (given (g.I.Inputs.content c.args.inputs.now) (g.I.Inputs.history c.args.inputs.now) (g.I.Inputs.history c.model.new.inputs)) (File c.args.path.now) c.in-Ok-Ok.setting = (rw c.in-Ok-Ok.field-0-is at c.in-Ok-Ok.ensures.loads) in
    let text : Flat c.from_vec.result ≡ Flat (flat_text c.in-Ok-Ok.setting) = cc (c.from_vec.ensures, c.in_ok-text.ensures) in
    on_model (Prints c.args.path.now) c.in-Ok-Ok.setting (g.I.Inputs.history c.model.new.inputs) is has (refl, text)
