use Rattle.std.proofs.Common.{List, ℕ, refl, subst, sym}
use Rattle.std.specs.Borrow.{Bor}
use Rattle.std.specs.List.{AllByRecursion}
use Rattle.pssm_base.specs.Reading.{given}
use Rattle.pssm_semantics.specs.declared.setting.Setting.{Setting}
use Rattle.pssm_semantics.specs.declared.stimulus.Stimulus.{Stimulus}
use Rattle.pssm_semantics.specs.Names.{HasSpelledNames}
use Rattle.pssm_semantics.specs.Proper.{IsWellFormed}
use Rattle.pssm_semantics.specs.Known.{IsStimulusOf}
use Rattle.pssm_tool.specs.inner.Commands.{meaning_of_run, lent}
use Rattle.pssm_tool.specs.Due.{File, HasModel, unfit, ran, on_model}
use Rattle.pssm_tool.specs.Stimuli.{AreStimuli}
use Rattle.pssm_tool.specs.inner.Running.{NameNoStimuli}
use Rattle.pssm_tool.specs.inner.Failures.{LacksModel}
use Rattle.pssm_tool.proofs.CallLaws.{all_known}
use Rattle.pssm_tool.proofs.DueLaws.{lacks_owed, failed_at_model}
use Rattle.pssm_tool.proofs.TextLaws.{run_text}
use Rattle.pssm_tool.proofs.commands.run_model.Goals as goal

-- There is no model.
pub returns-in-Ok-Err-clause-owed : goal.returns-in-Ok-Err-clause-owed
returns-in-Ok-Err-clause-owed g c = λ words is.
    let lacks : LacksModel (given (g.I.Inputs.content c.args.inputs.now) (g.I.Inputs.history c.args.inputs.now) (g.I.Inputs.history c.model.new.inputs)) c.args.asked.now.model.now c.in-Ok-Err.answer = (rw c.in-Ok-Err.field-0-is at c.in-Ok-Err.ensures.lacks) in
    (lacks_owed words (meaning_of_run c.args.asked.now) c.args.asked.now.model.now (given (g.I.Inputs.content c.args.inputs.now) (g.I.Inputs.history c.args.inputs.now) (g.I.Inputs.history c.model.new.inputs)) c.in-Ok-Err.answer is refl lacks).0

-- Reading the model failed.
pub returns-in-Err-clause-failed : goal.returns-in-Err-clause-failed
returns-in-Err-clause-failed g c = λ words is.
    failed_at_model words (meaning_of_run c.args.asked.now) c.args.asked.now.model.now (g.I.Inputs.faults c.args.inputs.now) (g.I.Inputs.faults c.model.new.inputs) c.in-Err.failure is refl c.in-Err.ensures.failed

-- A stimulus does not fit the model.
pub returns-in_default-clause-owed : goal.returns-in_default-clause-owed
returns-in_default-clause-owed g c = λ words is.
    let has : HasModel (given (g.I.Inputs.content c.args.inputs.now) (g.I.Inputs.history c.args.inputs.now) (g.I.Inputs.history c.model.new.inputs)) (File c.args.asked.now.model.now) c.in-Ok-Ok.setting = (rw c.in-Ok-Ok.field-0-is at c.in-Ok-Ok.ensures.loads) in
    on_model (meaning_of_run c.args.asked.now) c.in-Ok-Ok.setting (g.I.Inputs.history c.model.new.inputs) is has
    (refl, unfit (subst (λ (t : List (Bor (List ℕ))). NameNoStimuli c.in-Ok-Ok.setting (lent t)) c.deref.ensures.value (rw c.in_default.is at c.in_ok-stimuli.ensures.none)) refl)

pub run_by_workers-requires-clause-well_formed : goal.run_by_workers-requires-clause-well_formed
run_by_workers-requires-clause-well_formed g c κs within =
    let well : IsWellFormed c.in-Ok-Ok.setting = (rw c.in-Ok-Ok.field-0-is at c.in-Ok-Ok.ensures.well_formed) in
    well

pub run_by_workers-requires-clause-known : goal.run_by_workers-requires-clause-known
run_by_workers-requires-clause-known g c κs within =
    let named = rw c.in-Some.is at c.in_ok-stimuli.ensures.name in
    subst (λ (t : List Stimulus). AllByRecursion (IsStimulusOf c.in-Ok-Ok.setting) t) (sym c.as_slice.ensures.value) (all_known c.in-Ok-Ok.setting (lent c.deref.result.now) c.in-Some.stimuli.items named)

-- Its names are names.
pub text_of-text-requires : goal.text_of-text-requires
text_of-text-requires g c =
    let spelled : HasSpelledNames c.in-Ok-Ok.setting = (rw c.in-Ok-Ok.field-0-is at c.in-Ok-Ok.ensures.spelled) in
    subst (λ (s : Setting). HasSpelledNames s) (sym c.in_ok-system.ensures.setting) spelled

pub returns-clause-owed : goal.returns-clause-owed
returns-clause-owed g c = λ words is.
    let has : HasModel (given (g.I.Inputs.content c.args.inputs.now) (g.I.Inputs.history c.args.inputs.now) (g.I.Inputs.history c.model.new.inputs)) (File c.args.asked.now.model.now) c.in-Ok-Ok.setting = (rw c.in-Ok-Ok.field-0-is at c.in-Ok-Ok.ensures.loads) in
    let named = subst (λ (t : List (Bor (List ℕ))). AreStimuli c.in-Ok-Ok.setting (lent t) c.in-Some.stimuli.items) c.deref.ensures.value (rw c.in-Some.is at c.in_ok-stimuli.ensures.name) in
    let text = run_text c.in-Ok-Ok.setting c.in_ok-system.system.setting c.in-Some.stimuli.items c.as_slice.result.now c.args.asked.now.options.limit c.in_ok-system.system.journal c.in_ok-text.field-0 c.in_ok-system.ended
    c.in_ok-system.ensures.setting c.as_slice.ensures.value (c.in_ok-text.ensures {u = tt}) c.in_ok-system.ensures.ends in
    on_model (meaning_of_run c.args.asked.now) c.in-Ok-Ok.setting (g.I.Inputs.history c.model.new.inputs) is has
    (refl, ran c.in-Some.stimuli.items c.in_ok-text.field-0 c.in_ok-system.ended named text refl)
