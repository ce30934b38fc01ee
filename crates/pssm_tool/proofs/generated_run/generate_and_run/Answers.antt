use Rattle.std.proofs.Common.{◌∙◌, ◌≤◌, List, ℕ, [], length, subst, sym}
use Rattle.pssm_semantics.specs.Names.{HasSpelledNames}
use Rattle.pssm_semantics.specs.Proper.{IsWellFormed}
use Rattle.pssm_load.specs.Loads.{ReadsSetting}
use Rattle.pssm_tool.specs.inner.Failures.{IsRefusedFor}
use Rattle.pssm_tool.proofs.GeneratedLaws.{generated_known, generated_read_as, generated_owed, never_refused}
use Rattle.pssm_tool.proofs.generated_run.generate_and_run.Goals as goal

-- The text has few bytes.
pub setting_of-found-requires : goal.setting_of-found-requires
setting_of-found-requires c =
    subst (λ (t : List ℕ). length t ≤ 16777216) (sym (c.as_slice.ensures.value ∙ c.in_ok-text.ensures.text)) (c.generated_texts.ensures.small c.args.number c.requires.few)

pub run_generated-requires-clause-well_formed : goal.run_generated-requires-clause-well_formed
run_generated-requires-clause-well_formed c =
    let well : IsWellFormed c.in-Ok-Ok.setting = (rw c.in-Ok-Ok.field-0-is at c.in-Ok-Ok.ensures.well_formed) in
    well

pub run_generated-requires-clause-spelled : goal.run_generated-requires-clause-spelled
run_generated-requires-clause-spelled c =
    let spelled : HasSpelledNames c.in-Ok-Ok.setting = (rw c.in-Ok-Ok.field-0-is at c.in-Ok-Ok.ensures.spelled) in
    spelled

-- The stimuli are those of the generated setting.
pub run_generated-requires-clause-known : goal.run_generated-requires-clause-known
run_generated-requires-clause-known c =
    let reads : ReadsSetting c.as_slice.result.now c.in-Ok-Ok.setting [] = (rw c.in-Ok-Ok.field-0-is at c.in-Ok-Ok.ensures.loads) in
    let here = subst (λ (t : List ℕ). ReadsSetting t c.in-Ok-Ok.setting []) (c.as_slice.ensures.value ∙ c.in_ok-text.ensures.text) reads in
    generated_known c.one_load.ensures.setting c.args.number c.in-Ok-Ok.setting c.as_slice-in-Ok-Ok.result.now here
    (c.generated_texts.ensures.read c.args.number c.requires.some c.requires.few) (c.generated_settings.ensures.stimuli c.args.number)
    (c.as_slice-in-Ok-Ok.ensures.value ∙ c.in_ok-text.ensures.stimuli)

-- The setting is the generated one.
pub run_generated-requires-clause-generated : goal.run_generated-requires-clause-generated
run_generated-requires-clause-generated c =
    let reads : ReadsSetting c.as_slice.result.now c.in-Ok-Ok.setting [] = (rw c.in-Ok-Ok.field-0-is at c.in-Ok-Ok.ensures.loads) in
    let here = subst (λ (t : List ℕ). ReadsSetting t c.in-Ok-Ok.setting []) (c.as_slice.ensures.value ∙ c.in_ok-text.ensures.text) reads in
    generated_read_as c.one_load.ensures.setting c.args.number c.in-Ok-Ok.setting here (c.generated_texts.ensures.read c.args.number c.requires.some c.requires.few)

pub returns-in-Ok-Ok-clause-owed : goal.returns-in-Ok-Ok-clause-owed
returns-in-Ok-Ok-clause-owed c =
    let reads : ReadsSetting c.as_slice.result.now c.in-Ok-Ok.setting [] = (rw c.in-Ok-Ok.field-0-is at c.in-Ok-Ok.ensures.loads) in
    let here = subst (λ (t : List ℕ). ReadsSetting t c.in-Ok-Ok.setting []) (c.as_slice.ensures.value ∙ c.in_ok-text.ensures.text) reads in
    generated_owed c.run_generated.result c.args.number c.in-Ok-Ok.setting here c.run_generated.ensures.owed

-- The text is read as a setting, and so it has no fault.
pub unreachable-requires : goal.unreachable-requires
unreachable-requires c =
    let lacks : IsRefusedFor c.as_slice.result.now c.in-Ok-Err._answer = (rw c.in-Ok-Err.field-0-is at c.in-Ok-Err.ensures.lacks) in
    never_refused c.one_load.ensures.apart c.args.number c.in-Ok-Err._answer (c.generated_texts.ensures.read c.args.number c.requires.some c.requires.few)
    (subst (λ (t : List ℕ). IsRefusedFor t c.in-Ok-Err._answer) (c.as_slice.ensures.value ∙ c.in_ok-text.ensures.text) lacks)
