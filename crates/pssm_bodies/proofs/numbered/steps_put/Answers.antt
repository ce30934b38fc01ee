use Rattle.std.proofs.Common.{◌≡◌, ℕ, List, ap, subst}
use Rattle.pssm_acts.specs.ActGrammar.{SpellsSteps}
use Rattle.pssm_semantics.specs.declared.setting.Program.{Program}
use Rattle.pssm_bodies.specs.Readings.{with_marks}
use Rattle.pssm_bodies.specs.Programs.{AreNumbered, steps}
use Rattle.pssm_bodies.proofs.numbered.steps_put.Goals as goal

pub returns-clause-numbers : goal.returns-clause-numbers
returns-clause-numbers c =
    let names = c.args.names.now in
    let acts = c.in_ok-steps.steps.items in
    let noted = c.in_ok-steps.marks in
    let marks : c.program.inside.marks ≡ c.args.program.marks = ap (λ (p : Program). p.marks) c.program.view_is in
    let spelled = subst (λ (known : List (List ℕ)). SpellsSteps names known c.text_of.result.now acts noted) marks c.in_ok-steps.ensures.spelled in
    let numbered = subst (λ (p : Program). AreNumbered (with_marks p noted) acts c.in_ok-with_acts.field-0.0.items c.in_ok-with_acts.field-0.1)
    c.program.view_is c.in_ok-with_acts.ensures in
    steps acts noted (subst (λ (text : List ℕ). SpellsSteps names c.args.program.marks text acts noted) c.text_of.ensures spelled) numbered
