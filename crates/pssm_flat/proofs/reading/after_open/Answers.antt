use Rattle.std.proofs.Common.{◌≡◌, Option, Some, Result, Ok, IfOk, IfErr, subst, sym}
use Rattle.pssm_acts.specs.declared.act_fault.ActFault.{ActFault}
use Rattle.pssm_acts.specs.Answers.{Answers}
use Rattle.pssm_flat.specs.declared.fault.FlatFault.{FlatFault}
use Rattle.pssm_flat.specs.declared.outline.Outline.{Outline}
use Rattle.pssm_flat.specs.declared.outline.Outline.TheVariants as stages
use Rattle.pssm_flat.specs.inner.Outlines.{lifted, with_line, after_block, AreShaped, IsShaped, IsNoNext}
use Rattle.pssm_flat.proofs.Growth.{grows_by, told_next, told_stuck, told_shaped}
use Rattle.pssm_flat.proofs.reading.after_open.Goals as goal

-- The line is one more of the block.
pub returns-in_default : goal.returns-in_default
returns-in_default c =
    let head = c.args.head in let done = c.args.done in let block = c.args.block in let number = c.args.number in let read = c.grown.result in
    let due = after_block head done block c.args.line in
    let grown = with_line block c.args.line in
    let is : due ≡ lifted (stages.Open head done) grown =
    grows_by head done block c.args.line c.in_default.not-Machine c.in_default.not-End in
    let answers : Answers due read = subst (λ (d : Result (Option Outline) ActFault). Answers d read) (sym is) c.grown.ensures in
    let told = sym c.told.ensures in
    record {
      read = subst (λ (t : Result Outline FlatFault). IfOk t (λ next. due ≡ Ok (Some next))) told (told_next due read number answers);
      shaped = subst (λ (t : Result Outline FlatFault). IfOk t (λ next. AreShaped done → IsShaped next)) told (told_shaped head done grown read number c.grown.ensures);
      stuck = subst (λ (t : Result Outline FlatFault). IfErr t (IsNoNext (stages.Open head done block) due number)) told
          (told_stuck (stages.Open head done block) due read number answers);
    }
