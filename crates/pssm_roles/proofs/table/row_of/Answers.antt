use Rattle.std.proofs.Common.{◌∙◌, ap, sym}
use Rattle.pssm_roles.specs.declared.role.Role.{Role}
use Rattle.pssm_roles.specs.Roles.{row}
use Rattle.pssm_roles.proofs.table.row_of.Goals as goal

pub returns-in-OtherClass : goal.returns-in-OtherClass
returns-in-OtherClass c =
    c.in_only-in-OtherClass.ensures ∙ ap (λ (above : Role). row above c.args.name.now c.args.kind.now c.args.reference c.args.guard) (sym c.in-OtherClass.is)

pub returns-in-Signal : goal.returns-in-Signal
returns-in-Signal c =
    c.in_only-in-Signal.ensures ∙ ap (λ (above : Role). row above c.args.name.now c.args.kind.now c.args.reference c.args.guard) (sym c.in-Signal.is)
