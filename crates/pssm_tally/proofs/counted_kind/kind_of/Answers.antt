use Rattle.pssm_tally.proofs.KindLaws.{of_no_kind}
use Rattle.pssm_roles.specs.declared.role.Role.TheVariants as role
use Rattle.pssm_tally.proofs.counted_kind.kind_of.Goals as goal

pub returns-in_default : goal.returns-in_default
returns-in_default c =
    of_no_kind c.args.elements.now c.args.n c.role_at.result c.one_role.ensures c.role_at.ensures
    c.in_default.not-Signal c.in_default.not-ActiveClass c.in_default.not-ClassMachine
    (λ i. c.in_default.not-Instance (c.one_role.ensures c.args.elements.now c.args.n c.role_at.result role.Instance c.role_at.ensures i.instance))
