use Rattle.pssm_flaws.proofs.FlawLaws.{flaw_by_role, both_ways}
use Rattle.pssm_flaws.proofs.first.has_flaw.Goals as goal

pub returns : goal.returns
returns c =
    let doc = c.args.elements.now in let role = c.role_at-role.result in
    both_ways c.is_flaw_of.ensures
    (flaw_by_role doc c.args.n role c.args.flaw (λ s is. c.one_role.ensures doc c.args.n s role is c.role_at-role.ensures) c.role_at-role.ensures)
