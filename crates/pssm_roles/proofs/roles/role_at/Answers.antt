use Rattle.std.proofs.lemmas.Result.{IfOk-weaker}
use Rattle.pssm_roles.specs.Roles.{HasRole}
use Rattle.pssm_roles.proofs.AskedLaws.{root_has, child_has, first_has}
use Rattle.pssm_roles.proofs.roles.role_at.Goals as goal

pub returns-in-None : goal.returns-in-None
returns-in-None c =
    root_has c.args.elements.now c.args.n c.name.result.now c.root_role.result c.requires.within c.in-None.ensures.parent c.name.ensures c.root_role.ensures

pub returns-in-Some : goal.returns-in-Some
returns-in-Some c =
    let doc = c.args.elements.now in let n = c.args.n in let p = c.in-Some.parent in
    IfOk-weaker c.role_in.result _ (HasRole doc n)
    (λ role gives. child_has doc n p _ role c.requires.within c.in-Some.ensures.parent (first_has doc n p c.args.roles.now _ c.requires.first c.in-Some.ensures.before) gives)
    c.role_in.ensures
