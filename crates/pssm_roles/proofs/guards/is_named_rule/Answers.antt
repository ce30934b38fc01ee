use Rattle.std.proofs.Common.{sym, ◌∙◌, None, Some}
use Rattle.pssm_roles.proofs.GuardLaws.{kept_names, has_own}
use Rattle.pssm_roles.proofs.guards.is_named_rule.Goals as goal

pub returns-in-None : goal.returns-in-None
returns-in-None c =
    sym (kept_names c.args.elements.now c.args.t c.args.n c.args.guards.now _ None c.requires.known c.requires.parent (sym c.in-None.is))

pub returns-in-Some : goal.returns-in-Some
returns-in-Some c =
    let doc = c.args.elements.now in
    has_own doc c.args.n c.in-Some.one.id.now c.has_id.result c.requires.within c.has_id.ensures
    ∙ sym (kept_names doc c.args.t c.args.n c.args.guards.now _ (Some c.in-Some.one) c.requires.known c.requires.parent (sym c.in-Some.is))
