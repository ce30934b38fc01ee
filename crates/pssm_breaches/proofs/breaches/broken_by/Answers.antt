use Rattle.std.proofs.Common.{◌∙◌, sym}
use Rattle.pssm_breaches.specs.Rules.Breaks.{not_inherited}
use Rattle.pssm_breaches.proofs.BreachLaws.{refused, names_none}
use Rattle.pssm_breaches.proofs.breaches.broken_by.Goals as goal

pub returns-in-None : goal.returns-in-None
returns-in-None c = λ rule. names_none c.args.draft.now c.args.m c.args.kind c.args.e (sym c.redefined_by.ensures ∙ c.in-None.is)

pub returns-else-is_inherited : goal.returns-else-is_inherited
returns-else-is_inherited c =
    not_inherited c.in-Some.f (sym c.redefined_by.ensures ∙ c.in-Some.is) (refused c.is_inherited.result c.is_inherited.ensures c.if-is_inherited.false)
