use Rattle.pssm_breaches.specs.Rules.Breaks.{twice, leaf, changed_source, changed_triggers}
use Rattle.pssm_breaches.proofs.BreachLaws.{refused, breaks_none}
use Rattle.pssm_breaches.proofs.breaches.broken_below.Goals as goal

pub returns-then-is_repeated : goal.returns-then-is_repeated
returns-then-is_repeated c = twice c.args.f c.requires.asked.named c.requires.inherited (c.is_repeated.ensures.0 c.if-is_repeated.true)

pub returns-then-redefines_leaf : goal.returns-then-redefines_leaf
returns-then-redefines_leaf c =
    leaf c.args.f c.requires.asked.named c.requires.inherited (refused c.is_repeated.result c.is_repeated.ensures c.if-is_repeated.false)
    (c.redefines_leaf.ensures.0 c.if-redefines_leaf.true)

pub returns-then-not-keeps_source : goal.returns-then-not-keeps_source
returns-then-not-keeps_source c =
    changed_source c.args.f c.requires.asked.named c.requires.inherited (refused c.is_repeated.result c.is_repeated.ensures c.if-is_repeated.false)
    (refused c.redefines_leaf.result c.redefines_leaf.ensures c.if-redefines_leaf.false)
    (refused c.keeps_source.result c.keeps_source.ensures c.if-not-keeps_source.true)

pub returns-then-not-keeps_triggers : goal.returns-then-not-keeps_triggers
returns-then-not-keeps_triggers c =
    changed_triggers c.args.f c.requires.asked.named c.requires.inherited (refused c.is_repeated.result c.is_repeated.ensures c.if-is_repeated.false)
    (refused c.redefines_leaf.result c.redefines_leaf.ensures c.if-redefines_leaf.false)
    (c.keeps_source.ensures.0 c.if-not-keeps_source.false)
    (refused c.keeps_triggers.result c.keeps_triggers.ensures c.if-not-keeps_triggers.true)

pub returns-else-not-keeps_triggers : goal.returns-else-not-keeps_triggers
returns-else-not-keeps_triggers c = λ rule.
    breaks_none c.args.draft.now c.args.m c.args.kind c.args.e c.requires.asked.named c.requires.inherited
    (refused c.is_repeated.result c.is_repeated.ensures c.if-is_repeated.false)
    (refused c.redefines_leaf.result c.redefines_leaf.ensures c.if-redefines_leaf.false)
    (c.keeps_source.ensures.0 c.if-not-keeps_source.false)
    (c.keeps_triggers.ensures.0 c.if-not-keeps_triggers.false)
