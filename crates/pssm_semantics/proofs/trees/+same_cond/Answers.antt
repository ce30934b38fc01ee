-- Guards are equal where their parts are.
use Rattle.pssm_semantics.specs.declared.tree.Cond.TheViews as tests
use Rattle.pssm_semantics.proofs.Views.{Not-part, And-parts, Or-parts, part_decides, rest_decides, first_differs, made_otherwise}
use Rattle.pssm_semantics.proofs.trees.+same_cond.Goals as goal

pub returns-in-Not-Not : goal.returns-in-Not-Not
returns-in-Not-Not t c = part_decides tests.Not Not-part c.in-Not-Not.is-0 c.in-Not-Not.is-1 c.get.ensures c.get-in-Not-Not.ensures c.same_cond.ensures

pub returns-then-same_cond : goal.returns-then-same_cond
returns-then-same_cond t c =
    rest_decides tests.And And-parts c.in-And-And.is-0 c.in-And-And.is-1 c.get-in-And-And.ensures c.get-in-And-And-2.ensures c.same_cond-in-And-And.ensures c.if-same_cond.true
    c.get-then-same_cond.ensures c.get-then-same_cond-2.ensures c.same_cond-then-same_cond.ensures

pub returns-else-same_cond : goal.returns-else-same_cond
returns-else-same_cond t c =
    first_differs tests.And And-parts c.in-And-And.is-0 c.in-And-And.is-1 c.get-in-And-And.ensures c.get-in-And-And-2.ensures c.same_cond-in-And-And.ensures c.if-same_cond.false

pub returns-then-same_cond-2 : goal.returns-then-same_cond-2
returns-then-same_cond-2 t c =
    rest_decides tests.Or Or-parts c.in-Or-Or.is-0 c.in-Or-Or.is-1 c.get-in-Or-Or.ensures c.get-in-Or-Or-2.ensures c.same_cond-in-Or-Or.ensures c.if-same_cond-2.true
    c.get-then-same_cond-2-2.ensures c.get-then-same_cond-2-3.ensures c.same_cond-then-same_cond-2.ensures

pub returns-else-same_cond-2 : goal.returns-else-same_cond-2
returns-else-same_cond-2 t c =
    first_differs tests.Or Or-parts c.in-Or-Or.is-0 c.in-Or-Or.is-1 c.get-in-Or-Or.ensures c.get-in-Or-Or-2.ensures c.same_cond-in-Or-Or.ensures c.if-same_cond-2.false

pub returns-in_default : goal.returns-in_default
returns-in_default t c = made_otherwise c.in_default.is-0 c.in_default.not-True-1

pub returns-in_default-2 : goal.returns-in_default-2
returns-in_default-2 t c = made_otherwise c.in_default.is-0 c.in_default.not-False-1

pub returns-in_default-3 : goal.returns-in_default-3
returns-in_default-3 t c = made_otherwise c.in_default.is-0 (c.in_default.not-Compare-1 c.in_default.field-0-0 c.in_default.field-1-0 c.in_default.field-2-0)

pub returns-in_default-4 : goal.returns-in_default-4
returns-in_default-4 t c = made_otherwise c.in_default.is-0 (c.in_default.not-Not-1 c.in_default.field-0-0)

pub returns-in_default-5 : goal.returns-in_default-5
returns-in_default-5 t c = made_otherwise c.in_default.is-0 (c.in_default.not-And-1 c.in_default.field-0-0 c.in_default.field-1-0)

pub returns-in_default-6 : goal.returns-in_default-6
returns-in_default-6 t c = made_otherwise c.in_default.is-0 (c.in_default.not-Or-1 c.in_default.field-0-0 c.in_default.field-1-0)
