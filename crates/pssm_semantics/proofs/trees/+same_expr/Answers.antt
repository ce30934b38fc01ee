-- Operations are equal where both operands are.
use Rattle.pssm_semantics.specs.declared.tree.Expr.TheViews as views
use Rattle.pssm_semantics.proofs.Views.{Sum-parts, Diff-parts, Prod-parts, rest_decides, first_differs, made_otherwise}
use Rattle.pssm_semantics.proofs.trees.+same_expr.Goals as goal

pub returns-then-same_expr : goal.returns-then-same_expr
returns-then-same_expr t c =
    rest_decides views.Sum Sum-parts c.in-Sum-Sum.is-0 c.in-Sum-Sum.is-1 c.get.ensures c.get-in-Sum-Sum.ensures c.same_expr.ensures c.if-same_expr.true
    c.get-then-same_expr.ensures c.get-then-same_expr-2.ensures c.same_expr-then-same_expr.ensures

pub returns-else-same_expr : goal.returns-else-same_expr
returns-else-same_expr t c = first_differs views.Sum Sum-parts c.in-Sum-Sum.is-0 c.in-Sum-Sum.is-1 c.get.ensures c.get-in-Sum-Sum.ensures c.same_expr.ensures c.if-same_expr.false

pub returns-then-same_expr-2 : goal.returns-then-same_expr-2
returns-then-same_expr-2 t c =
    rest_decides views.Diff Diff-parts c.in-Diff-Diff.is-0 c.in-Diff-Diff.is-1 c.get-in-Diff-Diff.ensures c.get-in-Diff-Diff-2.ensures c.same_expr-in-Diff-Diff.ensures c.if-same_expr-2.true
    c.get-then-same_expr-2-2.ensures c.get-then-same_expr-2-3.ensures c.same_expr-then-same_expr-2.ensures

pub returns-else-same_expr-2 : goal.returns-else-same_expr-2
returns-else-same_expr-2 t c =
    first_differs views.Diff Diff-parts c.in-Diff-Diff.is-0 c.in-Diff-Diff.is-1 c.get-in-Diff-Diff.ensures c.get-in-Diff-Diff-2.ensures c.same_expr-in-Diff-Diff.ensures c.if-same_expr-2.false

pub returns-then-same_expr-3 : goal.returns-then-same_expr-3
returns-then-same_expr-3 t c =
    rest_decides views.Prod Prod-parts c.in-Prod-Prod.is-0 c.in-Prod-Prod.is-1 c.get-in-Prod-Prod.ensures c.get-in-Prod-Prod-2.ensures c.same_expr-in-Prod-Prod.ensures c.if-same_expr-3.true
    c.get-then-same_expr-3.ensures c.get-then-same_expr-3-2.ensures c.same_expr-then-same_expr-3.ensures

pub returns-else-same_expr-3 : goal.returns-else-same_expr-3
returns-else-same_expr-3 t c =
    first_differs views.Prod Prod-parts c.in-Prod-Prod.is-0 c.in-Prod-Prod.is-1 c.get-in-Prod-Prod.ensures c.get-in-Prod-Prod-2.ensures c.same_expr-in-Prod-Prod.ensures c.if-same_expr-3.false

pub returns-in_default : goal.returns-in_default
returns-in_default t c = made_otherwise c.in_default.is-0 (c.in_default.not-Num-1 c.in_default.field-0-0)

pub returns-in_default-2 : goal.returns-in_default-2
returns-in_default-2 t c = made_otherwise c.in_default.is-0 (c.in_default.not-Var-1 c.in_default.field-0-0)

pub returns-in_default-3 : goal.returns-in_default-3
returns-in_default-3 t c = made_otherwise c.in_default.is-0 (c.in_default.not-Param-1 c.in_default.field-0-0)

pub returns-in_default-4 : goal.returns-in_default-4
returns-in_default-4 t c = made_otherwise c.in_default.is-0 (c.in_default.not-Sum-1 c.in_default.field-0-0 c.in_default.field-1-0)

pub returns-in_default-5 : goal.returns-in_default-5
returns-in_default-5 t c = made_otherwise c.in_default.is-0 (c.in_default.not-Diff-1 c.in_default.field-0-0 c.in_default.field-1-0)

pub returns-in_default-6 : goal.returns-in_default-6
returns-in_default-6 t c = made_otherwise c.in_default.is-0 (c.in_default.not-Prod-1 c.in_default.field-0-0 c.in_default.field-1-0)
