-- The wrapping operations give the value.
use Rattle.std.proofs.Common.{rules}
use Rattle.pssm_semantics.proofs.Meaning.{Sum-gives, Diff-gives, Prod-gives}
use Rattle.pssm_semantics.proofs.value.+value.Goals as goal

pub returns-in-Sum : goal.returns-in-Sum
returns-in-Sum t c =
    Sum-gives c.args.expr.now _ _ c.get-in-Sum.result.now c.get-in-Sum-2.result.now c.args.store.now c.args.params.now c.value.result c.value-in-Sum.result c.in-Sum.is
    c.get-in-Sum.ensures c.get-in-Sum-2.ensures c.value.ensures c.value-in-Sum.ensures (search rules) (search rules)

pub returns-in-Diff : goal.returns-in-Diff
returns-in-Diff t c =
    Diff-gives c.args.expr.now _ _ c.get-in-Diff.result.now c.get-in-Diff-2.result.now c.args.store.now c.args.params.now c.value-in-Diff.result c.value-in-Diff-2.result c.in-Diff.is
    c.get-in-Diff.ensures c.get-in-Diff-2.ensures c.value-in-Diff.ensures c.value-in-Diff-2.ensures (search rules) (search rules)

pub returns-in-Prod : goal.returns-in-Prod
returns-in-Prod t c =
    Prod-gives c.args.expr.now _ _ c.get-in-Prod.result.now c.get-in-Prod-2.result.now c.args.store.now c.args.params.now c.value-in-Prod.result c.value-in-Prod-2.result c.in-Prod.is
    c.get-in-Prod.ensures c.get-in-Prod-2.ensures c.value-in-Prod.ensures c.value-in-Prod-2.ensures (search rules) (search rules)
