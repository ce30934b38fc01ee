-- The tests of the parts give the truth.
use Rattle.pssm_semantics.proofs.Meaning.{Not-gives, And-stops, And-goes_on, Or-stops, Or-goes_on}
use Rattle.pssm_semantics.proofs.value.+truth.Goals as goal

pub returns-in-Not : goal.returns-in-Not
returns-in-Not t c = Not-gives c.args.cond.now _ c.get.result.now c.args.store.now c.args.params.now c.truth.result c.in-Not.is c.get.ensures c.truth.ensures

pub returns-then-truth : goal.returns-then-truth
returns-then-truth t c =
    And-goes_on c.args.cond.now _ _ c.get-in-And.result.now c.get-then-truth.result.now c.args.store.now c.args.params.now c.truth-in-And.result c.truth-then-truth.result
    c.in-And.is c.get-in-And.ensures c.get-then-truth.ensures c.truth-in-And.ensures c.if-truth.true c.truth-then-truth.ensures

pub returns-else-truth : goal.returns-else-truth
returns-else-truth t c =
    And-stops c.args.cond.now _ _ c.get-in-And.result.now c.args.store.now c.args.params.now c.truth-in-And.result
    c.in-And.is c.get-in-And.ensures c.truth-in-And.ensures c.if-truth.false

pub returns-then-truth-2 : goal.returns-then-truth-2
returns-then-truth-2 t c =
    Or-stops c.args.cond.now _ _ c.get-in-Or.result.now c.args.store.now c.args.params.now c.truth-in-Or.result
    c.in-Or.is c.get-in-Or.ensures c.truth-in-Or.ensures c.if-truth-2.true

pub returns-else-truth-2 : goal.returns-else-truth-2
returns-else-truth-2 t c =
    Or-goes_on c.args.cond.now _ _ c.get-in-Or.result.now c.get-else-truth-2.result.now c.args.store.now c.args.params.now c.truth-in-Or.result c.truth-else-truth-2.result
    c.in-Or.is c.get-in-Or.ensures c.get-else-truth-2.ensures c.truth-in-Or.ensures c.if-truth-2.false c.truth-else-truth-2.ensures
