-- The operands with the sign between them are the text, and have fewer operators.
use Rattle.std.proofs.Common.{◌++◌, ap, arith}
use Rattle.std.proofs.lemmas.Result.{IfOk-equal}
use Rattle.pssm_acts.proofs.ExprText.{Not-count, And-count, Or-count, Not-written, And-text, Or-text}
use Rattle.pssm_acts.proofs.terms.+conds.Goals as goal

pub put_cond-put_unit-requires : goal.put_cond-put_unit-requires
put_cond-put_unit-requires t c = (omega (arith, c.decreases, Not-count c.args.cond.now _ c.get.result.now c.in-Not.is c.get.ensures), tt)

pub put_cond-returns-in_ok-push-in-Not : goal.put_cond-returns-in_ok-push-in-Not
put_cond-returns-in_ok-push-in-Not t c =
    IfOk-equal c.put_unit.result _ _ _ c.put_unit.ensures
    (Not-written c.args.names.now c.args.text.now.items _ c.args.cond.now _ c.get.result.now c.in_ok-push-in-Not.ensures.items c.in-Not.is c.get.ensures)

pub put_cond-put_chain-requires : goal.put_cond-put_chain-requires
put_cond-put_chain-requires t c =
    (omega (arith, c.decreases, And-count c.args.cond.now _ _ c.get-in-And.result.now c.get-in-And-2.result.now c.in-And.is c.get-in-And.ensures c.get-in-And-2.ensures), tt)

pub put_cond-returns-in-And : goal.put_cond-returns-in-And
put_cond-returns-in-And t c =
    IfOk-equal c.put_chain.result _ _ _ c.put_chain.ensures
    (ap (λ xs. c.args.text.now.items ++ xs) (And-text c.args.names.now c.args.cond.now _ _ c.get-in-And.result.now c.get-in-And-2.result.now c.in-And.is c.get-in-And.ensures c.get-in-And-2.ensures))

pub put_cond-put_chain-requires-in-Or : goal.put_cond-put_chain-requires-in-Or
put_cond-put_chain-requires-in-Or t c =
    (omega (arith, c.decreases, Or-count c.args.cond.now _ _ c.get-in-Or.result.now c.get-in-Or-2.result.now c.in-Or.is c.get-in-Or.ensures c.get-in-Or-2.ensures), tt)

pub put_cond-returns-in-Or : goal.put_cond-returns-in-Or
put_cond-returns-in-Or t c =
    IfOk-equal c.put_chain-in-Or.result _ _ _ c.put_chain-in-Or.ensures
    (ap (λ xs. c.args.text.now.items ++ xs) (Or-text c.args.names.now c.args.cond.now _ _ c.get-in-Or.result.now c.get-in-Or-2.result.now c.in-Or.is c.get-in-Or.ensures c.get-in-Or-2.ensures))
