use Rattle.std.proofs.Common.{◌-◌, arith, negsuc, refl, sym, ◌∙◌, w64}
use Rattle.std.proofs.lemmas.Int.{to_z-of_z}
use Rattle.pssm_acts.proofs.NumberLaws.{negative_is}
use Rattle.pssm_acts.proofs.numbers.negative.Goals as goal

pub returns : goal.returns
returns c =
    let h = negative_is c.args.at c.args.digits.now c.magnitude-value.result _ (negsuc (c.magnitude-value.result - 1)) (sym c.spells_natural.ensures ∙ c.if-not-spells_natural.false) c.magnitude-value.ensures c.if-value-eq0.false c.if-value-gt-LIMIT.false refl refl in
    rw (c.below_zero.ensures, to_z-of_z w64 (negsuc (c.magnitude-value.result - 1)) (omega arith)) h
