use Rattle.std.proofs.Common.{◌∙◌, ap, length, sym, refl}
use Rattle.pssm_heritage.specs.inner.Tables.IsNumbered.{inherits, begins}
use Rattle.pssm_heritage.proofs.numbers.next_number.Goals as goal

pub returns-in-Some : goal.returns-in-Some
returns-in-Some c = inherits (sym c.number_above.ensures ∙ c.in-Some.is) refl

pub returns-in_ok-push-in-None : goal.returns-in_ok-push-in-None
returns-in_ok-push-in-None c = begins (sym c.number_above.ensures ∙ c.in-None.is) (ap length c.as_slice-number.ensures.value) c.in_ok-push-in-None.ensures.items
