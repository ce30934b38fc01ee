use Rattle.std.proofs.Common.{◌≡◌, true}
use Rattle.pssm_plan.proofs.waiting.may_wait_new.Goals as goal

pub returns-else-asks_led-clause-ordered : goal.returns-else-asks_led-clause-ordered
returns-else-asks_led-clause-ordered c = λ x h.
    absurd (let yes : c.asks_led.result ≡ true = c.asks_led.ensures x h in let no = c.if-asks_led.false in cc)
