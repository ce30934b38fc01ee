use Rattle.std.proofs.Common.{◌≡◌, true}
use Rattle.pssm_plan.proofs.ways.may_come_first.Goals as goal

pub returns-then-may_be_led : goal.returns-then-may_be_led
returns-then-may_be_led c = λ h. c.may_lead.ensures h

pub returns-else-may_be_led : goal.returns-else-may_be_led
returns-else-may_be_led c = λ h.
    let yes : c.may_be_led.result ≡ true = c.may_be_led.ensures c.args.first h in
    let no = c.if-may_be_led.false in
    absurd (cc (yes, no))
