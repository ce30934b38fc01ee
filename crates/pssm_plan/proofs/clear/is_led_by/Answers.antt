use Rattle.pssm_plan.proofs.ClearCalls.{led_by}
use Rattle.pssm_plan.proofs.FreeCalls.{unset_not}
use Rattle.pssm_plan.proofs.clear.is_led_by.Goals as goal

pub returns-then-is_lone : goal.returns-then-is_lone
returns-then-is_lone c = λ ok x h.
    led_by c.regions-shaped.ensures.shaped c.requires.rules c.args.way.now c.requires.way (c.is_lone.ensures c.if-is_lone.true) c.args.calls.now c.args.s
    (c.is_yet_to_lead.ensures (unset_not c.is_yet_to_lead.result ok)) x h
