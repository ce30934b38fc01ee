use Rattle.std.proofs.Common.{◌≡◌, true, ⊎_elim}
use Rattle.pssm_plan.proofs.LeadingLegs.{effect_leads}
use Rattle.pssm_plan.proofs.ways.effect_may_lead.Goals as goal

pub returns-then-may_call_effect : goal.returns-then-may_call_effect
returns-then-may_call_effect c = λ h. c.may_follow.ensures h

pub returns-else-may_call_effect : goal.returns-else-may_call_effect
returns-else-may_call_effect c = λ h.
    let yes : c.may_call_effect.result ≡ true = ⊎_elim
    (λ named. c.may_call_effect.ensures.named named)
    (λ long. c.may_call_effect.ensures.long long)
    (effect_leads c.args.way.now c.requires.way c.args.t c.args.second h) in
    let no = c.if-may_call_effect.false in
    absurd (cc (yes, no))
