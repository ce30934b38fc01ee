use Rattle.pssm_plan.proofs.meeting.own_listed.Goals as goal

pub returns-else-own_effect_listed-clause-further : goal.returns-else-own_effect_listed-clause-further
returns-else-own_effect_listed-clause-further c = λ t inside listed.
    let yes = c.own_effect_listed.ensures.further t inside listed in
    let no = c.if-own_effect_listed.false in
    absurd (cc (yes, no))
