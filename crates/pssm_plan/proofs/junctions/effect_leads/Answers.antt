use Rattle.pssm_plan.proofs.JunctionEffects.{effect_led}
use Rattle.pssm_plan.proofs.junctions.effect_leads.Goals as goal

pub returns-then-are_meeting : goal.returns-then-are_meeting
returns-then-are_meeting c = λ ok.
    effect_led c.regions-shaped.ensures.shaped c.requires.rules c.args.ways.now c.requires.ways c.args.t c.args.u
    (c.are_meeting.ensures c.if-are_meeting.true) (c.all_go_on.ensures ok)
