use Rattle.pssm_plan.proofs.DirectWays.{direct_may}
use Rattle.pssm_plan.proofs.MetItems.{late_calls_no_exit}
use Rattle.pssm_plan.proofs.meeting.meets_directly.Goals as goal

pub returns-else-are_walked : goal.returns-else-are_walked
returns-else-are_walked c = λ h.
    let may = direct_may c.regions-shaped.ensures.shaped c.requires.rules c.args.way.now c.requires.way c.args.r c.requires.direct h.0 h.2 in
    let no = c.if-are_walked.false in
    let late = c.are_walked.ensures (λ t. absurd (cc (t, no))) in
    c.other_listed.ensures h.0 h.1 (late_calls_no_exit c.args.way.now c.args.r h.0 late may) may
