use Rattle.pssm_plan.proofs.DirectWays.{exit_lies}
use Rattle.pssm_plan.proofs.direct.may_exit.Goals as goal

pub returns-in-Some : goal.returns-in-Some
returns-in-Some c = λ h.
    c.may_lie_in.ensures
    (exit_lies c.regions-count.ensures.shaped c.requires.rules c.args.way.now c.requires.way c.in-Some.r c.in-Some.ensures c.args.s h)
