use Rattle.pssm_plan.proofs.DirectWays.{direct_may}
use Rattle.pssm_plan.proofs.direct.may_call_inside.Goals as goal

pub returns-in-Some : goal.returns-in-Some
returns-in-Some c = λ calls.
    c.may_call_directly.ensures.1
    (direct_may c.regions-shaped.ensures.shaped c.requires.rules c.args.way.now c.requires.way c.in-Some.r c.in-Some.ensures c.args.item calls)
