use Rattle.pssm_plan.proofs.ClearCalls.{exits_before}
use Rattle.pssm_plan.proofs.clear.is_within_by.Goals as goal

pub returns-then-is_lone : goal.returns-then-is_lone
returns-then-is_lone c = λ ok x h.
    exits_before c.regions-shaped.ensures.shaped c.requires.rules c.args.way.now c.requires.way (c.is_lone.ensures c.if-is_lone.true) c.args.t c.args.r
    (c.is_direct_by.ensures ok) x h
