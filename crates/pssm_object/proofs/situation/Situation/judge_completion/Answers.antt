-- the routes are those that the completion fires
use Rattle.pssm_object.proofs.situation.Situation.judge_completion.Goals as goal

pub returns-then-branch : goal.returns-then-branch
returns-then-branch c = c.in_ok-completes.ensures.0 c.if-branch.true
