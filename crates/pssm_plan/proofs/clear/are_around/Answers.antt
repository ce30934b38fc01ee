use Rattle.std.proofs.Common.{arith}
use Rattle.pssm_plan.proofs.clear.are_around.Goals as goal

pub returns : goal.returns
returns c = λ t k d lt inside up.
    c.last_entry-left.ensures.none k d (let none = c.if-left-gt0.false in omega (arith, none)) lt inside up
