use Rattle.std.proofs.Common.{arith}
use Rattle.pssm_plan.proofs.waiting.last_before.Goals as goal

-- all before the place have run
pub returns-then-end-from-clause-none : goal.returns-then-end-from-clause-none
returns-then-end-from-clause-none c = λ k d low high inside up.
    up.1 (c.requires.done k d (let le = c.if-end-from.true in omega (arith, le, high)) inside)
