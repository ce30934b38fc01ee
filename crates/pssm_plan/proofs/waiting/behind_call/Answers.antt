use Rattle.std.proofs.Common.{inl, inr, arith}
use Rattle.pssm_plan.proofs.waiting.behind_call.Goals as goal

pub returns-then-call-clause-behind : goal.returns-then-call-clause-behind
returns-then-call-clause-behind c = inl c.if-call.true

pub returns-then-place-end-clause-behind : goal.returns-then-place-end-clause-behind
returns-then-place-end-clause-behind c = inr (inl (let over = c.if-place-end.true in omega (arith, over)))

pub returns-then-place-least-clause-behind : goal.returns-then-place-least-clause-behind
returns-then-place-least-clause-behind c = inr (inr (let under = c.if-place-least.true in omega (arith, under)))

pub returns-clause-behind : goal.returns-clause-behind
returns-clause-behind c = inr (inr (omega arith))
