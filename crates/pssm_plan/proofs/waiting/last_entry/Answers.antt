use Rattle.std.proofs.Common.{inl, refl}
use Rattle.pssm_plan.proofs.Around.{climbed_all}
use Rattle.pssm_plan.proofs.waiting.last_entry.Goals as goal

pub returns-then-is_outermost-clause-none : goal.returns-then-is_outermost-clause-none
returns-then-is_outermost-clause-none c =
    climbed_all c.args.machine.now c.args.calls.now c.args.v c.args.v 0 c.args.end (c.if-is_outermost.ensures refl) (λ s h. inl h)
