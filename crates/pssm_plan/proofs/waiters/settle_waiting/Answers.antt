use Rattle.pssm_plan.proofs.PlacedCalls.{placed_alike}
use Rattle.pssm_plan.proofs.RunBefore.{run_alike}
use Rattle.pssm_plan.proofs.waiters.settle_waiting.Goals as goal

pub settle_waiting_at-requires-clause-placed : goal.settle_waiting_at-requires-clause-placed
settle_waiting_at-requires-clause-placed c =
    placed_alike c.args.calls.now c.loop-place.calls c.args.rows.now c.loop-place.invariant.0.0
    (λ k d lt. (c.loop-place.invariant.0.1 k d lt).item_is) c.requires.placed

pub settle_waiting_at-requires-clause-done : goal.settle_waiting_at-requires-clause-done
settle_waiting_at-requires-clause-done c =
    run_alike c.args.calls.now c.loop-place.calls c.args.done c.loop-place.invariant.0 c.requires.done
