use Rattle.pssm_plan.proofs.ApartCalls.{new_along}
use Rattle.pssm_plan.proofs.Passes.{pairs_alike}
use Rattle.pssm_plan.proofs.PlacedCalls.{placed_alike}
use Rattle.pssm_plan.proofs.RunBefore.{run_alike}
use Rattle.pssm_plan.proofs.waiters.settle_each_new.Goals as goal

pub settle_new_at-requires-clause-new : goal.settle_new_at-requires-clause-new
settle_new_at-requires-clause-new c =
    new_along c.args.machine.now c.args.ways.now c.args.calls.now c.loop-place.calls c.args.since
    (pairs_alike c.args.calls.now c.loop-place.calls c.loop-place.invariant.0) c.requires.new

pub settle_new_at-requires-clause-placed : goal.settle_new_at-requires-clause-placed
settle_new_at-requires-clause-placed c =
    placed_alike c.args.calls.now c.loop-place.calls c.args.rows.now c.loop-place.invariant.0.0
    (λ k d lt. (c.loop-place.invariant.0.1 k d lt).item_is) c.requires.placed

pub settle_new_at-requires-clause-done : goal.settle_new_at-requires-clause-done
settle_new_at-requires-clause-done c =
    run_alike c.args.calls.now c.loop-place.calls c.args.done c.loop-place.invariant.0 c.requires.done
