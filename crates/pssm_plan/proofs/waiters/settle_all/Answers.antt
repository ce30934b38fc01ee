use Rattle.pssm_plan.proofs.ApartCalls.{new_along}
use Rattle.pssm_plan.proofs.Passes.{pairs_alike, pairs_further}
use Rattle.pssm_plan.proofs.PlacedCalls.{placed_alike}
use Rattle.pssm_plan.proofs.RunBefore.{run_alike}
use Rattle.pssm_plan.proofs.waiters.settle_all.Goals as goal

pub settle_new-requires-clause-new : goal.settle_new-requires-clause-new
settle_new-requires-clause-new c =
    new_along c.args.machine.now c.args.ways.now c.args.calls.now c.settle_waiting.new.calls c.args.since
    (pairs_alike c.args.calls.now c.settle_waiting.new.calls
    (pairs_further c.args.calls.now c.settle_free.new.calls c.settle_waiting.new.calls c.settle_free.ensures.alike c.settle_waiting.ensures.alike))
    c.requires.new

pub settle_new-requires-clause-placed : goal.settle_new-requires-clause-placed
settle_new-requires-clause-placed c =
    let alike =
    pairs_further c.args.calls.now c.settle_free.new.calls c.settle_waiting.new.calls c.settle_free.ensures.alike c.settle_waiting.ensures.alike in
    placed_alike c.args.calls.now c.settle_waiting.new.calls c.args.rows.now alike.0 (λ k d lt. (alike.1 k d lt).item_is) c.requires.placed

pub settle_waiting-requires-clause-placed : goal.settle_waiting-requires-clause-placed
settle_waiting-requires-clause-placed c =
    placed_alike c.args.calls.now c.settle_free.new.calls c.args.rows.now c.settle_free.ensures.alike.0
    (λ k d lt. (c.settle_free.ensures.alike.1 k d lt).item_is) c.requires.placed

pub settle_waiting-requires-clause-done : goal.settle_waiting-requires-clause-done
settle_waiting-requires-clause-done c =
    run_alike c.args.calls.now c.settle_free.new.calls c.args.done c.settle_free.ensures.alike c.requires.done

pub settle_new-requires-clause-done : goal.settle_new-requires-clause-done
settle_new-requires-clause-done c =
    run_alike c.args.calls.now c.settle_waiting.new.calls c.args.done
    (pairs_further c.args.calls.now c.settle_free.new.calls c.settle_waiting.new.calls c.settle_free.ensures.alike c.settle_waiting.ensures.alike)
    c.requires.done
