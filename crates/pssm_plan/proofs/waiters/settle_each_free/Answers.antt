use Rattle.pssm_plan.proofs.ApartCalls.{new_along}
use Rattle.pssm_plan.proofs.Passes.{pairs_alike}
use Rattle.pssm_plan.proofs.waiters.settle_each_free.Goals as goal

pub settle_free_at-requires-clause-new : goal.settle_free_at-requires-clause-new
settle_free_at-requires-clause-new c =
    new_along c.args.machine.now c.args.ways.now c.args.calls.now c.loop-place.calls c.args.since
    (pairs_alike c.args.calls.now c.loop-place.calls c.loop-place.invariant.0) c.requires.new
