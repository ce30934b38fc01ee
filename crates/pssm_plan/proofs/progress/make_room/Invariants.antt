use Rattle.std.specs.Prelude.{◌≤◌, length}
use Rattle.pssm_plan.specs.inner.Marks.{IsLonger}
use Rattle.pssm_plan.proofs.progress.make_room.Given as goal

-- there are as many spans as have been counted
abbrev pub invariant-loop : goal.invariant-loop
invariant-loop l = IsLonger l.fn.spans.items l.spans.items × (l.counter ≤ length l.spans.items)
