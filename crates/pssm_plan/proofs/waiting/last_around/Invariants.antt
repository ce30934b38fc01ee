use Rattle.std.specs.Prelude.{◌<◌, ◌≤◌, length}
use Rattle.pssm_plan.proofs.Around.{IsClimbed}
use Rattle.pssm_plan.proofs.waiting.last_around.Given as goal

-- the entries of the States so far do not stand from the place on and wait
abbrev pub invariant-loop : goal.invariant-loop
invariant-loop l = (l.last ≤ l.end) × (l.inner.0 < length l.machine.vertices) × IsClimbed l.machine l.calls l.fn.v l.inner l.last l.end
