use Rattle.pssm_enabled.proofs.TrailLaws.{IsTracedTo}
use Rattle.pssm_enabled.proofs.tracing.later_transitions.Given as goal

abbrev pub invariant-loop : goal.invariant-loop
invariant-loop l = IsTracedTo l.steps l.start l.fn.last l.found.items l.next l.counter
