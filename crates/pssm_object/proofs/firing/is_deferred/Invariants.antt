-- no active direct vertex of the regions so far defers the signal
use Rattle.std.proofs.Common.{◌<◌}
use Rattle.pssm_model.specs.declared.ids.RegionId.{RegionId}
use Rattle.pssm_object.specs.inner.Firing.{RegionDefers}
use Rattle.pssm_object.proofs.firing.is_deferred.Given as goal

abbrev pub invariant-loop-number : goal.invariant-loop-number
invariant-loop-number l = (r : RegionId) → r.0 < l.number → RegionDefers l.fn.class l.fn.config l.fn.store l.fn.signal r → ⊥
