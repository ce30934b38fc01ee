use Rattle.pssm_enabled.proofs.ListPlaces.{Below}
use Rattle.pssm_enabled.specs.inner.Fitting.{IsOrUnmarked}
use Rattle.pssm_enabled.proofs.marked.is_only.Given as goal

-- those before are the transition or not marked
abbrev pub invariant-loop-u : goal.invariant-loop-u
invariant-loop-u l = Below (IsOrUnmarked l.on l.fn.t) l.u-items l.u-index
