use Rattle.pssm_model.specs.declared.ids.TransId.{TransId}
use Rattle.pssm_model.specs.declared.ids.VertexId.{VertexId}
use Rattle.pssm_model.specs.Legs.{Enters}
use Rattle.pssm_model.specs.Routes.{Truth, IsTrueAt}
use Rattle.pssm_enabled.specs.Telling.{Tells}
use Rattle.pssm_enabled.specs.inner.Fitting.{IsMarked}
use Rattle.pssm_enabled.proofs.Scanning.{HoldsOfFirst}
use Rattle.pssm_enabled.proofs.tracing.one_onward.Given as goal

-- none of the transitions so far leads on
abbrev pub invariant-loop-t : goal.invariant-loop-t
invariant-loop-t g l =
    (values : Truth) → Tells l.machine (goal.T-post g l.truth) values
    → HoldsOfFirst
    (λ (t : TransId). IsTrueAt l.machine values t × ((w : VertexId) → Enters l.machine t w → IsMarked l.good w.0) → ⊥) l.t-items l.t-index
