-- What is asked of the transitions that meet at a vertex.
use Rattle.std.specs.Prelude.{◌≡◌, ◌⊎◌, ◌<◌, Some, length}
use Rattle.pssm_model.specs.declared.ids.VertexId.{VertexId}
use Rattle.pssm_model.specs.declared.ids.TransId.{TransId}
use Rattle.pssm_model.specs.declared.elements.DraftMachine.{DraftMachine}
use Rattle.pssm_model.specs.declared.elements.VertexKind.TheVariants as kinds
use Rattle.pssm_model.specs.declared.elements.Guard.TheVariants.{Always}
use Rattle.pssm_model.specs.Forest.{HasKind, IsStateOrFinal, LiesInState}
use Rattle.pssm_model.specs.Legs.{Leaves, Enters}
use Rattle.pssm_model.specs.Routes.{guard_of}
use Rattle.pssm_model.specs.WellFormed.{HasGuard, HasElse, HasTrigger}
use Rattle.pssm_wellformed.specs.declared.questions.Question.{Question}
use Rattle.pssm_wellformed.specs.declared.questions.Question.TheVariants.{IsBadSegmentIn, IsBadSegmentOut, IsFallback, EndsInside}

-- The answer for the transition is yes.
abbrev pub Holds : DraftMachine → Question → TransId → Type 0
Holds m IsBadSegmentIn t = HasGuard m t ⊎ HasTrigger m t ⊎ ((s : VertexId) → Leaves m t s → HasKind m s kinds.State → ⊥)
Holds m IsBadSegmentOut t = HasGuard m t ⊎ ((s : VertexId) → Enters m t s → IsStateOrFinal m s → ⊥)
Holds m IsFallback t = HasElse m t ⊎ (guard_of m t ≡ Some Always)
Holds m (EndsInside s) t = (w : VertexId) × Enters m t w × LiesInState m w s

-- The State that the question names is there.
abbrev pub IsAbout : DraftMachine → Question → Type 0
IsAbout m (EndsInside s) = s.0 < length m.vertices
IsAbout m _ = Unit {0}
