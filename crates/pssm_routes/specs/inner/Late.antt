-- Where a late route starts.
use Rattle.std.specs.Prelude.{◌≡◌, List, [], ◌∷◌}
use Rattle.pssm_model.specs.declared.ids.VertexId.{VertexId}
use Rattle.pssm_model.specs.declared.ids.TransId.{TransId}
use Rattle.pssm_model.specs.declared.elements.DraftMachine.{DraftMachine}
use Rattle.pssm_model.specs.Legs.{Leaves}
use Rattle.pssm_model.specs.FiringSets.{IsLateOrigin}

-- They are one transition, which leaves a vertex from which a step goes on within itself.
abbrev pub StartsLate : DraftMachine → VertexId → List TransId → Type 0
StartsLate m origin starts = IsLateOrigin m origin × ((t : TransId) × (starts ≡ t ∷ []) × Leaves m t origin)
