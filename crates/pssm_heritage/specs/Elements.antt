-- Regions, vertices and transitions of a draft, asked alike.
use Rattle.std.specs.Prelude.{◌≡◌, ◌<◌, ℕ, length, Option, Some, option_and_then, slice_get}
use Rattle.pssm_model.specs.declared.draft_setting.ElementRef.{ElementRef}
use Rattle.pssm_model.specs.declared.draft_setting.Draft.{Draft}
use Rattle.pssm_model.specs.declared.draft_setting.DraftParts.{DraftParts}
use Rattle.pssm_model.specs.declared.draft_setting.PartRegion.{PartRegion}
use Rattle.pssm_model.specs.declared.draft_setting.PartVertex.{PartVertex}
use Rattle.pssm_model.specs.declared.draft_setting.PartTransition.{PartTransition}
use Rattle.pssm_model.specs.DraftSettings.{region_of, vertex_of, transition_of}
use Rattle.pssm_heritage.specs.declared.kinds.ElementKind.{ElementKind}
use Rattle.pssm_heritage.specs.declared.kinds.ElementKind.TheVariants.{Region, Vertex, Transition}

-- how many elements of the kind a machine has of its own
abbrev pub count_in : ElementKind → DraftParts → ℕ
count_in Region parts = length parts.regions
count_in Vertex parts = length parts.vertices
count_in Transition parts = length parts.transitions

-- There is an element of the kind at this place.
abbrev pub IsElement : Draft → ElementKind → ElementRef → Type 0
IsElement draft kind e = (parts : DraftParts) × (slice_get draft.machines e.machine ≡ Some parts) × (e.element < count_in kind parts)

-- the element that it redefines, and for a region the one that it extends (UML 2.5.1 14.3.3)
abbrev pub redefined : Draft → ElementKind → ElementRef → Option ElementRef
redefined draft Region e = option_and_then (λ (r : PartRegion). r.extends) (region_of draft e)
redefined draft Vertex e = option_and_then (λ (v : PartVertex). v.redefines) (vertex_of draft e)
redefined draft Transition e = option_and_then (λ (t : PartTransition). t.redefines) (transition_of draft e)
