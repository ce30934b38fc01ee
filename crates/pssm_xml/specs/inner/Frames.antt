-- The tree that the reader's values stand for.
use Rattle.std.specs.Prelude.{ℕ, ◌<◌, Bool, true, false, List, [], ◌∷◌, length, map, reverse, Option}
use Rattle.std.specs.List.{AllByRecursion}
use Rattle.pssm_xml.specs.declared.progress.Open.{Open}
use Rattle.pssm_xml.specs.declared.progress.Place.{Place}
use Rattle.pssm_xml.specs.declared.progress.Place.TheVariants as places
use Rattle.pssm_xml.specs.declared.progress.Progress.{Progress}
use Rattle.pssm_xml.specs.Pieces.{Attribute}
use Rattle.pssm_xml.specs.Documents.{Element}
use Rattle.pssm_xml.specs.inner.Growth.{Frame, State, parent_of, new_element, behind_empty, behind_start}

-- the open element that is kept so
abbrev pub frame_of : Open → Frame
frame_of element = record { number = element.number; name = element.name.now; text = element.text.items }

-- the open elements of a place
abbrev pub frames_of : Place → List Frame
frames_of places.Outside = []
frames_of (places.Inside top outer) = frame_of top ∷ map frame_of (reverse outer.items)

-- the tree so far
abbrev pub state_of : Progress → State
state_of progress = record { frames = frames_of progress.place; elements = progress.store }

-- Each element that is open is one of the elements.
pub record HasFrames (s : State) : Type 0 where
  pub within : AllByRecursion (λ (f : Frame). f.number < length s.elements) s.frames

-- with a tag that begins an element
abbrev pub behind_tag : List Frame → List Element → ℕ → List ℕ → List Attribute → Bool → Option State
behind_tag frames es at name attributes true = behind_empty frames es (new_element at (parent_of frames) name attributes)
behind_tag frames es at name attributes false = behind_start frames es (new_element at (parent_of frames) name attributes)

-- an element that has just begun
abbrev pub new_frame : ℕ → List ℕ → Frame
new_frame number name = record { number = number; name = name; text = [] }
