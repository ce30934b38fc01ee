-- How a tree grows by one piece after another.
use Rattle.std.specs.Prelude.{ℕ, zero, suc, Bool, true, false, List, [], ◌∷◌, ◌++◌, length, Option, Some, None, option_and_then, bytes_eq, if◌then◌else◌}
use Rattle.std.specs.List.{list_all}
use Rattle.pssm_xml.specs.Characters.{is_blank}
use Rattle.pssm_xml.specs.Pieces.{Attribute, Piece, Start, Empty, End, Aside, Escaped, Plain}
use Rattle.pssm_xml.specs.Documents.{Placed, Element}

-- an element that is open: its number, its name, and its text so far
pub record Frame : Type 0 where
  pub number : ℕ
  pub name : List ℕ
  pub text : List ℕ

-- the elements that are open, the innermost first, and all elements so far; those that are open have no text yet
pub record State : Type 0 where
  pub frames : List Frame
  pub elements : List Element

-- the element in which the next one stands
abbrev pub parent_of : List Frame → Option ℕ
parent_of [] = None
parent_of (f ∷ fs) = Some f.number

-- whether another element may begin: there is one root
abbrev pub may_begin : List Frame → List Element → Bool
may_begin (f ∷ fs) es = true
may_begin [] [] = true
may_begin [] (e ∷ es) = false

-- an element that begins
abbrev pub new_element : ℕ → Option ℕ → List ℕ → List Attribute → Element
new_element at parent name attributes = record { at = at; parent = parent; name = name; attributes = attributes; text = [] }

-- the same element with this text
abbrev pub having_text : List ℕ → Element → Element
having_text text e = record { at = e.at; parent = e.parent; name = e.name; attributes = e.attributes; text = text }

-- the elements, of which the one with the number has this text
abbrev pub with_text : List Element → ℕ → List ℕ → List Element
with_text [] n text = []
with_text (e ∷ es) zero text = having_text text e ∷ es
with_text (e ∷ es) (suc n) text = e ∷ with_text es n text

-- more text in an open element
abbrev pub with_more_text : List ℕ → Frame → Frame
with_more_text text f = record { number = f.number; name = f.name; text = f.text ++ text }

-- with a character that stands for itself
abbrev pub behind_plain : List Frame → List Element → List ℕ → Option State
behind_plain [] es text = if list_all is_blank text then Some (record { frames = []; elements = es }) else None
behind_plain (f ∷ fs) es text = Some (record { frames = with_more_text text f ∷ fs; elements = es })

-- with text that is escaped
abbrev pub behind_escaped : List Frame → List Element → List ℕ → Option State
behind_escaped [] es text = None
behind_escaped (f ∷ fs) es text = Some (record { frames = with_more_text text f ∷ fs; elements = es })

-- with an element more
abbrev pub behind_empty : List Frame → List Element → Element → Option State
behind_empty frames es e = if may_begin frames es then Some (record { frames = frames; elements = es ++ e ∷ [] }) else None

-- with an element more that is open
abbrev pub behind_start : List Frame → List Element → Element → Option State
behind_start frames es e =
    if may_begin frames es then Some (record { frames = record { number = length es; name = e.name; text = [] } ∷ frames; elements = es ++ e ∷ [] }) else None

-- with an end tag of this name
abbrev pub behind_end : List Frame → List Element → List ℕ → Option State
behind_end [] es name = None
behind_end (f ∷ fs) es name = if bytes_eq f.name name then Some (record { frames = fs; elements = with_text es f.number f.text }) else None

-- with one piece more, where it may stand there
abbrev pub behind_piece : State → ℕ → Piece → Option State
behind_piece s at (Start name attributes) = behind_start s.frames s.elements (new_element at (parent_of s.frames) name attributes)
behind_piece s at (Empty name attributes) = behind_empty s.frames s.elements (new_element at (parent_of s.frames) name attributes)
behind_piece s at (End name) = behind_end s.frames s.elements name
behind_piece s at Aside = Some s
behind_piece s at (Escaped text) = behind_escaped s.frames s.elements text
behind_piece s at (Plain text) = behind_plain s.frames s.elements text

-- with all these pieces more
abbrev pub behind_pieces : State → List Placed → Option State
behind_pieces s [] = Some s
behind_pieces s (p ∷ ps) = option_and_then (λ t. behind_pieces t ps) (behind_piece s p.at p.piece)

-- before all pieces
abbrev pub nothing_yet : State
nothing_yet = record { frames = []; elements = [] }

-- behind a whole document
abbrev pub all_read : List Element → State
all_read elements = record { frames = []; elements = elements }
