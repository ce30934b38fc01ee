-- What the reader's values stand for.
use Rattle.std.specs.Prelude.{ℕ, Bool, false, ◌||◌, List, [], ◌∷◌, map, bytes_eq, encode_utf8}
use Rattle.std.specs.Borrow.{Bor}
use Rattle.pssm_xml.specs.declared.tags.Given.{Given}
use Rattle.pssm_xml.specs.declared.pieces.Cut.{Cut}
use Rattle.pssm_xml.specs.declared.pieces.Cut.TheVariants as cuts
use Rattle.pssm_xml.specs.Pieces.{Attribute, Piece, End, Aside, Escaped, Plain}
use Rattle.pssm_xml.specs.inner.Reading.{tag_piece}

-- the attribute that is given
abbrev pub given_attribute : Given → Attribute
given_attribute given = record { name = given.name.now; value = given.value.items }

-- its name
abbrev pub given_name : Given → List ℕ
given_name given = given.name.now

-- the bytes that are lent
abbrev pub lent : Bor (List ℕ) → List ℕ
lent name = name.now

-- Two neighbours are equal.
abbrev pub repeats : List (List ℕ) → Bool
repeats [] = false
repeats (x ∷ []) = false
repeats (x ∷ y ∷ ys) = bytes_eq x y || repeats (y ∷ ys)

-- the piece that was cut
abbrev pub piece_of : Cut → Piece
piece_of (cuts.Tag name attributes empty) = tag_piece name.now (map given_attribute attributes.items) empty
piece_of (cuts.End name) = End name.now
piece_of cuts.Aside = Aside
piece_of (cuts.Section text) = Escaped text.now
piece_of (cuts.Escape c) = Escaped (encode_utf8 c)
piece_of (cuts.Plain text) = Plain text.now
