-- The pieces of an XML text: tags, comments, instructions, sections, escapes and single characters (XML 1.0 2.1 to 4.1, of which this profile takes a part).
use Rattle.std.specs.Prelude.{◌≡◌, ◌≢◌, ℕ, Bool, false, ◌&&◌, ◌||◌, ◌==◌, nat_le, nat_lt, IsTrue, List, [], ◌∷◌, ◌++◌, map, codes, AllPairs, encode_utf8}
use Rattle.std.specs.List.{list_all}
use Rattle.std.specs.Char.{digit_value}
use Rattle.std.specs.Str.Parse.{digits_value}
use Rattle.pssm_spelling.specs.Spelling.{begins_name, continues_name}
use Rattle.pssm_xml.specs.Characters.{IsCharacter, AreCharacters, is_blank, AreBlanks, HasNo}

-- ---- names

-- a letter, `_`, `:` or a part of a character past ASCII
abbrev pub begins_tag_name : ℕ → Bool
begins_tag_name c = begins_name c || (c == 58) || nat_le 128 c

-- the same, a digit, `-` or `.`
abbrev pub continues_tag_name : ℕ → Bool
continues_tag_name c = begins_tag_name c || continues_name c || (c == 45) || (c == 46)

-- such a character first, and then such that go on
abbrev pub is_tag_name : List ℕ → Bool
is_tag_name [] = false
is_tag_name (c ∷ cs) = begins_tag_name c && list_all continues_tag_name cs

-- a name of a tag or an attribute (XML 1.0 2.3, names; this profile takes every character past ASCII)
abbrev pub IsTagName : List ℕ → Type 0
IsTagName name = IsTrue (is_tag_name name)

-- ---- escapes

-- a digit of this radix
abbrev pub is_digit_of : ℕ → ℕ → Bool
is_digit_of radix c = nat_lt (digit_value c) radix

-- The digits, at least one, are the number of a character.
pub record AreDigitsOf (radix : ℕ) (digits : List ℕ) (c : ℕ) : Type 0 where
  pub some : digits ≢ []
  pub digits_only : IsTrue (list_all (is_digit_of radix) digits)
  pub value : c ≡ digits_value radix digits
  pub character : IsCharacter c

-- an escape, and the text that it stands for (XML 1.0 4.1 and 4.6, character references and predefined entities)
pub data SpellsEscape : List ℕ → List ℕ → Type 0 where
  less : SpellsEscape (codes "&lt;") (codes "<")
  greater : SpellsEscape (codes "&gt;") (codes ">")
  ampersand : SpellsEscape (codes "&amp;") (codes "&")
  apostrophe : SpellsEscape (codes "&apos;") (codes "'")
  quotation : SpellsEscape (codes "&quot;") (34 ∷ [])
  decimal : {digits : List ℕ} {c : ℕ} → AreDigitsOf 10 digits c → SpellsEscape (codes "&#" ++ digits ++ codes ";") (encode_utf8 c)
  hexadecimal : {digits : List ℕ} {c : ℕ} → AreDigitsOf 16 digits c → SpellsEscape (codes "&#x" ++ digits ++ codes ";") (encode_utf8 c)

-- ---- attributes

-- the name and the value of an attribute, escapes replaced
pub record Attribute : Type 0 where
  pub name : List ℕ
  pub value : List ℕ

-- What stands between two such quotes, and the value that it spells: no `<`, and each `&` begins an escape (XML 1.0 2.3, attribute values).
-- Values are not normalised (this profile's choice).
pub data SpellsValue (quote : ℕ) : List ℕ → List ℕ → Type 0 where
  nothing : SpellsValue quote [] []
  escape : {spelled more text rest : List ℕ} → SpellsEscape spelled text → SpellsValue quote more rest → SpellsValue quote (spelled ++ more) (text ++ rest)
  other : {c : ℕ} {more rest : List ℕ} → c ≢ quote → c ≢ 60 → c ≢ 38 → SpellsValue quote more rest → SpellsValue quote (c ∷ more) (c ∷ rest)

-- a double or a single quote
abbrev pub IsQuote : ℕ → Type 0
IsQuote c = IsTrue ((c == 34) || (c == 39))

-- An attribute: at least one blank, the name, `=` with blanks allowed around it, and the value in two equal quotes (XML 1.0 3.1, attributes).
pub record SpellsAttribute (bytes : List ℕ) (attribute : Attribute) : Type 0 where
  pub before : List ℕ
  pub behind_name : List ℕ
  pub before_value : List ℕ
  pub quote : ℕ
  pub inner : List ℕ
  pub parts : bytes ≡ before ++ attribute.name ++ behind_name ++ codes "=" ++ before_value ++ quote ∷ (inner ++ quote ∷ [])
  pub some_blank : before ≢ []
  pub blanks : AreBlanks before × AreBlanks behind_name × AreBlanks before_value
  pub name : IsTagName attribute.name
  pub quotes : IsQuote quote
  pub value : SpellsValue quote inner attribute.value

-- attributes one behind another
pub data SpellsAttributes : List ℕ → List Attribute → Type 0 where
  nothing : SpellsAttributes [] []
  further : {bytes more : List ℕ} {attribute : Attribute} {rest : List Attribute} → SpellsAttribute bytes attribute → SpellsAttributes more rest
      → SpellsAttributes (bytes ++ more) (attribute ∷ rest)

-- attributes with different names (XML 1.0 3.1, unique attributes)
pub record AreAttributes (bytes : List ℕ) (attributes : List Attribute) : Type 0 where
  pub spelled : SpellsAttributes bytes attributes
  pub different : AllPairs (λ a b. a ≢ b) (map (λ (a : Attribute). a.name) attributes)

-- ---- pieces

-- a start tag, an empty tag, an end tag; what says nothing, as a comment; text escaped in a section or by a reference; and a character that stands for itself
pub data Piece : Type 0 where
  Start : (name : List ℕ) (attributes : List Attribute) → Piece
  Empty : (name : List ℕ) (attributes : List Attribute) → Piece
  End : (name : List ℕ) → Piece
  Aside : Piece
  Escaped : (text : List ℕ) → Piece
  Plain : (text : List ℕ) → Piece

-- The bytes spell the piece.
pub data SpellsPiece : List ℕ → Piece → Type 0 where
  -- `<Q A>`, `<Q A/>` and `</Q>` (XML 1.0 3.1, tags)
  start : (name blanks : List ℕ) {given : List ℕ} {attributes : List Attribute} → IsTagName name → AreAttributes given attributes → AreBlanks blanks
      → SpellsPiece (codes "<" ++ name ++ given ++ blanks ++ codes ">") (Start name attributes)
  empty : (name blanks : List ℕ) {given : List ℕ} {attributes : List Attribute} → IsTagName name → AreAttributes given attributes → AreBlanks blanks
      → SpellsPiece (codes "<" ++ name ++ given ++ blanks ++ codes "/>") (Empty name attributes)
  closing : (name blanks : List ℕ) → IsTagName name → AreBlanks blanks → SpellsPiece (codes "</" ++ name ++ blanks ++ codes ">") (End name)
  -- `<!--` to `-->`, which begins with the first `--` (XML 1.0 2.5, comments)
  comment : (inner : List ℕ) → HasNo (codes "--") (inner ++ codes "-") → SpellsPiece (codes "<!--" ++ inner ++ codes "-->") Aside
  -- `<?Q?>`, or `<?Q`, a blank and anything to the first `?>`; the declaration is one of these (XML 1.0 2.6 and 2.8, processing instructions and the declaration)
  bare_instruction : (name : List ℕ) → IsTagName name → SpellsPiece (codes "<?" ++ name ++ codes "?>") Aside
  instruction : (name inner : List ℕ) (blank : ℕ) → IsTagName name → IsTrue (is_blank blank) → HasNo (codes "?>") inner
      → SpellsPiece (codes "<?" ++ name ++ blank ∷ (inner ++ codes "?>")) Aside
  -- `<![CDATA[` to the first `]]>` (XML 1.0 2.7, CDATA sections)
  section : (inner : List ℕ) → HasNo (codes "]]>") inner → SpellsPiece (codes "<![CDATA[" ++ inner ++ codes "]]>") (Escaped inner)
  -- a reference, and any character but `<` and `&` (XML 1.0 2.4 and 4.1, character data and references)
  escape : {bytes text : List ℕ} → SpellsEscape bytes text → SpellsPiece bytes (Escaped text)
  character : (c : ℕ) → IsCharacter c → c ≢ 60 → c ≢ 38 → SpellsPiece (encode_utf8 c) (Plain (encode_utf8 c))

-- a piece of a text: it is spelled by characters that XML has
pub record IsPiece (bytes : List ℕ) (piece : Piece) : Type 0 where
  pub spelled : SpellsPiece bytes piece
  pub characters : AreCharacters bytes
