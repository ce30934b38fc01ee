-- What is taken from the left of a text, and what follows it.
use Rattle.std.specs.Prelude.{ℕ, zero, suc, ◌+◌, ◌*◌, min, Bool, true, false, not, ◌&&◌, ◌||◌, ◌==◌, nat_le, List, [], ◌∷◌, ◌++◌, map, length, take, drop, Option, Some, None, option_map, option_and_then, codes, bytes_eq, encode_utf8, if◌then◌else◌}
use Rattle.std.specs.List.{prefix_len, list_any}
use Rattle.std.specs.Str.{continuation_len}
use Rattle.std.specs.Char.{digit_value, len_utf8}
use lib.Utf8.{scalar}
use Rattle.pssm_spelling.specs.SpellingReading.{stripped}
use Rattle.pssm_xml.specs.declared.values.Bit.{Bit}
use Rattle.pssm_xml.specs.declared.values.Bit.TheVariants as bits
use Rattle.pssm_xml.specs.Characters.{is_blank}
use Rattle.pssm_xml.specs.Pieces.{begins_tag_name, continues_tag_name, is_digit_of, Attribute, Piece, Start, Empty, End, Aside, Escaped, Plain}

-- ---- characters

-- whether XML has this character
abbrev pub is_xml : ℕ → Bool
is_xml c = (c == 9) || (c == 10) || (c == 13) || (nat_le 32 c && not (c == 65534) && not (c == 65535))

-- how many bytes the characters have that stand before the first that XML has not
abbrev pub good_bytes : List ℕ → ℕ
good_bytes [] = 0
good_bytes (c ∷ cs) = if is_xml c then len_utf8 c + good_bytes cs else 0

-- another byte than this one
abbrev pub is_other : ℕ → ℕ → Bool
is_other b c = not (c == b)

-- ---- runs

-- what follows the blanks with which the text begins
unfoldable pub past_blanks : List ℕ → List ℕ
past_blanks bytes = drop (prefix_len is_blank bytes) bytes

-- The first character passes.
abbrev pub begins_with : (ℕ → Bool) → List ℕ → Bool
begins_with p [] = false
begins_with p (c ∷ cs) = p c

-- the longest name
unfoldable pub tag_name_taken : List ℕ → Option (List ℕ × List ℕ)
tag_name_taken bytes =
    let n = prefix_len continues_tag_name bytes in
    if begins_with begins_tag_name bytes then Some (take n bytes, drop n bytes) else None

-- what stands before the first of these bytes
unfoldable pub split_byte : ℕ → List ℕ → Option (List ℕ × List ℕ)
split_byte b bytes =
    let n = prefix_len (is_other b) bytes in
    option_map (λ more. (take n bytes, more)) (stripped (b ∷ []) (drop n bytes))

-- one character more in what stands before
abbrev pub with_first : ℕ → List ℕ × List ℕ → List ℕ × List ℕ
with_first c parts = (c ∷ parts.0, parts.1)

-- what stands before the word, where the text begins with it or not
abbrev pub until_here : Option (List ℕ) → Option (List ℕ × List ℕ) → Option (List ℕ × List ℕ)
until_here (Some more) later = Some ([], more)
until_here None later = later

-- what stands before the first such word, and what follows the word
abbrev pub until : List ℕ → List ℕ → Option (List ℕ × List ℕ)
until word [] = None
until word (c ∷ cs) = until_here (stripped word (c ∷ cs)) (option_map (with_first c) (until word cs))

-- ---- escapes

-- the number that the digits spell when they follow those of `n`, or 1,114,112 where it is greater; none where one is no digit of the radix
abbrev pub number_after : ℕ → ℕ → List ℕ → Option ℕ
number_after radix n [] = Some n
number_after radix n (c ∷ cs) = if is_digit_of radix c then number_after radix (min (n * radix + digit_value c) 1114112) cs else None

-- the character that has this number
abbrev pub character_of : ℕ → Option ℕ
character_of n = if scalar n && is_xml n then Some n else None

-- the character whose number these digits spell
abbrev pub code_of_digits : ℕ → List ℕ → Option ℕ
code_of_digits radix digits = option_and_then character_of (number_after radix 0 digits)

-- the first of the two, where there is one
abbrev pub or_else : {X : Type 0} → Option X → Option X → Option X
or_else (Some x) other = Some x
or_else None other = other

-- the character whose hexadecimal digits stand behind `#x`, or whose decimal digits stand behind `#`
abbrev pub code_behind : Option (List ℕ) → Option (List ℕ) → Option ℕ
code_behind (Some digits) other = code_of_digits 16 digits
code_behind None (Some digits) = code_of_digits 10 digits
code_behind None None = None

-- the character that a number names
unfoldable pub code_of_number : List ℕ → Option ℕ
code_of_number body = code_behind (stripped (codes "#x") body) (stripped (codes "#") body)

-- the character that is meant by what stands between `&` and `;`
unfoldable pub code_of_escape : List ℕ → Option ℕ
code_of_escape body =
    if bytes_eq body (codes "lt") then Some 60
    else (if bytes_eq body (codes "gt") then Some 62
    else (if bytes_eq body (codes "amp") then Some 38
    else (if bytes_eq body (codes "apos") then Some 39
    else (if bytes_eq body (codes "quot") then Some 34 else code_of_number body))))

-- the character of an escape, of which the text begins behind its `&`
unfoldable pub escape_taken : List ℕ → Option (ℕ × List ℕ)
escape_taken bytes = option_and_then (λ x. option_map (λ c. (c, x.1)) (code_of_escape x.0)) (split_byte 59 bytes)

-- ---- values

-- the text of a bit of a value
abbrev pub bit_text : Bit → List ℕ
bit_text (bits.Byte b) = b ∷ []
bit_text (bits.Character c) = encode_utf8 c

-- the bit of a value that stands at the front, none at its end, and what follows it
unfoldable pub bit_taken : ℕ → List ℕ → Option (Option Bit × List ℕ)
bit_taken quote [] = None
bit_taken quote (c ∷ cs) =
    if c == quote then Some (None, cs)
    else (if c == 60 then None
    else (if c == 38 then option_map (λ x. (Some (bits.Character x.0), x.1)) (escape_taken cs) else Some (Some (bits.Byte c), cs)))

-- more text before a value
abbrev pub with_text_before : List ℕ → List ℕ × List ℕ → List ℕ × List ℕ
with_text_before text parts = (text ++ parts.0, parts.1)

-- the value that goes on behind a bit
abbrev pub behind_bit : Option (Option Bit × List ℕ) → (List ℕ → Option (List ℕ × List ℕ)) → Option (List ℕ × List ℕ)
behind_bit None more = None
behind_bit (Some (None, rest)) more = Some ([], rest)
behind_bit (Some (Some bit, rest)) more = option_map (with_text_before (bit_text bit)) (more rest)

-- the value up to this quote, of at most so many bits
abbrev pub value_taken : ℕ → ℕ → List ℕ → Option (List ℕ × List ℕ)
value_taken zero quote bytes = None
value_taken (suc n) quote bytes = behind_bit (bit_taken quote bytes) (λ rest. value_taken n quote rest)

-- ---- attributes

-- the first byte, where it is a quote, and what follows it
abbrev pub quote_taken : List ℕ → Option (ℕ × List ℕ)
quote_taken [] = None
quote_taken (c ∷ cs) = if (c == 34) || (c == 39) then Some (c, cs) else None

-- the name of an attribute, the quote of its value, and what follows the quote
unfoldable pub attribute_begun : List ℕ → Option (List ℕ × ℕ × List ℕ)
attribute_begun bytes =
    if begins_with is_blank bytes then
    option_and_then (λ x. option_and_then (λ rest. option_map (λ y. (x.0, y.0, y.1)) (quote_taken (past_blanks rest))) (stripped (codes "=") (past_blanks x.1)))
    (tag_name_taken (past_blanks bytes))
    else None

-- an attribute, and what follows it
unfoldable pub attribute_taken : List ℕ → Option (Attribute × List ℕ)
attribute_taken bytes =
    option_and_then (λ x. option_map (λ y. (record { name = x.0; value = y.0 }, y.1)) (value_taken (length x.2) x.1 x.2)) (attribute_begun bytes)

-- ---- tags

-- what follows the end of a tag, and whether it is one of an empty element
unfoldable pub tag_end_taken : List ℕ → Option (Bool × List ℕ)
tag_end_taken bytes =
    or_else (option_map (λ rest. (false, rest)) (stripped (codes ">") (past_blanks bytes)))
    (option_map (λ rest. (true, rest)) (stripped (codes "/>") (past_blanks bytes)))

-- the attributes, whether the tag is one of an empty element, and what follows the tag
abbrev pub TagParts : Type 0
TagParts = List Attribute × Bool × List ℕ

-- one attribute more in front
abbrev pub with_attribute : Attribute → TagParts → TagParts
with_attribute a parts = (a ∷ parts.0, parts.1, parts.2)

-- more attributes in front
abbrev pub with_attributes : List Attribute → TagParts → TagParts
with_attributes more parts = (more ++ parts.0, parts.1, parts.2)

-- the rest of a tag behind what stands at its front: its end, an attribute, or neither
abbrev pub behind_part : Option (Bool × List ℕ) → Option (Attribute × List ℕ) → (List ℕ → Option TagParts) → Option TagParts
behind_part (Some end) attribute more = Some ([], end.0, end.1)
behind_part None None more = None
behind_part None (Some a) more = option_map (with_attribute a.0) (more a.1)

-- the rest of a tag, of at most so many attributes and its end
abbrev pub tag_rest_taken : ℕ → List ℕ → Option TagParts
tag_rest_taken zero bytes = None
tag_rest_taken (suc n) bytes = behind_part (tag_end_taken bytes) (attribute_taken bytes) (λ rest. tag_rest_taken n rest)

-- whether all are different
abbrev pub all_different : List (List ℕ) → Bool
all_different [] = true
all_different (x ∷ xs) = not (list_any (bytes_eq x) xs) && all_different xs

-- a tag with this name
abbrev pub tag_piece : List ℕ → List Attribute → Bool → Piece
tag_piece name attributes true = Empty name attributes
tag_piece name attributes false = Start name attributes

-- the tag of these parts, where the names of its attributes are different
abbrev pub whole_tag : List ℕ → TagParts → Option (Piece × List ℕ)
whole_tag name parts =
    if all_different (map (λ (a : Attribute). a.name) parts.0) then Some (tag_piece name parts.0 parts.1, parts.2) else None

-- a start tag or an empty tag, behind its `<`
unfoldable pub tag_taken : List ℕ → Option (Piece × List ℕ)
tag_taken bytes = option_and_then (λ x. option_and_then (whole_tag x.0) (tag_rest_taken (length x.1 + 1) x.1)) (tag_name_taken bytes)

-- ---- other pieces

-- an end tag, behind its `</`
unfoldable pub end_taken : List ℕ → Option (Piece × List ℕ)
end_taken bytes = option_and_then (λ x. option_map (λ rest. (End x.0, rest)) (stripped (codes ">") (past_blanks x.1))) (tag_name_taken bytes)

-- a comment, behind its `<!--`
unfoldable pub comment_taken : List ℕ → Option (Piece × List ℕ)
comment_taken bytes = option_and_then (λ x. option_map (λ rest. (Aside, rest)) (stripped (codes ">") x.1)) (until (codes "--") bytes)

-- a section, behind its `<![CDATA[`
unfoldable pub section_taken : List ℕ → Option (Piece × List ℕ)
section_taken bytes = option_map (λ x. (Escaped x.0, x.1)) (until (codes "]]>") bytes)

-- what follows the name of an instruction
unfoldable pub instruction_rest : List ℕ → Option (List ℕ)
instruction_rest bytes =
    or_else (stripped (codes "?>") bytes) (if begins_with is_blank bytes then option_map (λ x. x.1) (until (codes "?>") (drop 1 bytes)) else None)

-- an instruction, behind its `<?`
unfoldable pub instruction_taken : List ℕ → Option (Piece × List ℕ)
instruction_taken bytes = option_and_then (λ x. option_map (λ rest. (Aside, rest)) (instruction_rest x.1)) (tag_name_taken bytes)

-- what is taken behind a word, where the text begins with it, and otherwise
abbrev pub behind_word : Option (List ℕ) → (List ℕ → Option (Piece × List ℕ)) → Option (Piece × List ℕ) → Option (Piece × List ℕ)
behind_word None taken other = other
behind_word (Some rest) taken other = taken rest

-- a piece of markup, behind its `<`
unfoldable pub markup_taken : List ℕ → Option (Piece × List ℕ)
markup_taken bytes =
    behind_word (stripped (codes "/") bytes) end_taken
    (behind_word (stripped (codes "!--") bytes) comment_taken
    (behind_word (stripped (codes "![CDATA[") bytes) section_taken
    (behind_word (stripped (codes "?") bytes) instruction_taken (tag_taken bytes))))

-- a character that stands for itself, and what follows it
abbrev pub plain_taken : List ℕ → Option (Piece × List ℕ)
plain_taken [] = None
plain_taken (c ∷ cs) = let n = continuation_len c + 1 in if nat_le n (length (c ∷ cs)) then Some (Plain (take n (c ∷ cs)), drop n (c ∷ cs)) else None

-- an escape, behind its `&`
unfoldable pub escape_piece_taken : List ℕ → Option (Piece × List ℕ)
escape_piece_taken bytes = option_map (λ x. (Escaped (encode_utf8 x.0), x.1)) (escape_taken bytes)

-- the piece that stands at the front, and what follows it
unfoldable pub piece_taken : List ℕ → Option (Piece × List ℕ)
piece_taken [] = None
piece_taken (c ∷ cs) =
    if c == 60 then markup_taken cs
    else (if c == 38 then escape_piece_taken cs else plain_taken (c ∷ cs))
