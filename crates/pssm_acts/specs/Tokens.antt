-- How the bytes of an action text are cut into tokens: the longest is taken, blanks may stand between them, and whether a `-` belongs to a number is told by the token before it (this profile's choice).
use Rattle.std.specs.Prelude.{ℕ, suc, zero, ◌+◌, ◌-◌, Bool, true, false, ◌&&◌, ◌||◌, List, [], ◌∷◌, length, take, min, Option, Some, None, nat_lt, nat_le, ◌==◌, if◌then◌else◌, bytes_eq, codes}
use Rattle.std.specs.List.{prefix_len, slice_index_or}
use Rattle.pssm_spelling.specs.Spelling.{continues_name}
use Rattle.pssm_spelling.specs.SpellingReading.{is_digit, starts_name}
use Rattle.pssm_semantics.specs.declared.tree.Rel.TheVariants.{Eq, Ne, Lt, Le, Gt, Ge}
use Rattle.pssm_acts.specs.declared.token.Kind.{Kind}
use Rattle.pssm_acts.specs.declared.token.Kind.TheVariants as kinds

-- a space, a tab, a carriage return or a line feed
abbrev pub is_blank : ℕ → Bool
is_blank c = (c == 32) || (c == 9) || (c == 13) || (c == 10)

-- The words of the language are not names.
abbrev pub word_kind : List ℕ → Kind
word_kind word =
    if bytes_eq word (codes "if") then kinds.If else
    if bytes_eq word (codes "else") then kinds.Else else
    if bytes_eq word (codes "send") then kinds.Send else
    if bytes_eq word (codes "mark") then kinds.Mark else
    if bytes_eq word (codes "step") then kinds.Step else
    if bytes_eq word (codes "true") then kinds.True else
    if bytes_eq word (codes "false") then kinds.False else
    if bytes_eq word (codes "self") then kinds.Own else kinds.Name

-- the signs of two bytes: `&&`, `||`, `==`, `!=`, `<=`, `>=`, `:=`
abbrev pub double_sign : ℕ → ℕ → Option Kind
double_sign c d =
    if (c == 38) && (d == 38) then Some kinds.And else
    if (c == 124) && (d == 124) then Some kinds.Or else
    if (c == 61) && (d == 61) then Some (kinds.Relation Eq) else
    if (c == 33) && (d == 61) then Some (kinds.Relation Ne) else
    if (c == 60) && (d == 61) then Some (kinds.Relation Le) else
    if (c == 62) && (d == 61) then Some (kinds.Relation Ge) else
    if (c == 58) && (d == 61) then Some kinds.Becomes else None

-- the signs of one byte: `+ - * ( ) [ ] { } ! < > ; , .`
abbrev pub single_sign : ℕ → Kind
single_sign c =
    if c == 43 then kinds.Plus else
    if c == 45 then kinds.Minus else
    if c == 42 then kinds.Times else
    if c == 40 then kinds.Open else
    if c == 41 then kinds.Close else
    if c == 91 then kinds.OpenBracket else
    if c == 93 then kinds.CloseBracket else
    if c == 123 then kinds.OpenBrace else
    if c == 125 then kinds.CloseBrace else
    if c == 33 then kinds.Not else
    if c == 60 then kinds.Relation Lt else
    if c == 62 then kinds.Relation Gt else
    if c == 59 then kinds.Semicolon else
    if c == 44 then kinds.Comma else
    if c == 46 then kinds.Dot else kinds.Unknown

-- a sign of two bytes, or else the sign of one; and its length
abbrev pub longest_sign : Option Kind → ℕ → Kind × ℕ
longest_sign (Some kind) c = (kind, 2)
longest_sign None c = (single_sign c, 1)

-- a parameter, `$1` to `$8`, or the longest sign that begins with these two bytes; and its length
unfoldable pub sign_front : ℕ → ℕ → Kind × ℕ
sign_front c d = if (c == 36) && nat_le 49 d && nat_le d 56 then (kinds.Param (d - 48), 2) else longest_sign (double_sign c d) c

-- the length of a number of `-` and so many digits; 0 where an operand stands before or there is no digit
abbrev pub negative_len : Bool → ℕ → ℕ
negative_len after_operand digits = if after_operand || (digits == 0) then 0 else 1 + digits

-- the length of the number that the bytes begin with: a `-` directly before a digit belongs to it where no operand stands before
unfoldable pub number_len : Bool → List ℕ → ℕ
number_len after_operand [] = 0
number_len after_operand (c ∷ cs) = if c == 45 then negative_len after_operand (prefix_len is_digit cs) else prefix_len is_digit (c ∷ cs)

-- what the bytes begin with, and how long it is: a word of at most 64 bytes, a number, or a sign
abbrev pub number_or_sign : ℕ → List ℕ → Kind × ℕ
number_or_sign digits bytes = if nat_lt 0 digits then (kinds.Number, digits) else sign_front (slice_index_or bytes 0 0) (slice_index_or bytes 1 0)

unfoldable pub front : Bool → List ℕ → Kind × ℕ
front after_operand bytes =
    let len = min (prefix_len continues_name bytes) 64 in
    if starts_name bytes then (word_kind (take len bytes), len) else number_or_sign (number_len after_operand bytes) bytes

-- An operand ends with a name, a number, a parameter or `)`.
abbrev pub ends_operand : Kind → Bool
ends_operand kinds.Name = true
ends_operand kinds.Number = true
ends_operand (kinds.Param k) = true
ends_operand kinds.Close = true
ends_operand kind = false

-- a token: how many bytes of the text stand before it, what it is, and its bytes
pub record Token : Type 0 where
  pub at : ℕ
  pub kind : Kind
  pub word : List ℕ

-- the tokens of what is left of a text of so many bytes; the first bytes of it may belong to a token that was taken
unfoldable pub cut : ℕ → Bool → ℕ → List ℕ → List Token
cut end after_operand used [] = []
cut end after_operand (suc used) (c ∷ cs) = cut end after_operand used cs
cut end after_operand zero (c ∷ cs) =
    let f = front after_operand (c ∷ cs) in
    if is_blank c then cut end after_operand zero cs
    else record { at = end - length (c ∷ cs); kind = f.0; word = take f.1 (c ∷ cs) } ∷ cut end (ends_operand f.0) (f.1 - 1) cs

-- the tokens of a text
abbrev pub tokens_of : List ℕ → List Token
tokens_of text = cut (length text) false 0 text
