-- The characters of XML texts, and the places of a text that are no UTF-8.
use Rattle.std.specs.Prelude.{◌≡◌, ◌≢◌, ◌≤◌, ℕ, Bool, ◌||◌, ◌==◌, IsTrue, List, [], ◌++◌, length, encode_utf8_all}
use Rattle.std.specs.List.{list_all, AllByRecursion}
use Rattle.std.specs.Char.{IsScalar}
use Rattle.std.specs.Str.{IsUtf8}

-- a character of XML texts: tab, line feed, carriage return, and what stands from U+0020 on but U+FFFE and U+FFFF; surrogates are none (XML 1.0 2.2, characters)
pub data IsCharacter (c : ℕ) : Type 0 where
  control : IsTrue ((c == 9) || (c == 10) || (c == 13)) → IsCharacter c
  printed : IsScalar c → 32 ≤ c → c ≢ 65534 → c ≢ 65535 → IsCharacter c

-- The bytes are characters in UTF-8, each of them one that XML has (XML 1.0 2.2 and 4.3.3).
pub record AreCharacters (bytes : List ℕ) : Type 0 where
  pub codes : List ℕ
  pub characters : AllByRecursion IsCharacter codes
  pub spelled : encode_utf8_all codes ≡ bytes

-- a space, a tab, a carriage return or a line feed (XML 1.0 2.3, white space)
abbrev pub is_blank : ℕ → Bool
is_blank c = (c == 32) || (c == 9) || (c == 13) || (c == 10)

-- blanks, or nothing
abbrev pub AreBlanks : List ℕ → Type 0
AreBlanks bytes = IsTrue (list_all is_blank bytes)

-- The bytes before this place are UTF-8, and no longer front of the text is: the byte there belongs to no character (this profile's choice).
pub record IsNoUtf8At (bytes : List ℕ) (at : ℕ) : Type 0 where
  pub front : List ℕ
  pub rest : List ℕ
  pub parts : bytes ≡ front ++ rest
  pub counted : at ≡ length front
  pub utf8 : IsUtf8 front
  pub some : rest ≢ []
  pub last : (longer more : List ℕ) → bytes ≡ longer ++ more → IsUtf8 longer → length longer ≤ length front

-- The word stands nowhere in the text.
abbrev pub HasNo : List ℕ → List ℕ → Type 0
HasNo word text = (before after : List ℕ) → text ≡ before ++ word ++ after → ⊥
