-- What is asked of elements one after another: their texts and types.
use Rattle.std.specs.Prelude.{◌≤◌, ℕ, Bool, true, List, length, map, codes, Option, MatchOption}
use Rattle.std.specs.Option.{option_map_or}
use Rattle.pssm_xml.specs.Documents.{Element}
use Rattle.pssm_xml.specs.Elements.{IsParent}
use Rattle.pssm_roles.specs.Ids.{element_meant}
use Rattle.pssm_roles.specs.Roles.{is_typed}
use Rattle.pssm_values.specs.Bodies.{HasSeen}
use Rattle.pssm_values.specs.declared.bodies.BodyChoice.{BodyChoice}
use Rattle.pssm_profile.specs.inner.Children.{before}

-- the text of an element
abbrev pub own_text : Element → List ℕ
own_text e = e.text

-- The id means a primitive type or nothing.
abbrev pub means_primitive : List Element → List ℕ → Bool
means_primitive doc id = option_map_or (is_typed (codes "uml:PrimitiveType")) (element_meant doc id) true

-- The choice has seen the languages and bodies before this child.
abbrev pub HasSeenTo : List Element → ℕ → Option ℕ → BodyChoice → Type 0
HasSeenTo doc p next choice = HasSeen choice (map own_text (before doc p (codes "language") next)) (length (before doc p (codes "body") next))

-- The next child, where there is one, is so far behind.
abbrev pub IsBehind : List Element → ℕ → (turn : ℕ) → Option ℕ → Type 0
IsBehind doc p turn next = MatchOption next (Unit {0}) (λ child. (turn ≤ child) × IsParent doc p child)
