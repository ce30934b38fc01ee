-- The bodies of a flattened machine, and their numbers.
use Rattle.std.specs.Prelude.{◌≡◌, ℕ, ◌+◌, ◌==◌, List, [], ◌∷◌, map, Option, Some, None, if◌then◌else◌, slice_get, option_and_then, IsPermutation, IsSorted}
use Rattle.std.specs.Ordering.{nat_cmp, ordering_then}
use Rattle.std.specs.declared.cmp.Ordering.{Ordering}
use Rattle.pssm_model.specs.declared.draft_setting.Body.{Body}
use Rattle.pssm_redefine.specs.declared.bodies.Place.{Place}

-- ---- slots: what may have a body, in the order of the elements, vertices before transitions, and in one element in the order of its fields

-- the body in a slot, where one stands there
abbrev pub body_in : List (Option Body) → ℕ → Option Body
body_in slots slot = option_and_then (λ body. body) (slice_get slots slot)

-- where bodies stand: in slots that are numbered from this number on
abbrev pub places_from : ℕ → List (Option Body) → List Place
places_from n [] = []
places_from n (None ∷ slots) = places_from (n + 1) slots
places_from n (Some body ∷ slots) = record { at = body.at; slot = n } ∷ places_from (n + 1) slots

-- ---- order and numbers

-- by the byte of the file, and at the same byte by the slot
abbrev pub place_order : Place → Place → Ordering
place_order a b = ordering_then (nat_cmp a.at b.at) (nat_cmp a.slot b.slot)

-- the empty behaviour
abbrev pub empty_body : Body
empty_body = record { id = []; at = 0; text = [] }

-- the number of the body of this slot, where the first of the places has the number `n`; 0, that of the empty behaviour, where none stands there
abbrev pub number_from : ℕ → List Place → ℕ → ℕ
number_from n [] slot = 0
number_from n (place ∷ places) slot = if place.slot == slot then n else number_from (n + 1) places slot

-- The order of the bodies that stand in the slots (this profile's choice).
pub record IsOrder (slots : List (Option Body)) (order : List Place) : Type 0 where
  pub same : IsPermutation (places_from 0 slots) order
  pub ascending : IsSorted place_order order

-- The bodies stand in this order, with the empty one before them.
abbrev pub AreBodies : List (Option Body) → List Place → List Body → Type 0
AreBodies slots order bodies = map Some bodies ≡ Some empty_body ∷ map (λ (p : Place). body_in slots p.slot) order
