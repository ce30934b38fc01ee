-- What forms give in a field, and the numbers of slots.
use Rattle.std.specs.Prelude.{◌≡◌, ℕ, List, map, length, Option, slice_index_or}
use Rattle.std.specs.Option.{option_copied}
use Rattle.std.specs.Borrow.{Bor}
use Rattle.pssm_model.specs.declared.draft_setting.ElementRef.{ElementRef}
use Rattle.pssm_model.specs.declared.draft_setting.Draft.{Draft}
use Rattle.pssm_model.specs.declared.draft_setting.Body.{Body}
use Rattle.pssm_redefine.specs.declared.bodies.Place.{Place}
use Rattle.pssm_redefine.specs.Bodies.{number_from}
use Rattle.pssm_redefine.specs.declared.forms.BodyField.{BodyField}
use Rattle.pssm_redefine.specs.declared.forms.BodyField.TheVariants.{Entry, Exit, Steps, Effect}
use Rattle.pssm_redefine.specs.Forms.{given_entry, given_exit, given_steps, given_effect}

-- the body that a form gives in a field
abbrev pub given_body : Draft → BodyField → ElementRef → Option Body
given_body draft Entry form = given_entry draft form
given_body draft Exit form = given_exit draft form
given_body draft Steps form = given_steps draft form
given_body draft Effect form = given_effect draft form

-- what is lent in the slots
abbrev pub lent_bodies : List (Option (Bor Body)) → List (Option Body)
lent_bodies slots = map option_copied slots

-- the numbers of the slots, as many as there are, where the first of the places has the number `n`
pub record AreNumbers (width n : ℕ) (places : List Place) (numbers : List ℕ) : Type 0 where
  pub all : length numbers ≡ width
  pub each : (slot : ℕ) → slice_index_or numbers slot 0 ≡ number_from n places slot
