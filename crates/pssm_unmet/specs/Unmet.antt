-- What is wrong with the references of a file, and which of it comes: the first by the byte where the reference stands, and at one byte an unknown element
-- before an event of another type (this profile's choice).
use Rattle.std.specs.Prelude.{◌≡◌, ◌<◌, ◌⊎◌, ℕ, List, IsTrue, IsFalse}
use Rattle.pssm_xml.specs.Elements.{BeginsAt}
use Rattle.pssm_numbering.specs.Numbering.{ModelFile}
use Rattle.pssm_unmet.specs.declared.following.Target.{Target}
use Rattle.pssm_unmet.specs.declared.unmet.Unmet.{Unmet}
use Rattle.pssm_unmet.specs.declared.unmet.Unmet.TheVariants as unmet
use Rattle.pssm_unmet.specs.References.{IsUnmet, means_other_event}

-- what is wrong with a reference of the file, and the byte at which the element begins where the reference stands
pub data HasUnmet (file : ModelFile) : Unmet → Type 0 where
  -- a reference that means no element, or one of the wrong kind
  unknown : {target : Target} {at byte : ℕ} {id : List ℕ} → IsUnmet file target at id → IsFalse (means_other_event file target id) → BeginsAt file.doc at byte
      → HasUnmet file (unmet.Unknown byte)
  -- an event that is none of a signal
  event : {target : Target} {at byte : ℕ} {id : List ℕ} → IsUnmet file target at id → IsTrue (means_other_event file target id) → BeginsAt file.doc at byte
      → HasUnmet file (unmet.Event byte)

-- No reference of the file is wrong.
abbrev pub HasNoUnmet : ModelFile → Type 0
HasNoUnmet file = (one : Unmet) → HasUnmet file one → ⊥

-- ---- the order

-- the byte where it stands
abbrev pub byte_of : Unmet → ℕ
byte_of (unmet.Unknown at) = at
byte_of (unmet.Event at) = at

-- the place of a fault among those of one byte
abbrev pub place_of : Unmet → ℕ
place_of (unmet.Unknown at) = 0
place_of (unmet.Event at) = 1

-- It comes before the other.
abbrev pub ComesBefore : Unmet → Unmet → Type 0
ComesBefore one other = (byte_of one < byte_of other) ⊎ ((byte_of one ≡ byte_of other) × (place_of one < place_of other))

-- The file has this fault, and none that comes before it.
pub record IsFirstUnmet (file : ModelFile) (one : Unmet) : Type 0 where
  pub has : HasUnmet file one
  pub first : (other : Unmet) → HasUnmet file other → ComesBefore other one → ⊥
