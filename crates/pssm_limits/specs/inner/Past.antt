-- What is known of the machines and classes of a file, and the first element that passes a limit among the first ones.
use Rattle.std.specs.Prelude.{◌≡◌, ◌<◌, ℕ, Bool, true, not, ◌&&◌, min, Option, Some, None, MatchOption}
use Rattle.pssm_model.specs.DraftSettings.{HasFewVariables}
use Rattle.pssm_xml.specs.Elements.{BeginsAt}
use Rattle.pssm_totals.specs.Totals.{ExtendWithin, extends_of}
use Rattle.pssm_numbering.specs.Numbering.{ModelFile, role_at, machines, is_machine, is_class, place_in}
use Rattle.pssm_drafting.specs.Drafts.{draft_of, class_at}
use Rattle.pssm_limits.specs.declared.past.Tables.{Tables}
use Rattle.pssm_limits.specs.Limits.{PassesLimit}
use Rattle.pssm_limits.specs.inner.Counts.{HoldTotals, are_few}
use Rattle.pssm_limits.specs.inner.Variables.{HoldClasses}

-- the tables of a file
pub record HoldTables (file : ModelFile) (tables : Tables) : Type 0 where
  pub extends : tables.extends.items ≡ extends_of (draft_of file)
  pub within : ExtendWithin tables.extends.items
  pub totals : HoldTotals (draft_of file) tables.totals
  pub classes : HoldClasses file tables.classes

-- The element is a machine whose totals pass the limit.
abbrev pub is_large : ModelFile → Tables → ℕ → Bool
is_large file tables n = is_machine (role_at file n) && not (are_few tables.totals (place_in (machines file) n))

-- The element is a class whose variables pass the limit.
abbrev pub IsWideClass : ModelFile → ℕ → Type 0
IsWideClass file n = (is_class (role_at file n) ≡ true) × (HasFewVariables (draft_of file) (class_at file n) → ⊥)

-- the lesser of two bytes, where there is a first one
abbrev pub least : Option ℕ → ℕ → ℕ
least None byte = byte
least (Some before) byte = min before byte

-- the least byte of those of the first elements that pass a limit
pub record IsFirstTo (file : ModelFile) (k byte : ℕ) : Type 0 where
  pub n : ℕ
  pub passes : PassesLimit file n
  pub begins : BeginsAt file.doc n byte
  pub first : (m at : ℕ) → m < k → PassesLimit file m → BeginsAt file.doc m at → at < byte → ⊥

-- The same, where one of them does; otherwise none does.
abbrev pub IsFirstBelow : ModelFile → ℕ → Option ℕ → Type 0
IsFirstBelow file k found = MatchOption found ((m : ℕ) → m < k → PassesLimit file m → ⊥) (IsFirstTo file k)
