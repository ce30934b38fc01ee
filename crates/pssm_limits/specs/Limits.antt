-- Machines and classes of a model file that pass a limit of its draft.
use Rattle.std.specs.Prelude.{◌≡◌, ◌<◌, ℕ, Some, slice_get}
use Rattle.pssm_model.specs.DraftSettings.{IsSmallMachine, HasFewVariables}
use Rattle.pssm_xml.specs.Elements.{BeginsAt}
use Rattle.pssm_numbering.specs.Numbering.{ModelFile, machines, classes}
use Rattle.pssm_drafting.specs.Drafts.{draft_of, class_at}

-- The element is a machine whose regions, vertices, transitions or bodies pass the limit, or a class whose variables do. Those of the machines that it extends are
-- counted with it, and a machine that extends itself is counted once (this profile's choice).
pub data PassesLimit (file : ModelFile) (n : ℕ) : Type 0 where
  elements : (place : ℕ) → slice_get (machines file) place ≡ Some n → (IsSmallMachine (draft_of file) place → ⊥) → PassesLimit file n
  variables : (place : ℕ) → slice_get (classes file) place ≡ Some n → (HasFewVariables (draft_of file) (class_at file n) → ⊥) → PassesLimit file n

-- the byte at which an element begins that passes a limit, and before which none does that passes one
pub record IsFirstPast (file : ModelFile) (byte : ℕ) : Type 0 where
  pub n : ℕ
  pub passes : PassesLimit file n
  pub begins : BeginsAt file.doc n byte
  pub first : (m at : ℕ) → PassesLimit file m → BeginsAt file.doc m at → at < byte → ⊥
