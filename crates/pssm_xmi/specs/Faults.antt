-- The one fault that is told of a file, and the draft of a file without faults.
use Rattle.std.specs.Prelude.{◌≡◌, ◌<◌, ◌⊎◌, ℕ, suc, List}
use Rattle.pssm_model.specs.declared.draft_setting.Draft.{Draft}
use Rattle.pssm_xml.specs.Elements.{BeginsAt}
use Rattle.pssm_xml.specs.declared.fault.TextFault.{TextFault}
use Rattle.pssm_xml.specs.TextFaults.{HasElements}
use Rattle.pssm_xml.specs.Faults.{IsTextFault}
use Rattle.pssm_roles.specs.Roles.{AreRolesOf}
use Rattle.pssm_profile.specs.declared.fault.XmiFault.{XmiFault}
use Rattle.pssm_profile.specs.declared.fault.XmiFault.TheVariants as faults
use Rattle.pssm_profile.specs.declared.flaw.Unread.TheVariants as unread
use Rattle.pssm_profile.specs.Faults.{place_of_unread, of_text, IsProfileFault, HasNoProfileFault}
use Rattle.pssm_numbering.specs.Numbering.{ModelFile}
use Rattle.pssm_unmet.specs.declared.unmet.Unmet.{Unmet}
use Rattle.pssm_unmet.specs.declared.unmet.Unmet.TheVariants as unmet
use Rattle.pssm_unmet.specs.Unmet.{HasUnmet}
use Rattle.pssm_limits.specs.Limits.{PassesLimit}
use Rattle.pssm_drafting.specs.Drafts.{draft_of}

-- ---- what is wrong in a file at last

-- what is wrong with a reference, as a fault
abbrev pub of_unmet : Unmet → XmiFault
of_unmet (unmet.Unknown at) = faults.UnknownRef at
of_unmet (unmet.Event at) = faults.Unsupported at unread.Event

-- what is found wrong in a file at last: in its references and its counts
pub data HasSecondFault (file : ModelFile) : XmiFault → Type 0 where
  reference : {one : Unmet} → HasUnmet file one → HasSecondFault file (of_unmet one)
  many : {n byte : ℕ} → PassesLimit file n → BeginsAt file.doc n byte → HasSecondFault file (faults.Unsupported byte unread.TooMany)

-- Nothing of it is wrong.
abbrev pub HasNoSecondFault : ModelFile → Type 0
HasNoSecondFault file = (fault : XmiFault) → HasSecondFault file fault → ⊥

-- ---- the order of what is found at last

-- where a fault stands
abbrev pub byte_of : XmiFault → ℕ
byte_of (faults.Malformed at) = at
byte_of (faults.NotUtf8 at) = at
byte_of (faults.Doctype at) = at
byte_of (faults.DoubleId at) = at
byte_of (faults.UnknownRef at) = at
byte_of (faults.Unsupported at kind) = at
byte_of (faults.Missing at role) = at
byte_of (faults.TooDeep at) = at
byte_of faults.NoMemory = 0

-- its place among those at one byte: a reference that means nothing first, and then what is not read, in its order
abbrev pub rank_of : XmiFault → ℕ
rank_of (faults.Unsupported at kind) = suc (place_of_unread kind)
rank_of _ = 0

-- The first fault comes before the second (this profile's choice).
abbrev pub ComesBefore : XmiFault → XmiFault → Type 0
ComesBefore f g = (byte_of f < byte_of g) ⊎ ((byte_of f ≡ byte_of g) × (rank_of f < rank_of g))

-- the first of the faults of references and counts
pub record IsFirstSecondFault (file : ModelFile) (fault : XmiFault) : Type 0 where
  pub has : HasSecondFault file fault
  pub first : (other : XmiFault) → HasSecondFault file other → ComesBefore other fault → ⊥

-- ---- the stages

-- The bytes are a text with these elements, and these are their roles.
pub record IsFileOf (bytes : List ℕ) (file : ModelFile) : Type 0 where
  pub text : HasElements bytes file.doc
  pub roles : AreRolesOf file.doc file.roles

-- the fault of a file: that of its text; otherwise the first of its elements; otherwise the first of references and counts (this profile's choice of the order)
pub data IsXmiFault (bytes : List ℕ) : XmiFault → Type 0 where
  text : {fault : TextFault} → IsTextFault bytes fault → IsXmiFault bytes (of_text fault)
  first : {file : ModelFile} {fault : XmiFault} → IsFileOf bytes file → IsProfileFault file.doc fault → IsXmiFault bytes fault
  second : {file : ModelFile} {fault : XmiFault} → IsFileOf bytes file → HasNoProfileFault file.doc → IsFirstSecondFault file fault → IsXmiFault bytes fault

-- The bytes are a file without faults, and this is its draft.
pub record ReadsDraft (bytes : List ℕ) (draft : Draft) : Type 0 where
  pub file : ModelFile
  pub is_file : IsFileOf bytes file
  pub none_first : HasNoProfileFault file.doc
  pub none_second : HasNoSecondFault file
  pub is_draft : draft ≡ draft_of file
