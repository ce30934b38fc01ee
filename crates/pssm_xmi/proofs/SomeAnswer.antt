-- A file has a draft or a fault.
use Rattle.std.proofs.Common.{◌≤◌, inl, inr, ℕ, List, length, refl}
use Rattle.pssm_model.specs.declared.draft_setting.Draft.{Draft}
use Rattle.pssm_xml.specs.Documents.{Element}
use Rattle.pssm_xml.specs.TextFaults.{HasElements}
use Rattle.pssm_profile.specs.declared.fault.XmiFault.{XmiFault}
use Rattle.pssm_profile.specs.declared.flaw.Flaw.{Flaw}
use Rattle.pssm_profile.specs.Flaws.{HasFlaw}
use Rattle.pssm_profile.specs.Faults.{place_of, of_text, fault_at, IsFirstFlaw, IsProfileFault, HasNoProfileFault}
use Rattle.pssm_numbering.specs.Numbering.{ModelFile, file_of}
use Rattle.pssm_drafting.specs.Drafts.{draft_of}
use Rattle.pssm_xmi.specs.Faults.{HasSecondFault, HasNoSecondFault, byte_of, rank_of, IsFileOf, IsXmiFault, ReadsDraft}
use Rattle.pssm_xmi.proofs.Behind.{stand_behind}
use Rattle.pssm_xml.proofs.SomeFirst.{IsLeast, some_first}
use Rattle.pssm_xml.proofs.SomeText.{some_text}
use Rattle.pssm_xmi.proofs.SomeRoles.{some_roles, flaw_begins}

-- ---- the first flaw

-- an element with a flaw
abbrev IsFlawed : List Element → (ℕ × Flaw) → Type 0
IsFlawed doc x = HasFlaw doc x.0 x.1

abbrev element_of : (ℕ × Flaw) → ℕ
element_of x = x.0

abbrev flaw_place : (ℕ × Flaw) → ℕ
flaw_place x = place_of x.1

-- The first flaw is a fault.
flaw_told : (doc : List Element) (x : ℕ × Flaw) → IsFlawed doc x → IsLeast (ℕ × Flaw) (IsFlawed doc) element_of flaw_place x
    → (fault : XmiFault) × IsProfileFault doc fault
flaw_told doc x has least =
    let begins = flaw_begins doc x.0 x.1 has in
    let first : IsFirstFlaw doc x.0 x.1 = record {
      has = has;
      first = λ m other also less. least (m, other) also (inl less);
      least = λ other also less. least (x.0, other) also (inr (refl, less));
    } in
    (fault_at begins.0 x.1, record { element = x.0; flaw = x.1; first = first; at = begins.0; begins = begins.1; told = refl })

-- ---- the answer

module _ (bytes : List ℕ) (none_read : (draft : Draft) → ReadsDraft bytes draft → ⊥) (none_told : (fault : XmiFault) → IsXmiFault bytes fault → ⊥) where
  no_flaw : (file : ModelFile) → IsFileOf bytes file → HasNoProfileFault file.doc
  no_flaw file is n flaw has =
      some_first (ℕ × Flaw) (IsFlawed file.doc) element_of flaw_place
      (λ x also least. let told = flaw_told file.doc x also least in none_told told.0 (IsXmiFault.first is told.1))
      (n, flaw) has

  no_second : (file : ModelFile) → IsFileOf bytes file → HasNoSecondFault file
  no_second file is fault has =
      some_first XmiFault (HasSecondFault file) byte_of rank_of
      (λ x also least. none_told x (IsXmiFault.second is (no_flaw file is) (record { has = also; first = least })))
      fault has

  no_elements : (doc : List Element) → HasElements bytes doc → ⊥
  no_elements doc has =
      let roles = some_roles doc (stand_behind has.pieces doc has.document) in
      let file = file_of doc roles.0 in
      let is : IsFileOf bytes file = record { text = has; roles = roles.1 } in
      none_read (draft_of file) (record { file = file; is_file = is; none_first = no_flaw file is; none_second = no_second file is; is_draft = refl })

  neither : ⊥
  neither = some_text bytes no_elements (λ fault is. none_told (of_text fault) (IsXmiFault.text is))

-- It cannot be that a file has neither a draft nor a fault.
pub some_answer : (bytes : List ℕ) → length bytes ≤ 16777216 → ((draft : Draft) → ReadsDraft bytes draft → ⊥) → ((fault : XmiFault) → IsXmiFault bytes fault → ⊥) → ⊥
some_answer bytes few none_read none_told = neither bytes none_read none_told
