use Rattle.std.proofs.Common.{◌≡◌, ◌⊎◌, List, subst, inl, inr, ⊎_elim}
use Rattle.pssm_xml.specs.Documents.{Element}
use Rattle.pssm_profile.specs.declared.fault.XmiFault.TheVariants as xmi_faults
use Rattle.pssm_profile.specs.Faults.{IsProfileFault, HasNoProfileFault}
use Rattle.pssm_xmi.specs.Faults.{IsXmiFault, IsFirstSecondFault}
use Rattle.pssm_xmi.specs.Faults.IsXmiFault.{first, second}
use Rattle.pssm_xmi.proofs.HandedLaws.{handed_on, told_on}
use Rattle.pssm_xmi.proofs.reading.drafted_or_fault.Goals as goal

pub returns-in_err-checked-clause-fault : goal.returns-in_err-checked-clause-fault
returns-in_err-checked-clause-fault c =
    let bytes = c.args.bytes.now in let fault = c.in_err-checked.field-0.0 in
    handed_on (λ f. (f ≡ xmi_faults.NoMemory) ⊎ IsXmiFault bytes f) c.from_residual.result fault c.from_residual.ensures.1
    (⊎_elim (λ none. inl none) (λ is. inr (first c.requires (subst (λ (doc : List Element). IsProfileFault doc fault) c.elements.ensures is)))
    c.in_err-checked.ensures.fault)

pub drafted-requires-clause-first : goal.drafted-requires-clause-first
drafted-requires-clause-first c = subst (λ (doc : List Element). HasNoProfileFault doc) c.elements.ensures c.in_ok-checked.ensures.sound

pub returns-clause-fault : goal.returns-clause-fault
returns-clause-fault c =
    let bytes = c.args.bytes.now in let file = c.args.file.now in
    let none = subst (λ (doc : List Element). HasNoProfileFault doc) c.elements.ensures c.in_ok-checked.ensures.sound in
    told_on (λ f. (f ≡ xmi_faults.NoMemory) ⊎ IsFirstSecondFault file f) (λ f. (f ≡ xmi_faults.NoMemory) ⊎ IsXmiFault bytes f) c.drafted.result
    (λ f told. ⊎_elim (λ no_memory. inl no_memory) (λ is. inr (second c.requires none is)) told) c.drafted.ensures.fault
