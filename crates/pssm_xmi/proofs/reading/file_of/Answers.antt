use Rattle.std.proofs.Common.{◌≡◌, ◌⊎◌, ap, inl, inr, ⊎_elim}
use Rattle.pssm_profile.specs.declared.fault.XmiFault.TheVariants as xmi_faults
use Rattle.pssm_profile.specs.Faults.{of_text}
use Rattle.pssm_xmi.specs.Faults.{IsXmiFault}
use Rattle.pssm_xmi.specs.Faults.IsXmiFault.{text}
use Rattle.pssm_xmi.proofs.HandedLaws.{handed_on}
use Rattle.pssm_xmi.proofs.reading.file_of.Goals as goal

pub returns-in_err-elements-clause-fault : goal.returns-in_err-elements-clause-fault
returns-in_err-elements-clause-fault c =
    let bytes = c.args.bytes.now in let fault = c.in_err-elements.field-0.0 in
    handed_on (λ f. (f ≡ xmi_faults.NoMemory) ⊎ IsXmiFault bytes f) c.from_residual.result (of_text fault) c.from_residual.ensures.1
    (⊎_elim (λ none. inl (ap of_text none)) (λ is. inr (text is)) c.in_err-elements.ensures.fault)
