-- The flat draft of a class, or the one fault of flattening its machine.
use Rattle.std.specs.Prelude.{◌≡◌, ℕ, Some, slice_get}
use Rattle.pssm_model.specs.declared.draft_setting.Draft.{Draft}
use Rattle.pssm_model.specs.declared.draft_setting.DraftClass.{DraftClass}
use Rattle.pssm_model.specs.declared.draft_setting.FlatDraft.{FlatDraft}
use Rattle.pssm_heritage.specs.declared.fault.RedefFault.{RedefFault}
use Rattle.pssm_breaches.specs.Rules.{BreaksNothing}
use Rattle.pssm_breaches.specs.Faults.{IsRedefFault}
use Rattle.pssm_redefine.specs.Gathering.{IsFlattened}

-- The class with this number has this flat draft: no element of its machine, and of those that it extends, breaks a rule of redefinition, and the flat draft
-- has all that the machine inherits (UML 2.5.1 14.3.3). A machine that extends itself, directly or through others, has no flat draft, since it is made of no
-- chain of machines.
pub record Flattens (draft : Draft) (class : ℕ) (flat : FlatDraft) : Type 0 where
  pub of : DraftClass
  pub is : slice_get draft.classes class ≡ Some of
  pub keeps : BreaksNothing draft of.machine
  pub flattened : IsFlattened draft of flat

-- The fault is that of the machine of the class with this number.
pub record IsFaultOfClass (draft : Draft) (class : ℕ) (fault : RedefFault) : Type 0 where
  pub of : DraftClass
  pub is : slice_get draft.classes class ≡ Some of
  pub has : IsRedefFault draft of.machine fault
