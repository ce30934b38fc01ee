-- A class has a flat draft or a fault.
use Rattle.std.proofs.Common.{◌≡◌, ℕ, List, subst, sym}
use Rattle.pssm_model.specs.declared.draft_setting.Draft.{Draft}
use Rattle.pssm_model.specs.declared.draft_setting.DraftClass.{DraftClass}
use Rattle.pssm_model.specs.declared.draft_setting.FlatDraft.{FlatDraft}
use Rattle.pssm_heritage.specs.declared.fault.RedefFault.{RedefFault}
use Rattle.pssm_heritage.specs.declared.fault.RedefFault.TheVariants as faults
use Rattle.pssm_heritage.specs.Faults.{IsCycleFault}
use Rattle.pssm_heritage.specs.Chains.{IsChain}
use Rattle.pssm_heritage.proofs.OneLaws.{no_circle_above}
use Rattle.pssm_breaches.specs.Rules.{BreaksNothing}
use Rattle.pssm_breaches.specs.Faults.{IsRedefFault}
use Rattle.pssm_breaches.specs.Faults.IsRedefFault.{cycle, broken}
use Rattle.pssm_breaches.proofs.OneLaws.{same_redef_fault}
use Rattle.pssm_redefine.specs.Flattening.{Flattens, IsFaultOfClass}

-- a machine that keeps the rules and has a chain has no fault
no_fault : {draft : Draft} {m : ℕ} {f : RedefFault} {machines : List ℕ} → IsChain draft m machines → BreaksNothing draft m → IsRedefFault draft m f → ⊥
no_fault chain keeps (cycle x parts first is) = no_circle_above chain first.reached first.cyclic
no_fault chain keeps (broken others again kind e rule breach) = keeps kind e rule breach.within breach.breaks

pub apart : (draft : Draft) (class : ℕ) (flat : FlatDraft) (fault : RedefFault) → Flattens draft class flat → IsFaultOfClass draft class fault → ⊥
apart draft class flat fault h f =
    let is = h.is in
    let was = f.is in
    let same : f.of ≡ h.of = cc in
    no_fault h.flattened.inherits.chain h.keeps (subst (λ (c : DraftClass). IsRedefFault draft c.machine fault) same f.has)

pub same_fault_of_class : (draft : Draft) (class : ℕ) (f g : RedefFault) → IsFaultOfClass draft class f → IsFaultOfClass draft class g → f ≡ g
same_fault_of_class draft class f g h k =
    let is = h.is in
    let was = k.is in
    let same : k.of ≡ h.of = cc in
    same_redef_fault h.has (subst (λ (c : DraftClass). IsRedefFault draft c.machine g) same k.has)

-- the fault of a circle
pub circle_fault : (draft : Draft) (m : ℕ) (f : RedefFault) → IsCycleFault draft m f → IsRedefFault draft m f
circle_fault draft m (faults.Cycle id) h = subst (λ x. IsRedefFault draft m (faults.Cycle x)) (sym h.4) (cycle h.0 h.1 h.2 h.3)
circle_fault draft m (faults.Leaf id) h = absurd (h)
circle_fault draft m (faults.Twice id) h = absurd (h)
circle_fault draft m (faults.NotInherited id) h = absurd (h)
circle_fault draft m (faults.ChangedSource id) h = absurd (h)
circle_fault draft m (faults.ChangedTriggers id) h = absurd (h)
circle_fault draft m faults.NoMemory h = absurd (h)
