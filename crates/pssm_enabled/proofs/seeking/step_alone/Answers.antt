-- an open transition that ends on no junction or exit point is a way out, and one that is not open leads nowhere
use Rattle.std.proofs.Common.{Option}
use Rattle.pssm_model.specs.declared.ids.RegionId.{RegionId}
use Rattle.pssm_model.specs.declared.ids.TransId.{TransId}
use Rattle.pssm_model.specs.declared.elements.DraftMachine.{DraftMachine}
use Rattle.pssm_model.specs.Routes.{Truth}
use Rattle.pssm_enabled.specs.Ways.{IsOpen, LeadsOut}
use Rattle.pssm_enabled.specs.Ways.LeadsOut.{ends, on}
use Rattle.pssm_enabled.proofs.ListPlaces.{refuted}
use Rattle.pssm_enabled.proofs.Sought.{found_alone}
use Rattle.pssm_enabled.proofs.seeking.step_alone.Goals as goal

-- what leads out is open
opens : (m : DraftMachine) (truth : Truth) (within : Option RegionId) (t : TransId) → LeadsOut m truth within t → IsOpen m truth within t
opens m truth within t (ends opened enters out) = opened
opens m truth within t (on opened enters passed leaves further) = opened

pub returns-then-not-is_open-clause-none : goal.returns-then-not-is_open-clause-none
returns-then-not-is_open-clause-none g c values tells leads =
    refuted c.is_open.result c.if-not-is_open.true (c.is_open.ensures values tells) (opens c.args.machine.now values c.args.within c.args.t leads)

pub returns-clause-found : goal.returns-clause-found
returns-clause-found g c = λ values steps tells. found_alone c.requires.out ((c.is_open.ensures values tells).0 c.if-not-is_open.false) steps
