-- What a closure tells of the guards of a machine.
use Rattle.std.specs.Prelude.{◌≡◌, Bool, Some}
use Rattle.pssm_model.specs.declared.ids.TransId.{TransId}
use Rattle.pssm_model.specs.declared.ids.GuardId.{GuardId}
use Rattle.pssm_model.specs.declared.elements.DraftMachine.{DraftMachine}
use Rattle.pssm_model.specs.declared.elements.Guard.TheVariants.{When}
use Rattle.pssm_model.specs.Routes.{Truth, guard_of}

-- The guard is that of a transition of the machine (UML 2.5.1 14.2.3.8, guards).
abbrev pub IsGuardOf : DraftMachine → GuardId → Type 0
IsGuardOf m g = (t : TransId) × (guard_of m t ≡ Some (When g))

-- Each guard of the machine may be asked for (this profile's own choice).
abbrev pub CanBeAsked : DraftMachine → (GuardId → Type 0) → Type 0
CanBeAsked m MayAsk = (g : GuardId) → IsGuardOf m g → MayAsk g

-- Whatever is answered for a guard of the machine is its value (UML 2.5.1 14.2.3.8, guards).
abbrev pub Tells : DraftMachine → (GuardId → Bool → Type 0) → Truth → Type 0
Tells m Answers truth = (g : GuardId) (answer : Bool) → IsGuardOf m g → Answers g answer → answer ≡ truth g
