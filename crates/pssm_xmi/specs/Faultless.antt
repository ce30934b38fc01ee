-- Files in which nothing is wrong.
use Rattle.std.specs.Prelude.{◌<◌, ℕ, List}
use Rattle.pssm_xml.specs.Documents.{Element}
use Rattle.pssm_xml.specs.Elements.{IsParent}
use Rattle.pssm_roles.specs.Roles.{AreRolesOf}
use Rattle.pssm_profile.specs.Faults.{HasNoProfileFault}
use Rattle.pssm_numbering.specs.Numbering.{ModelFile}
use Rattle.pssm_unmet.specs.declared.following.Target.{Target}
use Rattle.pssm_unmet.specs.References.{IsUnmet}
use Rattle.pssm_limits.specs.Limits.{PassesLimit}

-- Every element stands behind the one in which it stands, as those of a document do.
abbrev pub StandBehind : List Element → Type 0
StandBehind doc = (n p : ℕ) → IsParent doc p n → p < n

-- Every reference that is followed means what it may mean.
abbrev pub MeansAll : ModelFile → Type 0
MeansAll file = (target : Target) (at : ℕ) (id : List ℕ) → IsUnmet file target at id → ⊥

-- No machine and no class passes a limit.
abbrev pub HasNoLimitPassed : ModelFile → Type 0
HasNoLimitPassed file = (n : ℕ) → PassesLimit file n → ⊥

-- a file of a document, with the roles of its elements, that has no fault: not of the first pass, not in its references, and not in its counts
pub record IsFaultless (file : ModelFile) : Type 0 where
  pub ordered : StandBehind file.doc
  pub roles : AreRolesOf file.doc file.roles
  pub profile : HasNoProfileFault file.doc
  pub references : MeansAll file
  pub limits : HasNoLimitPassed file
