-- The steps of a reader of behaviours, one token after another.
use Rattle.std.proofs.Common.{ℕ, Bool, List}
use Rattle.pssm_acts.specs.declared.acts_reader.ActsReader.{ActsReader}
use Rattle.pssm_semantics.specs.declared.setting.Names.{Names}
use Rattle.pssm_acts.specs.Tokens.{Token}
use Rattle.pssm_acts.specs.inner.ActReading.{acts_steps_in}
use Rattle.pssm_acts.proofs.Readers.{Leads}

-- The tokens take a reader to another, and the marks to others.
abbrev pub Runs : Names → Bool → List (List ℕ) → ActsReader → List Token → List (List ℕ) → ActsReader → Type 0
Runs names stepped marks r ts more n = Leads (acts_steps_in names stepped) (r, marks) ts (n, more)
