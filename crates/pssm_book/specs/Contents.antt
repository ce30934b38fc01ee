-- What clauses see of a book, and what its type keeps.
use Rattle.std.specs.Prelude.{◌≡◌, ◌≢◌, ◌≤◌, ℕ, List, length, AllPairs}
use Rattle.std.specs.List.{AllByRecursion}
use Rattle.pssm_semantics.specs.declared.entry.ObjectId.{ObjectId}
use Rattle.pssm_semantics.specs.declared.stimulus.Stimulus.{Stimulus}
use Rattle.pssm_semantics.specs.declared.stimulus.Task.{Task}
use Rattle.pssm_semantics.specs.Proper.{IsWellFormed}
use Rattle.pssm_semantics.specs.Admissible.{IsAdmissibleIn, FitsStimuli}
use Rattle.pssm_system.specs.History.{History}
use Rattle.pssm_semantics.specs.Known.{IsStimulusOf}

-- a run so far, the stimuli for it, how many entries it may have, the tasks that are handed out, each with its object, and the total of all shares
-- of the ledger (this profile's choice)
pub record Contents : Type 0 where
  pub run : History
  pub stimuli : List Stimulus
  pub limit : ℕ
  pub claims : List (ObjectId × Task)
  pub total : ℕ

-- An admissible journal of a well-formed setting, which posts the stimuli in order as far as it comes and has no more entries than the limit; the
-- total counts its entries, and no task is handed out twice (UML 2.5.1 14.2.3.9, run to completion; the counts are this profile's choice).
pub record IsKept (c : Contents) : Type 0 where
  pub well_formed : IsWellFormed c.run.setting
  pub admissible : IsAdmissibleIn c.run.setting c.run.journal
  pub known : AllByRecursion (IsStimulusOf c.run.setting) c.stimuli
  pub fits : FitsStimuli c.run.journal c.stimuli
  pub low : c.limit ≤ 1000000
  pub few : length c.run.journal ≤ c.limit
  pub counted : c.total ≡ length c.run.journal
  pub apart : AllPairs (λ a b. a ≢ b) c.claims

-- The setting, the stimuli and the limit are as before (this profile's choice).
pub record KeepsTerms (old new : Contents) : Type 0 where
  pub setting : new.run.setting ≡ old.run.setting
  pub stimuli : new.stimuli ≡ old.stimuli
  pub limit : new.limit ≡ old.limit
