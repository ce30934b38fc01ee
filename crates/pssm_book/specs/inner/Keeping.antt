-- What a desk keeps true of its parts, and what a clause sees of it.
use Rattle.std.specs.Prelude.{◌≡◌, ◌≢◌, ◌≤◌, ◌++◌, ℕ, List, [], ◌∷◌, length, take, AllPairs, Contains}
use Rattle.std.specs.List.{AllByRecursion}
use Rattle.pssm_semantics.specs.declared.entry.ObjectId.{ObjectId}
use Rattle.pssm_semantics.specs.declared.entry.Entry.{Entry}
use Rattle.pssm_semantics.specs.declared.setting.Setting.{Setting}
use Rattle.pssm_semantics.specs.declared.stimulus.Stimulus.{Stimulus}
use Rattle.pssm_semantics.specs.declared.stimulus.Task.{Task}
use Rattle.pssm_semantics.specs.Pool.{posts_of, output_count}
use Rattle.pssm_semantics.specs.Proper.{IsWellFormed}
use Rattle.pssm_semantics.specs.Admissible.{IsAdmissibleIn}
use Rattle.pssm_system.specs.History.{History}
use Rattle.pssm_book.specs.declared.desk.Desk.{Desk}
use Rattle.pssm_semantics.specs.Known.{IsStimulusOf}
use Rattle.pssm_book.specs.Contents.{Contents}
use Rattle.pssm_book.specs.Committing.{IsWithout}

-- So many of the stimuli are posted, and the journal has so many outputs and no more entries than the limit.
pub record IsRunning (setting : Setting) (stimuli : List Stimulus) (limit : ℕ) (run : History) (posted outputs : ℕ) : Type 0 where
  pub setting_is : run.setting ≡ setting
  pub few : length run.journal ≤ limit
  pub within : posted ≤ length stimuli
  pub posts : posts_of run.journal ≡ take posted stimuli
  pub outputs_are : outputs ≡ output_count run.journal

-- what a desk keeps true of its parts
pub record IsInOrder (desk : Desk) : Type 0 where
  pub well_formed : IsWellFormed desk.system.setting
  pub admissible : IsAdmissibleIn desk.system.setting desk.system.journal
  pub running : IsRunning desk.system.setting desk.stimuli.items desk.limit desk.system desk.posted desk.outputs
  pub known : AllByRecursion (IsStimulusOf desk.system.setting) desk.stimuli.items
  pub low : desk.limit ≤ 1000000
  pub few_claims : length desk.claims.items ≤ 65536
  pub apart : AllPairs (λ a b. a ≢ b) desk.claims.items

-- what a clause sees of a desk beside this total
abbrev pub contents_of : Desk → ℕ → Contents
contents_of desk total = record {
  run = desk.system;
  stimuli = desk.stimuli.items;
  limit = desk.limit;
  claims = desk.claims.items;
  total = total;
}

-- what it sees where no total is asked about
abbrev pub bare : Desk → Contents
bare desk = contents_of desk 0

-- A clause sees of the two desks the same.
pub record IsUnchanged (old new : Desk) : Type 0 where
  pub run : new.system ≡ old.system
  pub stimuli : new.stimuli.items ≡ old.stimuli.items
  pub limit : new.limit ≡ old.limit
  pub claims : new.claims.items ≡ old.claims.items

-- One task more is handed out.
pub record HasHandedOut (old : Desk) (o : ObjectId) (task : Task) (new : Desk) : Type 0 where
  pub run : new.system ≡ old.system
  pub stimuli : new.stimuli.items ≡ old.stimuli.items
  pub limit : new.limit ≡ old.limit
  pub claims : new.claims.items ≡ old.claims.items ++ (o, task) ∷ []

-- One entry has been appended, and the desk is in order.
pub record HasAppended (old : Desk) (e : Entry) (new : Desk) : Type 0 where
  pub in_order : IsInOrder new
  pub setting : new.system.setting ≡ old.system.setting
  pub journal : new.system.journal ≡ old.system.journal ++ e ∷ []
  pub stimuli : new.stimuli.items ≡ old.stimuli.items
  pub limit : new.limit ≡ old.limit
  pub claims : new.claims.items ≡ old.claims.items

-- a desk with this setting, these stimuli and this limit, no entry and no task handed out
pub record IsFresh (setting : Setting) (stimuli : List Stimulus) (limit : ℕ) (desk : Desk) : Type 0 where
  pub setting_is : desk.system.setting ≡ setting
  pub journal : desk.system.journal ≡ []
  pub stimuli_are : desk.stimuli.items ≡ stimuli
  pub limit_is : desk.limit ≡ limit
  pub claims : desk.claims.items ≡ []

-- The claim is taken out, where it was there, and nothing else has changed.
pub record HasGivenBack (old : Desk) (o : ObjectId) (task : Task) (new : Desk) : Type 0 where
  pub run : new.system ≡ old.system
  pub stimuli : new.stimuli.items ≡ old.stimuli.items
  pub limit : new.limit ≡ old.limit
  pub claims : IsWithout old.claims.items (o, task) new.claims.items
  pub unclaimed : (Contains old.claims.items (o, task) → ⊥) → new.claims.items ≡ old.claims.items
