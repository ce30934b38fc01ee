-- Journals of a setting: admissible, complete, quiet, full, and fitting stimuli.
use Rattle.std.specs.Prelude.{◌≡◌, ◌⊎◌, ◌≤◌, ◌<◌, ◌++◌, ℕ, List, length, Some}
use Rattle.pssm_semantics.specs.declared.entry.ObjectId.{ObjectId}
use Rattle.pssm_semantics.specs.declared.entry.Entry.{Entry}
use Rattle.pssm_semantics.specs.declared.entry.Rule.{Rule}
use Rattle.pssm_semantics.specs.declared.stimulus.Stimulus.{Stimulus}
use Rattle.pssm_semantics.specs.declared.setting.Class.{Class}
use Rattle.pssm_semantics.specs.declared.setting.Setting.{Setting}
use Rattle.pssm_semantics.specs.Settings.{class_of}
use Rattle.pssm_semantics.specs.Journal.{IsPost}
use Rattle.pssm_semantics.specs.Pool.{posts_of, output_count}
use Rattle.pssm_semantics.specs.Completion.{IsStepFinished}
use Rattle.pssm_semantics.specs.Rules.{Holds}
use Rattle.pssm_semantics.specs.Verdict.{IsAdmissible}

-- The entry breaks no rule after the journal (this profile's choice).
abbrev pub MayFollow : Setting → List Entry → Entry → Type 0
MayFollow setting J e = (rule : Rule) → Holds setting rule J e

-- Each entry breaks no rule of the setting after the entries before it (this profile's choice).
abbrev pub IsAdmissibleIn : Setting → List Entry → Type 0
IsAdmissibleIn setting J = IsAdmissible (Holds setting) J

-- Each object's last step is finished. In an admissible journal each earlier step is finished too: A4 asks it at the next head, and by A2 no head
-- follows the object's end (UML 2.5.1 14.2.3.9, run to completion).
abbrev pub AllFinished : Setting → List Entry → Type 0
AllFinished setting J = (o : ObjectId) (class : Class) → class_of setting o ≡ Some class → IsStepFinished class.machine J o

-- an admissible journal in which every step is finished (UML 2.5.1 14.2.3.9, run to completion)
pub record IsCompleteRun (setting : Setting) (J : List Entry) : Type 0 where
  pub admissible : IsAdmissibleIn setting J
  pub finished : AllFinished setting J

-- The journal can be continued to a complete run (this profile's choice).
abbrev pub IsPrefixOfRun : Setting → List Entry → Type 0
IsPrefixOfRun setting J = (more : List Entry) × IsCompleteRun setting (J ++ more)

-- No entry other than a post may follow (UML 2.5.1 14.2.3.9, a StateMachine waits for the next event).
abbrev pub IsQuiet : Setting → List Entry → Type 0
IsQuiet setting J = (e : Entry) → (IsPost e → ⊥) → MayFollow setting J e → ⊥

-- at most 1,000,000 entries, and at most 2,000,000 posts, sends and marks (this profile's choice)
pub record KeepsJournalLimits (J : List Entry) : Type 0 where
  pub entries : length J ≤ 1000000
  pub outputs : output_count J ≤ 2000000

-- as many entries as the limit allows, or no room for the outputs of one more (this profile's choice)
abbrev pub IsFull : ℕ → List Entry → Type 0
IsFull limit J = (length J ≡ limit) ⊎ (1999936 < output_count J)

-- The posts are, in order, the first of the stimuli (this profile's choice).
abbrev pub FitsStimuli : List Entry → List Stimulus → Type 0
FitsStimuli J stimuli = (rest : List Stimulus) × (stimuli ≡ posts_of J ++ rest)

-- a journal that is not full, with all stimuli posted, after which nothing more can happen (this profile's choice)
pub record HasEndedQuietly (setting : Setting) (stimuli : List Stimulus) (limit : ℕ) (J : List Entry) : Type 0 where
  pub not_full : IsFull limit J → ⊥
  pub all_posted : posts_of J ≡ stimuli
  pub quiet : IsQuiet setting J
