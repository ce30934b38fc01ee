-- What is known of an answer that comes early, and why there is none.
use Rattle.std.specs.Prelude.{◌≡◌, ◌≢◌, ◌⊎◌, ℕ, List, Result, Ok, Err}
use Rattle.pssm_base.specs.Faults.{Rose}
use Rattle.pssm_base.specs.Reading.{Given, ReadsWhole, HoldsMore}
use Rattle.pssm_semantics.specs.declared.setting.Setting.{Setting}
use Rattle.pssm_load.specs.declared.fault.LoadFault.{LoadFault}
use Rattle.pssm_load.specs.declared.fault.LoadFault.TheVariants as faults
use Rattle.pssm_load.specs.Loads.{IsLoadFault}
use Rattle.pssm_tool.specs.declared.answer.Answer.{Answer}
use Rattle.pssm_tool.specs.declared.answer.Answer.TheVariants.{Accept, TooLarge, BadModel}
use Rattle.pssm_tool.specs.declared.failure.Failure.{Failure}
use Rattle.pssm_tool.specs.declared.failure.Failure.TheVariants.{ReadFault, NoMemory}
use Rattle.pssm_tool.specs.Words.{Judges, Means}
use Rattle.pssm_tool.specs.Due.{most_bytes, ReadFailed}
use Rattle.pssm_tool.specs.Headline.{IsContinued}

-- what is answered where the path holds no model: it is too large, or this is wrong with it
pub data LacksModel (given : Given) (path : List ℕ) (answer : Answer) : Type 0 where
  holds_more : HoldsMore given path most_bytes → answer ≡ TooLarge → LacksModel given path answer
  has_fault : (bytes : List ℕ) (fault : LoadFault) → ReadsWhole given path most_bytes bytes → IsLoadFault bytes fault → answer ≡ BadModel fault
      → LacksModel given path answer

-- This is wrong with the bytes of a model, and is answered.
abbrev pub IsRefusedFor : List ℕ → Answer → Type 0
IsRefusedFor bytes answer = (fault : LoadFault) × IsLoadFault bytes fault × (answer ≡ BadModel fault)

-- Reading a path failed: its count rose; or there was no memory.
abbrev pub FailedAt : ℕ → ℕ → Failure → Type 0
FailedAt before after ReadFault = Rose before after
FailedAt before after NoMemory = Unit {0}

-- The count of a path that the words name rose; or there was no memory.
abbrev pub FailedFor : List (List ℕ) → (List ℕ → ℕ) → (List ℕ → ℕ) → Failure → Type 0
FailedFor words before after ReadFault = ReadFailed words before after
FailedFor words before after NoMemory = Unit {0}

-- Where the answer accepts a journal, this can be continued to a complete run.
abbrev pub GoesOn : List (List ℕ) → Given → Answer → Type 0
GoesOn words given (Accept n) = (model journal : List ℕ) → Means words (Judges model journal) → IsContinued given model journal
GoesOn words given _ = Unit {0}

-- Want of memory is a failure, and any other fault is answered.
abbrev pub TellsFault : LoadFault → Result (Result Setting Answer) Failure → Type 0
TellsFault fault told = ((fault ≡ faults.NoMemory) × (told ≡ Err NoMemory)) ⊎ ((fault ≢ faults.NoMemory) × (told ≡ Ok (Err (BadModel fault))))

-- The setting that was loaded, or what comes of the fault.
abbrev pub IsFound : Result Setting LoadFault → Result (Result Setting Answer) Failure → Type 0
IsFound (Ok setting) told = told ≡ Ok (Ok setting)
IsFound (Err fault) told = TellsFault fault told
