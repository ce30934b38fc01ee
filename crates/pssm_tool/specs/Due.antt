-- What the program owes for its words and for what it was given of files: first the words decide, then the model, then the stimuli, and then the journal or the run.
-- The model is read before the journal, each once, and nothing else is read.
-- A model stands in a file, or is the generated one of a number.
use Rattle.std.specs.Prelude.{◌≡◌, ◌⊎◌, ◌+◌, ◌*◌, ℕ, List, [], Option, IsSome}
use Rattle.std.specs.Io.KnownBytes.{Appends}
use Rattle.sha2.specs.Sha256.{sha256}
use Rattle.pssm_base.specs.Faults.{Rose}
use Rattle.pssm_base.specs.History.{History, Grows}
use Rattle.pssm_base.specs.Reading.{Contents, Given, until, onward, ReadsWhole, HoldsMore, ReadsNothing}
use Rattle.pssm_semantics.specs.declared.setting.Setting.{Setting}
use Rattle.pssm_semantics.specs.declared.stimulus.Stimulus.{Stimulus}
use Rattle.pssm_flat.specs.Text.{flat_text}
use Rattle.pssm_lines.specs.declared.fault.LineFault.{LineFault}
use Rattle.pssm_lines.specs.declared.fault.LineFault.TheVariants as faults
use Rattle.pssm_journal.specs.Judged.{Judged, Accepted, Refused, Limited, BadText, IsJudged}
use Rattle.pssm_load.specs.declared.fault.LoadFault.{LoadFault}
use Rattle.pssm_load.specs.Loads.{ReadsSetting, IsLoadFault}
use Rattle.pssm_suite.specs.Counts.{HasAllEntries}
use Rattle.pssm_suite.specs.Generated.{generated_text, generated_stimuli}
use Rattle.pssm_tool.specs.declared.run_words.Options.{Options}
use Rattle.pssm_tool.specs.declared.answer.Answer.{Answer}
use Rattle.pssm_tool.specs.declared.answer.Answer.TheVariants.{Accept, Refuse, Limit, WellFormed, Usage, BadLine, NoEnd, TooLarge}
use Rattle.pssm_tool.specs.declared.answer.Answer.TheVariants.{Journal, Flat, Generated, BadModel}
use Rattle.pssm_workers.specs.declared.ended.Ended.{Ended}
use Rattle.pssm_workers.specs.declared.ended.Ended.TheVariants as ends
use Rattle.pssm_tool.specs.Words.{Meaning, Judges, Runs, Checks, Prints, Generates, Means, IsUsage}
use Rattle.pssm_tool.specs.Stimuli.{AreStimuli}
use Rattle.pssm_tool.specs.RunTexts.{IsRunText}
use Rattle.pssm_tool.specs.Answers.{text_of}

-- the most bytes that a model or a journal may have
abbrev pub most_bytes : ℕ
most_bytes = 16777216

-- the most entries that the journal of a generated model's run may have
abbrev pub most_entries : ℕ
most_entries = 1000000

-- ---- the paths that the words name

-- where a model comes from: the file at a path, or the generator of models
pub data Source : Type 0 where
  File : (path : List ℕ) → Source
  Generator : (n : ℕ) → Source

-- where the model comes from
abbrev pub source_of : Meaning → Source
source_of (Judges model journal) = File model
source_of (Runs options model stimuli) = File model
source_of (Checks model) = File model
source_of (Prints model) = File model
source_of (Generates n) = Generator n

-- The words name the path of a model.
abbrev pub NameModel : List (List ℕ) → List ℕ → Type 0
NameModel words path = (meaning : Meaning) × Means words meaning × (source_of meaning ≡ File path)

-- The words name the path: it is the model's, or the journal's of a judgement.
abbrev pub NamePath : List (List ℕ) → List ℕ → Type 0
NamePath words path = NameModel words path ⊎ ((model : List ℕ) × Means words (Judges model path))

-- It is told what the paths hold that the words name.
abbrev pub IsTold : List (List ℕ) → Contents → Type 0
IsTold words contents = (path : List ℕ) → NamePath words path → IsSome (contents path)

-- The count of a path that the words name rose.
abbrev pub ReadFailed : List (List ℕ) → (List ℕ → ℕ) → (List ℕ → ℕ) → Type 0
ReadFailed words before after = (path : List ℕ) × NamePath words path × Rose (before path) (after path)

-- ---- the model

-- These are the model's bytes: all that the file holds and that was read, or the generated text, for which nothing is read.
abbrev pub HasBytes : Given → Source → List ℕ → Type 0
HasBytes given (File path) bytes = ReadsWhole given path most_bytes bytes
HasBytes given (Generator n) bytes = ReadsNothing given × (bytes ≡ generated_text n)

-- There is a model, in the flat form or as a model file, with this setting, which breaks no rule of models. (A file may be
-- too large, or no model; a generated model is always there.)
pub record HasModel (given : Given) (source : Source) (setting : Setting) : Type 0 where
  pub bytes : List ℕ
  pub reads : HasBytes given source bytes
  pub loads : ReadsSetting bytes setting []

-- The model was read first, up to a moment, and perhaps more was read from then on.
pub record BeginsWithModel (given : Given) (source : Source) (setting : Setting) : Type 0 where
  pub moment : History
  pub model_is : HasModel (until moment given) source setting
  pub goes_on : Grows moment given.after

-- ---- the answer

-- what is wrong with the text of a journal, as an answer: a line that is too long counts as a file that is too large
abbrev pub answer_to_fault : LineFault → Answer
answer_to_fault (faults.BadLine line byte) = BadLine line byte
answer_to_fault (faults.LongLine line) = TooLarge
answer_to_fault (faults.NoEnd line) = NoEnd line

-- what is said of the bytes of a journal, as an answer
abbrev pub answer_to : Judged → Answer
answer_to (Accepted entries) = Accept entries
answer_to (Refused entry rule) = Refuse entry rule
answer_to (Limited entry) = Limit entry
answer_to (BadText fault) = answer_to_fault fault

-- The answer is owed for the journal's path.
pub data IsDueForJournal (given : Given) (setting : Setting) (journal : List ℕ) (answer : Answer) : Type 0 where
  large_journal : HoldsMore given journal most_bytes → answer ≡ TooLarge → IsDueForJournal given setting journal answer
  judged : (bytes : List ℕ) (said : Judged) → ReadsWhole given journal most_bytes bytes → IsJudged setting bytes said → answer ≡ answer_to said
      → IsDueForJournal given setting journal answer

-- The answer is owed for a run with stimuli of these names: none fit, or it is the text of a run's journal, and how the run ended.
pub data IsDueForRun (setting : Setting) (options : Options) (names : List (List ℕ)) (answer : Answer) : Type 0 where
  unfit : ((stimuli : List Stimulus) → AreStimuli setting names stimuli → ⊥) → answer ≡ Usage → IsDueForRun setting options names answer
  ran : (stimuli : List Stimulus) (text : List ℕ) (ended : Ended) → AreStimuli setting names stimuli → IsRunText setting stimuli options.limit text ended
      → answer ≡ Journal text ended → IsDueForRun setting options names answer

-- The answer is owed for a run of a generated model with the stimuli for it: the line on its journal, when nothing more can happen.
-- Whichever way the run went, it has 12 n + 14 entries and 2 n takes. (So with a limit of a million entries no such journal is ever full.)
pub record IsDueForGenerated (setting : Setting) (n : ℕ) (answer : Answer) : Type 0 where
  pub text : List ℕ
  pub run : IsRunText setting (generated_stimuli n) most_entries text ends.Quiet
  pub counted : HasAllEntries n run.journal
  pub answered : answer ≡ Generated n (12 * n + 14) (2 * n) (sha256 text)

-- The answer is owed for a command on a model that breaks no rule, and for what was read behind the model: the journal of a judgement, and else nothing.
abbrev pub IsDueForModel : Given → Setting → Meaning → Answer → Type 0
IsDueForModel given setting (Judges model journal) answer = IsDueForJournal given setting journal answer
IsDueForModel given setting (Runs options model names) answer = ReadsNothing given × IsDueForRun setting options names answer
IsDueForModel given setting (Checks model) answer = ReadsNothing given × (answer ≡ WellFormed)
IsDueForModel given setting (Prints model) answer = ReadsNothing given × (answer ≡ Flat (flat_text setting))
IsDueForModel given setting (Generates n) answer = ReadsNothing given × IsDueForGenerated setting n answer

-- The answer is owed for the words and for what was given of the files.
pub data IsOwed (words : List (List ℕ)) (given : Given) (answer : Answer) : Type 0 where
  usage : IsUsage words → ReadsNothing given → answer ≡ Usage → IsOwed words given answer
  large_model : (path : List ℕ) → NameModel words path → HoldsMore given path most_bytes → answer ≡ TooLarge → IsOwed words given answer
  bad_model : (path bytes : List ℕ) (fault : LoadFault) → NameModel words path → ReadsWhole given path most_bytes bytes → IsLoadFault bytes fault
      → answer ≡ BadModel fault → IsOwed words given answer
  on_model : (meaning : Meaning) (setting : Setting) (moment : History) → Means words meaning → HasModel (until moment given) (source_of meaning) setting
      → IsDueForModel (onward moment given) setting meaning answer → IsOwed words given answer

-- The answer is owed, and its text was written.
abbrev pub Gives : List (List ℕ) → Given → Option (List ℕ) → Option (List ℕ) → Answer → Type 0
Gives words given before after answer = IsOwed words given answer × Appends before after (text_of answer)

-- ---- runs

-- A run of the setting with the stimuli is owed: of the model and the stimuli that the words name, or of a generated model with the stimuli for it.
pub data IsRunOwed (words : List (List ℕ)) (given : Given) (setting : Setting) (stimuli : List Stimulus) : Type 0 where
  named : (options : Options) (model : List ℕ) (names : List (List ℕ)) → Means words (Runs options model names) → HasModel given (File model) setting
      → AreStimuli setting names stimuli → IsRunOwed words given setting stimuli
  generated : (n : ℕ) → Means words (Generates n) → HasModel given (Generator n) setting → stimuli ≡ generated_stimuli n
      → IsRunOwed words given setting stimuli

-- The answer is what a run came to: its journal, or the line on it. (Several runs may be owed; the words do not tell which it is.)
abbrev pub IsOfRun : Answer → Type 0
IsOfRun (Journal text ended) = Unit {0}
IsOfRun (Generated n entries takes digest) = Unit {0}
IsOfRun _ = ⊥
