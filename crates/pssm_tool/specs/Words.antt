-- The words of the command line, and the command that they mean.
use Rattle.std.specs.Prelude.{◌≡◌, ℕ, ℤ, List, [], ◌∷◌, map, codes, String, string_bytes, Option, Some, None, true}
use Rattle.std.specs.List.{AllByRecursion}
use Rattle.std.specs.declared.alloc.Global.{Global}
use Rattle.clap.specs.Lexer.{usize_max}
use Rattle.clap.specs.Words.{App, Row, Rule, all_of, fault_of, first_of, matches_of, new_app, new_rule}
use Rattle.pssm_spelling.specs.Spelling.{IsName}
use Rattle.pssm_spelling.specs.Numbers.{IsNumber}
use Rattle.pssm_lines.specs.LineText.{call_text}
use Rattle.pssm_lines.specs.Grammar.{AreArgs}
use Rattle.pssm_tool.specs.declared.run_words.Options.{Options}

-- words as texts
abbrev pub texts : List (String Global) → List (List ℕ)
texts words = map string_bytes words

-- The first of the words is this one.
abbrev pub BeginWith : List (List ℕ) → List ℕ → Type 0
BeginWith words first = (rest : List (List ℕ)) × (words ≡ first ∷ rest)

-- `OBJ.SIG(1,-2)`, as it stands after `post` in a journal: a signal at an object, with at most eight numbers of 64 bits
pub record IsCall (word object signal : List ℕ) (args : List ℤ) : Type 0 where
  pub object_name : IsName object
  pub signal_name : IsName signal
  pub args_are : AreArgs args
  pub spelled : word ≡ call_text object signal args

-- The word is spelled as a stimulus.
abbrev pub IsStimulusText : List ℕ → Type 0
IsStimulusText word = (object signal : List ℕ) × (args : List ℤ) × IsCall word object signal args

-- ---- the words of `run`

-- `--NAME VALUE` or `--NAME=VALUE`, at most once
abbrev pub option_rule : List ℕ → Rule
option_rule name = record (new_rule name) { long = Some name }

-- the words that are no options and no values of options, one or more, in their order
abbrev pub list_rule : Rule
list_rule = record (new_rule (codes "words")) { range = Some (record { start_inclusive = 1; end_inclusive = usize_max }) }

-- The command as clap knows it: three options and a list, without options for help and version. All else is as clap has it where nothing is asked for:
-- an option may stand anywhere before `--`, at most once, and its name is written out; a word that begins with a hyphen is no value and none of the list,
-- but for `-` alone and what stands behind `--`.
abbrev pub run_command : App
run_command = record {
  top = record (new_app (codes "run")).top {
    disable_help_flag = true;
    rules = option_rule (codes "seed") ∷ option_rule (codes "workers") ∷ option_rule (codes "limit") ∷ list_rule ∷ [];
  };
  subs = [];
}

-- The word that is given is this number, of the range; where none is given it is the one for an option that is left out.
abbrev pub HasNumber : ℕ → ℕ → ℕ → Option (List ℕ) → ℕ → Type 0
HasNumber least greatest otherwise (Some word) n = IsNumber word least greatest n
HasNumber least greatest otherwise None n = n ≡ otherwise

-- These are the numbers of the options among what clap found.
pub record HasOptions (found : List Row) (options : Options) : Type 0 where
  pub seed : HasNumber 0 18446744073709551615 0 (first_of (codes "seed") found) options.seed
  pub workers : HasNumber 1 16 1 (first_of (codes "workers") found) options.workers
  pub limit : HasNumber 0 1000000 10000 (first_of (codes "limit") found) options.limit

-- What clap found asks for this run: the model is the first word of the list, and the stimuli are the others.
pub record AsksFor (found : List Row) (options : Options) (model : List ℕ) (stimuli : List (List ℕ)) : Type 0 where
  pub numbers : HasOptions found options
  pub list : all_of (codes "words") found ≡ Some (model ∷ stimuli)
  pub spelled : AllByRecursion IsStimulusText stimuli

-- `run` and its words, which clap takes for that command, without a fault, and in which it finds what asks for this run. (It takes the first word for
-- the program's name, and reads those after it.)
pub record IsRun (words : List (List ℕ)) (options : Options) (model : List ℕ) (stimuli : List (List ℕ)) : Type 0 where
  pub verb : BeginWith words (codes "run")
  pub taken : fault_of run_command words ≡ []
  pub asks : AsksFor (matches_of run_command words) options model stimuli

-- ---- all commands

-- `gen` and a number from 1 to 4000
pub record IsGen (words : List (List ℕ)) (n : ℕ) : Type 0 where
  pub word : List ℕ
  pub words_are : words ≡ codes "gen" ∷ word ∷ []
  pub number : IsNumber word 1 4000 n

-- what words can mean: to judge a journal of a model, to run a model with stimuli, to check a model, to print its flat text, or to run a generated model
pub data Meaning : Type 0 where
  Judges : (model journal : List ℕ) → Meaning
  Runs : (options : Options) (model : List ℕ) (stimuli : List (List ℕ)) → Meaning
  Checks : (model : List ℕ) → Meaning
  Prints : (model : List ℕ) → Meaning
  Generates : (n : ℕ) → Meaning

-- `judge MODEL JOURNAL`, the words of a run, `check MODEL`, `flat MODEL` or `gen N`
abbrev pub Means : List (List ℕ) → Meaning → Type 0
Means words (Judges model journal) = words ≡ codes "judge" ∷ model ∷ journal ∷ []
Means words (Runs options model stimuli) = IsRun words options model stimuli
Means words (Checks model) = words ≡ codes "check" ∷ model ∷ []
Means words (Prints model) = words ≡ codes "flat" ∷ model ∷ []
Means words (Generates n) = IsGen words n

-- The words mean nothing.
abbrev pub IsUsage : List (List ℕ) → Type 0
IsUsage words = (meaning : Meaning) → Means words meaning → ⊥
