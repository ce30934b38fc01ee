-- Something is owed for all words and files.
use Rattle.std.proofs.Common.{◌≡◌, ◌<◌, ◌≤◌, ℕ, List, [], ◌∷◌, length, refl, sym, subst, inl, inr}
use Rattle.std.specs.Prelude.{Option, Some, None, IfSome}
use Rattle.std.proofs.lemmas.Bool.{cases_lt}
use Rattle.pssm_base.specs.Reading.{Contents, ReadsWhole, HoldsMore, told as only_told}
use Rattle.pssm_semantics.specs.declared.setting.Setting.{Setting}
use Rattle.pssm_semantics.specs.declared.stimulus.Stimulus.{Stimulus}
use Rattle.pssm_flat.specs.Text.{flat_text}
use Rattle.pssm_judge.proofs.EveryJournal.{something_said}
use Rattle.pssm_load.specs.declared.fault.ClassFault.{ClassFault}
use Rattle.pssm_load.specs.declared.fault.LoadFault.{LoadFault}
use Rattle.pssm_load.specs.declared.fault.LoadFault.TheVariants as faults
use Rattle.pssm_load.specs.Loads.{ReadsSetting, IsLoadFault, rules}
use Rattle.pssm_suite.specs.Generated.{generated_text, generated_stimuli}
use Rattle.pssm_suite.specs.GeneratedSetting.{generated_setting}
use Rattle.pssm_tool.specs.declared.answer.Answer.{Answer}
use Rattle.pssm_tool.specs.declared.answer.Answer.TheVariants.{WellFormed, Usage, TooLarge, Flat, BadModel}
use Rattle.pssm_tool.specs.Words.{Meaning, Judges, Runs, Checks, Prints, Generates, Means}
use Rattle.pssm_tool.specs.Due.{most_bytes, Source, File, source_of, HasModel, answer_to, large_journal, judged, unfit, IsOwed, usage, large_model, bad_model, on_model, IsTold, IsRunOwed, named, generated}
use Rattle.pssm_tool.proofs.WordLaws.{gen_in_range}
use Rattle.pssm_tool.proofs.DueLaws.{model_named, journal_named}
use Rattle.pssm_tool.proofs.DueOnce.{told_bytes}

-- Bytes have a setting, with the rules that its machines break, or a fault.
abbrev pub SettingOrFault : Type 0
SettingOrFault = (bytes : List ℕ) → length bytes ≤ most_bytes → ((setting : Setting) (list : List ClassFault) → ReadsSetting bytes setting list → ⊥) → ((fault : LoadFault) → IsLoadFault bytes fault → ⊥) → ⊥

-- The text of each generated model is read as its setting.
abbrev pub GeneratedReads : Type 0
GeneratedReads = (n : ℕ) → 1 ≤ n → n ≤ 4000 → ReadsSetting (generated_text n) (generated_setting n) []

-- A path of which it is told what it holds holds more than may be read, or is read whole.
large_or_read : (contents : Contents) (path : List ℕ) → ((held : List ℕ) × (contents path ≡ Some held)) → (HoldsMore (only_told contents) path most_bytes → ⊥) → ((bytes : List ℕ) → ReadsWhole (only_told contents) path most_bytes bytes → ⊥) → ⊥
large_or_read contents path told not_large not_read =
    elim (cases_lt most_bytes (length told.0)) [
      | inl more ↦ not_large (record { told = subst (λ (o : Option (List ℕ)). IfSome o (λ held. most_bytes < length held)) (sym told.1) more; read = tt })
      | inr few ↦ not_read told.0 (record { told = subst (λ (o : Option (List ℕ)). IfSome o (λ held. told.0 ≡ held)) (sym told.1) refl; read = tt; at_most = few })
    ]

module _ (words : List (List ℕ)) (contents : Contents) (told : IsTold words contents) (no_answer : (answer : Answer) → IsOwed words (only_told contents) answer → ⊥)
    (no_run : (setting : Setting) (stimuli : List Stimulus) → IsRunOwed words (only_told contents) setting stimuli → ⊥) where
  -- A journal and a model that keeps the rules.
  never_judged : (model journal : List ℕ) (setting : Setting) → Means words (Judges model journal) → HasModel (only_told contents) (File model) setting → ⊥
  never_judged model journal setting is has =
      large_or_read contents journal (told_bytes (contents journal) (told journal (journal_named words model journal is)))
      (λ large. no_answer TooLarge (on_model (Judges model journal) setting None is has (large_journal large refl)))
      (λ bytes reads. something_said setting bytes (λ said is_said. no_answer (answer_to said) (on_model (Judges model journal) setting None is has (judged bytes said reads is_said refl))))

  -- A model that keeps the rules.
  never_loaded : (meaning : Meaning) → Means words meaning → (setting : Setting) → HasModel (only_told contents) (source_of meaning) setting → ⊥
  never_loaded (Checks model) is setting has = no_answer WellFormed (on_model (Checks model) setting None is has (refl, refl))
  never_loaded (Prints model) is setting has = no_answer (Flat (flat_text setting)) (on_model (Prints model) setting None is has (refl, refl))
  never_loaded (Judges model journal) is setting has = never_judged model journal setting is has
  never_loaded (Runs options model names) is setting has =
      no_answer Usage (on_model (Runs options model names) setting None is has (refl, unfit (λ stimuli are. no_run setting stimuli (named options model names is has are)) refl))
  never_loaded (Generates n) is setting has = no_run setting (generated_stimuli n) (generated n is has refl)

  -- A model that was read, with the rules that its machines break.
  never_read : (meaning : Meaning) → Means words meaning → (path : List ℕ) → source_of meaning ≡ File path → (bytes : List ℕ) → ReadsWhole (only_told contents) path most_bytes bytes
      → (setting : Setting) (list : List ClassFault) → ReadsSetting bytes setting list → ⊥
  never_read meaning is path same bytes reads setting [] loads =
      let has : HasModel (only_told contents) (File path) setting = record { bytes = bytes; reads = reads; loads = loads } in
      never_loaded meaning is setting (subst (λ (s : Source). HasModel (only_told contents) s setting) (sym same) has)
  never_read meaning is path same bytes reads setting (f ∷ list) loads =
      no_answer (BadModel (faults.Faults (f ∷ list))) (bad_model path bytes (faults.Faults (f ∷ list)) (meaning, is, same) reads (rules setting loads (λ none. absurd cc)) refl)

  never_file : SettingOrFault → (meaning : Meaning) → Means words meaning → (path : List ℕ) → source_of meaning ≡ File path → ⊥
  never_file some_load meaning is path same =
      large_or_read contents path (told_bytes (contents path) (told path (model_named words meaning path is same)))
      (λ large. no_answer TooLarge (large_model path (meaning, is, same) large refl))
      (λ bytes reads. some_load bytes reads.at_most (never_read meaning is path same bytes reads)
      (λ fault wrong. no_answer (BadModel fault) (bad_model path bytes fault (meaning, is, same) reads wrong refl)))

  -- A generated model.
  never_generated : GeneratedReads → (n : ℕ) → Means words (Generates n) → ⊥
  never_generated reads n is =
      let range = gen_in_range words n is in
      never_loaded (Generates n) is (generated_setting n) (record { bytes = generated_text n; reads = (refl, refl); loads = reads n range.0 range.1 })

  never_meant : SettingOrFault → GeneratedReads → (meaning : Meaning) → Means words meaning → ⊥
  never_meant some_load reads (Judges model journal) is = never_file some_load (Judges model journal) is model refl
  never_meant some_load reads (Runs options model names) is = never_file some_load (Runs options model names) is model refl
  never_meant some_load reads (Checks model) is = never_file some_load (Checks model) is model refl
  never_meant some_load reads (Prints model) is = never_file some_load (Prints model) is model refl
  never_meant some_load reads (Generates n) is = never_generated reads n is

-- Where it is told what the files hold, an answer or a run is owed.
pub always_due : SettingOrFault → GeneratedReads → (words : List (List ℕ)) (contents : Contents) → IsTold words contents → ((answer : Answer) → IsOwed words (only_told contents) answer → ⊥)
    → ((setting : Setting) (stimuli : List Stimulus) → IsRunOwed words (only_told contents) setting stimuli → ⊥) → ⊥
always_due some_load reads words contents told no_answer no_run = no_answer Usage (usage (never_meant words contents told no_answer no_run some_load reads) refl refl)
