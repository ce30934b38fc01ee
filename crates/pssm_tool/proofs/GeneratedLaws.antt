-- The generated setting is what the generated text is read as, and its stimuli are known.
use Rattle.std.proofs.Common.{◌≡◌, ◌+◌, ◌*◌, ℕ, List, [], length, Result, Ok, Err, IfOk, refl, sym, ap, subst, ◌∙◌}
use Rattle.std.specs.List.{AllByRecursion}
use Rattle.sha2.specs.Sha256.{sha256}
use Rattle.pssm_base.specs.Reading.{Given, ReadsNothing}
use Rattle.pssm_semantics.specs.declared.entry.Entry.{Entry}
use Rattle.pssm_semantics.specs.declared.setting.Setting.{Setting}
use Rattle.pssm_semantics.specs.declared.stimulus.Stimulus.{Stimulus}
use Rattle.pssm_semantics.specs.Known.{IsStimulusOf}
use Rattle.pssm_semantics.specs.Admissible.{IsAdmissibleIn, IsFull, IsQuiet, FitsStimuli}
use Rattle.pssm_load.specs.declared.fault.LoadFault.{LoadFault}
use Rattle.pssm_load.specs.Loads.{Reads, ReadsSetting, IsLoadFault}
use Rattle.pssm_suite.specs.Counts.{take_count, IsGeneratedRun, IsGeneratedEnd, HasAllEntries}
use Rattle.pssm_suite.specs.Generated.{generated_text, generated_stimuli}
use Rattle.pssm_suite.specs.GeneratedSetting.{generated_setting}
use Rattle.pssm_tool.specs.declared.answer.Answer.{Answer}
use Rattle.pssm_tool.specs.declared.answer.Answer.TheVariants.{Generated}
use Rattle.pssm_workers.specs.declared.ended.Ended.{Ended}
use Rattle.pssm_workers.specs.declared.ended.Ended.TheVariants.{Quiet, Limit}
use Rattle.pssm_workers.specs.Endings.{EndsRun}
use Rattle.pssm_tool.specs.declared.failure.Failure.{Failure}
use Rattle.pssm_tool.specs.Words.{Generates, Means}
use Rattle.pssm_tool.specs.Due.{IsDueForGenerated, IsOwed, on_model}
use Rattle.pssm_tool.specs.inner.Failures.{IsRefusedFor}
use Rattle.pssm_tool.specs.inner.Running.{IsTextOf}

-- The stimuli for a generated model are known to the setting that its text is read as.
pub generated_known : ((bytes : List ℕ) (a b : Setting) → Reads bytes a → Reads bytes b → a ≡ b) → (n : ℕ) (s : Setting) (stimuli : List Stimulus) → ReadsSetting (generated_text n) s []
    → ReadsSetting (generated_text n) (generated_setting n) [] → AllByRecursion (IsStimulusOf (generated_setting n)) (generated_stimuli n) → stimuli ≡ generated_stimuli n
    → AllByRecursion (IsStimulusOf s) stimuli
generated_known one n s stimuli reads is for same =
    let here : generated_setting n ≡ s = one (generated_text n) (generated_setting n) s is.reads reads.reads in
    subst (λ (t : List Stimulus). AllByRecursion (IsStimulusOf s) t) (sym same)
    (subst (λ (t : Setting). AllByRecursion (IsStimulusOf t) (generated_stimuli n)) here for)

-- The setting that the generated text is read as is the generated one.
pub generated_read_as : ((bytes : List ℕ) (a b : Setting) → Reads bytes a → Reads bytes b → a ≡ b) → (n : ℕ) (s : Setting) → ReadsSetting (generated_text n) s []
    → ReadsSetting (generated_text n) (generated_setting n) [] → s ≡ generated_setting n
generated_read_as one n s reads is = one (generated_text n) s (generated_setting n) reads.reads is.reads

-- What is owed for the run of a generated model is owed for the words.
pub generated_owed : (r : Result Answer Failure) (n : ℕ) (s : Setting) → ReadsSetting (generated_text n) s [] → IfOk r (IsDueForGenerated s n)
    → IfOk r (λ a. (words : List (List ℕ)) → Means words (Generates n) → (given : Given) → ReadsNothing given → IsOwed words given a)
generated_owed (Ok a) n s loads due = λ words is given nothing. on_model (Generates n) s given.before is (record { bytes = generated_text n; reads = (refl, refl); loads = loads }) (nothing, due)
generated_owed (Err e) n s loads due = tt

-- Nothing is wrong with the text.
pub never_refused : ((bytes : List ℕ) (setting : Setting) (fault : LoadFault) → ReadsSetting bytes setting [] → IsLoadFault bytes fault → ⊥) → (n : ℕ) (a : Answer)
    → ReadsSetting (generated_text n) (generated_setting n) [] → IsRefusedFor (generated_text n) a → ⊥
never_refused apart n a reads (fault, wrong, e) = apart (generated_text n) (generated_setting n) fault reads wrong

-- ---- the answer

-- What is counted and digested of the same journal and its text makes the same answer.
pub same_answer : (n : ℕ) (J one other : List Entry) (takes : ℕ) (bytes shown digest : List ℕ) → one ≡ J → takes ≡ take_count other → other ≡ J
    → digest ≡ sha256 shown → shown ≡ bytes → Generated n (length one) takes digest ≡ Generated n (length J) (take_count J) (sha256 bytes)
same_answer n J one other takes bytes shown digest is count same made text =
    ap (λ (xs : List Entry). Generated n (length xs) takes digest) is
    ∙ ap (λ (k : ℕ). Generated n (length J) k digest) (count ∙ ap (λ (xs : List Entry). take_count xs) same)
    ∙ ap (λ (d : List ℕ). Generated n (length J) (take_count J) d) (made ∙ ap (λ (b : List ℕ). sha256 b) text)

-- ---- the run

module _ (s own : Setting) (n : ℕ) (given : List Stimulus) (J : List Entry) (bytes : List ℕ) (same : own ≡ s) (are : given ≡ generated_stimuli n) (text : IsTextOf own J bytes) where
  here : IsTextOf s J bytes
  here = subst (λ (t : Setting). IsTextOf t J bytes) same text

  -- The journal is not full.
  pub never_full : own ≡ generated_setting n → ((K : List Entry) → IsGeneratedRun n K → IsFull 1000000 K → ⊥) → (ended : Ended) → EndsRun s given 1000000 J ended → ended ≡ Limit → ⊥
  never_full is law Quiet run at = cc
  never_full is law Limit run at =
      law J
      (record {
        admissible = subst (λ (t : Setting). IsAdmissibleIn t J) is text.kept.admissible;
        fits = subst (λ (xs : List Stimulus). FitsStimuli J xs) are run.fits;
      })
      run.ends

  -- The run ended quietly, and so it has all its entries.
  all_counted : own ≡ generated_setting n → ((K : List Entry) → IsGeneratedEnd n K → HasAllEntries n K) → EndsRun s given 1000000 J Quiet → HasAllEntries n J
  all_counted is law run =
      law J
      (record {
        admissible = subst (λ (t : Setting). IsAdmissibleIn t J) is text.kept.admissible;
        all_posted = run.ends.all_posted ∙ are;
        quiet = subst (λ (t : Setting). IsQuiet t J) (sym same ∙ is) run.ends.quiet;
      })

  pub quiet_due : own ≡ generated_setting n → ((K : List Entry) → IsGeneratedEnd n K → HasAllEntries n K) → (ended : Ended) → EndsRun s given 1000000 J ended → ended ≡ Quiet
      → (a : Answer) → a ≡ Generated n (length J) (take_count J) (sha256 bytes) → IsDueForGenerated s n a
  quiet_due is law Limit run at a e = absurd cc
  quiet_due is law Quiet run at a e =
      let all = all_counted is law run in
      record {
        text = bytes;
        run = record { journal = J; lines = here.lines; text = here.text; kept = here.kept; run = subst (λ (t : List Stimulus). EndsRun s t 1000000 J Quiet) are run };
        counted = all;
        answered = e ∙ ap (λ k. Generated n k (take_count J) (sha256 bytes)) all.entries ∙ ap (λ k. Generated n (12 * n + 14) k (sha256 bytes)) all.takes;
      }
