-- What clap finds in the words of a run, and what it says of them.
use Rattle.std.proofs.Common.{◌≡◌, ◌∙◌, ℕ, List, [], ◌∷◌, map, length, codes, Option, Some, None, option_map, Result, Ok, Err, IfOk, IfSome, IfNone, sym, ap, subst, arith}
use Rattle.std.specs.Borrow.{Bor}
use Rattle.std.specs.List.{AllByRecursion}
use Rattle.clap.specs.Words.{Row, all_of, fault_of, first_of, first_value, matched_of, matches_of, raw_values, rows_of}
use Rattle.clap.specs.declared.parser.matches.Found.{Found}
use Rattle.clap.proofs.WalkLemmas.{first_value-rows, raw_values-rows}
use Rattle.pssm_tool.specs.declared.run_words.Options.{Options}
use Rattle.pssm_tool.specs.declared.run_words.RunWords.{RunWords}
use Rattle.pssm_tool.specs.Words.{BeginWith, IsStimulusText, HasOptions, AsksFor, IsUsage, Means, run_command}
use Rattle.pssm_tool.specs.inner.Commands.{meaning_of_run, lent}
use Rattle.pssm_tool.proofs.WordLaws.{no_run}

-- ---- what the getters read

-- the value of an option
pub given_is : (found : Found) (name : List ℕ) (given seen : Option (Bor (List ℕ))) → option_map (λ s. s.now) given ≡ first_value found name → given ≡ seen
    → first_of name (rows_of found) ≡ option_map (λ s. s.now) seen
given_is found name given seen reads is = sym (first_value-rows found name) ∙ sym reads ∙ ap (option_map (λ (s : Bor (List ℕ)). s.now)) is

-- the words of the list
pub list_is : (found : Found) (name : List ℕ) (given seen : Option (Bor (List (Bor (List ℕ))))) → option_map (λ s. map (λ v. v.now) s.now) given ≡ option_map raw_values (matched_of found name)
    → given ≡ seen → all_of name (rows_of found) ≡ option_map (λ s. lent s.now) seen
list_is found name given seen reads is = sym (raw_values-rows found name) ∙ sym reads ∙ ap (option_map (λ (s : Bor (List (Bor (List ℕ)))). lent s.now)) is

-- ---- what is found asks for a run or for none

module _ (found : List Row) where
  pub no_options : ((options : Options) → HasOptions found options → ⊥) → (options : Options) (model : List ℕ) (stimuli : List (List ℕ)) → AsksFor found options model stimuli → ⊥
  no_options none options model stimuli asks = none options asks.numbers

  pub no_list : all_of (codes "words") found ≡ None → (options : Options) (model : List ℕ) (stimuli : List (List ℕ)) → AsksFor found options model stimuli → ⊥
  no_list none options model stimuli asks = let e : Some (model ∷ stimuli) ≡ None = sym asks.list ∙ none in cc

  module _ (words : List (Bor (List ℕ))) (are : all_of (codes "words") found ≡ Some (lent words)) where
    pub no_words : length words ≡ 0 → (options : Options) (model : List ℕ) (stimuli : List (List ℕ)) → AsksFor found options model stimuli → ⊥
    no_words none options model stimuli asks = nothing words none (sym are ∙ asks.list)
      where
        nothing : (words : List (Bor (List ℕ))) → length words ≡ 0 → Some (lent words) ≡ Some (model ∷ stimuli) → ⊥
        nothing [] none e = cc
        nothing (x ∷ words) none e = absurd (omega arith)

    module _ (x : Bor (List ℕ)) (rest : List (Bor (List ℕ))) (first : words ≡ x ∷ rest) where
      listed : all_of (codes "words") found ≡ Some (x.now ∷ lent rest)
      listed = are ∙ ap (λ (t : List (Bor (List ℕ))). Some (lent t)) first

      pub bad_stimuli : (AllByRecursion IsStimulusText (lent rest) → ⊥) → (options : Options) (model : List ℕ) (stimuli : List (List ℕ)) → AsksFor found options model stimuli → ⊥
      bad_stimuli other options model stimuli asks =
          let e : Some (x.now ∷ lent rest) ≡ Some (model ∷ stimuli) = sym listed ∙ asks.list in
          let same : stimuli ≡ lent rest = cc in
          other (subst (λ (t : List (List ℕ)). AllByRecursion IsStimulusText t) same asks.spelled)

      pub is_asked : (options : Options) (kept : List (Bor (List ℕ))) → HasOptions found options → kept ≡ rest → AllByRecursion IsStimulusText (lent rest) → AsksFor found options x.now (lent kept)
      is_asked options kept numbers same spelled =
          let back : rest ≡ kept = sym same in
          record {
            numbers = numbers;
            list = listed ∙ ap (λ (t : List (Bor (List ℕ))). Some (x.now ∷ lent t)) back;
            spelled = subst (λ (t : List (Bor (List ℕ))). AllByRecursion IsStimulusText (lent t)) back spelled;
          }

-- ---- words that begin with `run`

module _ (words : List (List ℕ)) (begins : BeginWith words (codes "run")) where
  -- Clap refuses the words.
  pub not_taken : (fault_of run_command words ≡ [] → ⊥) → IsUsage words
  not_taken fault = no_run words begins (λ options model stimuli run. fault run.taken)

  -- Clap takes the words, and finds this.
  module _ (found : List Row) (taken : fault_of run_command words ≡ []) (is : found ≡ matches_of run_command words) {E : Type 0} where
    pub run_reads : (r : Result (Option RunWords) E) → IfOk r (λ o. IfSome o (λ run. AsksFor found run.options run.model.now (lent run.stimuli.items)))
        → IfOk r (λ o. IfSome o (λ run. Means words (meaning_of_run run)))
    run_reads (Ok (Some run)) asks = record {
      verb = begins;
      taken = taken;
      asks = subst (λ (t : List Row). AsksFor t run.options run.model.now (lent run.stimuli.items)) is asks;
    }
    run_reads (Ok None) asks = tt
    run_reads (Err e) asks = tt

    pub run_usage : (r : Result (Option RunWords) E) → IfOk r (λ o. IfNone o ((options : Options) (model : List ℕ) (stimuli : List (List ℕ)) → AsksFor found options model stimuli → ⊥))
        → IfOk r (λ o. IfNone o (IsUsage words))
    run_usage (Ok (Some run)) none = tt
    run_usage (Ok None) none = no_run words begins (λ options model stimuli run. none options model stimuli (subst (λ (t : List Row). AsksFor t options model stimuli) (sym is) run.asks))
    run_usage (Err e) none = tt
