-- The generated setting is well formed, and its text is read as it.
use Rattle.std.proofs.Common.{◌≤◌, ℕ, zero, suc, List, [], ◌∷◌, ◌++◌, refl, sym, arith}
use Rattle.std.specs.Prelude.{codes, replicate}
use Rattle.std.specs.List.{AllByRecursion}
use Rattle.std.proofs.lemmas.List.Elements.{All-cons, All-nil}
use Rattle.pssm_model.specs.declared.elements.DraftMachine.{DraftMachine}
use Rattle.pssm_model.specs.WellFormed.{KeepsModelRules}
use Rattle.pssm_model.proofs.ElementLaws.{nothing_in_nil}
use Rattle.pssm_semantics.specs.declared.setting.Class.{Class}
use Rattle.pssm_semantics.specs.Known.{IsStimulusOf}
use Rattle.pssm_semantics.specs.Proper.{IsWellFormed}
use Rattle.pssm_flat.specs.Text.{line, text_of}
use Rattle.pssm_flat.proofs.ProperLaws.{flat_proper}
use Rattle.pssm_load.specs.Loads.{AreFaults, AreClassFaults, BeginsFlat, ReadsSetting}
use Rattle.pssm_load.specs.Loads.Reads.{flat}
use Rattle.pssm_suite.specs.Generated.{front_lines, back_lines, generated_lines, generated_text, go}
use Rattle.pssm_suite.specs.GeneratedSetting.{front_machine, front, back_machine, back, generated_setting}
use Rattle.pssm_suite.proofs.SettingText.{generated_text_is}
use Rattle.pssm_suite.proofs.PlainMachines.{plain_keeps}
use Rattle.pssm_suite.proofs.PlainFront.{front_plain}
use Rattle.pssm_suite.proofs.PlainBack.{back_plain}
use Rattle.pssm_suite.proofs.FlatSetting.{generated_flat}

pub generated_well_formed : (n : ℕ) → 1 ≤ n → n ≤ 4000 → IsWellFormed (generated_setting n)
unfolding generated_setting
generated_well_formed n some few =
    let Keeps : Class → Type 0 = λ x. KeepsModelRules x.machine in
    record {
      proper = flat_proper (generated_setting n) (generated_flat n some few);
      rules = All-cons Keeps (front n) (back ∷ []) (plain_keeps (front_machine n) (front_plain n some few)) (All-cons Keeps back [] (plain_keeps back_machine back_plain) (All-nil Keeps));
    }

no_faults : (m : DraftMachine) → KeepsModelRules m → AreFaults m []
no_faults m keeps = record { exact = λ f. (λ c. absurd (nothing_in_nil f c), λ b. absurd (keeps f.element f.rule b)); ascending = λ i j d before within. absurd (omega arith) }

begins_flat : (n : ℕ) → BeginsFlat (generated_text n)
unfolding generated_text generated_lines
begins_flat n =
    let others : List (List ℕ) =
    codes "signal Go 0" ∷ codes "class Front" ∷ codes "class Back" ∷ codes "object a Front" ∷ codes "object b Back" ∷ (front_lines n ++ (back_lines ++ codes "end" ∷ [])) in
    (line (codes " 1") ++ text_of others, refl)

class_faults : (n : ℕ) → 1 ≤ n → n ≤ 4000 → AreClassFaults (generated_setting n).classes []
unfolding generated_setting
class_faults n some few =
    ([], [], no_faults (front_machine n) (plain_keeps (front_machine n) (front_plain n some few)), ([], [], no_faults back_machine (plain_keeps back_machine back_plain), refl, refl), refl)

pub generated_read : (n : ℕ) → 1 ≤ n → n ≤ 4000 → ReadsSetting (generated_text n) (generated_setting n) []
generated_read n some few = record {
  reads = flat (begins_flat n) (generated_flat n some few) (sym (generated_text_is n));
  faults = class_faults n some few;
}

go_fits : (n : ℕ) → IsStimulusOf (generated_setting n) go
unfolding generated_setting
go_fits n = (front n, refl, refl)

pub stimuli_fit : (n k : ℕ) → AllByRecursion (IsStimulusOf (generated_setting n)) (replicate k go)
stimuli_fit n zero = tt
stimuli_fit n (suc k) = (go_fits n, stimuli_fit n k)
