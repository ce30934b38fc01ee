-- Each text is read in one way: what a reading answers for every text, and exactly where the grammar says so, leaves no second answer.
use Rattle.std.proofs.Common.{◌≡◌, ◌⊎◌, ℕ, inl, inr, [], ◌∷◌, ◌++◌, true, false, List, Result, Ok, Err, refl}
use Rattle.pssm_acts.specs.declared.act_fault.ActFault.{ActFault}
use Rattle.pssm_semantics.specs.declared.setting.Names.{Names}
use Rattle.pssm_semantics.specs.declared.tree.Act.{Act}
use Rattle.pssm_semantics.specs.declared.tree.Cond.{Cond}
use Rattle.pssm_acts.specs.ActGrammar.{SpellsAct, SpellsSteps}
use Rattle.pssm_acts.specs.inner.ActReading.{acts_reading, act_reading, steps_reading}
use Rattle.pssm_acts.specs.Grammar.{Either, SpellsCond}
use Rattle.pssm_acts.specs.inner.GuardReading.{cond_reading}
use Rattle.pssm_acts.specs.OneReading.{HasOneReading}
use Rattle.pssm_acts.specs.Shapes.{GuardShape, StmtsShape, StepsShape}
use Rattle.pssm_acts.specs.TextFaults.{TextFault}
use Rattle.pssm_acts.proofs.ActLaws.{act_held, steps_held}
use Rattle.pssm_acts.proofs.ActRead.{act_read, steps_read}
use Rattle.pssm_acts.proofs.CondFaults as guards
use Rattle.pssm_acts.proofs.CondLaws.{reading_spelled, spelled_reading}
use Rattle.pssm_acts.proofs.GuardBegins.{failed_first}
use Rattle.pssm_acts.proofs.RuleLaws.{same_fault, no_fault}
use Rattle.pssm_acts.proofs.ShapeLaws.{guard_shape, stmts_shape, steps_shape}
use Rattle.pssm_acts.proofs.AnswerLaws.{passed}
use Rattle.pssm_acts.proofs.TextFaultLaws.{text_fault, text_obeys}

-- A reading with one answer, which is what the text spells or the fault that it has.
one_way : {A : Type 0} (Spells : A → Type 0) (IsFault : ActFault → Type 0) (due : Result A ActFault) → ((a : A) → due ≡ Ok a → Spells a) → ((a : A) → Spells a → due ≡ Ok a)
    → ((f : ActFault) → due ≡ Err f → IsFault f) → ((f g : ActFault) → IsFault f → IsFault g → f ≡ g) → ((a : A) (f : ActFault) → due ≡ Ok a → IsFault f → ⊥) → HasOneReading Spells IsFault
one_way {A = A} Spells IsFault due held read refused same never = record {
  one_tree = λ a b first second.
      let one : due ≡ Ok a = read a first in
      let two : due ≡ Ok b = read b second in
      cc;
  one_fault = same;
  not_both = λ a f spelled is. never a f (read a spelled) is;
  some = go due refl;
} where
  go : (r : Result A ActFault) → due ≡ r → ((a : A) × Spells a) ⊎ ((f : ActFault) × IsFault f)
  go (Ok a) is = inl (a, held a is)
  go (Err f) is = inr (f, refused f is)

pub guard_one_reading : (names : Names) (text : List ℕ) → HasOneReading (λ (cond : Cond). SpellsCond names text cond) (λ fault. TextFault (GuardShape Either) names text fault)
guard_one_reading names text =
    one_way (λ (cond : Cond). SpellsCond names text cond) (λ fault. TextFault (GuardShape Either) names text fault) (cond_reading names text) (reading_spelled names text) (spelled_reading names text)
    (guards.refused names text) (λ f g a b. same_fault (GuardShape Either) names text a b)
    (λ c f e is. let spelled = reading_spelled names text c e in no_fault (GuardShape Either) names text spelled.short (guard_shape spelled.spelled) (guards.text_obeys names text c e) is)

pub act_one_reading : (names : Names) (marks : List (List ℕ)) (text : List ℕ)
    → HasOneReading (λ (read : Act × List (List ℕ)). SpellsAct names marks text read.0 read.1) (λ fault. TextFault StmtsShape names text fault)
unfolding act_reading
act_one_reading names marks text =
    one_way (λ (read : Act × List (List ℕ)). SpellsAct names marks text read.0 read.1) (λ fault. TextFault StmtsShape names text fault) (act_reading names marks text) (act_held names marks text)
    (λ read spelled. act_read names marks text read.0 read.1 spelled)
    (λ f e. text_fault names false marks text f refl (failed_first (λ read. (read.0.last, read.1)) (acts_reading names false marks text) f e))
    (λ f g a b. same_fault StmtsShape names text a b)
    (λ read f e is.
    let spelled = act_held names marks text read e in
    let whole = passed (acts_reading names false marks text) (λ read. Ok (read.0.last, read.1)) read e in
    no_fault StmtsShape names text spelled.short (stmts_shape spelled.spelled.spelled) (text_obeys names false marks text whole.0 refl whole.1) is)

pub steps_one_reading : (names : Names) (marks : List (List ℕ)) (text : List ℕ)
    → HasOneReading (λ (read : List Act × List (List ℕ)). SpellsSteps names marks text read.0 read.1) (λ fault. TextFault StepsShape names text fault)
unfolding steps_reading
steps_one_reading names marks text =
    one_way (λ (read : List Act × List (List ℕ)). SpellsSteps names marks text read.0 read.1) (λ fault. TextFault StepsShape names text fault) (steps_reading names marks text) (steps_held names marks text)
    (λ read spelled. steps_read names marks text read.0 read.1 spelled)
    (λ f e. text_fault names true marks text f tt (failed_first (λ read. (read.0.earlier ++ read.0.last ∷ [], read.1)) (acts_reading names true marks text) f e))
    (λ f g a b. same_fault StepsShape names text a b)
    (λ read f e is.
    let spelled = steps_held names marks text read e in
    let whole = passed (acts_reading names true marks text) (λ read. Ok (read.0.earlier ++ read.0.last ∷ [], read.1)) read e in
    no_fault StepsShape names text spelled.short (steps_shape spelled.spelled) (text_obeys names true marks text whole.0 tt whole.1) is)
