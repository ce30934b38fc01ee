-- Action texts with a fault, and how they are read.
use Rattle.std.proofs.Common.{◌≡◌, ℕ, false, List, Result, Ok, Err, IfOk, IfErr, refl, ap, ◌∙◌}
use Rattle.pssm_semantics.specs.declared.setting.Names.{Names}
use Rattle.pssm_semantics.specs.declared.tree.Act.{Act}
use Rattle.pssm_semantics.specs.declared.tree.Cond.{Cond}
use Rattle.pssm_acts.specs.declared.act_fault.ActFault.{ActFault}
use Rattle.pssm_acts.specs.declared.act_fault.ActFault.TheVariants.{Syntax, UnknownName, WideNumber, Arity, TooLong, NoMemory}
use Rattle.pssm_acts.specs.Answers.{Answers, Faults}
use Rattle.pssm_acts.specs.Grammar.{Either, SpellsCond}
use Rattle.pssm_acts.specs.Shapes.{GuardShape, StmtsShape}
use Rattle.pssm_acts.specs.TextFaults.{TextFault}
use Rattle.pssm_acts.specs.inner.ActReading.{act_reading, acts_reading}
use Rattle.pssm_acts.specs.inner.GuardReading.{cond_reading}
use Rattle.pssm_acts.proofs.ActLaws.{act_held}
use Rattle.pssm_acts.proofs.CondLaws.{reading_spelled, spelled_reading}
use Rattle.pssm_acts.proofs.OneReading.{act_one_reading, guard_one_reading}
use Rattle.pssm_acts.proofs.GuardBegins.{failed_first}
use Rattle.pssm_acts.proofs.CondFaults.{refused}
use Rattle.pssm_acts.proofs.TextFaultLaws.{text_fault}

-- what is refused has the fault
pub act_refused : (names : Names) (marks : List (List ℕ)) (text : List ℕ) (fault : ActFault) → act_reading names marks text ≡ Err fault → TextFault StmtsShape names text fault
unfolding act_reading
act_refused names marks text fault e = text_fault names false marks text fault refl (failed_first (λ read. (read.0.last, read.1)) (acts_reading names false marks text) fault e)

-- and what has the fault is refused with it
pub act_told : (names : Names) (marks : List (List ℕ)) (text : List ℕ) (fault : ActFault) → TextFault StmtsShape names text fault → act_reading names marks text ≡ Err fault
act_told names marks text fault is = by_reading (act_reading names marks text) refl where
  by_reading : (r : Result (Act × List (List ℕ)) ActFault) → act_reading names marks text ≡ r → act_reading names marks text ≡ Err fault
  by_reading (Ok read) e = let one = act_one_reading names marks text in absurd (one.not_both read fault (act_held names marks text read e) is)
  by_reading (Err other) e = let one = act_one_reading names marks text in e ∙ ap Err (one.one_fault other fault (act_refused names marks text other e) is)

pub guard_told : (names : Names) (text : List ℕ) (fault : ActFault) → TextFault (GuardShape Either) names text fault → cond_reading names text ≡ Err fault
guard_told names text fault is = by_reading (cond_reading names text) refl where
  by_reading : (r : Result Cond ActFault) → cond_reading names text ≡ r → cond_reading names text ≡ Err fault
  by_reading (Ok c) e = let one = guard_one_reading names text in absurd (one.not_both c fault (reading_spelled names text c e) is)
  by_reading (Err other) e = let one = guard_one_reading names text in e ∙ ap Err (one.one_fault other fault (refused names text other e) is)

-- ---- answers of the readers of action texts

pub act_answers : (names : Names) (marks : List (List ℕ)) (text : List ℕ) (fault : ActFault) → Faults (TextFault StmtsShape names text) fault → Answers {A = Act × List (List ℕ)} (act_reading names marks text) (Err fault)
act_answers names marks text NoMemory is = tt
act_answers names marks text (Syntax at) is = act_told names marks text (Syntax at) is
act_answers names marks text (UnknownName at) is = act_told names marks text (UnknownName at) is
act_answers names marks text (WideNumber at) is = act_told names marks text (WideNumber at) is
act_answers names marks text (Arity at) is = act_told names marks text (Arity at) is
act_answers names marks text (TooLong at) is = act_told names marks text (TooLong at) is

pub cond_answers : (names : Names) (text : List ℕ) (r : Result Cond ActFault) → IfOk r (λ c. SpellsCond names text c) → IfErr r (λ fault. Faults (TextFault (GuardShape Either) names text) fault) → Answers (cond_reading names text) r
cond_answers names text (Ok c) spelled is = spelled_reading names text c spelled
cond_answers names text (Err NoMemory) spelled is = tt
cond_answers names text (Err (Syntax at)) spelled is = guard_told names text (Syntax at) is
cond_answers names text (Err (UnknownName at)) spelled is = guard_told names text (UnknownName at) is
cond_answers names text (Err (WideNumber at)) spelled is = guard_told names text (WideNumber at) is
cond_answers names text (Err (Arity at)) spelled is = guard_told names text (Arity at) is
cond_answers names text (Err (TooLong at)) spelled is = guard_told names text (TooLong at) is
