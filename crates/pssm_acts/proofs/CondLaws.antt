-- A guard is read exactly where the text spells it.
use Rattle.std.proofs.Common.{◌≡◌, ℕ, ltb, List, length, Result, Ok, Err, subst}
use Rattle.std.specs.Prelude.{IfOk}
use Rattle.std.proofs.lemmas.Bool.{le-ltb, ltb-false}
use Rattle.pssm_acts.specs.declared.act_fault.ActFault.{ActFault}
use Rattle.pssm_acts.specs.declared.act_fault.ActFault.TheVariants.{TooLong}
use Rattle.pssm_semantics.specs.declared.setting.Names.{Names}
use Rattle.pssm_semantics.specs.declared.tree.Cond.{Cond}
use Rattle.pssm_acts.specs.Tokens.{tokens_of}
use Rattle.pssm_acts.specs.inner.ExprReading.{Answers}
use Rattle.pssm_acts.specs.inner.GuardReading.{text_reading, cond_reading}
use Rattle.pssm_semantics.specs.Fits.{CondFits}
use Rattle.pssm_acts.specs.Grammar.{SpellsCond}
use Rattle.pssm_acts.proofs.AnswerLaws.{not_past}
use Rattle.pssm_acts.proofs.TokenLaws.{spelled_fits}
use Rattle.pssm_acts.proofs.GuardRead.{guard_spelled}
use Rattle.pssm_acts.proofs.GuardHeld.{spelled_guard}

pub reading_spelled : (names : Names) (text : List ℕ) (c : Cond) → cond_reading names text ≡ Ok c → SpellsCond names text c
unfolding cond_reading
reading_spelled names text c is =
    let it = not_past (ltb 4096 (length text)) (text_reading names text) (TooLong 0) c is in
    record { short = ltb-false 4096 (length text) it.0; spelled = spelled_guard names (length text) (tokens_of text) c it.1 }

pub spelled_reading : (names : Names) (text : List ℕ) (c : Cond) → SpellsCond names text c → cond_reading names text ≡ Ok c
unfolding cond_reading
spelled_reading names text c spells = rw (le-ltb 4096 (length text) spells.short) (guard_spelled names (length text) (tokens_of text) c spells.spelled)

pub answers_spelled : (names : Names) (text : List ℕ) (r : Result Cond ActFault) → Answers (cond_reading names text) r → IfOk r (λ c. SpellsCond names text c)
answers_spelled names text (Ok c) h = reading_spelled names text c h
answers_spelled names text (Err fault) h = tt

pub answers_fit : (names : Names) (text : List ℕ) (r : Result Cond ActFault) → Answers (cond_reading names text) r → IfOk r (λ c. CondFits (length names.vars) c)
answers_fit names text (Ok c) h = spelled_fits names text c (reading_spelled names text c h).spelled
answers_fit names text (Err fault) h = tt

pub answers_known : (names : Names) (text : List ℕ) (r : Result Cond ActFault) → Answers (cond_reading names text) r → (c : Cond) → SpellsCond names text c → Answers (Ok c) r
answers_known names text r h c spells = subst (λ due. Answers due r) (spelled_reading names text c spells) h
