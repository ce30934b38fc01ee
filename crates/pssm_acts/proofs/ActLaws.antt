-- Behaviours and steps are read exactly where the text spells them, with all numbers in range.
use Rattle.std.proofs.Common.{◌≡◌, ◌≤◌, ℕ, [], ◌∷◌, ◌++◌, Bool, true, false, ltb, List, length, All, Result, Ok, Err, Vec, IfOk, subst}
use Rattle.std.proofs.lemmas.Bool.{ltb-false}
use Rattle.std.specs.declared.alloc.Global.{Global}
use Rattle.pssm_acts.specs.declared.act_fault.ActFault.{ActFault}
use Rattle.pssm_acts.specs.declared.act_fault.ActFault.TheVariants.{TooLong}
use Rattle.pssm_acts.specs.declared.acts_reader.ReadActs.{ReadActs}
use Rattle.pssm_semantics.specs.declared.setting.Names.{Names}
use Rattle.pssm_semantics.specs.declared.tree.Act.{Act}
use Rattle.pssm_acts.specs.ActGrammar.{SpellsBehaviour, SpellsBehaviours, SpellsAct, SpellsSteps}
use Rattle.pssm_acts.specs.inner.ActReading.{fresh_acts, acts_read, text_acts, acts_reading, act_reading, steps_reading, listed}
use Rattle.pssm_semantics.specs.Fits.{ActFits}
use Rattle.pssm_acts.specs.inner.PhraseReading.{AnswersWith}
use Rattle.pssm_acts.specs.Tokens.{tokens_of}
use Rattle.pssm_acts.specs.Vocabularies.{vocabulary}
use Rattle.pssm_acts.proofs.ActRead.{act_read, steps_read}
use Rattle.pssm_acts.proofs.AnswerLaws.{read_same, passed, not_past}
use Rattle.pssm_acts.proofs.ActTextLaws.{fault_alone, fault_with}
use Rattle.pssm_acts.proofs.ActsHeld.{spelled_behaviour, spelled_behaviours}
use Rattle.pssm_acts.proofs.FitLaws.{spelled_act_fits, spelled_acts_fit}

-- a text that is read is not too long
text_read : (names : Names) (stepped : Bool) (marks : List (List ℕ)) (text : List ℕ) (read : ReadActs × List (List ℕ)) → acts_reading names stepped marks text ≡ Ok read
    → (length text ≤ 4096) × (acts_read names stepped (length text) marks fresh_acts (tokens_of text) ≡ Ok read)
unfolding acts_reading
text_read names stepped marks text read is =
    let it = not_past (ltb 4096 (length text)) (text_acts names stepped marks text) (TooLong 0) read is in
    (ltb-false 4096 (length text) it.0, it.1)

pub act_held : (names : Names) (marks : List (List ℕ)) (text : List ℕ) (read : Act × List (List ℕ)) → act_reading names marks text ≡ Ok read → SpellsAct names marks text read.0 read.1
unfolding act_reading
act_held names marks text read is =
    let it = passed (acts_reading names false marks text) (λ x. Ok (x.0.last, x.1)) read is in
    let same = read_same {A = Act × List (List ℕ)} (it.0.0.last, it.0.1) read it.2 in
    let known = text_read names false marks text it.0 it.1 in
    record { short = known.0; spelled = subst (λ p. SpellsBehaviour names marks (tokens_of text) p.0 p.1) same (spelled_behaviour names (length text) marks (tokens_of text) it.0.0 it.0.1 known.1) }

pub steps_held : (names : Names) (marks : List (List ℕ)) (text : List ℕ) (read : List Act × List (List ℕ)) → steps_reading names marks text ≡ Ok read → SpellsSteps names marks text read.0 read.1
unfolding steps_reading
steps_held names marks text read is =
    let it = passed (acts_reading names true marks text) (λ x. Ok (x.0.earlier ++ x.0.last ∷ [], x.1)) read is in
    let same = read_same {A = List Act × List (List ℕ)} (it.0.0.earlier ++ it.0.0.last ∷ [], it.0.1) read it.2 in
    let known = text_read names true marks text it.0 it.1 in
    let spelled = spelled_behaviours names (length text) marks (tokens_of text) it.0.0 it.0.1 known.1 in
    record { short = known.0; spelled = subst (λ p. SpellsBehaviours names marks (tokens_of text) p.0 p.1) same spelled.0; few = subst (λ p. length p.0 ≤ 64) same spelled.1 }

-- The clauses of `read_act` that say what an answer is.
pub act_answers_spelled : (names : Names) (marks : List (List ℕ)) (text : List ℕ) (r : Result Act ActFault) (left : List (List ℕ)) → AnswersWith (act_reading names marks text) r left
    → IfOk r (λ act. SpellsAct names marks text act left)
act_answers_spelled names marks text (Ok act) left h = act_held names marks text (act, left) h
act_answers_spelled names marks text (Err fault) left h = tt

pub act_answers_fit : (names : Names) (marks : List (List ℕ)) (text : List ℕ) (r : Result Act ActFault) (left : List (List ℕ)) → AnswersWith (act_reading names marks text) r left
    → IfOk r (λ act. ActFits (vocabulary names left) act)
act_answers_fit names marks text (Ok act) left h = spelled_act_fits names marks text act left (act_held names marks text (act, left) h).spelled
act_answers_fit names marks text (Err fault) left h = tt

-- The same of `read_steps`.
pub steps_answers_spelled : (names : Names) (marks : List (List ℕ)) (text : List ℕ) (r : Result (Vec Act Global) ActFault) (left : List (List ℕ)) → AnswersWith (steps_reading names marks text) (listed r) left
    → IfOk r (λ steps. SpellsSteps names marks text steps.items left)
steps_answers_spelled names marks text (Ok steps) left h = steps_held names marks text (steps.items, left) h
steps_answers_spelled names marks text (Err fault) left h = tt

pub steps_answers_fit : (names : Names) (marks : List (List ℕ)) (text : List ℕ) (r : Result (Vec Act Global) ActFault) (left : List (List ℕ)) → AnswersWith (steps_reading names marks text) (listed r) left
    → IfOk r (λ steps. All (ActFits (vocabulary names left)) steps.items)
steps_answers_fit names marks text (Ok steps) left h = spelled_acts_fit names marks text steps.items left (steps_held names marks text (steps.items, left) h).spelled
steps_answers_fit names marks text (Err fault) left h = tt

-- Whatever the text spells is the answer.
pub act_known : (names : Names) (marks : List (List ℕ)) (text : List ℕ) (r : Result Act ActFault) (left : List (List ℕ)) → AnswersWith (act_reading names marks text) r left
    → (act : Act) (noted : List (List ℕ)) → SpellsAct names marks text act noted → AnswersWith (Ok (act, noted)) r left
act_known names marks text r left h act noted spells = subst (λ due. AnswersWith due r left) (act_read names marks text act noted spells) h

pub steps_known : (names : Names) (marks : List (List ℕ)) (text : List ℕ) (r : Result (List Act) ActFault) (left : List (List ℕ)) → AnswersWith (steps_reading names marks text) r left
    → (steps : List Act) (noted : List (List ℕ)) → SpellsSteps names marks text steps noted → AnswersWith (Ok (steps, noted)) r left
steps_known names marks text r left h steps noted spells = subst (λ due. AnswersWith due r left) (steps_read names marks text steps noted spells) h

-- A refusal is due whatever marks it leaves.
fault_left : {A : Type 0} (due : Result (A × List (List ℕ)) ActFault) (fault : ActFault) (left other : List (List ℕ)) → AnswersWith due (Err fault) left → AnswersWith due (Err fault) other
fault_left due fault left other h = fault_with due fault other (fault_alone due fault left h)

pub act_refused : (names : Names) (marks : List (List ℕ)) (text : List ℕ) (fault : ActFault) (left other : List (List ℕ)) → AnswersWith (act_reading names marks text) (Err fault) left
    → (act : Act) (noted : List (List ℕ)) → SpellsAct names marks text act noted → AnswersWith (Ok (act, noted)) (Err fault) other
act_refused names marks text fault left other h act noted spells = fault_left (Ok (act, noted)) fault left other (act_known names marks text (Err fault) left h act noted spells)

pub steps_refused : (names : Names) (marks : List (List ℕ)) (text : List ℕ) (fault : ActFault) (left other : List (List ℕ)) → AnswersWith (steps_reading names marks text) (Err fault) left
    → (steps : List Act) (noted : List (List ℕ)) → SpellsSteps names marks text steps noted → AnswersWith (Ok (steps, noted)) (Err fault) other
steps_refused names marks text fault left other h steps noted spells = fault_left (Ok (steps, noted)) fault left other (steps_known names marks text (Err fault) left h steps noted spells)
