-- A text, read in one way, says one thing, or has a fault.
use Rattle.std.proofs.Common.{◌≡◌, ℕ, List, [], ◌∷◌, refl, sym, ap, ◌∙◌, arith}
use Rattle.pssm_semantics.specs.declared.tree.Act.{Act}
use Rattle.pssm_semantics.specs.declared.setting.Names.{Names}
use Rattle.pssm_semantics.specs.declared.setting.Program.{Program}
use Rattle.pssm_acts.specs.declared.act_fault.ActFault.{ActFault}
use Rattle.pssm_acts.specs.ActGrammar.{nothing, first}
use Rattle.pssm_acts.specs.Tokens.{cut}
use Rattle.pssm_acts.proofs.OneReading.{guard_one_reading, act_one_reading, steps_one_reading}
use Rattle.pssm_bodies.specs.declared.slot.Reading.{Reading}
use Rattle.pssm_bodies.specs.declared.slot.Reading.TheVariants as readings
use Rattle.pssm_bodies.specs.Readings.{Said, behaviours, guard, Says, behaviour, guard', with_said, Leads}
use Rattle.pssm_bodies.specs.Readings.{steps as says_steps}
use Rattle.pssm_bodies.specs.Faults.{HasTextFault}

-- It says one thing, and notes the same marks.
pub one_said : (names : Names) (marks : List (List ℕ)) (text : List ℕ) (reading : Reading) (said other : Said) (noted left : List (List ℕ)) → Says names marks text reading said noted → Says names marks text reading other left
    → (said ≡ other) × (noted ≡ left)
one_said names marks text reading said other noted left (behaviour {act} a) (behaviour {act = act'} b) =
    let same = (act_one_reading names marks text).one_tree (act, noted) (act', left) a b in
    (ap (λ (read : Act × List (List ℕ)). behaviours (read.0 ∷ [])) same, ap (λ (read : Act × List (List ℕ)). read.1) same)
one_said names marks text reading said other noted left (says_steps {acts} a) (says_steps {acts = acts'} b) =
    let same = (steps_one_reading names marks text).one_tree (acts, noted) (acts', left) a b in
    (ap (λ (read : List Act × List (List ℕ)). behaviours read.0) same, ap (λ (read : List Act × List (List ℕ)). read.1) same)
one_said names marks text reading said other noted left (guard' {cond} a) (guard' {cond = cond'} b) =
    (ap guard ((guard_one_reading names text).one_tree cond cond' a b), refl)

-- What says something has no fault.
pub never_both : (names : Names) (marks : List (List ℕ)) (text : List ℕ) (reading : Reading) (said : Said) (noted : List (List ℕ)) (fault : ActFault) → Says names marks text reading said noted
    → HasTextFault names reading text fault → ⊥
never_both names marks text reading said noted fault (behaviour {act} a) is = (act_one_reading names marks text).not_both (act, noted) fault a is
never_both names marks text reading said noted fault (says_steps {acts} a) is = (steps_one_reading names marks text).not_both (acts, noted) fault a is
never_both names marks text reading said noted fault (guard' {cond} a) is = (guard_one_reading names text).not_both cond fault a is

-- It has one fault.
pub one_fault : (names : Names) (text : List ℕ) (reading : Reading) (f g : ActFault) → HasTextFault names reading text f → HasTextFault names reading text g → f ≡ g
one_fault names text readings.Behaviour f g a b = (act_one_reading names [] text).one_fault f g a b
one_fault names text readings.Steps f g a b = (steps_one_reading names [] text).one_fault f g a b
one_fault names text readings.Guard f g a b = (guard_one_reading names text).one_fault f g a b

-- It leads to one program.
pub one_lead : (names : Names) (text : List ℕ) (reading : Reading) (before p q : Program) → Leads names text reading before p → Leads names text reading before q → p ≡ q
one_lead names text reading before p q a b =
    let same = one_said names before.marks text reading a.said b.said a.noted b.noted a.says b.says in
    a.leads ∙ ap (λ s. with_said before s a.noted) same.0 ∙ ap (λ n. with_said before b.said n) same.1 ∙ sym b.leads

-- The empty text says nothing.
pub empty_behaviour : (names : Names) (marks : List (List ℕ)) → Says names marks [] readings.Behaviour (behaviours (record { stmts = [] } ∷ [])) marks
unfolding cut
empty_behaviour names marks = behaviour (record { short = omega arith; spelled = record { spelled = nothing; few = omega arith } })

pub empty_steps : (names : Names) (marks : List (List ℕ)) → Says names marks [] readings.Steps (behaviours (record { stmts = [] } ∷ [])) marks
unfolding cut
empty_steps names marks = says_steps (record { short = omega arith; spelled = first (record { spelled = nothing; few = omega arith }); few = omega arith })
