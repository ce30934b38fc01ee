-- How many behaviours and which marks there are behind a text.
use Rattle.std.proofs.Common.{◌≡◌, ◌≤◌, ◌<◌, ◌+◌, ◌⊎◌, inl, inr, ℕ, suc, Bool, true, false, not, cond, if◌then◌else◌, List, [], ◌∷◌, ◌++◌, length, Some, refl, sym, ap, ◌∙◌, subst, arith, length-append}
use Rattle.std.specs.List.{fold, count_by}
use Rattle.std.proofs.lemmas.List.Sums.{sum_by-cons}
use Rattle.pssm_model.specs.declared.draft_setting.FlatDraft.{FlatDraft}
use Rattle.pssm_semantics.specs.declared.tree.Act.{Act}
use Rattle.pssm_semantics.specs.declared.tree.Cond.{Cond}
use Rattle.pssm_semantics.specs.declared.setting.Names.{Names}
use Rattle.pssm_semantics.specs.declared.setting.Program.{Program}
use Rattle.pssm_acts.specs.declared.act_fault.ActFault.{ActFault}
use Rattle.pssm_acts.specs.declared.act_fault.ActFault.TheVariants.{TooLong}
use Rattle.pssm_acts.specs.Answers.{Faults}
use Rattle.pssm_acts.specs.ActGrammar.{SpellsAct, SpellsSteps}
use Rattle.pssm_acts.specs.Grammar.{SpellsCond}
use Rattle.pssm_bodies.specs.declared.slot.Reading.{Reading}
use Rattle.pssm_bodies.specs.declared.slot.Reading.TheVariants as readings
use Rattle.pssm_bodies.specs.declared.slot.Slot.{Slot}
use Rattle.pssm_bodies.specs.Slots.{slot_of, text_at}
use Rattle.pssm_bodies.specs.Readings.{Said, behaviours, guard, Says, behaviour, guard', is_empty, first_program, with_act, with_marks, with_said, Leads, KeepsLimits}
use Rattle.pssm_bodies.specs.Readings.{steps as says_steps}
use Rattle.pssm_bodies.specs.Faults.{HasTextFault, Fails, by_text, by_limit, LeadsOn, ReadsTo, nothing, one_more}
use Rattle.pssm_bodies.specs.inner.Counts.{has_statements, said_count, SaysCount, HasCounts, CountsOn, FailsOn}
use Rattle.pssm_bodies.proofs.ThroughLaws.{faults_so}

-- ---- one behaviour more, or none

one_count : (b : Bool) (p : Program) (act : Act)
    → length (if b then p else record { acts = p.acts ++ act ∷ []; guards = p.guards; marks = p.marks }).acts ≡ length p.acts + cond (not b) 1 0
one_count true p act = omega arith
one_count false p act = length-append p.acts (act ∷ [])

one_marks : (b : Bool) (p : Program) (act : Act) → (if b then p else record { acts = p.acts ++ act ∷ []; guards = p.guards; marks = p.marks }).marks ≡ p.marks
one_marks true p act = refl
one_marks false p act = refl

pub acts_count : (p : Program) (acts : List Act) → length (fold with_act p acts).acts ≡ length p.acts + count_by has_statements acts
acts_count p [] = omega arith
acts_count p (act ∷ acts) =
    omega (arith, acts_count (with_act p act) acts, one_count (is_empty act.stmts) p act, sum_by-cons (λ a. cond (has_statements a) 1 0) act acts)

pub acts_marks : (p : Program) (acts : List Act) → (fold with_act p acts).marks ≡ p.marks
acts_marks p [] = refl
acts_marks p (act ∷ acts) = acts_marks (with_act p act) acts ∙ one_marks (is_empty act.stmts) p act

pub said_acts : (p : Program) (said : Said) (noted : List (List ℕ)) → length (with_said p said noted).acts ≡ length p.acts + said_count said
said_acts p (behaviours acts) noted = acts_count (with_marks p noted) acts
said_acts p (guard cond) noted = omega arith

pub said_marks : (p : Program) (said : Said) (noted : List (List ℕ)) → (with_said p said noted).marks ≡ noted
said_marks p (behaviours acts) noted = acts_marks (with_marks p noted) acts
said_marks p (guard cond) noted = refl

-- ---- one text more

module _ (names : Names) (text : List ℕ) (reading : Reading) (count said more : ℕ) (marks noted : List (List ℕ)) (is : more ≡ count + said) (says : SaysCount names marks text reading said noted) where
  leads_on : (before : Program) → HasCounts before count marks → Leads names text reading before (with_said before says.said noted)
  leads_on before counts = record { said = says.said; noted = noted; says = subst (λ m. Says names m text reading says.said noted) (sym counts.marks) says.says; leads = refl }

  acts_on : (before : Program) → HasCounts before count marks → length (with_said before says.said noted).acts ≡ more
  acts_on before counts = omega (arith, said_acts before says.said noted, counts.acts, says.counted, is)

  pub counts_on : more ≤ 32768 → length noted ≤ 32768 → CountsOn names text reading count marks more noted
  counts_on few named before counts = record {
    behind = with_said before says.said noted;
    leads = leads_on before counts;
    limits = record {
      acts = omega (arith, acts_on before counts, few);
      marks = subst (λ (m : List (List ℕ)). length m ≤ 32768) (sym (said_marks before says.said noted)) named;
    };
    counts = record { acts = acts_on before counts; marks = said_marks before says.said noted };
  }

  pub past_limits : (32768 < more) ⊎ (32768 < length noted) → FailsOn names text reading count marks (TooLong 0)
  past_limits past before counts = by_limit (with_said before says.said noted) (leads_on before counts) (λ keeps. go past keeps) where
    go : (32768 < more) ⊎ (32768 < length noted) → KeepsLimits (with_said before says.said noted) → ⊥
    go (inl many) keeps = omega (arith, acts_on before counts, many, keeps.acts)
    go (inr many) keeps = omega (arith, ap (λ (m : List (List ℕ)). length m) (said_marks before says.said noted), many, keeps.marks)

pub text_fails : (names : Names) (text : List ℕ) (reading : Reading) (count : ℕ) (marks : List (List ℕ)) (fault : ActFault) → Faults (HasTextFault names reading text) fault
    → FailsOn names text reading count marks fault
text_fails names text reading count marks fault h before counts = faults_so {P = HasTextFault names reading text} {Q = Fails names text reading before} (λ f is. by_text is) fault h

-- ---- the bodies one after another

-- The bodies before this number have been read.
pub record IsReadTo (names : Names) (flat : FlatDraft) (number count : ℕ) (marks : List (List ℕ)) : Type 0 where
  pub last : ℕ
  pub next : number ≡ suc last
  pub program : Program
  pub read : ReadsTo names flat last program
  pub counts : HasCounts program count marks
  pub few : count ≤ 32768
  pub named : length marks ≤ 32768

pub start : (names : Names) (flat : FlatDraft) → IsReadTo names flat 1 1 []
start names flat = record { last = 0; next = refl; program = first_program; read = nothing; counts = record { acts = refl; marks = refl }; few = omega arith; named = omega arith }

pub further : (names : Names) (flat : FlatDraft) (number count more : ℕ) (marks noted : List (List ℕ)) (place : Slot) → IsReadTo names flat number count marks → slot_of flat.machine number ≡ Some place
    → CountsOn names (text_at flat.bodies number) place.reading count marks more noted → more ≤ 32768 → length noted ≤ 32768 → IsReadTo names flat (number + 1) more noted
further names flat number count more marks noted place before stands counts few named =
    let to = counts before.program before.counts in
    record {
      last = number;
      next = omega arith;
      program = to.behind;
      read = subst (λ n. ReadsTo names flat n to.behind) (sym before.next)
          (one_more before.read (subst (λ n. LeadsOn names flat n before.program to.behind) before.next (record { place = place; stands = stands; leads = to.leads })) to.limits);
      counts = to.counts;
      few = few;
      named = named;
    }

-- ---- what a text says, once it has been read

pub says_act : (names : Names) (marks : List (List ℕ)) (text : List ℕ) (act : Act) (noted : List (List ℕ)) (some : Bool) (n : ℕ) → SpellsAct names marks text act noted → some ≡ has_statements act → n ≡ cond some 1 0
    → SaysCount names marks text readings.Behaviour n noted
says_act names marks text act noted some n spells is counted = record {
  said = behaviours (act ∷ []);
  says = behaviour spells;
  counted = omega (arith, counted, ap (λ (b : Bool). cond {A = ℕ} b 1 0) is, sum_by-cons (λ a. cond (has_statements a) 1 0) act []);
}

pub says_acts : (names : Names) (marks : List (List ℕ)) (text : List ℕ) (acts : List Act) (noted : List (List ℕ)) (n : ℕ) → SpellsSteps names marks text acts noted → n ≡ count_by has_statements acts
    → SaysCount names marks text readings.Steps n noted
says_acts names marks text acts noted n spells counted = record { said = behaviours acts; says = says_steps spells; counted = counted }

pub says_guard : (names : Names) (marks : List (List ℕ)) (text : List ℕ) (cond : Cond) → SpellsCond names text cond → SaysCount names marks text readings.Guard 0 marks
says_guard names marks text cond spells = record { said = guard cond; says = guard' spells; counted = refl }
