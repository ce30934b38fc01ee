-- The machine and the program of a class: behaviours, guards and marks have numbers in the order of the class's flat text.
use Rattle.std.specs.Prelude.{◌≡◌, ℕ, List, [], ◌∷◌}
use Rattle.pssm_model.specs.declared.ids.ActId.{ActId}
use Rattle.pssm_model.specs.declared.ids.GuardId.{GuardId}
use Rattle.pssm_model.specs.declared.elements.Vertex.{Vertex}
use Rattle.pssm_model.specs.declared.elements.Transition.{Transition}
use Rattle.pssm_model.specs.declared.elements.DraftMachine.{DraftMachine}
use Rattle.pssm_model.specs.declared.elements.Guard.{Guard}
use Rattle.pssm_model.specs.declared.elements.Guard.TheVariants.{Always, Otherwise, When}
use Rattle.pssm_model.specs.declared.draft_setting.Body.{Body}
use Rattle.pssm_model.specs.declared.draft_setting.FlatDraft.{FlatDraft}
use Rattle.pssm_semantics.specs.declared.tree.Act.{Act}
use Rattle.pssm_semantics.specs.declared.tree.Cond.{Cond}
use Rattle.pssm_semantics.specs.declared.setting.Names.{Names}
use Rattle.pssm_semantics.specs.declared.setting.Program.{Program}
use Rattle.pssm_acts.specs.ActGrammar.{SpellsAct, SpellsSteps}
use Rattle.pssm_acts.specs.Grammar.{SpellsCond}
use Rattle.pssm_bodies.specs.Slots.{text_at}
use Rattle.pssm_bodies.specs.Readings.{first_program, number_of, with_act, with_marks, number_of_guard, with_guard, KeepsLimits}

-- ---- one body

-- The body with the first number spells the behaviour with the second, and leads from one program to the other.
pub record NumbersAct (names : Names) (bodies : List Body) (before : Program) (from to : ActId) (behind : Program) : Type 0 where
  pub act : Act
  pub noted : List (List ℕ)
  pub spelled : SpellsAct names before.marks (text_at bodies from.0) act noted
  pub number : to ≡ number_of before act
  pub leads : behind ≡ with_act (with_marks before noted) act

-- Behaviours have these numbers, one behind the other.
abbrev pub AreNumbered : Program → List Act → List ActId → Program → Type 0
AreNumbered before [] [] behind = before ≡ behind
AreNumbered before (act ∷ acts) (to ∷ more) behind = (to ≡ number_of before act) × AreNumbered (with_act before act) acts more behind
AreNumbered before _ _ behind = ⊥

-- The do-activity, where there is one, spells the steps with these numbers.
pub data NumbersSteps (names : Names) (bodies : List Body) (before : Program) : List ActId → List ActId → Program → Type 0 where
  without : NumbersSteps names bodies before [] [] before
  steps : {from : ActId} {to : List ActId} {behind : Program} (acts : List Act) (noted : List (List ℕ)) → SpellsSteps names before.marks (text_at bodies from.0) acts noted
      → AreNumbered (with_marks before noted) acts to behind → NumbersSteps names bodies before (from ∷ []) to behind

-- The guard, where it has a text, spells the one with this number.
pub data NumbersGuard (names : Names) (bodies : List Body) (before : Program) : Guard → Guard → Program → Type 0 where
  always : NumbersGuard names bodies before Always Always before
  otherwise : NumbersGuard names bodies before Otherwise Otherwise before
  when : {from to : GuardId} {behind : Program} (cond : Cond) → SpellsCond names (text_at bodies from.0) cond → to ≡ number_of_guard before
      → behind ≡ with_guard before cond → NumbersGuard names bodies before (When from) (When to) behind

-- ---- elements

-- A vertex stays what it is, with the numbers of its behaviours: entry, exit, do steps.
pub record NumbersVertex (names : Names) (bodies : List Body) (before : Program) (from to : Vertex) (behind : Program) : Type 0 where
  pub owner : to.owner ≡ from.owner
  pub kind : to.kind ≡ from.kind
  pub label : to.label ≡ from.label
  pub defers : to.defers ≡ from.defers
  pub entered : Program
  pub left : Program
  pub entry : NumbersAct names bodies before from.entry to.entry entered
  pub exit : NumbersAct names bodies entered from.exit to.exit left
  pub doing : NumbersSteps names bodies left from.steps to.steps behind

-- A transition stays what it is, with the numbers of its guard and its effect.
pub record NumbersTransition (names : Names) (bodies : List Body) (before : Program) (from to : Transition) (behind : Program) : Type 0 where
  pub source : to.source ≡ from.source
  pub target : to.target ≡ from.target
  pub kind : to.kind ≡ from.kind
  pub triggers : to.triggers ≡ from.triggers
  pub guarded : Program
  pub guard : NumbersGuard names bodies before from.guard to.guard guarded
  pub effect : NumbersAct names bodies guarded from.effect to.effect behind

-- Elements lead one after another from one program to the other.
abbrev pub AllNumbered : {E : Type 0} → (Program → E → E → Program → Type 0) → Program → List E → List E → Program → Type 0
AllNumbered Step before [] [] behind = before ≡ behind
AllNumbered Step before (from ∷ more) (to ∷ others) behind = (next : Program) × Step before from to next × AllNumbered Step next more others behind
AllNumbered Step before _ _ behind = ⊥

-- ---- the class

-- The machine and the program of a flat draft: regions, vertices and transitions as they are, vertices before transitions.
pub record IsProgrammed (names : Names) (flat : FlatDraft) (machine : DraftMachine) (program : Program) : Type 0 where
  pub regions : machine.regions ≡ flat.machine.regions
  pub middle : Program
  pub vertices : AllNumbered (NumbersVertex names flat.bodies) first_program flat.machine.vertices machine.vertices middle
  pub transitions : AllNumbered (NumbersTransition names flat.bodies) middle flat.machine.transitions machine.transitions program
  pub limits : KeepsLimits program
