-- What is put behind a program whose behaviours and guards fit keeps it so.
use Rattle.std.proofs.Common.{◌≡◌, ◌≤◌, ◌<◌, ℕ, Bool, true, false, if◌then◌else◌, List, [], ◌∷◌, ◌++◌, length, Some, refl, sym, subst, arith, length-append}
use Rattle.std.specs.Prelude.{slice_get}
use Rattle.std.specs.List.{AllByRecursion}
use Rattle.std.proofs.lemmas.List.Elements.{All-from_recursion, recursion_from_All}
use Rattle.pssm_model.specs.declared.ids.ActId.{ActId}
use Rattle.pssm_model.specs.declared.elements.Vertex.{Vertex}
use Rattle.pssm_model.specs.declared.elements.Transition.{Transition}
use Rattle.pssm_model.specs.declared.elements.Guard.{Guard}
use Rattle.pssm_model.specs.declared.draft_setting.Body.{Body}
use Rattle.pssm_semantics.specs.declared.tree.Act.{Act}
use Rattle.pssm_semantics.specs.declared.setting.Names.{Names}
use Rattle.pssm_semantics.specs.declared.setting.Program.{Program}
use Rattle.pssm_semantics.specs.Fits.{CondFits, StmtFits, ActFits}
use Rattle.pssm_acts.specs.Vocabularies.{CanSend, vocabulary}
use Rattle.pssm_acts.proofs.FitLaws.{spelled_act_fits, spelled_acts_fit}
use Rattle.pssm_acts.proofs.MarkLaws.{stmts_grow, behaviours_grow}
use Rattle.pssm_acts.proofs.TokenLaws.{spelled_fits}
use Rattle.pssm_bodies.specs.Slots.{text_at}
use Rattle.pssm_bodies.specs.Readings.{is_empty, first_program, number_of, with_act, with_marks}
use Rattle.pssm_bodies.specs.Programs.{NumbersAct, AreNumbered, NumbersSteps, without, NumbersGuard, always, otherwise, when, NumbersVertex, NumbersTransition, AllNumbered}
use Rattle.pssm_bodies.specs.Programs.{steps as numbers_steps}
use Rattle.pssm_acts.proofs.Each.{all_push, all_with, first_stays}
use Rattle.pssm_acts.proofs.Wider.{act_wider}
use Rattle.pssm_acts.proofs.MarkNames.{AreMarks, no_marks, tokens_named, stmts_marks, behaviours_marks}

abbrev pub empty_act : Act
empty_act = record { stmts = [] }

-- Behaviours and guards fit among the names and the marks, which are names that differ, and the first behaviour is empty.
pub record IsSound (names : Names) (p : Program) : Type 0 where
  pub acts : AllByRecursion (ActFits (vocabulary names p.marks)) p.acts
  pub guards : AllByRecursion (CondFits (length names.vars)) p.guards
  pub marks : AreMarks p.marks
  pub first : slice_get p.acts 0 ≡ Some empty_act

-- The second program has as many behaviours and guards as the first, or more.
pub record GoesOn (p q : Program) : Type 0 where
  pub acts : length p.acts ≤ length q.acts
  pub guards : length p.guards ≤ length q.guards

pub same_on : (p q : Program) → p ≡ q → GoesOn p q
same_on p q e = subst (λ (r : Program). GoesOn p r) e (record { acts = omega arith; guards = omega arith })

pub on_and_on : (p q r : Program) → GoesOn p q → GoesOn q r → GoesOn p r
on_and_on p q r a b = record { acts = omega (arith, a.acts, b.acts); guards = omega (arith, a.guards, b.guards) }

-- ---- one behaviour

module _ (p : Program) (act : Act) where
  -- the program with the behaviour at its end
  abbrev longer : Program
  longer = record { acts = p.acts ++ act ∷ []; guards = p.guards; marks = p.marks }

  if_on : (b : Bool) → GoesOn p (if b then p else longer)
  if_on true = record { acts = omega arith; guards = omega arith }
  if_on false = record { acts = omega (arith, length-append p.acts (act ∷ [])); guards = omega arith }

  pub with_act_on : GoesOn p (with_act p act)
  with_act_on = if_on (is_empty act.stmts)

  abbrev next : ActId
  next = record { 0 = length p.acts }

  if_in : (b : Bool) → 0 < length p.acts → (if b then record { 0 = 0 } else next).0 < length (if b then p else longer).acts
  if_in true some = some
  if_in false some = omega (arith, length-append p.acts (act ∷ []))

  -- Its number is one of those of the program.
  pub number_in : 0 < length p.acts → (number_of p act).0 < length (with_act p act).acts
  number_in some = if_in (is_empty act.stmts) some

  module _ (names : Names) (sound : IsSound names p) (fits : ActFits (vocabulary names p.marks) act) where
    if_sound : (b : Bool) → IsSound names (if b then p else longer)
    if_sound true = sound
    if_sound false = record {
      acts = all_push (ActFits (vocabulary names p.marks)) p.acts act sound.acts fits;
      guards = sound.guards;
      marks = sound.marks;
      first = first_stays p.acts (act ∷ []) empty_act sound.first;
    }

    pub with_act_sound : IsSound names (with_act p act)
    with_act_sound = if_sound (is_empty act.stmts)

  if_marks : (b : Bool) → (if b then p else longer).marks ≡ p.marks
  if_marks true = refl
  if_marks false = refl

  pub with_act_marks : (with_act p act).marks ≡ p.marks
  with_act_marks = if_marks (is_empty act.stmts)

-- ---- more marks

pub with_marks_sound : (names : Names) (p : Program) (noted : List (List ℕ)) → length p.marks ≤ length noted → AreMarks noted → IsSound names p
    → IsSound names (with_marks p noted)
with_marks_sound names p noted more are sound = record {
  acts = all_with (ActFits (vocabulary names p.marks)) (ActFits (vocabulary names noted)) p.acts
      (act_wider (length names.vars) (length p.marks) (length noted) (CanSend names) (CanSend names) more (λ to signal count can. can)) sound.acts;
  guards = sound.guards;
  marks = are;
  first = sound.first;
}

-- ---- behaviours one behind the other

pub numbered_on : (p : Program) (acts : List Act) (to : List ActId) (q : Program) → AreNumbered p acts to q → GoesOn p q
numbered_on p [] [] q e = same_on p q e
numbered_on p (act ∷ acts) (to ∷ more) q n = on_and_on p (with_act p act) q (with_act_on p act) (numbered_on (with_act p act) acts more q n.1)
numbered_on p [] (to ∷ more) q n = absurd n
numbered_on p (act ∷ acts) [] q n = absurd n

pub numbered_sound : (names : Names) (p : Program) (acts : List Act) (to : List ActId) (q : Program) → AreNumbered p acts to q
    → AllByRecursion (ActFits (vocabulary names p.marks)) acts → IsSound names p → IsSound names q
numbered_sound names p [] [] q e fit sound = subst (IsSound names) e sound
numbered_sound names p (act ∷ acts) (to ∷ more) q n fit sound =
    let others = subst (λ (marks : List (List ℕ)). AllByRecursion (ActFits (vocabulary names marks)) acts) (sym (with_act_marks p act)) fit.1 in
    numbered_sound names (with_act p act) acts more q n.1 others (with_act_sound p act names sound fit.0)
numbered_sound names p [] (to ∷ more) q n fit sound = absurd n
numbered_sound names p (act ∷ acts) [] q n fit sound = absurd n

-- ---- what was read leads from one sound program to another

module _ (names : Names) (bodies : List Body) where
  pub act_on : (p : Program) (from to : ActId) (q : Program) → NumbersAct names bodies p from to q → GoesOn p q
  act_on p from to q n = subst (λ (r : Program). GoesOn p r) (sym n.leads) (
      let on = with_act_on (with_marks p n.noted) n.act in record { acts = on.acts; guards = on.guards })

  pub act_sound : (p : Program) (from to : ActId) (q : Program) → NumbersAct names bodies p from to q → IsSound names p → IsSound names q
  act_sound p from to q n sound =
      let text = text_at bodies from.0 in
      let behaviour = n.spelled.spelled in
      let are = stmts_marks behaviour.spelled (tokens_named text) sound.marks in
      let marked = with_marks_sound names p n.noted (stmts_grow behaviour.spelled) are sound in
      let fits = spelled_act_fits names p.marks text n.act n.noted behaviour in
      subst (IsSound names) (sym n.leads) (with_act_sound (with_marks p n.noted) n.act names marked fits)

  pub steps_on : (p : Program) (from to : List ActId) (q : Program) → NumbersSteps names bodies p from to q → GoesOn p q
  steps_on p from to q without = same_on p p refl
  steps_on p from to q (numbers_steps acts noted spelled numbered) =
      let on = numbered_on (with_marks p noted) acts to q numbered in record { acts = on.acts; guards = on.guards }

  pub steps_sound : (p : Program) (from to : List ActId) (q : Program) → NumbersSteps names bodies p from to q → IsSound names p → IsSound names q
  steps_sound p from to q without sound = sound
  steps_sound p from to q (numbers_steps {from = body} acts noted spelled numbered) sound =
      let text = text_at bodies body.0 in
      let steps = spelled.spelled in
      let are = behaviours_marks steps (tokens_named text) sound.marks in
      let marked = with_marks_sound names p noted (behaviours_grow steps) are sound in
      let fit = recursion_from_All (ActFits (vocabulary names noted)) acts (spelled_acts_fit names p.marks text acts noted steps) in
      numbered_sound names (with_marks p noted) acts to q numbered fit marked

  pub guard_on : (p : Program) (from to : Guard) (q : Program) → NumbersGuard names bodies p from to q → GoesOn p q
  guard_on p from to q always = same_on p p refl
  guard_on p from to q otherwise = same_on p p refl
  guard_on p from to q (when cond spelled number leads) =
      subst (λ (r : Program). GoesOn p r) (sym leads) (record { acts = omega arith; guards = omega (arith, length-append p.guards (cond ∷ [])) })

  pub guard_sound : (p : Program) (from to : Guard) (q : Program) → NumbersGuard names bodies p from to q → IsSound names p → IsSound names q
  guard_sound p from to q always sound = sound
  guard_sound p from to q otherwise sound = sound
  guard_sound p from to q (when {from = body} cond spelled number leads) sound =
      subst (IsSound names) (sym leads) (record {
        acts = sound.acts;
        guards = all_push (CondFits (length names.vars)) p.guards cond sound.guards (spelled_fits names (text_at bodies body.0) cond spelled.spelled);
        marks = sound.marks;
        first = sound.first;
      })

  pub vertex_on : (p : Program) (from to : Vertex) (q : Program) → NumbersVertex names bodies p from to q → GoesOn p q
  vertex_on p from to q n =
      on_and_on p n.entered q (act_on p from.entry to.entry n.entered n.entry)
      (on_and_on n.entered n.left q (act_on n.entered from.exit to.exit n.left n.exit) (steps_on n.left from.steps to.steps q n.doing))

  pub vertex_sound : (p : Program) (from to : Vertex) (q : Program) → NumbersVertex names bodies p from to q → IsSound names p → IsSound names q
  vertex_sound p from to q n sound =
      steps_sound n.left from.steps to.steps q n.doing
      (act_sound n.entered from.exit to.exit n.left n.exit (act_sound p from.entry to.entry n.entered n.entry sound))

  pub transition_on : (p : Program) (from to : Transition) (q : Program) → NumbersTransition names bodies p from to q → GoesOn p q
  transition_on p from to q n =
      on_and_on p n.guarded q (guard_on p from.guard to.guard n.guarded n.guard) (act_on n.guarded from.effect to.effect q n.effect)

  pub transition_sound : (p : Program) (from to : Transition) (q : Program) → NumbersTransition names bodies p from to q → IsSound names p → IsSound names q
  transition_sound p from to q n sound = act_sound n.guarded from.effect to.effect q n.effect (guard_sound p from.guard to.guard n.guarded n.guard sound)

-- ---- elements one after another

module _ {E : Type 0} (Step : Program → E → E → Program → Type 0) where
  pub all_on : ((p : Program) (x y : E) (q : Program) → Step p x y q → GoesOn p q) → (p : Program) (xs ys : List E) (q : Program)
      → AllNumbered Step p xs ys q → GoesOn p q
  all_on on p [] [] q e = same_on p q e
  all_on on p (x ∷ xs) (y ∷ ys) q n = on_and_on p n.0 q (on p x y n.0 n.1) (all_on on n.0 xs ys q n.2)
  all_on on p [] (y ∷ ys) q n = absurd n
  all_on on p (x ∷ xs) [] q n = absurd n

  pub all_sound : (names : Names) → ((p : Program) (x y : E) (q : Program) → Step p x y q → IsSound names p → IsSound names q)
      → (p : Program) (xs ys : List E) (q : Program) → AllNumbered Step p xs ys q → IsSound names p → IsSound names q
  all_sound names keep p [] [] q e sound = subst (IsSound names) e sound
  all_sound names keep p (x ∷ xs) (y ∷ ys) q n sound = all_sound names keep n.0 xs ys q n.2 (keep p x y n.0 n.1 sound)
  all_sound names keep p [] (y ∷ ys) q n sound = absurd n
  all_sound names keep p (x ∷ xs) [] q n sound = absurd n

pub first_sound : (names : Names) → IsSound names first_program
first_sound names = record {
  acts = ((All-from_recursion (StmtFits (vocabulary names [])) [] tt, omega arith), tt);
  guards = tt;
  marks = no_marks;
  first = refl;
}
