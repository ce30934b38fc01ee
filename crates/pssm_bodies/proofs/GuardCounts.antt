-- How many guards a program has.
use Rattle.std.proofs.Common.{◌≡◌, ◌≤◌, ◌<◌, ◌+◌, ℕ, Bool, true, false, if◌then◌else◌, List, [], ◌∷◌, ◌++◌, length, take, drop, get_or, refl, sym}
use Rattle.std.proofs.Common.{ap, ◌∙◌, arith, length-append}
use Rattle.std.specs.List.{fold, flat_map}
use Rattle.pssm_model.specs.declared.ids.ActId.{ActId}
use Rattle.pssm_model.specs.declared.elements.Vertex.{Vertex}
use Rattle.pssm_model.specs.declared.elements.Transition.{Transition}
use Rattle.pssm_model.specs.declared.elements.Guard.{Guard}
use Rattle.pssm_model.specs.declared.draft_setting.Body.{Body}
use Rattle.pssm_semantics.specs.declared.tree.Act.{Act}
use Rattle.pssm_semantics.specs.declared.tree.Cond.{Cond}
use Rattle.pssm_semantics.specs.declared.setting.Names.{Names}
use Rattle.pssm_semantics.specs.declared.setting.Program.{Program}
use Rattle.pssm_bodies.specs.Slots.{guard_slots}
use Rattle.pssm_bodies.specs.Readings.{is_empty, with_act, with_marks}
use Rattle.pssm_bodies.specs.Programs.{NumbersAct, NumbersSteps, without, NumbersGuard, always, otherwise, when, NumbersVertex, NumbersTransition, AllNumbered}
use Rattle.pssm_bodies.specs.Programs.{steps as numbers_steps}
use Rattle.pssm_bodies.specs.inner.Through.{guards_count}
use Rattle.pssm_bodies.proofs.ListLaws.{flat_cut}
use Rattle.pssm_bodies.proofs.ThroughLaws.{are_behind}

one_guards : (b : Bool) (p q : Program) → q.guards ≡ p.guards → (if b then p else q).guards ≡ p.guards
one_guards true p q e = refl
one_guards false p q e = e

act_guards : (p : Program) (act : Act) → (with_act p act).guards ≡ p.guards
act_guards p act = one_guards (is_empty act.stmts) p (record { acts = p.acts ++ act ∷ []; guards = p.guards; marks = p.marks }) refl

pub acts_guards : (p : Program) (acts : List Act) → (fold with_act p acts).guards ≡ p.guards
acts_guards p [] = refl
acts_guards p (act ∷ acts) = acts_guards (with_act p act) acts ∙ act_guards p act

module _ (names : Names) (bodies : List Body) where
  pub numbered_guards : (p : Program) (from to : ActId) (q : Program) → NumbersAct names bodies p from to q → q.guards ≡ p.guards
  numbered_guards p from to q n = ap (λ (r : Program). r.guards) n.leads ∙ act_guards (with_marks p n.noted) n.act

  pub steps_guards : (p : Program) (from to : List ActId) (q : Program) → NumbersSteps names bodies p from to q → q.guards ≡ p.guards
  steps_guards p from to q without = refl
  steps_guards p from to q (numbers_steps acts noted spelled numbered) =
      ap (λ (r : Program). r.guards) (are_behind names bodies (with_marks p noted) acts to q numbered) ∙ acts_guards (with_marks p noted) acts

  pub vertex_guards : (p : Program) (from to : Vertex) (q : Program) → NumbersVertex names bodies p from to q → q.guards ≡ p.guards
  vertex_guards p from to q n =
      steps_guards n.left from.steps to.steps q n.doing ∙ numbered_guards n.entered from.exit to.exit n.left n.exit
      ∙ numbered_guards p from.entry to.entry n.entered n.entry

  pub vertices_guards : (p : Program) (xs ys : List Vertex) (q : Program) → AllNumbered (NumbersVertex names bodies) p xs ys q → q.guards ≡ p.guards
  vertices_guards p [] [] q e = ap (λ (r : Program). r.guards) (sym e)
  vertices_guards p (x ∷ xs) (y ∷ ys) q n = vertices_guards n.0 xs ys q n.2 ∙ vertex_guards p x y n.0 n.1
  vertices_guards p [] (y ∷ ys) q n = absurd n
  vertices_guards p (x ∷ xs) [] q n = absurd n

  pub guard_guards : (p : Program) (from to : Guard) (q : Program) → NumbersGuard names bodies p from to q
      → length q.guards ≡ length p.guards + length (guard_slots from)
  guard_guards p from to q always = omega arith
  guard_guards p from to q otherwise = omega arith
  guard_guards p from to q (when cond spelled number leads) =
      ap (λ (r : Program). length r.guards) leads ∙ length-append p.guards (cond ∷ [])

  pub transition_guards : (p : Program) (from to : Transition) (q : Program) → NumbersTransition names bodies p from to q
      → length q.guards ≡ length p.guards + length (guard_slots from.guard)
  transition_guards p from to q n =
      ap (λ (gs : List Cond). length gs) (numbered_guards n.guarded from.effect to.effect q n.effect) ∙ guard_guards p from.guard to.guard n.guarded n.guard

  pub transitions_guards : (p : Program) (xs ys : List Transition) (q : Program) → AllNumbered (NumbersTransition names bodies) p xs ys q
      → length q.guards ≡ length p.guards + guards_count xs
  transitions_guards p [] [] q e = let same = ap (λ (r : Program). length r.guards) e in omega (arith, same)
  transitions_guards p (x ∷ xs) (y ∷ ys) q n =
      omega (
        arith,
        transitions_guards n.0 xs ys q n.2,
        transition_guards p x y n.0 n.1,
        length-append (guard_slots x.guard)
            (flat_map (λ (t : Transition). guard_slots t.guard) xs),
      )
  transitions_guards p [] (y ∷ ys) q n = absurd n
  transitions_guards p (x ∷ xs) [] q n = absurd n

-- There is room for the guard of the next transition, where there is room for all.
pub next_room : (xs : List Transition) (i : ℕ) (x : Transition) → i < length xs → x ≡ get_or xs i x
    → guards_count (take i xs) + length (guard_slots x.guard) ≤ guards_count xs
next_room xs i x lt is =
    let cut = ap length (flat_cut (λ (t : Transition). guard_slots t.guard) xs i x lt is) in
    let rest = flat_map (λ (t : Transition). guard_slots t.guard) (drop (i + 1) xs) in
    omega (
      arith,
      cut,
      length-append (flat_map (λ (t : Transition). guard_slots t.guard) (take i xs)) (guard_slots x.guard ++ rest),
      length-append (guard_slots x.guard) rest,
    )
