-- The numbers that the elements of a machine have are those of its program.
use Rattle.std.proofs.Common.{◌≡◌, ◌≤◌, ◌<◌, List, [], ◌∷◌, ◌++◌, length, refl, ap, arith, length-append}
use Rattle.std.specs.List.{AllByRecursion}
use Rattle.pssm_model.specs.declared.ids.ActId.{ActId}
use Rattle.pssm_model.specs.declared.elements.Vertex.{Vertex}
use Rattle.pssm_model.specs.declared.elements.Transition.{Transition}
use Rattle.pssm_model.specs.declared.elements.Guard.{Guard}
use Rattle.pssm_model.specs.declared.elements.Guard.TheVariants.{Always, Otherwise, When}
use Rattle.pssm_model.specs.declared.draft_setting.Body.{Body}
use Rattle.pssm_semantics.specs.declared.tree.Act.{Act}
use Rattle.pssm_semantics.specs.declared.setting.Names.{Names}
use Rattle.pssm_semantics.specs.declared.setting.Program.{Program}
use Rattle.pssm_bodies.specs.Readings.{number_of, with_act, with_marks}
use Rattle.pssm_bodies.specs.Programs.{NumbersAct, AreNumbered, NumbersSteps, without, NumbersGuard, always, otherwise, when, NumbersVertex, NumbersTransition, AllNumbered}
use Rattle.pssm_bodies.specs.Programs.{steps as numbers_steps}
use Rattle.pssm_bodies.proofs.FitSound.{GoesOn, on_and_on, with_act_on, number_in, numbered_on, act_on, steps_on, guard_on, all_on}

-- ---- few steps

pub as_many : (p : Program) (acts : List Act) (to : List ActId) (q : Program) → AreNumbered p acts to q → length to ≡ length acts
as_many p [] [] q e = refl
as_many p (act ∷ acts) (to ∷ more) q n = omega (arith, as_many (with_act p act) acts more q n.1)
as_many p [] (to ∷ more) q n = absurd n
as_many p (act ∷ acts) [] q n = absurd n

-- ---- numbers within a program

module _ (names : Names) (bodies : List Body) where
  -- A vertex has at most 64 steps.
  pub few_steps : (p : Program) (from to : List ActId) (q : Program) → NumbersSteps names bodies p from to q → length to ≤ 64
  few_steps p from to q without = omega arith
  few_steps p from to q (numbers_steps acts noted spelled numbered) = omega (arith, as_many (with_marks p noted) acts to q numbered, spelled.few)

  module _ (last : Program) where
    abbrev pub HasAct : ActId → Type 0
    HasAct a = a.0 < length last.acts

    abbrev pub HasGuard : Guard → Type 0
    HasGuard Always = Unit {0}
    HasGuard Otherwise = Unit {0}
    HasGuard (When g) = g.0 < length last.guards

    abbrev pub HasVertex : Vertex → Type 0
    HasVertex v = HasAct v.entry × HasAct v.exit × AllByRecursion HasAct v.steps × (length v.steps ≤ 64)

    abbrev pub HasTransition : Transition → Type 0
    HasTransition t = HasGuard t.guard × HasAct t.effect

    pub act_in : (p : Program) (from to : ActId) (q : Program) → NumbersAct names bodies p from to q → 0 < length p.acts → GoesOn q last → HasAct to
    act_in p from to q n some on =
        let within = number_in (with_marks p n.noted) n.act some in
        let number : to.0 ≡ (number_of (with_marks p n.noted) n.act).0 = ap (λ (a : ActId). a.0) n.number in
        let size : length q.acts ≡ length (with_act (with_marks p n.noted) n.act).acts = ap (λ (r : Program). length r.acts) n.leads in
        let more = on.acts in
        omega (arith, within, number, size, more)

    numbered_in : (p : Program) (acts : List Act) (to : List ActId) (q : Program) → AreNumbered p acts to q → 0 < length p.acts → GoesOn q last
        → AllByRecursion HasAct to
    numbered_in p [] [] q e some on = tt
    numbered_in p (act ∷ acts) (to ∷ more) q n some on =
        let within = number_in p act some in
        let number : to.0 ≡ (number_of p act).0 = ap (λ (a : ActId). a.0) n.0 in
        let here = (with_act_on p act).acts in
        let behind = (numbered_on (with_act p act) acts more q n.1).acts in
        let end = on.acts in
        (omega (arith, within, number, behind, end), numbered_in (with_act p act) acts more q n.1 (omega (arith, some, here)) on)
    numbered_in p [] (to ∷ more) q n some on = absurd n
    numbered_in p (act ∷ acts) [] q n some on = absurd n

    pub steps_in : (p : Program) (from to : List ActId) (q : Program) → NumbersSteps names bodies p from to q → 0 < length p.acts → GoesOn q last
        → AllByRecursion HasAct to
    steps_in p from to q without some on = tt
    steps_in p from to q (numbers_steps acts noted spelled numbered) some on = numbered_in (with_marks p noted) acts to q numbered some on

    pub guard_in : (p : Program) (from to : Guard) (q : Program) → NumbersGuard names bodies p from to q → GoesOn q last → HasGuard to
    guard_in p from to q always on = tt
    guard_in p from to q otherwise on = tt
    guard_in p from to q (when {to = g} cond spelled number leads) on =
        let size : length q.guards ≡ length (p.guards ++ cond ∷ []) = ap (λ (r : Program). length r.guards) leads in
        let is : g.0 ≡ length p.guards = ap (λ n. n.0) number in
        let more = on.guards in
        omega (arith, size, is, more, length-append p.guards (cond ∷ []))

    pub vertex_in : (p : Program) (from to : Vertex) (q : Program) → NumbersVertex names bodies p from to q → 0 < length p.acts → GoesOn q last
        → HasVertex to
    vertex_in p from to q n some on =
        let entry = act_on names bodies p from.entry to.entry n.entered n.entry in
        let exit = act_on names bodies n.entered from.exit to.exit n.left n.exit in
        let left = on_and_on n.left q last (steps_on names bodies n.left from.steps to.steps q n.doing) on in
        let entered = on_and_on n.entered n.left last exit left in
        let entry_some : 0 < length n.entered.acts = (let more = entry.acts in omega (arith, some, more)) in
        let exit_some : 0 < length n.left.acts = (let more = exit.acts in omega (arith, entry_some, more)) in (
          act_in p from.entry to.entry n.entered n.entry some entered,
          act_in n.entered from.exit to.exit n.left n.exit entry_some left,
          steps_in n.left from.steps to.steps q n.doing exit_some on,
          few_steps n.left from.steps to.steps q n.doing,
        )

    pub transition_in : (p : Program) (from to : Transition) (q : Program) → NumbersTransition names bodies p from to q → 0 < length p.acts → GoesOn q last
        → HasTransition to
    transition_in p from to q n some on =
        let guard = guard_on names bodies p from.guard to.guard n.guarded n.guard in
        let effect = act_on names bodies n.guarded from.effect to.effect q n.effect in
        let guard_some : 0 < length n.guarded.acts = (let more = guard.acts in omega (arith, some, more)) in
        let guarded = on_and_on n.guarded q last effect on in
        (guard_in p from.guard to.guard n.guarded n.guard guarded, act_in n.guarded from.effect to.effect q n.effect guard_some on)

-- Each element has what its step gives it.
pub all_in : {E : Type 0} (Step : Program → E → E → Program → Type 0) (P : E → Type 0) (last : Program)
    → ((p : Program) (x y : E) (q : Program) → Step p x y q → GoesOn p q)
    → ((p : Program) (x y : E) (q : Program) → Step p x y q → 0 < length p.acts → GoesOn q last → P y)
    → (p : Program) (xs ys : List E) (q : Program) → AllNumbered Step p xs ys q → 0 < length p.acts → GoesOn q last → AllByRecursion P ys
all_in Step P last on fits p [] [] q e some later = tt
all_in Step P last on fits p (x ∷ xs) (y ∷ ys) q n some later =
    let here = on p x y n.0 n.1 in
    let more : 0 < length n.0.acts = (let longer = here.acts in omega (arith, some, longer)) in
    (fits p x y n.0 n.1 some (on_and_on n.0 q last (all_on Step on n.0 xs ys q n.2) later), all_in Step P last on fits n.0 xs ys q n.2 more later)
all_in Step P last on fits p [] (y ∷ ys) q n some later = absurd n
all_in Step P last on fits p (x ∷ xs) [] q n some later = absurd n
