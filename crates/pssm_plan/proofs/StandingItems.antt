-- How items stand, read off a plan.
use Rattle.std.proofs.Common.{◌≡◌, ◌≢◌, ◌↔◌, ◌<◌, ℕ, List, length, get_or, Contains, AllPairs, IsTrue, Bool, true, false, not, refl, sym, ap, subst, ⊎_elim, arith, ◌∙◌}
use Rattle.std.proofs.lemmas.Bool.{cases_lt, false≢true}
use Rattle.std.proofs.lemmas.List.{get_or_default}
use Rattle.pssm_model.specs.declared.elements.DraftMachine.{DraftMachine}
use Rattle.pssm_model.specs.declared.steps.Item.{Item}
use Rattle.pssm_model.specs.Items.{Before, IsWaiting, HasRunOut}
use Rattle.pssm_plan.proofs.KnownRuns.{run_known}
use Rattle.pssm_plan.specs.declared.roster.Call.{Call}
use Rattle.pssm_plan.specs.declared.standing.Standing.TheVariants.{Ready, NotCalled, Ran, Waits}
use Rattle.pssm_plan.specs.Agenda.{Agenda, course_of}
use Rattle.pssm_plan.specs.Waiting.{HoldsUp, IsExact}
use Rattle.pssm_plan.specs.Plans.{IsPlanOf}
use Rattle.pssm_plan.specs.Standings.{StandsAs}
use Rattle.pssm_plan.specs.inner.Marks.{IsListed, IsMarked}

-- of two calls of one item the second has run where the first has
module _ (calls : List Call) (once : AllPairs (λ a b. a.item ≢ b.item) calls) where
  apart : (a b : Call) (x : Contains calls a) (y : Contains calls b) → a.item ≡ b.item → x.0 < y.0 → ⊥
  apart a b x y e lt =
      let second : get_or calls y.0 a ≡ b = get_or_default calls y.0 a b y.1 ∙ y.2 in
      once x.0 y.0 a lt y.1 (ap (λ (c : Call). c.item) x.2 ∙ e ∙ sym (ap (λ (c : Call). c.item) second))

  same_place : (a b : Call) (x : Contains calls a) (y : Contains calls b) → x.0 ≡ y.0 → a ≡ b
  same_place a b x y e =
      sym x.2 ∙ ap (λ (k : ℕ). get_or calls k a) e ∙ get_or_default calls y.0 a b y.1 ∙ y.2

  pub one_call : (a b : Call) → Contains calls a → Contains calls b → a.item ≡ b.item → a ≡ b
  one_call a b x y e =
      ⊎_elim
      (λ lt. absurd (apart a b x y e lt))
      (λ le. ⊎_elim (λ lt. absurd (apart b a y x (sym e) lt)) (λ ge. same_place a b x y (omega arith)) (cases_lt y.0 x.0))
      (cases_lt x.0 y.0)

-- what a test of a mark says
pub is_false : (b : Bool) → b ≡ false → IsTrue b → ⊥
is_false b e is = false≢true (sym e ∙ is)

pub is_set : (b : Bool) → not b ≡ false → IsTrue b
is_set true e = refl
is_set false e = absurd (false≢true (sym e))

pub is_not : (b : Bool) → not b ≡ true → IsTrue b → ⊥
is_not true e is = false≢true e
is_not false e is = false≢true is

module _ (m : DraftMachine) (plan : Agenda) (h : IsPlanOf m plan) where
  pub stands_not_called : (item : Item) → (IsListed plan.calls item → ⊥) → StandsAs m (course_of plan) item NotCalled
  stands_not_called item none = λ called. none ((h.called item).1 called)

  pub stands_ran : (item : Item) → IsListed plan.calls item → IsMarked plan.calls item → StandsAs m (course_of plan) item Ran
  stands_ran item listed marked = ((h.called item).0 listed, (h.ran item).0 marked)

  -- a call that is not marked is of an item that has not run
  pub call_waiting : (call : Call) → Contains plan.calls call → (IsTrue call.ran → ⊥) → IsWaiting m (course_of plan) call.item
  call_waiting call inside not = record {
    called = (h.called call.item).0 (call, inside, refl);
    not_run = λ ran. (let marked = (h.ran call.item).1 ran in
        not (subst (λ (c : Call). IsTrue c.ran) (one_call plan.calls h.once marked.0 call marked.1 inside marked.2) marked.3));
  }

  -- what the call of an item says of it
  module _ (item : Item) (call : Call) (inside : Contains plan.calls call) (same : call.item ≡ item) where
    pub call_ran : IsTrue call.ran → StandsAs m (course_of plan) item Ran
    call_ran ran = stands_ran item (call, inside, same) (call, inside, same, ran)

    pub call_free : (IsTrue call.ran → ⊥) → (IsTrue call.blocked → ⊥) → StandsAs m (course_of plan) item Ready
    call_free not free = subst (λ (x : Item). StandsAs m (course_of plan) x Ready) same (record {
      waiting = call_waiting call inside not;
      cleared = λ x called before. ⊎_elim
          (λ ran. ran)
          (λ waits. absurd (free ((h.blocked call inside).1 (x, called, before, waits))))
          (run_known (course_of plan) x);
    })

    exact : IsExact (Before m (course_of plan)) plan.calls inside.0 call
    exact = subst (λ (c : Call). IsExact (Before m (course_of plan)) plan.calls inside.0 c) inside.2 (h.exact inside.0 call inside.1)

    pub call_waits : (on : Call) → (IsTrue call.ran → ⊥) → IsTrue call.blocked → get_or plan.calls call.seen on ≡ on → StandsAs m (course_of plan) item (Waits on.item)
    call_waits on not blocked at =
        let waits = exact.waits blocked in
        let up = subst (λ (c : Call). HoldsUp (Before m (course_of plan)) c call.item) at (waits.1 on) in
        subst (λ (x : Item). StandsAs m (course_of plan) x (Waits on.item)) same
        (call_waiting call inside not, call_waiting on (call.seen, waits.0, at) up.1, up.0)

    -- the place that it has seen is that of a call
    pub call_within : IsTrue call.blocked → call.seen < length plan.calls
    call_within blocked = (exact.waits blocked).0

  pub all_ran : ((call : Call) → Contains plan.calls call → IsTrue call.ran) ↔ HasRunOut m (course_of plan)
  all_ran = (
    λ all item called. (let listed = (h.called item).1 called in (h.ran item).0 (listed.0, listed.1, listed.2, all listed.0 listed.1)),
    λ out call inside.
        (let marked = (h.ran call.item).1 (out call.item ((h.called call.item).0 (call, inside, refl))) in
        subst (λ (c : Call). IsTrue c.ran) (one_call plan.calls h.once marked.0 call marked.1 inside marked.2) marked.3),
  )
