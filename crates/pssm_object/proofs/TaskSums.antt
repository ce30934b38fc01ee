-- The ready tasks of an object are those of its step, and then the do steps.
use Rattle.std.proofs.Common.{◌≡◌, ◌<◌, ◌+◌, ◌++◌, ℕ, zero, suc, List, [], ◌∷◌, length, Bool, true, false, if◌then◌else◌, Option, Some, None, slice_get, refl, sym, ap, subst, ◌∙◌, arith, length-append}
use Rattle.pssm_model.specs.declared.elements.DraftMachine.{DraftMachine}
use Rattle.pssm_semantics.specs.declared.stimulus.Task.{Task}
use Rattle.pssm_object.specs.Doing.{do_tasks}
use Rattle.pssm_object.specs.Standing.{Standing}
use Rattle.pssm_object.specs.Tasks.{tasks_of_plan, ready_tasks}

-- what stands in the first of two lists, and in the second
get_front : {X : Type 0} (xs ys : List X) (k : ℕ) (x : X) → slice_get xs k ≡ Some x → slice_get (xs ++ ys) k ≡ Some x
get_front [] ys k x e = let none : None ≡ Some x = e in absurd (cc)
get_front (z ∷ xs) ys zero x e = e
get_front (z ∷ xs) ys (suc k) x e = get_front xs ys k x e

get_back : {X : Type 0} (xs ys : List X) (k : ℕ) → slice_get (xs ++ ys) (length xs + k) ≡ slice_get ys k
get_back [] ys k = ap (slice_get ys) (let same : 0 + k ≡ k = omega arith in same)
get_back (z ∷ xs) ys k = ap (slice_get (z ∷ xs ++ ys)) (let same : suc (length xs) + k ≡ suc (length xs + k) = omega arith in same) ∙ get_back xs ys k

-- a list with an element is kept
is_kept : (flag : Bool) (xs : List Task) (i : ℕ) → i < length (if flag then [] else xs) → flag ≡ false
is_kept true xs i lt = absurd (omega (arith, lt))
is_kept false xs i lt = refl

module _ (m : DraftMachine) (x : Standing) where
  abbrev in_step : List Task
  in_step = tasks_of_plan x.plan

  abbrev doing : List Task
  doing = do_tasks m x.config

  pub counted_none : x.ended ≡ true → 0 ≡ length (ready_tasks m x)
  counted_none ended = subst (λ (b : Bool). 0 ≡ length (if b then [] else (in_step ++ doing))) (sym ended) refl

  pub counted_all : x.ended ≡ false → length in_step + length doing ≡ length (ready_tasks m x)
  counted_all living =
      subst (λ (b : Bool). length in_step + length doing ≡ length (if b then [] else (in_step ++ doing))) (sym living) (sym (length-append in_step doing))

  pub few_both : x.ended ≡ false → (most : ℕ) → length (ready_tasks m x) < most → length in_step + length doing < most
  few_both living most few = let all = counted_all living in omega (arith, all, few)

  module _ (i : ℕ) (there : i < length (ready_tasks m x)) where
    living : x.ended ≡ false
    living = is_kept x.ended (in_step ++ doing) i there

    pub nth_front : (task : Task) → slice_get in_step i ≡ Some task → slice_get (ready_tasks m x) i ≡ Some task
    nth_front task e =
        subst (λ (b : Bool). slice_get (if b then [] else (in_step ++ doing)) i ≡ Some task) (sym living) (get_front in_step doing i task e)

    pub nth_rest : (rest : ℕ) → length in_step + rest ≡ i → rest < length doing
    nth_rest rest is = let all = counted_all living in omega (arith, all, is, there)

    pub nth_past : (rest : ℕ) → length in_step + rest ≡ i → (task : Task) → slice_get doing rest ≡ Some task → slice_get (ready_tasks m x) i ≡ Some task
    nth_past rest is task e =
        subst (λ (b : Bool). slice_get (if b then [] else (in_step ++ doing)) i ≡ Some task) (sym living)
        (subst (λ k. slice_get (in_step ++ doing) k ≡ Some task) is (get_back in_step doing rest ∙ e))

  -- the task with a number, if there are as many
  module _ (i : ℕ) where
    pub found_none : x.ended ≡ true → None ≡ slice_get (ready_tasks m x) i
    found_none ended = subst (λ (b : Bool). (let none : Option Task = None in none) ≡ slice_get (if b then [] else (in_step ++ doing)) i) (sym ended) refl

    pub found_front : x.ended ≡ false → (task : Task) → slice_get in_step i ≡ Some task → slice_get (ready_tasks m x) i ≡ Some task
    found_front living task e =
        subst (λ (b : Bool). slice_get (if b then [] else (in_step ++ doing)) i ≡ Some task) (sym living) (get_front in_step doing i task e)

    pub found_past : x.ended ≡ false → (rest : ℕ) → length in_step + rest ≡ i → (found : Option Task) → found ≡ slice_get doing rest
        → found ≡ slice_get (ready_tasks m x) i
    found_past living rest is found e =
        subst (λ (b : Bool). found ≡ slice_get (if b then [] else (in_step ++ doing)) i) (sym living)
        (subst (λ k. found ≡ slice_get (in_step ++ doing) k) is (e ∙ sym (get_back in_step doing rest)))
