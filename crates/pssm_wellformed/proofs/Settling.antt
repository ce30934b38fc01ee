-- The numbers of a group are closed one after the other, and how many steps are left.
use Rattle.std.proofs.Common.{◌≡◌, ◌↔◌, ◌⊎◌, ◌<◌, ◌≤◌, ◌+◌, ℕ, zero, suc, List, [], ◌∷◌, ◌++◌, length, Bool, true, false, get_or, take, set, Contains, Vec, Global, refl, sym, ap, subst, ◌∙◌, ⊎_elim, arith}
use Rattle.std.proofs.lemmas.Bool.{cases_eq}
use Rattle.std.proofs.lemmas.List.{take_more, get_or-set_same, get_or-set_other, length-set}
use Rattle.std.proofs.lemmas.List.Elements.{Contains-append_left, Contains-push, Contains-push_cases}
use Rattle.pssm_wellformed.specs.declared.cycles.Stage.{Stage}
use Rattle.pssm_wellformed.specs.declared.cycles.Stage.TheVariants.{New, Open, Closed}
use Rattle.pssm_wellformed.specs.inner.Lists.{list_at}
use Rattle.pssm_wellformed.specs.inner.Cycles.{stage_at, new_steps, IsSettled}

-- a number is no longer new, and its arrows no longer count
pub new_steps_open : (g : List (Vec ℕ Global)) (stages : List Stage) (b i : ℕ) → b < length g → b < length stages → stage_at stages b ≡ New
    → new_steps g (set stages b (Open i)) + suc (length (list_at g b)) ≡ new_steps g stages
new_steps_open [] stages b i lt low new = absurd (omega arith)
new_steps_open (list ∷ g) [] b i lt low new = absurd (omega arith)
new_steps_open (list ∷ g) (New ∷ stages) zero i lt low new = omega arith
new_steps_open (list ∷ g) (Open j ∷ stages) zero i lt low new = absurd cc
new_steps_open (list ∷ g) (Closed ∷ stages) zero i lt low new = absurd cc
new_steps_open (list ∷ g) (New ∷ stages) (suc b) i lt low new = let rest = new_steps_open g stages b i (omega arith) (omega arith) new in omega arith
new_steps_open (list ∷ g) (Open j ∷ stages) (suc b) i lt low new = new_steps_open g stages b i (omega arith) (omega arith) new
new_steps_open (list ∷ g) (Closed ∷ stages) (suc b) i lt low new = new_steps_open g stages b i (omega arith) (omega arith) new

-- a number that is closed is not new
pub new_steps_close : (g : List (Vec ℕ Global)) (stages : List Stage) (b : ℕ) → new_steps g (set stages b Closed) ≤ new_steps g stages
new_steps_close [] stages b = omega arith
new_steps_close (list ∷ g) [] b = omega arith
new_steps_close (list ∷ g) (New ∷ stages) zero = omega arith
new_steps_close (list ∷ g) (Open j ∷ stages) zero = omega arith
new_steps_close (list ∷ g) (Closed ∷ stages) zero = omega arith
new_steps_close (list ∷ g) (New ∷ stages) (suc b) = let rest = new_steps_close g stages b in omega arith
new_steps_close (list ∷ g) (Open j ∷ stages) (suc b) = new_steps_close g stages b
new_steps_close (list ∷ g) (Closed ∷ stages) (suc b) = new_steps_close g stages b

-- at first none of them is closed
pub settling_begins : (g : List (Vec ℕ Global)) (size : ℕ) (stages : List Stage) (cyclic : List Bool) → IsSettled g [] size stages stages cyclic cyclic
settling_begins g size stages cyclic = record {
  stages_width = refl;
  marks_width = refl;
  stages_here = λ a c. absurd (let lt = c.1 in omega arith);
  stages_there = λ a c. refl;
  marks_here = λ a c. absurd (let lt = c.1 in omega arith);
  marks_there = λ a c. refl;
  fewer = omega arith;
}

-- one number more is closed and marked
pub settling_more : (g : List (Vec ℕ Global)) (group : List ℕ) (k x size : ℕ) (mark : Bool) (first stages stages' : List Stage) (start cyclic cyclic' : List Bool)
    → k < length group → x ≡ get_or group k 0 → x < length stages → x < length cyclic → stages' ≡ set stages x Closed → cyclic' ≡ set cyclic x mark
    → (mark ≡ true) ↔ ((1 < size) ⊎ Contains (list_at g x) x)
    → IsSettled g (take k group) size first stages start cyclic → IsSettled g (take (k + 1) group) size first stages' start cyclic'
settling_more g group k x size mark first stages stages' start cyclic cyclic' lt is low wide sets marks right h =
    let grown : take (k + 1) group ≡ take k group ++ x ∷ [] = take_more group k 0 lt ∙ ap (λ y. take k group ++ y ∷ []) (sym is) in
    let new_or : (a : ℕ) → Contains (take (k + 1) group) a → (x ≡ a → ⊥) → Contains (take k group) a =
    λ a c other. ⊎_elim (λ old. old) (λ same. absurd (other same)) (Contains-push_cases (take k group) x a (subst (λ xs. Contains xs a) grown c)) in
    let old_in : (a : ℕ) → Contains (take k group) a → Contains (take (k + 1) group) a =
    λ a c. subst (λ xs. Contains xs a) (sym grown) (Contains-append_left (take k group) (x ∷ []) a c) in
    let x_in : Contains (take (k + 1) group) x = subst (λ xs. Contains xs x) (sym grown) (Contains-push (take k group) x) in
    let stage_x : stage_at stages' x ≡ Closed = ap (λ s. stage_at s x) sets ∙ get_or-set_same stages x Closed New low in
    let stage_of : (a : ℕ) → (x ≡ a → ⊥) → stage_at stages' a ≡ stage_at stages a =
    λ a other. let other' : a ≡ x → ⊥ = λ e. other (sym e) in ap (λ s. stage_at s a) sets ∙ get_or-set_other stages x a Closed New other' in
    let mark_x : get_or cyclic' x false ≡ mark = ap (λ s. get_or s x false) marks ∙ get_or-set_same cyclic x mark false wide in
    let mark_of : (a : ℕ) → (x ≡ a → ⊥) → get_or cyclic' a false ≡ get_or cyclic a false =
    λ a other. let other' : a ≡ x → ⊥ = λ e. other (sym e) in ap (λ s. get_or s a false) marks ∙ get_or-set_other cyclic x a mark false other' in
    record {
      stages_width = ap length sets ∙ length-set stages x Closed ∙ h.stages_width;
      marks_width = ap length marks ∙ length-set cyclic x mark ∙ h.marks_width;
      stages_here = λ a c. ⊎_elim (λ (same : x ≡ a). subst (λ y. stage_at stages' y ≡ Closed) same stage_x)
          (λ (other : x ≡ a → ⊥). stage_of a other ∙ h.stages_here a (new_or a c other)) (cases_eq x a);
      stages_there = λ a out. stage_of a (λ same. out (subst (Contains (take (k + 1) group)) same x_in)) ∙ h.stages_there a (λ c. out (old_in a c));
      marks_here = λ a c. ⊎_elim
          (λ (same : x ≡ a). subst (λ y. (get_or cyclic' y false ≡ true) ↔ ((1 < size) ⊎ Contains (list_at g y) y)) same (λ m. right.0 (sym mark_x ∙ m), λ w. mark_x ∙ right.1 w))
          (λ (other : x ≡ a → ⊥). let old = h.marks_here a (new_or a c other) in (λ m. old.0 (sym (mark_of a other) ∙ m), λ w. mark_of a other ∙ old.1 w)) (cases_eq x a);
      marks_there = λ a out. mark_of a (λ same. out (subst (Contains (take (k + 1) group)) same x_in)) ∙ h.marks_there a (λ c. out (old_in a c));
      fewer = let le = h.fewer in let less = new_steps_close g stages x in let e = ap (new_steps g) sets in omega arith;
    }
