-- Marks by number: where there are none, and with one more.
use Rattle.std.proofs.Common.{◌≡◌, ◌⊎◌, ◌∙◌, ◌<◌, ◌≤◌, ◌↔◌, ◌+◌, ℕ, List, [], ◌∷◌, length, take, get_or, set, replicate, Bool, true, false, not, eqb, IsTrue, Contains, refl, sym, ap, subst, inl, inr, ⊎_elim, arith}
use Rattle.std.proofs.lemmas.List.{get_or-set_same, get_or-set_other, take_more, take_all}
use Rattle.std.proofs.lemmas.List.Elements.{Contains-append_left, Contains-push, Contains-push_cases}
use Rattle.std.proofs.lemmas.Bool.{cases_eq, eqb-true}
use Rattle.pssm_model.specs.declared.ids.VertexId.{VertexId}
use Rattle.pssm_model.specs.declared.ids.TransId.{TransId}
use Rattle.pssm_model.specs.declared.elements.DraftMachine.{DraftMachine}
use Rattle.pssm_model.specs.Legs.{Enters}
use Rattle.pssm_model.proofs.ElementLaws.{same_vertex, same_transition, enters_one, nothing_in_nil}
use Rattle.pssm_enabled.specs.inner.Fitting.{IsMarked, IsMarkedTransition, IsSet, AreSet, ComesTo, AreComeTo}
use Rattle.pssm_enabled.specs.Fitting.{PassesBy}
use Rattle.pssm_enabled.specs.inner.Fitting.ComesTo.{again, first}
use Rattle.pssm_enabled.proofs.ListPlaces.{none_is_true}
use Rattle.pssm_enabled.proofs.Members.{in_front}

pub unmarked : (n k : ℕ) → IsMarked (replicate n false) k → ⊥
unmarked n k h = none_is_true n k h

-- the marks after one more
module _ (marks : List Bool) (n : ℕ) (inside : n < length marks) where
  pub mark_here : IsMarked (set marks n true) n
  mark_here = get_or-set_same marks n true false inside

  pub mark_kept : (k : ℕ) → IsMarked marks k → IsMarked (set marks n true) k
  mark_kept k h =
      ⊎_elim
      (λ (same : k ≡ n). ap (λ j. get_or (set marks n true) j false) same ∙ mark_here)
      (λ other. get_or-set_other marks n k true false other ∙ h)
      (cases_eq k n)

  pub mark_cases : (k : ℕ) → IsMarked (set marks n true) k → IsMarked marks k ⊎ (k ≡ n)
  mark_cases k h =
      ⊎_elim
      (λ (same : k ≡ n). inr same)
      (λ other. inl (sym (get_or-set_other marks n k true false other) ∙ h))
      (cases_eq k n)

  pub mark_is : (k : ℕ) → IsMarked (set marks n true) k ↔ (IsMarked marks k ⊎ (k ≡ n))
  mark_is k = (
    mark_cases k,
    λ h. ⊎_elim (mark_kept k) (λ same. subst (IsMarked (set marks n true)) (sym same) mark_here) h,
  )

pub set_is : (before after : List Bool) (n : ℕ) → IsSet before after n → (k : ℕ) → IsMarked after k ↔ (IsMarked before k ⊎ (k ≡ n))
set_is before after n h k = subst (λ marks. IsMarked marks k ↔ (IsMarked before k ⊎ (k ≡ n))) (sym h.1) (mark_is before n h.0 k)

-- one of the first of a list, with one more
pub taken_cases : {X : Type 0} (xs : List X) (n : ℕ) (d : X) → n < length xs → (x : X) → Contains (take (n + 1) xs) x
    → Contains (take n xs) x ⊎ (get_or xs n d ≡ x)
taken_cases xs n d lt x h = Contains-push_cases (take n xs) (get_or xs n d) x (subst (λ ys. Contains ys x) (take_more xs n d lt) h)

pub taken_before : {X : Type 0} (xs : List X) (n : ℕ) (d : X) → n < length xs → (x : X) → Contains (take n xs) x → Contains (take (n + 1) xs) x
taken_before xs n d lt x h =
    subst (λ ys. Contains ys x) (sym (take_more xs n d lt)) (Contains-append_left (take n xs) (get_or xs n d ∷ []) x h)

pub taken_here : {X : Type 0} (xs : List X) (n : ℕ) (d : X) → n < length xs → Contains (take (n + 1) xs) (get_or xs n d)
taken_here xs n d lt = subst (λ ys. Contains ys (get_or xs n d)) (sym (take_more xs n d lt)) (Contains-push (take n xs) (get_or xs n d))

-- the transitions of a list, one after another
pub sets_none : (before : List Bool) (ts : List TransId) → AreSet before before (take 0 ts)
sets_none before ts t = (λ h. inl h, λ h. ⊎_elim (λ is. is) (λ inside. absurd (nothing_in_nil t inside)) h)

pub sets_more : (before among after : List Bool) (ts : List TransId) (n : ℕ) (d : TransId) → n < length ts → AreSet before among (take n ts)
    → IsSet among after (get_or ts n d).0 → AreSet before after (take (n + 1) ts)
sets_more before among after ts n d lt h one t =
    let now = set_is among after (get_or ts n d).0 one t.0 in (
      λ marked. ⊎_elim
          (λ old. ⊎_elim (λ is. inl is) (λ inside. inr (taken_before ts n d lt t inside)) ((h t).0 old))
          (λ same. inr (subst (Contains (take (n + 1) ts)) (sym (same_transition t (get_or ts n d) same)) (taken_here ts n d lt)))
          (now.0 marked),
      λ is. ⊎_elim
          (λ old. now.1 (inl ((h t).1 (inl old))))
          (λ inside. ⊎_elim
          (λ earlier. now.1 (inl ((h t).1 (inr earlier))))
          (λ same. now.1 (inr (sym (ap (λ (x : TransId). x.0) same))))
          (taken_cases ts n d lt t inside))
          is,
    )

pub sets_all : (before after : List Bool) (ts : List TransId) (n : ℕ) → length ts ≤ n → AreSet before after (take n ts) → AreSet before after ts
sets_all before after ts n le h = subst (AreSet before after) (take_all n ts le) h

-- the vertices on which they end
module _ (m : DraftMachine) (on : List Bool) where
  pub comes_none : (before : List Bool) (ts : List TransId) → AreComeTo m on before before (take 0 ts)
  comes_none before ts = record {
    marks = λ v. (λ h. inl h, λ h. ⊎_elim (λ is. is) (λ by. absurd (nothing_in_nil by.0 by.1)) h);
    passes = λ v h. inl h;
  }

  -- one comes to a vertex again, or for the first time
  comes_marks : (before after : List Bool) (t : TransId) (b : Bool) → ComesTo m on before after t b → (v : VertexId)
      → IsMarked after v.0 ↔ (IsMarked before v.0 ⊎ Enters m t v)
  comes_marks before after t _ (again {v = w} enters marked same) v = (
    λ h. inl (subst (λ marks. IsMarked marks v.0) same h),
    λ h. subst (λ marks. IsMarked marks v.0) (sym same)
        (⊎_elim (λ is. is) (λ into. subst (λ (x : VertexId). IsMarked before x.0) (enters_one m t w v enters into) marked) h),
  )
  comes_marks before after t _ (first {v = w} enters set passes) v =
      let now = set_is before after w.0 set v.0 in (
        λ h. ⊎_elim (λ is. inl is) (λ same. inr (subst (Enters m t) (sym (same_vertex v w same)) enters)) (now.0 h),
        λ h. ⊎_elim (λ is. now.1 (inl is)) (λ into. now.1 (inr (ap (λ (x : VertexId). x.0) (enters_one m t v w into enters)))) h,
      )

  comes_passes : (before after : List Bool) (t : TransId) (b : Bool) → b ≡ true → ComesTo m on before after t b → (v : VertexId)
      → IsMarked after v.0 → IsMarked before v.0 ⊎ PassesBy m (IsMarkedTransition on) v
  comes_passes before after t _ holds (again {v = w} enters marked same) v h = inl (subst (λ marks. IsMarked marks v.0) same h)
  comes_passes before after t _ holds (first {v = w} enters set passes) v h =
      ⊎_elim
      (λ is. inl is)
      (λ same. inr (subst (PassesBy m (IsMarkedTransition on)) (sym (same_vertex v w same)) (passes.0 holds)))
      ((set_is before after w.0 set v.0).0 h)

  pub comes_fails : (before after : List Bool) (t : TransId) (b : Bool) → b ≡ false → ComesTo m on before after t b
      → (v : VertexId) × Enters m t v × (PassesBy m (IsMarkedTransition on) v → ⊥)
  comes_fails before after t _ fails (again enters marked same) = absurd (cc)
  comes_fails before after t _ fails (first {v = v} enters set passes) = (v, enters, λ h. (let holds = passes.1 h in cc))

  pub comes_more : (before among after : List Bool) (ts : List TransId) (n : ℕ) (d : TransId) (b : Bool) → n < length ts
      → AreComeTo m on before among (take n ts) → b ≡ true → ComesTo m on among after (get_or ts n d) b → AreComeTo m on before after (take (n + 1) ts)
  comes_more before among after ts n d b lt h holds one = record {
    marks = λ v. (
        let now = comes_marks among after (get_or ts n d) b one v in (
          λ marked. ⊎_elim
              (λ old. ⊎_elim (λ is. inl is) (λ by. inr (by.0, taken_before ts n d lt by.0 by.1, by.2)) ((h.marks v).0 old))
              (λ into. inr (get_or ts n d, taken_here ts n d lt, into))
              (now.0 marked),
          λ is. ⊎_elim
              (λ old. now.1 (inl ((h.marks v).1 (inl old))))
              (λ by. ⊎_elim
              (λ earlier. now.1 (inl ((h.marks v).1 (inr (by.0, earlier, by.2)))))
              (λ same. now.1 (inr (subst (λ t. Enters m t v) (sym same) by.2)))
              (taken_cases ts n d lt by.0 by.1))
              is,
        )
        );
    passes = λ v marked.
        ⊎_elim (λ old. h.passes v old) (λ passes. inr passes) (comes_passes among after (get_or ts n d) b holds one v marked);
  }

  pub comes_all : (before after : List Bool) (ts : List TransId) (n : ℕ) → length ts ≤ n → AreComeTo m on before after (take n ts)
      → AreComeTo m on before after ts
  comes_all before after ts n le h = subst (AreComeTo m on before after) (take_all n ts le) h

-- an empty list
pub empty_is : {X : Type 0} (xs : List X) (b : Bool) → b ≡ eqb (length xs) 0 → IsTrue b ↔ ((x : X) → Contains xs x → ⊥)
empty_is [] b e = (λ holds x inside. absurd (nothing_in_nil x inside), λ h. e)
empty_is (x ∷ xs) b e = (
  λ holds. absurd (let none = eqb-true (length (x ∷ xs)) 0 (sym e ∙ holds) in omega (arith, none)),
  λ h. absurd (h x (in_front x xs)),
)

-- the opposite of a test
pub denied : {P : Type 0} (b : Bool) → (IsTrue b ↔ P) → IsTrue (not b) ↔ (P → ⊥)
denied true h = (λ fails. absurd (cc), λ none. absurd (none (h.0 refl)))
denied false h = (λ holds p. (let is = h.1 p in cc), λ none. refl)
