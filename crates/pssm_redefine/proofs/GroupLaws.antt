-- Elements are gathered by their numbers.
use Rattle.std.proofs.Common.{◌≡◌, ◌<◌, ◌+◌, ℕ, Bool, true, false, cond, List, [], ◌∷◌, ◌++◌, map, set, length-set, length-append, refl, sym, ◌∙◌, ap, ⊎_elim, arith, get_or-set_same, get_or-set_other}
use Rattle.std.specs.Prelude.{◌==◌, filter}
use Rattle.std.proofs.lemmas.Bool.{cases_eq, eq-eqb, ne_eqb}
use Rattle.std.proofs.lemmas.List.{map-append, append-nil, get_or_append_left}
use Rattle.std.proofs.Math.Seq.{get_or-append_seam}
use Rattle.std.proofs.lemmas.List.Elements.{filter-append}
use Rattle.pssm_model.specs.declared.draft_setting.ElementRef.{ElementRef}
use Rattle.pssm_redefine.specs.declared.groups.Numbered.{Numbered}
use Rattle.pssm_redefine.specs.Groups.{AreGroups, forms_of, list_at}

one_form : (b : Bool) (n : Numbered) → map (λ (m : Numbered). m.element) (cond b (n ∷ []) []) ≡ cond b (n.element ∷ []) []
one_form true n = refl
one_form false n = refl

forms_push : (done : List Numbered) (n : Numbered) (k : ℕ) → forms_of (done ++ n ∷ []) k ≡ forms_of done k ++ cond (n.number == k) (n.element ∷ []) []
forms_push done n k =
    ap (map (λ (m : Numbered). m.element)) (filter-append (λ (m : Numbered). m.number == k) done (n ∷ []))
    ∙ map-append (λ (m : Numbered). m.element) (filter (λ (m : Numbered). m.number == k) done) (filter (λ (m : Numbered). m.number == k) (n ∷ []))
    ∙ ap (λ xs. forms_of done k ++ xs) (one_form (n.number == k) n)

-- ---- empty lists

pub groups_begin : AreGroups 0 [] []
groups_begin = record { all = refl; forms = λ k lt. absurd (omega arith) }

pub groups_empty_more : (n : ℕ) (groups : List (List ElementRef)) → AreGroups n [] groups → AreGroups (n + 1) [] (groups ++ [] ∷ [])
groups_empty_more n groups h = record {
  all = omega (arith, length-append groups ([] ∷ []), h.all);
  forms = λ k lt. ⊎_elim
      (λ (last : k ≡ n). ap (λ i. list_at (groups ++ [] ∷ []) i) (last ∙ sym h.all) ∙ get_or-append_seam groups [] [] [])
      (λ (ne : k ≡ n → ⊥). get_or_append_left groups ([] ∷ []) [] k (let all = h.all in omega arith) ∙ h.forms k (omega arith))
      (cases_eq k n);
}

-- ---- one more

at_other : (xs : List ElementRef) (b : Bool) (n : Numbered) → b ≡ false → xs ++ cond b (n.element ∷ []) [] ≡ xs
at_other xs b n e = ap (λ t. xs ++ cond t (n.element ∷ []) []) e ∙ append-nil xs

at_same : (xs : List ElementRef) (b : Bool) (n : Numbered) → b ≡ true → xs ++ cond b (n.element ∷ []) [] ≡ xs ++ n.element ∷ []
at_same xs b n e = ap (λ t. xs ++ cond t (n.element ∷ []) []) e

pub groups_more : (count : ℕ) (done : List Numbered) (n : Numbered) (groups : List (List ElementRef)) → n.number < count → AreGroups count done groups
    → AreGroups count (done ++ n ∷ []) (set groups n.number (list_at groups n.number ++ n.element ∷ []))
groups_more count done n groups lt h = record {
  all = length-set groups n.number _ ∙ h.all;
  forms = λ k within. ⊎_elim
      (λ (here : n.number ≡ k).
      ap (λ i. list_at (set groups n.number (list_at groups n.number ++ n.element ∷ [])) i) (sym here)
      ∙ get_or-set_same groups n.number _ [] (let all = h.all in omega arith)
      ∙ ap (λ i. list_at groups i ++ n.element ∷ []) here
      ∙ ap (λ xs. xs ++ n.element ∷ []) (h.forms k within)
      ∙ sym (at_same (forms_of done k) (n.number == k) n (eq-eqb n.number k here))
      ∙ sym (forms_push done n k))
      (λ (ne : n.number ≡ k → ⊥).
      get_or-set_other groups n.number k _ [] (λ e. ne (sym e))
      ∙ h.forms k within
      ∙ sym (at_other (forms_of done k) (n.number == k) n (ne_eqb n.number k ne))
      ∙ sym (forms_push done n k))
      (cases_eq n.number k);
}
