-- Forms that are gathered by number are at most the elements of the chain.
use Rattle.std.proofs.Common.{◌≡◌, ◌≤◌, ◌==◌, ℕ, ◌+◌, Bool, true, false, cond, List, [], ◌∷◌, map, refl, ◌∙◌, ap, arith, Option, Some, None}
use Rattle.std.specs.Prelude.{filter, option_map}
use Rattle.std.specs.List.{filter_map, cons_option}
use Rattle.pssm_model.specs.declared.draft_setting.ElementRef.{ElementRef}
use Rattle.pssm_model.specs.declared.draft_setting.Draft.{Draft}
use Rattle.pssm_heritage.specs.declared.kinds.ElementKind.{ElementKind}
use Rattle.pssm_heritage.specs.Numbers.{own_elements}
use Rattle.pssm_heritage.specs.Heritages.{Numbering, number_in}
use Rattle.pssm_redefine.specs.declared.groups.Numbered.{Numbered}
use Rattle.pssm_redefine.specs.Gathering.{with_number, numbered_of}
use Rattle.pssm_redefine.specs.Groups.{AreGroups, forms_of, list_at}
use Rattle.pssm_redefine.proofs.SumLaws.{added, added_flat, added_le, added_total, total, total_le, total_none, total_two, total_one}

module _ (w : ElementRef → ℕ) where
  -- what the numbered elements have
  abbrev pub of_numbered : List Numbered → ℕ
  of_numbered numbered = added (λ (n : Numbered). w n.element) numbered

  one_kept : (b : Bool) (n : Numbered) (rest : List Numbered)
      → added w (map (λ (m : Numbered). m.element) (cond b (n ∷ rest) rest)) ≡ cond b (w n.element) 0 + added w (map (λ (m : Numbered). m.element) rest)
  one_kept true n rest = refl
  one_kept false n rest = omega arith

  forms_cons : (n : Numbered) (numbered : List Numbered) (k : ℕ)
      → added w (forms_of (n ∷ numbered) k) ≡ cond (n.number == k) (w n.element) 0 + added w (forms_of numbered k)
  forms_cons n numbered k = one_kept (n.number == k) n (filter (λ (m : Numbered). m.number == k) numbered)

  forms_total : (count : ℕ) (numbered : List Numbered) → total (λ k. added w (forms_of numbered k)) count ≤ of_numbered numbered
  forms_total count [] = let none = total_none (λ k. added w (forms_of [] k)) count (λ k lt. refl) in omega arith
  forms_total count (n ∷ numbered) =
      let split = total_le (λ k. added w (forms_of (n ∷ numbered) k)) (λ k. cond (n.number == k) (w n.element) 0 + added w (forms_of numbered k)) count
      (λ k lt. let e = forms_cons n numbered k in omega arith) in
      let two = total_two (λ k. cond (n.number == k) (w n.element) 0) (λ k. added w (forms_of numbered k)) count in
      let one = total_one n.number (w n.element) count in
      let more = forms_total count numbered in
      omega arith

  -- Elements of different numbers are different.
  pub groups_le : (count : ℕ) (numbered : List Numbered) (groups : List (List ElementRef)) → AreGroups count numbered groups
      → added (added w) groups ≤ of_numbered numbered
  groups_le count numbered groups h =
      let all : added (added w) groups ≡ total (λ k. added w (list_at groups k)) count =
      added_total (added w) groups [] ∙ ap (total (λ k. added w (list_at groups k))) h.all in
      let same = total_le (λ k. added w (list_at groups k)) (λ k. added w (forms_of numbered k)) count (λ k lt. let e = ap (added w) (h.forms k lt) in omega arith) in
      let most = forms_total count numbered in
      omega arith

  one_numbered : (e : ElementRef) (o : Option ℕ) (rest : List Numbered)
      → of_numbered (cons_option (option_map (λ n. let one : Numbered = record { element = e; number = n } in one) o) rest) ≤ w e + of_numbered rest
  one_numbered e None rest = omega arith
  one_numbered e (Some n) rest = omega arith

  numbered_le : (numbering : Numbering) (es : List ElementRef) → of_numbered (filter_map (with_number numbering) es) ≤ added w es
  numbered_le numbering [] = omega arith
  numbered_le numbering (e ∷ es) =
      let one = one_numbered e (number_in numbering e) (filter_map (with_number numbering) es) in
      let more = numbered_le numbering es in
      omega arith

  all_numbered_le : (draft : Draft) (kind : ElementKind) (numbering : Numbering) (machines : List ℕ)
      → of_numbered (numbered_of draft kind numbering machines) ≤ added (λ m. added w (own_elements draft kind m)) machines
  all_numbered_le draft kind numbering machines =
      let flat = added_flat (λ (n : Numbered). w n.element) (λ m. filter_map (with_number numbering) (own_elements draft kind m)) machines in
      let each = added_le (λ m. of_numbered (filter_map (with_number numbering) (own_elements draft kind m))) (λ m. added w (own_elements draft kind m)) machines
      (λ m. numbered_le numbering (own_elements draft kind m)) in
      omega arith

  -- the forms of all numbers
  pub forms_le : (draft : Draft) (kind : ElementKind) (numbering : Numbering) (machines : List ℕ) (count : ℕ) (groups : List (List ElementRef))
      → AreGroups count (numbered_of draft kind numbering machines) groups → added (added w) groups ≤ added (λ m. added w (own_elements draft kind m)) machines
  forms_le draft kind numbering machines count groups h =
      let most = groups_le count (numbered_of draft kind numbering machines) groups h in
      let all = all_numbered_le draft kind numbering machines in
      omega arith
