-- Elements are numbered one by one.
use Rattle.std.proofs.Common.{◌≡◌, ℕ, ◌+◌, List, [], ◌∷◌, ◌++◌, map, sym, ◌∙◌, ap, arith, Option}
use Rattle.std.specs.List.{filter_map, range_with_len}
use Rattle.std.proofs.lemmas.List.{append_assoc}
use Rattle.std.proofs.lemmas.List.FromFn.{map-range_with_len_more}
use Rattle.std.proofs.lemmas.List.Elements.{filter_map-append}
use Rattle.pssm_model.specs.declared.draft_setting.ElementRef.{ElementRef}
use Rattle.pssm_redefine.specs.declared.groups.Numbered.{Numbered}

abbrev ref_at : ℕ → ℕ → ElementRef
ref_at m i = record { machine = m; element = i }

-- one element more of a machine
pub one_more : (f : ElementRef → Option Numbered) (m i : ℕ) (old before new : List Numbered) → before ≡ old ++ filter_map f (map (ref_at m) (range_with_len 0 i))
    → new ≡ before ++ filter_map f (ref_at m i ∷ []) → new ≡ old ++ filter_map f (map (ref_at m) (range_with_len 0 (i + 1)))
one_more f m i old before new so_far is =
    let last : 0 + i ≡ i = omega arith in
    let all : filter_map f (map (ref_at m) (range_with_len 0 i)) ++ filter_map f (ref_at m i ∷ []) ≡ filter_map f (map (ref_at m) (range_with_len 0 (i + 1))) =
    sym (filter_map-append f (map (ref_at m) (range_with_len 0 i)) (ref_at m i ∷ [])) ∙ ap (filter_map f) (sym (map-range_with_len_more (ref_at m) 0 i i last)) in
    is ∙ ap (λ xs. xs ++ filter_map f (ref_at m i ∷ [])) so_far
    ∙ append_assoc old (filter_map f (map (ref_at m) (range_with_len 0 i))) (filter_map f (ref_at m i ∷ [])) ∙ ap (λ xs. old ++ xs) all
