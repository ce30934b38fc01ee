-- The signals that are waited for are those for which a trigger waits.
use Rattle.std.proofs.Common.{◌≡◌, ◌<◌, ◌+◌, ◌&&◌, ℕ, Bool, true, false, cond, List, [], ◌∷◌, ◌++◌}
use Rattle.std.proofs.Common.{length, map, filter, take, get_or, Option, None, refl, sym, ap, ◌∙◌}
use Rattle.std.specs.Prelude.{slice_get}
use Rattle.std.specs.List.{list_any}
use Rattle.std.specs.Option.{option_map_or}
use Rattle.std.proofs.lemmas.List.{map-append}
use Rattle.std.proofs.lemmas.List.Elements.{filter_more}
use Rattle.pssm_xml.specs.Elements.{is_child_of}
use Rattle.pssm_numbering.specs.Numbering.{ModelFile, children_with, signals, place_in, is_number, is_trigger, is_signal}
use Rattle.pssm_numbering.specs.Meanings.{signal_of_trigger, waits_for}
use Rattle.pssm_numbering.specs.inner.Tables.{has_role}
use Rattle.pssm_numbering.proofs.ListLaws.{own_spot_of}
use Rattle.pssm_parts.specs.Elements.{signals_at}
use Rattle.pssm_drafting.specs.inner.Waiting.{waited_by, all_waited, signal, with_number, number_of, is_among, numbers_among, waiting_numbers}

any_mapped : {X Y : Type 0} (p : Y → Bool) (f : X → Y) (q : X → Bool) → ((x : X) → p (f x) ≡ q x) → (xs : List X) → list_any p (map f xs) ≡ list_any q xs
any_mapped p f q same [] = refl
any_mapped p f q same (x ∷ xs) =
    let head = same x in
    let tail = any_mapped p f q same xs in
    cc

filter_same : {X : Type 0} (p q : X → Bool) → ((x : X) → p x ≡ q x) → (xs : List X) → filter p xs ≡ filter q xs
filter_same p q same [] = refl
filter_same p q same (x ∷ xs) =
    let head = same x in
    let tail = filter_same p q same xs in
    cc

number_if : (b : Bool) (o : Option ℕ) (s : ℕ) → is_number s (cond b o None) ≡ (b && is_number s o)
number_if true o s = refl
number_if false o s = refl

module _ (name : List ℕ) (file : ModelFile) (n : ℕ) where
  among_is_waiting : (s : ℕ) → is_among (all_waited name file n) s ≡ waits_for name file n s
  among_is_waiting s =
      any_mapped (is_number s) (waited_by name file n)
      (λ t. option_map_or (is_child_of n name) (slice_get file.doc t) false && is_number s (signal_of_trigger file t))
      (λ t. number_if (option_map_or (is_child_of n name) (slice_get file.doc t) false) (signal_of_trigger file t) s)
      (children_with is_trigger file n)

  -- the numbers of the signals that are waited for
  pub same_signals : waiting_numbers file (all_waited name file n) ≡ signals_at name file n
  same_signals = ap (map (number_of file)) (filter_same (is_among (all_waited name file n)) (waits_for name file n) among_is_waiting (signals file))

number_taken : (file : ModelFile) (b : Bool) (s i : ℕ) → place_in (signals file) s ≡ i → map (number_of file) (cond b (s ∷ []) []) ≡ cond b (signal i ∷ []) []
number_taken file true s i at = ap (λ k. signal k ∷ []) at
number_taken file false s i at = refl

-- one signal more
pub more_numbers : (file : ModelFile) (waited : List (Option ℕ)) (i d : ℕ) → i < length (signals file)
    → with_number (numbers_among file waited (take i (signals file))) i (is_among waited (get_or (signals file) i d))
    ≡ numbers_among file waited (take (i + 1) (signals file))
more_numbers file waited i d less =
    let s : ℕ = get_or (signals file) i d in
    sym (ap (map (number_of file)) (filter_more (is_among waited) (signals file) i d less)
    ∙ map-append (number_of file) (filter (is_among waited) (take i (signals file))) (cond (is_among waited s) (s ∷ []) [])
    ∙ ap (λ xs. numbers_among file waited (take i (signals file)) ++ xs)
    (number_taken file (is_among waited s) s i (own_spot_of (has_role is_signal file) (length file.doc) i d less)))
