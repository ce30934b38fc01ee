-- The elements of a kind by machine.
use Rattle.std.proofs.Common.{◌≡◌, ◌<◌, ◌≤◌, ◌+◌, ◌==◌, ◌&&◌, ℕ, zero, suc, Bool, true, false, cond, List, [], ◌∷◌, ◌++◌}
use Rattle.std.proofs.Common.{length, map, filter, set, replicate, get_or, Option, Some, None, refl, sym, ap, subst, ◌∙◌, ⊎_elim, arith, zero-add}
use Rattle.std.specs.Prelude.{unwrap_or, option_map}
use Rattle.std.specs.List.{All, range_with_len}
use Rattle.std.specs.Option.{option_and_then}
use Rattle.std.proofs.lemmas.Bool.{cases_eq}
use Rattle.std.proofs.lemmas.List.{get_or-map, get_or-set_same, get_or-set_other, length-set, length-map, ext_get_or}
use Rattle.std.proofs.lemmas.List.Elements.{All-from_get_or}
use Rattle.std.proofs.lemmas.List.FromFn.{map-range_with_len_more, length-map-range_with_len, get_or-map-range_with_len}
use Rattle.pssm_roles.specs.declared.role.Role.{Role}
use Rattle.pssm_numbering.specs.Numbering.{ModelFile, role_at, is_number, is_machine, own_with, own_place, beside, machines, machine_of, place_in}
use Rattle.pssm_numbering.specs.inner.Tables.{AreGroups, has_role, first_with, first_own, is_own, own_spot, spot, row_of}
use Rattle.pssm_numbering.proofs.ListLaws.{by_test, first_taken, first_passed, passed_up, first_length, spot_taken}
use Rattle.pssm_numbering.proofs.ListLaws.{spot_passed, stands, stands_there, own_spot_of, no_place, place_at}
use Rattle.pssm_numbering.proofs.MachineLaws.{and_then_some, machine_there}

-- ---- lists

-- a filter of what another one passes
pub filter_twice : (p q : ℕ → Bool) (xs : List ℕ) → filter p (filter q xs) ≡ filter (λ n. q n && p n) xs
filter_twice p q [] = refl
filter_twice p q (x ∷ xs) =
    by_test (q x)
    (λ taken. ap (λ (b : Bool). filter p (cond b (x ∷ filter q xs) (filter q xs))) taken
    ∙ ap (λ ys. cond (p x) (x ∷ ys) ys) (filter_twice p q xs)
    ∙ sym (ap (λ (b : Bool). cond (b && p x) (x ∷ filter (λ n. q n && p n) xs) (filter (λ n. q n && p n) xs)) taken))
    (λ passed. ap (λ (b : Bool). filter p (cond b (x ∷ filter q xs) (filter q xs))) passed
    ∙ filter_twice p q xs
    ∙ sym (ap (λ (b : Bool). cond (b && p x) (x ∷ filter (λ n. q n && p n) xs) (filter (λ n. q n && p n) xs)) passed))

pub all_own : (is : Role → Bool) (file : ModelFile) (m : ℕ) → own_with is file m ≡ first_own is file (length file.doc) m
all_own is file m = filter_twice (λ n. is_number m (machine_of file n)) (λ n. is (role_at file n)) (range_with_len 0 (length file.doc))

map_same : {X Y : Type 0} (f g : X → Y) (xs : List X) → ((x : X) → f x ≡ g x) → map f xs ≡ map g xs
map_same f g [] same = refl
map_same f g (x ∷ xs) same = ap (λ y. y ∷ map f xs) (same x) ∙ ap (λ ys. g x ∷ ys) (map_same f g xs same)

none_each : (h : ℕ → Option ℕ) (o : Option ℕ) → ((m : ℕ) → h m ≡ None) → option_and_then h o ≡ None
none_each h None none = refl
none_each h (Some m) none = none m

-- nothing passes
pub none_pass : (q : ℕ → Bool) (n : ℕ) → ((j : ℕ) → q j ≡ false) → first_with q n ≡ []
none_pass q zero none = refl
none_pass q (suc n) none = passed_up q n (none n) ∙ none_pass q n none

same_number : (a b : ℕ) → a ≡ b → (a == b) ≡ true
same_number a b same = grind (arith, same)

other_number : (a b : ℕ) → (a ≡ b → ⊥) → (a == b) ≡ false
other_number a b other = by_test (a == b) (λ same. absurd (other (let is : a ≡ b = grind (arith, same) in is))) (λ is. is)

-- ---- rows

no_row : (b : Bool) (o : Option ℕ) (g : ℕ → ℕ) (m : ℕ) → cond b (option_map g o) None ≡ None → (b && is_number m o) ≡ false
no_row true None g m e = refl
no_row true (Some x) g m e = absurd cc
no_row false o g m e = refl

-- The element has the role, its machine is known, and this is the place of the machine.
record HasRow (b : Bool) (o : Option ℕ) (g : ℕ → ℕ) (k : ℕ) : Type 0 where
  pub machine : ℕ
  pub passes : b ≡ true
  pub is : o ≡ Some machine
  pub place : g machine ≡ k

a_row : (b : Bool) (o : Option ℕ) (g : ℕ → ℕ) (k : ℕ) → cond b (option_map g o) None ≡ Some k → HasRow b o g k
a_row true None g k e = absurd cc
a_row true (Some m) g k e = record { machine = m; passes = refl; is = refl; place = let f : Some (g m) ≡ Some k = e in cc }
a_row false o g k e = absurd cc

own_rows : (is : Role → Bool) (file : ModelFile) (ms : List ℕ) → map (first_own is file 0) ms ≡ replicate (length ms) []
own_rows is file [] = refl
own_rows is file (m ∷ ms) = ap (λ rows. [] ∷ rows) (own_rows is file ms)

pub groups_start : (file : ModelFile) (is : Role → Bool) (rows : List (List ℕ)) → rows ≡ replicate (length (machines file)) [] → AreGroups file is 0 rows []
groups_start file is rows e = record { rows = e ∙ sym (own_rows is file (machines file)); places = refl }

module _ (file : ModelFile) (is : Role → Bool) (n : ℕ) (rows : List (List ℕ)) (places : List (Option ℕ)) (h : AreGroups file is n rows places) where
  pub rows_count : length rows ≡ length (machines file)
  rows_count = ap length h.rows ∙ length-map (machines file) (first_own is file n)

  pub places_count : length places ≡ n
  places_count = ap length h.places ∙ length-map-range_with_len (own_spot is file) 0 n

  pub row_is : (k : ℕ) → k < length (machines file) → get_or rows k [] ≡ first_own is file n (get_or (machines file) k 0)
  row_is k less = ap (λ xs. get_or xs k []) h.rows ∙ get_or-map (first_own is file n) (machines file) k 0 [] less

  pub row_short : (k : ℕ) → k < length (machines file) → length (get_or rows k []) ≤ n
  row_short k less = let e = ap length (row_is k less) in let l = first_length (is_own is file (get_or (machines file) k 0)) n in omega arith

  places_more : (o : Option ℕ) → own_spot is file n ≡ o → places ++ o ∷ [] ≡ map (own_spot is file) (range_with_len 0 (n + 1))
  places_more o e =
      ap (λ xs. xs ++ o ∷ []) h.places
      ∙ ap (λ x. map (own_spot is file) (range_with_len 0 n) ++ x ∷ []) (sym e)
      ∙ sym (map-range_with_len_more (own_spot is file) 0 n n (zero-add n))

  pub groups_passed : row_of is file n ≡ None → AreGroups file is (n + 1) rows (places ++ None ∷ [])
  groups_passed none = record {
    rows = h.rows ∙ map_same (first_own is file n) (first_own is file (n + 1)) (machines file) (λ m. sym (first_passed (is_own is file m) n (other m)));
    places = places_more None (none_each (λ m. spot (is_own is file m) n) (machine_of file n) (λ m. spot_passed (is_own is file m) n (other m)));
  }
    where
      other : (m : ℕ) → is_own is file m n ≡ false
      other m = no_row (is (role_at file n)) (machine_of file n) (place_in (machines file)) m none

  pub groups_taken : (k : ℕ) → row_of is file n ≡ Some k → k < length (machines file)
      → AreGroups file is (n + 1) (set rows k (get_or rows k [] ++ n ∷ [])) (places ++ Some (length (get_or rows k [])) ∷ [])
  groups_taken k some less = record {
    rows = ext_get_or [] (set rows k (get_or rows k [] ++ n ∷ [])) (map (first_own is file (n + 1)) (machines file))
        (length-set rows k (get_or rows k [] ++ n ∷ []) ∙ rows_count ∙ sym (length-map (machines file) (first_own is file (n + 1)))) each;
    places = places_more (Some (length (get_or rows k []))) (ap (λ o. option_and_then (λ m. spot (is_own is file m) n) o) row.is
        ∙ spot_taken (is_own is file row.machine) n (mine row.machine refl)
        ∙ ap (λ xs. Some (length xs)) (ap (first_own is file n) (sym there) ∙ sym (row_is k less)));
  }
    where
      row : HasRow (is (role_at file n)) (machine_of file n) (place_in (machines file)) k
      row = a_row (is (role_at file n)) (machine_of file n) (place_in (machines file)) k some

      there : get_or (machines file) k 0 ≡ row.machine
      there = let p = row.place in ap (λ j. get_or (machines file) j 0) (sym p) ∙ stands_there (machines file) row.machine 0 (omega arith)

      owned : (m : ℕ) → is_own is file m n ≡ (row.machine == m)
      owned m = ap (λ (b : Bool). b && is_number m (machine_of file n)) row.passes ∙ ap (λ o. is_number m o) row.is

      mine : (m : ℕ) → m ≡ row.machine → is_own is file m n ≡ true
      mine m same = owned m ∙ same_number row.machine m (sym same)

      foreign : (i : ℕ) → i < length (machines file) → (i ≡ k → ⊥) → is_own is file (get_or (machines file) i 0) n ≡ false
      foreign i lt other =
          owned (get_or (machines file) i 0)
          ∙ other_number row.machine (get_or (machines file) i 0)
          (λ same. other (sym (own_spot_of (has_role is_machine file) (length file.doc) i 0 lt) ∙ ap (λ m. place_in (machines file) m) (sym same) ∙ row.place))

      each : (i : ℕ) → i < length (set rows k (get_or rows k [] ++ n ∷ []))
          → get_or (set rows k (get_or rows k [] ++ n ∷ [])) i [] ≡ get_or (map (first_own is file (n + 1)) (machines file)) i []
      each i lt =
          let c = rows_count in let l = length-set rows k (get_or rows k [] ++ n ∷ []) in
          let lt_machines : i < length (machines file) = omega arith in
          let new = get_or-map (first_own is file (n + 1)) (machines file) i 0 [] lt_machines in
          ⊎_elim
          (λ same. ap (λ j. get_or (set rows k (get_or rows k [] ++ n ∷ [])) j []) same
          ∙ get_or-set_same rows k (get_or rows k [] ++ n ∷ []) [] (omega arith)
          ∙ ap (λ xs. xs ++ n ∷ []) (row_is k less)
          ∙ sym (first_taken (is_own is file (get_or (machines file) k 0)) n (mine (get_or (machines file) k 0) there))
          ∙ ap (λ j. first_own is file (n + 1) (get_or (machines file) j 0)) (sym same)
          ∙ sym new)
          (λ other. get_or-set_other rows k i (get_or rows k [] ++ n ∷ []) [] other
          ∙ row_is i lt_machines
          ∙ sym (first_passed (is_own is file (get_or (machines file) i 0)) n (foreign i lt_machines other))
          ∙ sym new)
          (cases_eq i k)

-- ---- whole tables

module _ (file : ModelFile) (is : Role → Bool) (rows : List (List ℕ)) (places : List (Option ℕ)) (h : AreGroups file is (length file.doc) rows places) where
  pub row_all : (k m : ℕ) → k < length (machines file) → get_or (machines file) k 0 ≡ m → get_or rows k [] ≡ own_with is file m
  row_all k m less at =
      row_is file is (length file.doc) rows places h k less ∙ ap (first_own is file (length file.doc)) at ∙ sym (all_own is file m)

  pub row_within : (k : ℕ) → k < length (machines file) → All (λ n. n < length file.doc) (get_or rows k [])
  row_within k less =
      subst (All (λ n. n < length file.doc)) (sym (row_is file is (length file.doc) rows places h k less))
      (All-from_get_or (λ n. n < length file.doc) (first_own is file (length file.doc) (get_or (machines file) k 0)) 0
      (λ i lt. (stands (is_own is file (get_or (machines file) k 0)) (length file.doc) i 0 lt).less))

  -- the list beside an element whose machine has this place
  pub beside_row : (n k : ℕ) → option_map (place_in (machines file)) (machine_of file n) ≡ Some k → k < length (machines file)
      → length (get_or rows k []) ≡ length (beside is file n)
  beside_row n k e less =
      let row = a_row true (machine_of file n) (place_in (machines file)) k e in
      let p = row.place in
      let there = ap (λ j. get_or (machines file) j 0) (sym p) ∙ stands_there (machines file) row.machine 0 (omega arith) in
      ap length (row_all k row.machine less there)
      ∙ ap (λ o. length (own_with is file (unwrap_or o (length file.doc)))) (sym row.is)

  spot_is : (n : ℕ) → n < length file.doc → get_or places n None ≡ own_spot is file n
  spot_is n less = ap (λ xs. get_or xs n None) h.places ∙ get_or-map-range_with_len (own_spot is file) 0 (length file.doc) n n None less (zero-add n)

  pub place_found : (n place : ℕ) → n < length file.doc → get_or places n None ≡ Some place → place ≡ own_place is file n
  place_found n place less e =
      let found = and_then_some (λ m. spot (is_own is file m) n) (machine_of file n) place (sym (spot_is n less) ∙ e) in
      by_test (is_own is file found.0 n)
      (λ here. let at : place ≡ length (first_own is file n found.0) = let f = sym found.2 ∙ spot_taken (is_own is file found.0) n here in cc in
      at ∙ sym (place_at (is_own is file found.0) (length file.doc) n less here)
      ∙ ap (λ xs. place_in xs n) (sym (all_own is file found.0))
      ∙ ap (λ o. place_in (own_with is file (unwrap_or o (length file.doc))) n) (sym found.1))
      (λ other. let none = spot_passed (is_own is file found.0) n other in let f = sym found.2 ∙ none in absurd (cc))

  pub place_past : (n : ℕ) → n < length file.doc → get_or places n None ≡ None → length (beside is file n) ≡ own_place is file n
  place_past n less e =
      let q = is_own is file (unwrap_or (machine_of file n) (length file.doc)) in
      sym (ap (λ xs. place_in xs n) (all_own is file (unwrap_or (machine_of file n) (length file.doc)))
      ∙ no_place (is_own is file (unwrap_or (machine_of file n) (length file.doc))) (length file.doc) n
      (λ lt here. not_own (machine_of file n) refl (sym (spot_is n less) ∙ e) here)
      ∙ ap length (sym (all_own is file (unwrap_or (machine_of file n) (length file.doc)))))
    where
      not_own : (o : Option ℕ) → machine_of file n ≡ o → own_spot is file n ≡ None
          → is_own is file (unwrap_or (machine_of file n) (length file.doc)) n ≡ true → ⊥
      not_own None is_none none here =
          let never = no_row (is (role_at file n)) None (λ k. k) (unwrap_or (machine_of file n) (length file.doc)) (by_role (is (role_at file n))) in
          let f = sym here ∙ ap (λ o. is (role_at file n) && is_number (unwrap_or (machine_of file n) (length file.doc)) o) is_none ∙ never in
          absurd (cc)
        where
          by_role : (b : Bool) → cond b (option_map (λ (k : ℕ). k) None) None ≡ None
          by_role true = refl
          by_role false = refl
      not_own (Some m) is_some none here =
          let same = ap (λ o. is_own is file (unwrap_or o (length file.doc)) n) is_some in
          let s = spot_taken (is_own is file m) n (sym same ∙ here) in
          let f = sym s ∙ sym (ap (λ o. option_and_then (λ x. spot (is_own is file x) n) o) is_some) ∙ none in
          absurd (cc)

-- an element without a machine has none beside it
pub none_beside : (file : ModelFile) (is : Role → Bool) (n : ℕ) → length file.roles ≡ length file.doc → machine_of file n ≡ None → length (beside is file n) ≡ 0
none_beside file is n same none =
    ap (λ o. length (own_with is file (unwrap_or o (length file.doc)))) none
    ∙ ap length (all_own is file (length file.doc) ∙ none_pass (is_own is file (length file.doc)) (length file.doc) other)
  where
    foreign : (j : ℕ) (b : Bool) (o : Option ℕ) → machine_of file j ≡ o → (b && is_number (length file.doc) o) ≡ false
    foreign j true None e = refl
    foreign j true (Some m) e = let there = machine_there file j m same e in let l = there.1 in other_number m (length file.doc) (λ is. omega arith)
    foreign j false o e = refl

    other : (j : ℕ) → is_own is file (length file.doc) j ≡ false
    other j = foreign j (is (role_at file j)) (machine_of file j) refl

pub none_above : (file : ModelFile) (n : ℕ) → option_map (place_in (machines file)) (machine_of file n) ≡ None → machine_of file n ≡ None
none_above file n e = by_machine (machine_of file n) refl where
  by_machine : (o : Option ℕ) → machine_of file n ≡ o → machine_of file n ≡ None
  by_machine None is = is
  by_machine (Some m) is = let f = sym (ap (λ o. option_map (place_in (machines file)) o) is) ∙ e in absurd (cc)
