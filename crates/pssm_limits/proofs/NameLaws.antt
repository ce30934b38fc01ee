-- Names that are collected each once: one variable more, and at the end.
use Rattle.std.proofs.Common.{◌≡◌, ◌↔◌, ◌≤◌, ◌||◌, ℕ, Bool, true, false, cond, List, [], ◌∷◌, ◌++◌, length, map, refl, sym, ap, subst, ◌∙◌, ⊎_elim, arith, Contains, sum_by, length-append}
use Rattle.std.specs.Prelude.{bytes_eq, nat_le}
use Rattle.std.specs.List.{AllPairs, AllByRecursion}
use Rattle.std.proofs.lemmas.List.{length-map}
use Rattle.std.proofs.lemmas.List.Elements.{Contains-append_left, Contains-append_right}
use Rattle.std.proofs.lemmas.List.Sums.{sum_by-cons}
use Rattle.std.proofs.lemmas.Slice.Eq.{bytes_eq-Decides}
use Rattle.pssm_numbering.proofs.ListLaws.{by_test}
use Rattle.pssm_totals.proofs.ListLaws.{nothing_in, is_one, first_or_behind, is_first, is_behind, in_more, apart_by_pairs, pairs_by_apart, apart_more, sum_inside}
use Rattle.pssm_limits.specs.inner.Variables.{AreNames, has_name, with_taken}
use Rattle.pssm_limits.proofs.ListLaws.{map_more}

module _ (name : ℕ → List ℕ) where
  in_map : (found : List ℕ) (n : ℕ) → Contains found n → Contains (map name found) (name n)
  in_map [] n h = absurd (nothing_in n h)
  in_map (m ∷ found) n h =
      ⊎_elim
      (λ same. subst (λ k. Contains (name m ∷ map name found) (name k)) (sym same) (is_first (name m) (map name found)))
      (λ behind. is_behind (name m) (map name found) (name n) (in_map found n behind))
      (first_or_behind m found n h)

  name_there : (found : List ℕ) (x : List ℕ) → has_name name found x ≡ true → Contains (map name found) x
  name_there [] x is = absurd cc
  name_there (m ∷ found) x is =
      by_test (bytes_eq (name m) x)
      (λ here. let same : name m ≡ x = (bytes_eq-Decides (name m) x).0 here in subst (Contains (name m ∷ map name found)) same (is_first (name m) (map name found)))
      (λ other. is_behind (name m) (map name found) x (name_there found x (sym (ap (λ (b : Bool). b || has_name name found x) other) ∙ is)))

  no_name_there : (found : List ℕ) (x : List ℕ) → has_name name found x ≡ false → Contains (map name found) x → ⊥
  no_name_there [] x none h = nothing_in x h
  no_name_there (m ∷ found) x none h =
      by_test (bytes_eq (name m) x)
      (λ here. let is : has_name name (m ∷ found) x ≡ true = ap (λ (b : Bool). b || has_name name found x) here in cc)
      (λ other. ⊎_elim
      (λ same. let here : bytes_eq (name m) x ≡ true = (bytes_eq-Decides (name m) x).1 (sym same) in cc)
      (λ behind. no_name_there found x (sym (ap (λ (b : Bool). b || has_name name found x) other) ∙ none) behind)
      (first_or_behind (name m) (map name found) x h))

  module _ (passes : ℕ → Bool) where
    pub names_start : AreNames name passes [] []
    names_start = record {
      different = pairs_by_apart [] tt;
      all = λ n h. absurd (nothing_in n h);
      few = omega arith;
      complete = λ le n h. absurd (nothing_in n h);
    }

    module _ (seen found : List ℕ) (n : ℕ) (h : AreNames name passes seen found) where
      pub names_passed : passes n ≡ false → AreNames name passes (seen ++ n ∷ []) found
      names_passed out = record {
        different = h.different;
        all = λ m is. let before = h.all m is in (Contains-append_left seen (n ∷ []) m before.0, before.1);
        few = h.few;
        complete = λ le m is here. ⊎_elim
            (λ old. h.complete le m old here)
            (λ same. let no : passes m ≡ false = ap passes same ∙ out in absurd (cc))
            (in_more seen n m is);
      }

      names_stay : passes n ≡ true → (length found ≤ 64 → Contains (map name found) (name n)) → AreNames name passes (seen ++ n ∷ []) found
      names_stay here known = record {
        different = h.different;
        all = λ m is. let before = h.all m is in (Contains-append_left seen (n ∷ []) m before.0, before.1);
        few = h.few;
        complete = λ le m is also. ⊎_elim
            (λ old. h.complete le m old also)
            (λ same. subst (λ k. Contains (map name found) (name k)) (sym same) (known le))
            (in_more seen n m is);
      }

      names_grow : passes n ≡ true → length found ≤ 64 → has_name name found (name n) ≡ false → AreNames name passes (seen ++ n ∷ []) (found ++ n ∷ [])
      names_grow here short new =
          let more = map_more name found n in
          let width = length-append found (n ∷ []) in
          record {
            different = subst (AllPairs (λ a b. a ≡ b → ⊥)) (sym more)
                (pairs_by_apart (map name found ++ name n ∷ [])
                (apart_more (map name found) (name n) (apart_by_pairs (map name found) h.different) (no_name_there found (name n) new)));
            all = λ m is. ⊎_elim
                (λ old. let before = h.all m old in (Contains-append_left seen (n ∷ []) m before.0, before.1))
                (λ same. (Contains-append_right seen (n ∷ []) m (is_one n m same), ap passes same ∙ here))
                (in_more found n m is);
            few = omega arith;
            complete = λ le m is also. subst (λ xs. Contains xs (name m)) (sym more)
                (⊎_elim
                (λ old. Contains-append_left (map name found) (name n ∷ []) (name m) (h.complete short m old also))
                (λ same. Contains-append_right (map name found) (name n ∷ []) (name m) (is_one (name n) (name m) (ap name same)))
                (in_more seen n m is));
          }

      pub names_taken : passes n ≡ true → AreNames name passes (seen ++ n ∷ []) (with_taken name found n)
      names_taken here =
          by_test (nat_le 65 (length found))
          (λ full. subst (AreNames name passes (seen ++ n ∷ []))
          (sym (ap (λ (b : Bool). cond (b || has_name name found (name n)) found (found ++ n ∷ [])) full))
          (names_stay here (λ le. let past : 65 ≤ length found = grind (arith, full) in absurd (omega (arith, past, le)))))
          (λ room. subst (AreNames name passes (seen ++ n ∷ []))
          (sym (ap (λ (b : Bool). cond (b || has_name name found (name n)) found (found ++ n ∷ [])) room))
          (by_name room))
        where
          by_name : nat_le 65 (length found) ≡ false → AreNames name passes (seen ++ n ∷ []) (cond (has_name name found (name n)) found (found ++ n ∷ []))
          by_name room =
              by_test (has_name name found (name n))
              (λ old. subst (AreNames name passes (seen ++ n ∷ [])) (sym (ap (λ (b : Bool). cond b found (found ++ n ∷ [])) old))
              (names_stay here (λ le. name_there found (name n) old)))
              (λ new. subst (AreNames name passes (seen ++ n ∷ [])) (sym (ap (λ (b : Bool). cond b found (found ++ n ∷ [])) new))
              (names_grow here (grind (arith, room)) new))

one_each : {X : Type 0} (xs : List X) → sum_by (λ x. 1) xs ≡ length xs
one_each [] = refl
one_each (x ∷ xs) = let more = one_each xs in let sum = sum_by-cons (λ y. 1) x xs in omega arith

contained : {X : Type 0} (P : X → Type 0) (xs : List X) → AllByRecursion P xs → (x : X) → Contains xs x → P x
contained P [] all x h = absurd (nothing_in x h)
contained P (y ∷ xs) all x h = ⊎_elim (λ same. subst P (sym same) all.0) (λ behind. contained P xs all.1 x behind) (first_or_behind y xs x h)

all_of : {X : Type 0} (P : X → Type 0) (xs : List X) → ((x : X) → Contains xs x → P x) → AllByRecursion P xs
all_of P [] f = tt
all_of P (x ∷ xs) f = (f x (is_first x xs), all_of P xs (λ y h. f y (is_behind x xs y h)))

-- Each name that is known is one of those found, where they are no more than the limit.
pub names_end : (name : ℕ → List ℕ) (passes : ℕ → Bool) (all found : List ℕ) (Known : List ℕ → Type 0) → AreNames name passes all found
    → ((n : ℕ) → Contains all n → passes n ≡ true → Known (name n)) → ((x : List ℕ) → Known x → (n : ℕ) × Contains all n × (passes n ≡ true) × (name n ≡ x))
    → (length found ≤ 64) ↔ ((names : List (List ℕ)) → AllPairs (λ a b. a ≡ b → ⊥) names → AllByRecursion Known names → length names ≤ 64)
names_end name passes all found Known h to from = (
  λ le names different known.
      let width = length-map found name in
      let inside = sum_inside (λ x. 1) names (map name found) (apart_by_pairs names different)
      (λ x is. let n = from x (contained Known names known x is) in subst (Contains (map name found)) n.3 (h.complete le n.0 n.1 n.2)) in
      let one = one_each names in
      let other = one_each (map name found) in
      omega arith,
  λ few.
      let width = length-map found name in
      let le = few (map name found) h.different (all_of Known (map name found) (λ x is. of_found found x is (λ n there. let a = h.all n there in to n a.0 a.1))) in
      omega arith,
)
  where
    of_found : (xs : List ℕ) (x : List ℕ) → Contains (map name xs) x → ((n : ℕ) → Contains xs n → Known (name n)) → Known x
    of_found [] x is f = absurd (nothing_in x is)
    of_found (m ∷ xs) x is f =
        ⊎_elim
        (λ same. subst Known (sym same) (f m (is_first m xs)))
        (λ behind. of_found xs x behind (λ n there. f n (is_behind m xs n there)))
        (first_or_behind (name m) (map name xs) x is)
