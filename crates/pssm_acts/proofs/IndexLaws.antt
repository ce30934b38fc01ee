-- Names and the keys of their index.
use Rattle.std.proofs.Common.{◌≡◌, ℕ, ◌+◌, Bool, false, not, ◌||◌, List, [], ◌∷◌, ◌++◌, take, map, Option, Some, None, refl, sym, subst, ap, ◌∙◌}
use Rattle.std.proofs.lemmas.List.{length-map}
use Rattle.std.specs.Prelude.{option_map, position, if◌then◌else◌}
use Rattle.std.specs.List.{position_or_len, list_any}
use Rattle.std.specs.Str.{bytes_eq}
use Rattle.std.specs.Cmp.Lexicographic.{nat_list_eq_equiv}
use Rattle.indexmap.specs.IndexSet.{IndexSet, insert_key}
use Rattle.pssm_acts.specs.Indexes.{IsIndexOf}
use Rattle.pssm_acts.proofs.MarkNames.{AllFail, none_passes, none_found}

-- whether the name that is sought is this key, and whether this mark is the name
abbrev pub is_key : List ℕ → List ℕ → Bool
is_key name key = bytes_eq name key

abbrev pub is_name : List ℕ → List ℕ → Bool
is_name name m = bytes_eq m name

same_length : (names : List (List ℕ)) (name : List ℕ) → position_or_len (is_key name) names ≡ position_or_len (is_name name) names
same_length [] name = refl
same_length (m ∷ names) name = rw (nat_list_eq_equiv.symm name m) (ap (λ n. if not (bytes_eq m name) then 1 + n else 0) (same_length names name))

same_position : (names : List (List ℕ)) (name : List ℕ) → position (is_key name) names ≡ position (is_name name) names
same_position names name = let places = same_length names name in cc

-- A name is found in the index where it stands among the names.
pub same_place : (keys names : List (List ℕ)) (name : List ℕ) → keys ≡ names → position (is_key name) keys ≡ position (is_name name) names
same_place keys names name same = same_position keys name ∙ ap (λ (xs : List (List ℕ)). position (is_name name) xs) same

-- among what has names too
mapped_length : {X : Type 0} (f : X → List ℕ) (items : List X) (name : List ℕ) → position_or_len (is_name name) (map f items) ≡ position_or_len (λ x. is_name name (f x)) items
mapped_length f [] name = refl
mapped_length f (x ∷ items) name = ap (λ n. if not (bytes_eq (f x) name) then 1 + n else 0) (mapped_length f items name)

mapped_position : {X : Type 0} (f : X → List ℕ) (items : List X) (name : List ℕ) → position (is_name name) (map f items) ≡ position (λ x. is_name name (f x)) items
mapped_position f items name = let places = mapped_length f items name in let all = length-map items f in cc

pub owner_place : {X : Type 0} (f : X → List ℕ) (keys : List (List ℕ)) (items : List X) (name : List ℕ) → keys ≡ map f items
    → position (is_key name) keys ≡ position (λ x. bytes_eq (f x) name) items
owner_place f keys items name same = same_place keys (map f items) name same ∙ mapped_position f items name

-- so it is with an index of them
pub index_place : {X S : Type 0} (f : X → List ℕ) (kept : Option (IndexSet (List ℕ) S)) (set : IndexSet (List ℕ) S) (index : Option (List (List ℕ))) (items : List X) (name : List ℕ) (r : Option ℕ)
    → option_map (λ (s : IndexSet (List ℕ) S). s.keys) kept ≡ index → kept ≡ Some set → IsIndexOf (map f items) index → r ≡ position (is_key name) set.keys
    → r ≡ position (λ x. bytes_eq (f x) name) items
index_place {S = S} f kept set index items name r view is of found =
    let all : Some set.keys ≡ index = ap (option_map (λ (s : IndexSet (List ℕ) S). s.keys)) (sym is) ∙ view in
    let same : set.keys ≡ map f items = subst (λ (i : Option (List (List ℕ))). IsIndexOf (map f items) i) (sym all) of in
    found ∙ owner_place f set.keys items name same

-- ---- one more name

none_any : {X : Type 0} (p : X → Bool) (xs : List X) → AllFail p xs → list_any p xs ≡ false
none_any p [] fail = refl
none_any p (x ∷ xs) fail = rw fail.0 (none_any p xs fail.1)

none_among : (names : List (List ℕ)) (name : List ℕ) → position (is_name name) names ≡ None → list_any (is_name name) names ≡ false
none_among names name none = none_any (is_name name) names (none_passes (is_name name) names (none_found (is_name name) names none))

any_key : (names : List (List ℕ)) (name : List ℕ) → list_any (is_key name) names ≡ list_any (is_name name) names
any_key [] name = refl
any_key (m ∷ names) name = rw (nat_list_eq_equiv.symm name m) (ap (λ b. bytes_eq m name || b) (any_key names name))

-- A name that is new goes behind the others, in the index too.
pub one_more : (keys next : List (List ℕ)) (key : List ℕ) (names : List (List ℕ)) (name : List ℕ) → keys ≡ names → position (is_name name) names ≡ None → key ≡ name
    → next ≡ insert_key bytes_eq keys key → next ≡ names ++ name ∷ []
one_more keys next key names name same none is put =
    let absent : list_any (is_key key) keys ≡ false = any_key keys key
    ∙ ap (λ (xs : List (List ℕ)). list_any (is_name key) xs) same
    ∙ ap (λ (n : List ℕ). list_any (is_name n) names) is ∙ none_among names name none in
    let behind : next ≡ keys ++ key ∷ [] = put ∙ ap (λ b. if b then keys else keys ++ key ∷ []) absent in
    behind ∙ ap (λ (xs : List (List ℕ)). xs ++ key ∷ []) same ∙ ap (λ (n : List ℕ). names ++ n ∷ []) is

-- ---- fewer names

pub cut : (keys next : List (List ℕ)) (names : List (List ℕ)) (n : ℕ) → keys ≡ names → next ≡ take n keys → next ≡ take n names
cut keys next names n same is = is ∙ ap (λ (xs : List (List ℕ)). take n xs) same
