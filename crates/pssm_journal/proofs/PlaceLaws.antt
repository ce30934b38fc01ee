-- The places of names, as they are noted one after another.
use Rattle.std.proofs.Common.{◌≡◌, ◌<◌, ◌≤◌, ◌⊎◌, ℕ, zero, suc, ◌+◌, Bool, true, false, cond, List, [], ◌∷◌, ◌++◌, length, take, get_or, Option, Some, None, refl, sym, ap, subst, ◌∙◌, arith, inl, inr, length-append}
use Rattle.std.specs.Prelude.{option_map, slice_get}
use Rattle.std.specs.Option.{option_or}
use Rattle.std.specs.List.{position_from}
use Rattle.std.specs.Str.{bytes_eq}
use Rattle.std.specs.Cmp.Lexicographic.{bytes_decides}
use Rattle.std.proofs.lemmas.List.{take_more, take_all, length-take-le}
use Rattle.std.proofs.lemmas.Iterator.Adapters.{position_from-zero}
use Rattle.std.proofs.lemmas.Option.{same_Some}
use Rattle.std.specs.Map.{lookup}
use Rattle.indexmap.specs.IndexMap.{Updates}
use Rattle.pssm_model.specs.declared.ids.MarkId.{MarkId}
use Rattle.pssm_semantics.specs.declared.entry.ObjectId.{ObjectId}
use Rattle.pssm_semantics.specs.declared.setting.Class.{Class}
use Rattle.pssm_semantics.specs.declared.setting.Setting.{Setting}
use Rattle.pssm_semantics.specs.Settings.{class_of}
use Rattle.pssm_journal.specs.Entries.{◌>>=◌, numbered, mark_named, own_mark_named}
use Rattle.pssm_journal.specs.inner.Places.{Places, place_in, place_noted, place_among, HoldsPlaces, HoldsMarks}

-- ---- one more name

none_more : (o : Option ℕ) → o ≡ option_or o None
none_more (Some k) = refl
none_more None = refl

kept_more : (o x : Option ℕ) (k : ℕ) → o ≡ Some k → o ≡ option_or o x
kept_more (Some j) x k e = refl
kept_more None x k e = absurd cc

-- A name that has a place keeps it, and so do all others.
pub noted_before : {S : Type 0} (m : Places S) (noted : List ℕ) (place k : ℕ) → place_in m noted ≡ Some k → (name : List ℕ) → place_in m name ≡ place_noted (place_in m name) noted place name
noted_before m noted place k is name = by_test (bytes_eq noted name) refl where
  by_test : (t : Bool) → bytes_eq noted name ≡ t → place_in m name ≡ option_or (place_in m name) (cond t (Some place) None)
  by_test true e = kept_more (place_in m name) (Some place) k (subst (λ n. place_in m n ≡ Some k) ((bytes_decides noted name).0 e) is)
  by_test false e = none_more (place_in m name)

-- A name that has none gets its place, and no other changes.
pub noted_now : {S : Type 0} (m n : Places S) (noted : List ℕ) (place : ℕ) → place_in m noted ≡ None → Updates bytes_eq m n noted (Some place) → (name : List ℕ) → place_in n name ≡ place_noted (place_in m name) noted place name
noted_now m n noted place none updates name = updates.0 name ∙ by_test (bytes_eq noted name) refl where
  by_test : (t : Bool) → bytes_eq noted name ≡ t → cond t (Some place) (place_in m name) ≡ option_or (place_in m name) (cond t (Some place) None)
  by_test true e = sym (ap (λ o. option_or o (Some place)) (subst (λ n. place_in m n ≡ None) ((bytes_decides noted name).0 e) none))
  by_test false e = none_more (place_in m name)

-- ---- the first place

-- the first place with one thing more at the end
position_from_more : {X : Type 0} (t : X → Bool) (i : ℕ) (xs : List X) (x : X) → position_from t i (xs ++ x ∷ []) ≡ option_or (position_from t i xs) (cond (t x) (Some (i + length xs)) None)
position_from_more t i [] x = ap (λ n. cond (t x) (Some n) None) (let same : i ≡ i + 0 = omega arith in same)
position_from_more t i (y ∷ xs) x = by_test (t y) (position_from_more t (i + 1) xs x) where
  by_test : (b : Bool) → position_from t (i + 1) (xs ++ x ∷ []) ≡ option_or (position_from t (i + 1) xs) (cond (t x) (Some ((i + 1) + length xs)) None)
      → cond b (Some i) (position_from t (i + 1) (xs ++ x ∷ [])) ≡ option_or (cond b (Some i) (position_from t (i + 1) xs)) (cond (t x) (Some (i + suc (length xs))) None)
  by_test true later = refl
  by_test false later =
      later ∙ ap (λ n. option_or (position_from t (i + 1) xs) (cond (t x) (Some n) None)) (let same : (i + 1) + length xs ≡ i + suc (length xs) = omega arith in same)

-- the first place, as it is counted from the first thing on
place_from_zero : {X : Type 0} (name_of : X → List ℕ) (xs : List X) (name : List ℕ) → place_among name_of xs name ≡ position_from (λ x. bytes_eq (name_of x) name) 0 xs
place_from_zero name_of xs name = position_from-zero (λ x. bytes_eq (name_of x) name) xs

-- none is noted yet
pub places_none : {X S : Type 0} (name_of : X → List ℕ) (xs : List X) (places : Places S) → places.entries ≡ [] → HoldsPlaces name_of (take 0 xs) places
places_none name_of xs places empty name = ap (λ es. lookup (λ key. bytes_eq name key) es) empty

-- one thing more has its place
pub places_more : {X S : Type 0} (name_of : X → List ℕ) (xs : List X) (i : ℕ) (x : X) (old new : Places S) (noted : List ℕ) → i < length xs → x ≡ get_or xs i x → noted ≡ name_of x
    → ((name : List ℕ) → place_in new name ≡ place_noted (place_in old name) noted i name) → HoldsPlaces name_of (take i xs) old → HoldsPlaces name_of (take (i + 1) xs) new
places_more {X = X} name_of xs i x old new noted within is named after before name =
    let t = λ (y : X). bytes_eq (name_of y) name in
    let first = take i xs in
    let many : i ≡ 0 + length first = omega (arith, length-take-le i xs (omega (arith, within))) in
    let all : take (i + 1) xs ≡ first ++ x ∷ [] = take_more xs i x within ∙ ap (λ z. first ++ z ∷ []) (sym is) in
    after name
    ∙ ap (λ o. place_noted o noted i name) (before name ∙ place_from_zero name_of first name)
    ∙ ap (λ k. option_or (position_from t 0 first) (cond (bytes_eq k name) (Some i) None)) named
    ∙ ap (λ n. option_or (position_from t 0 first) (cond (t x) (Some n) None)) many
    ∙ sym (position_from_more t 0 first x)
    ∙ sym (ap (λ ys. position_from t 0 ys) all)
    ∙ sym (place_from_zero name_of (take (i + 1) xs) name)

-- all have
pub places_all : {X S : Type 0} (name_of : X → List ℕ) (xs : List X) (i : ℕ) (places : Places S) → length xs ≤ i → HoldsPlaces name_of (take i xs) places → HoldsPlaces name_of xs places
places_all name_of xs i places all held = subst (λ ys. HoldsPlaces name_of ys places) (take_all i xs all) held

-- ---- marks

-- what stands at a place of two lists of one length that got one item more each
at_more : {A B : Type 0} (xs : List A) (ys : List B) (x a : A) (y b : B) (i : ℕ) → length ys ≡ length xs → slice_get (xs ++ x ∷ []) i ≡ Some a → slice_get (ys ++ y ∷ []) i ≡ Some b
    → ((slice_get xs i ≡ Some a) × (slice_get ys i ≡ Some b)) ⊎ ((x ≡ a) × (y ≡ b))
at_more [] [] x a y b zero same e f = inr (same_Some x a e, same_Some y b f)
at_more [] [] x a y b (suc i) same e f = absurd cc
at_more [] (z ∷ ys) x a y b i same e f = absurd (omega (arith, same))
at_more (z ∷ xs) [] x a y b i same e f = absurd (omega (arith, same))
at_more (z ∷ xs) (w ∷ ys) x a y b zero same e f = inl (e, f)
at_more (z ∷ xs) (w ∷ ys) x a y b (suc i) same e f = at_more xs ys x a y b i (omega (arith, same)) e f

-- the marks of one class more
pub marks_more : {S : Type 0} (classes : List Class) (kept : List (Places S)) (class : Class) (places : Places S) → HoldsMarks classes kept → HoldsPlaces (λ mark. mark) class.program.marks places
    → HoldsMarks (classes ++ class ∷ []) (kept ++ places ∷ [])
marks_more {S} classes kept class places held here = (
  omega (arith, held.0, length-append classes (class ∷ []), length-append kept (places ∷ [])),
  (λ i c p e f. elim (at_more classes kept class c places p i held.0 e f) [
    | inl before ↦ held.1 i c p before.0 before.1
    | inr same ↦ subst (λ (x : Class). HoldsPlaces (λ mark. mark) x.program.marks p) same.0 (subst (λ (x : Places S). HoldsPlaces (λ mark. mark) class.program.marks x) same.1 here)
  ]),
)

-- a mark of an object whose class is known
pub own_mark_is : (setting : Setting) (o : ObjectId) (class : Class) (name : List ℕ) (place : Option ℕ) (r : Option MarkId) → Some class ≡ class_of setting o
    → place ≡ place_among (λ mark. mark) class.program.marks name → r ≡ option_map (λ i. let k : MarkId = record { 0 = i } in k) (numbered 65536 place) → r ≡ own_mark_named setting o name
unfolding own_mark_named mark_named
own_mark_is setting o class name place r here found is =
    is ∙ ap (λ p. option_map (λ i. let k : MarkId = record { 0 = i } in k) (numbered 65536 p)) found ∙ ap (λ c. c >>= λ x. mark_named x name) here
