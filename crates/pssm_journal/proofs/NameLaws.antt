-- Names that differ are looked up as the numbers that have them.
use Rattle.std.proofs.Common.{◌≡◌, ℕ, zero, suc, ◌<◌, Bool, true, false, cond, ltb, List, [], ◌∷◌, length, get_or, Option, Some, None, refl, sym, ap, subst, ◌∙◌, arith}
use Rattle.std.specs.Prelude.{◌≢◌, map, option_map, slice_get, position, AllPairs}
use Rattle.std.specs.Option.{option_map_or}
use Rattle.std.specs.List.{AllByRecursion, position_or_len}
use Rattle.std.specs.Str.{bytes_eq}
use Rattle.std.proofs.lemmas.Bool.{cond-true, lt-ltb}
use Rattle.std.proofs.lemmas.List.{get_or-map, length-map}
use Rattle.std.proofs.lemmas.List.Sums.{position_or_len_is}
use Rattle.std.proofs.lemmas.Option.{slice_get_within, get_or_from_slice_get, same_Some}
use Rattle.std.proofs.lemmas.Slice.Eq.{bytes_eq-Decides}
use Rattle.pssm_model.specs.declared.ids.SignalId.{SignalId}
use Rattle.pssm_model.specs.declared.ids.MarkId.{MarkId}
use Rattle.pssm_semantics.specs.declared.entry.ObjectId.{ObjectId}
use Rattle.pssm_semantics.specs.declared.setting.SignalDecl.{SignalDecl}
use Rattle.pssm_semantics.specs.declared.setting.ObjectDecl.{ObjectDecl}
use Rattle.pssm_semantics.specs.declared.setting.Class.{Class}
use Rattle.pssm_semantics.specs.declared.setting.Setting.{Setting}
use Rattle.pssm_semantics.specs.Settings.{class_of}
use Rattle.pssm_journal.specs.Entries.{numbered, object_named, signal_named, mark_named}
use Rattle.pssm_semantics.specs.Names.{AreApart, NamesDiffer}
use Rattle.pssm_journal.specs.inner.EntryLine.{name_of_object, name_of_signal, name_of_mark}

-- ---- names among names

apart_false : (a b : List ℕ) → a ≢ b → bytes_eq a b ≡ false
apart_false a b apart = by_test (bytes_eq a b) refl where
  by_test : (t : Bool) → bytes_eq a b ≡ t → bytes_eq a b ≡ false
  by_test true e = absurd (apart ((bytes_eq-Decides a b).0 e))
  by_test false e = e

same_true : (a b : List ℕ) → a ≡ b → bytes_eq a b ≡ true
same_true a b same = (bytes_eq-Decides a b).1 same

-- the first place that has the name of one at a place is that place
position_named : {X : Type 0} (f : X → List ℕ) (xs : List X) (i : ℕ) (x : X) → AllPairs (λ a b. a ≢ b) (map f xs) → slice_get xs i ≡ Some x → position (λ y. bytes_eq (f y) (f x)) xs ≡ Some i
position_named f xs i x apart here =
    let within : i < length xs = slice_get_within xs i x here in
    let at : get_or xs i x ≡ x = get_or_from_slice_get xs i x x here in
    let first : position_or_len (λ y. bytes_eq (f y) (f x)) xs ≡ i =
    position_or_len_is (λ y. bytes_eq (f y) (f x)) xs i x (omega (arith, within))
    (λ k low. apart_false (f (get_or xs k x)) (f x) (λ same.
    apart k i (f x) low (omega (arith, within, length-map xs f))
    (get_or-map f xs k x (f x) (omega (arith, within, low)) ∙ same ∙ ap f (sym at) ∙ sym (get_or-map f xs i x (f x) within))))
    (λ inside. same_true (f (get_or xs i x)) (f x) (ap f at)) in
    ap (λ (n : ℕ). cond (ltb n (length xs)) (Some n) None) first ∙ cond-true (ltb i (length xs)) (Some i) None (lt-ltb i (length xs) within)

numbered_at : (limit i : ℕ) (place : Option ℕ) → place ≡ Some i → i < limit → numbered limit place ≡ Some i
numbered_at limit i place e small = ap (λ (p : Option ℕ). numbered limit p) e ∙ cond-true (ltb i limit) (Some i) None (lt-ltb i limit small)

-- the same, as it is looked up
number_named : {X : Type 0} (count : ℕ) (f : X → List ℕ) (xs : List X) (i : ℕ) (x : X) → AreApart count (map f xs) → slice_get xs i ≡ Some x → numbered count (position (λ y. bytes_eq (f y) (f x)) xs) ≡ Some i
number_named count f xs i x apart here =
    numbered_at count i (position (λ y. bytes_eq (f y) (f x)) xs) (position_named f xs i x apart.0 here) (omega (arith, slice_get_within xs i x here, apart.1, length-map xs f))

-- ---- objects, signals and marks

pub object_named_back : (setting : Setting) (o : ObjectId) (d : ObjectDecl) → NamesDiffer setting → slice_get setting.objects o.0 ≡ Some d → object_named setting (name_of_object setting o) ≡ Some o
unfolding object_named
object_named_back setting o d differ here =
    let name : name_of_object setting o ≡ d.name = ap (λ (p : Option ObjectDecl). option_map_or (λ x. x.name) p []) here in
    ap (λ (n : List ℕ). option_map (λ i. let x : ObjectId = record { 0 = i } in x) (numbered 256 (position (λ x. bytes_eq x.name n) setting.objects))) name
    ∙ ap (λ (p : Option ℕ). option_map (λ i. let x : ObjectId = record { 0 = i } in x) p) (number_named 256 (λ (x : ObjectDecl). x.name) setting.objects o.0 d differ.objects here)

pub signal_named_back : (setting : Setting) (s : SignalId) (d : SignalDecl) → NamesDiffer setting → slice_get setting.signals s.0 ≡ Some d → signal_named setting (name_of_signal setting s) ≡ Some s
unfolding signal_named
signal_named_back setting s d differ here =
    let name : name_of_signal setting s ≡ d.name = ap (λ (p : Option SignalDecl). option_map_or (λ x. x.name) p []) here in
    ap (λ (n : List ℕ). option_map (λ i. let x : SignalId = record { 0 = i } in x) (numbered 65536 (position (λ x. bytes_eq x.name n) setting.signals))) name
    ∙ ap (λ (p : Option ℕ). option_map (λ i. let x : SignalId = record { 0 = i } in x) p) (number_named 65536 (λ (x : SignalDecl). x.name) setting.signals s.0 d differ.signals here)

-- what holds of all holds of each
pub each_of : {X : Type 0} (P : X → Type 0) (xs : List X) (i : ℕ) (x : X) → AllByRecursion P xs → slice_get xs i ≡ Some x → P x
each_of P [] i x all e = absurd cc
each_of P (y ∷ ys) zero x all e = subst P (same_Some y x e) all.0
each_of P (y ∷ ys) (suc i) x all e = each_of P ys i x all.1 e

map_same : (names : List (List ℕ)) → map (λ n. n) names ≡ names
map_same [] = refl
map_same (n ∷ names) = ap (λ t. n ∷ t) (map_same names)

pub mark_named_back : (setting : Setting) (o : ObjectId) (class : Class) (k : MarkId) (n : List ℕ) → NamesDiffer setting → AreApart 65536 class.program.marks → class_of setting o ≡ Some class → slice_get class.program.marks k.0 ≡ Some n
    → mark_named class (name_of_mark setting o k) ≡ Some k
unfolding mark_named
mark_named_back setting o class k n differ apart at here =
    let name : name_of_mark setting o k ≡ n = ap (λ (c : Option Class). option_map_or (λ x. option_map_or (λ m. m) (slice_get x.program.marks k.0) []) c []) at ∙ ap (λ (p : Option (List ℕ)). option_map_or (λ m. m) p []) here in
    let same : AreApart 65536 (map (λ m. m) class.program.marks) = subst (λ t. AreApart 65536 t) (sym (map_same class.program.marks)) apart in
    ap (λ (m : List ℕ). option_map (λ i. let x : MarkId = record { 0 = i } in x) (numbered 65536 (position (λ x. bytes_eq x m) class.program.marks))) name
    ∙ ap (λ (p : Option ℕ). option_map (λ i. let x : MarkId = record { 0 = i } in x) p) (number_named 65536 (λ m. m) class.program.marks k.0 n same here)
