-- The lines of a setting before its first block are read.
use Rattle.std.proofs.Common.{◌≡◌, ◌≢◌, ℕ, zero, suc, ◌+◌, ◌<◌, ◌≤◌, false, List, [], ◌∷◌, ◌++◌, length, get_or, Some, Ok, refl, sym, ap, subst, ◌∙◌, append_assoc, arith}
use Rattle.std.specs.Prelude.{map, codes, position, AllPairs}
use Rattle.std.specs.Option.{option_map_or}
use Rattle.std.specs.List.{AllByRecursion}
use Rattle.std.specs.Str.{bytes_eq}
use Rattle.std.proofs.lemmas.Bool.{lt-ltb}
use Rattle.std.proofs.lemmas.Option.{slice_get-get_or}
use Rattle.std.proofs.lemmas.List.{append-nil, length-append}
use Rattle.std.proofs.lemmas.Slice.Eq.{bytes_eq-Decides}
use Rattle.pssm_semantics.specs.declared.setting.SignalDecl.{SignalDecl}
use Rattle.pssm_semantics.specs.declared.setting.ObjectDecl.{ObjectDecl}
use Rattle.pssm_semantics.specs.declared.setting.Class.{Class}
use Rattle.pssm_semantics.specs.declared.setting.Setting.{Setting}
use Rattle.pssm_spelling.specs.Spelling.{IsName}
use Rattle.pssm_flat.specs.declared.line.Line.{Line}
use Rattle.pssm_flat.specs.declared.line.Line.TheVariants as lines
use Rattle.pssm_flat.specs.declared.head.Head.{Head}
use Rattle.pssm_flat.specs.declared.outline.Outline.{Outline}
use Rattle.pssm_flat.specs.declared.outline.Outline.TheVariants as stages
use Rattle.pssm_flat.specs.Text.{signal_line, class_line, object_line, class_name, head_lines}
use Rattle.pssm_flat.specs.Flat.{AllBehind, IsNewName, AreNames, IsWritten}
use Rattle.pssm_flat.specs.inner.Lines.{◌>>=◌, line_text}
use Rattle.pssm_flat.specs.inner.Outlines.{has_name, signal_of, object_of, itself, with_signal_line, with_class_line, with_object_line, after_line, after_bytes, after_lines}
use Rattle.pssm_flat.proofs.Items.{map_push}
use Rattle.pssm_flat.proofs.NameLaws.{Unlike, false_from, named_none, map_itself, names_are, names_differ, name_named, position_again}
use Rattle.pssm_flat.proofs.LineForms.{IsGoodLine, line_again, line_inner}
use Rattle.pssm_flat.proofs.Good.{nth_name, class_name_of}
use Rattle.pssm_flat.proofs.Reach.{after_append}

-- a line of the grammar is read as one
pub next_line : (d e : Outline) (l : Line) → IsGoodLine l → after_line d l ≡ Ok (Some e) → after_bytes d (line_text l) ≡ Ok (Some e)
unfolding after_bytes
next_line d e l is eq = rw (line_inner l is, line_again l is) eq

pub one_then : (d e f : Outline) (l : List ℕ) (ls : List (List ℕ)) → after_bytes d l ≡ Ok (Some e) → after_lines e ls ≡ Some f → after_lines d (l ∷ ls) ≡ Some f
one_then d e f l ls first rest = rw first rest

pub many_then : (d e f : Outline) (a b : List (List ℕ)) → after_lines d a ≡ Some e → after_lines e b ≡ Some f → after_lines d (a ++ b) ≡ Some f
many_then d e f a b first rest = after_append d a b ∙ ap (λ o. o >>= (λ x. after_lines x b)) first ∙ rest

-- the head of a setting
abbrev pub head_of : Setting → Head
head_of s = record { signals = s.signals; classes = map class_name_of s.classes; objects = s.objects }

abbrev heading : List SignalDecl → List (List ℕ) → List ObjectDecl → Outline
heading signals classes objects = stages.Heading (record { signals = signals; classes = classes; objects = objects })

-- what is known behind one more name
pub names_next : {X : Type 0} (named : X → List ℕ) (seen new : List X) (x : X) → AllBehind IsNewName (map named seen ++ named x ∷ []) (map named new) → AllBehind IsNewName (map named (seen ++ x ∷ [])) (map named new)
names_next named seen new x fit = subst (λ ns. AllBehind IsNewName ns (map named new)) (sym (map_push named seen x)) fit

signals_next : (seen new : List SignalDecl) → AllBehind IsNewName (map signal_of seen) (map signal_of new) → AllByRecursion (λ (g : SignalDecl). g.count ≤ 8) new → length seen + length new ≤ 256
    → after_lines (heading seen [] []) (map signal_line new) ≡ Some (heading (seen ++ new) [] [])
unfolding with_signal_line
signals_next seen [] fit counts few = ap (λ xs. Some (heading xs [] [])) (sym (append-nil seen))
signals_next seen (x ∷ new) fit counts few =
    let here = heading seen [] [] in
    let there = heading (seen ++ x ∷ []) [] [] in
    let next : after_line here (lines.Signal x.name x.count) ≡ Ok (Some there) = rw (lt-ltb (length seen) 256 (omega arith), named_none signal_of seen x.name fit.0.new) refl in
    one_then here there (heading (seen ++ x ∷ new) [] []) (signal_line x) (map signal_line new) (next_line here there (lines.Signal x.name x.count) (fit.0.name_is, counts.0) next)
    (signals_next (seen ++ x ∷ []) new (names_next signal_of seen new x fit.1) counts.1 (omega (arith, length-append seen (x ∷ [])))
    ∙ ap (λ xs. Some (heading xs [] [])) (append_assoc seen (x ∷ []) new))

classes_next : (signals : List SignalDecl) (seen : List (List ℕ)) (new : List Class) → AllBehind IsNewName seen (map class_name_of new) → length seen + length new ≤ 64
    → after_lines (heading signals seen []) (map class_line new) ≡ Some (heading signals (seen ++ map class_name_of new) [])
unfolding with_class_line
classes_next signals seen [] fit few = ap (λ xs. Some (heading signals xs [])) (sym (append-nil seen))
classes_next signals seen (x ∷ new) fit few =
    let here = heading signals seen [] in
    let there = heading signals (seen ++ x.name ∷ []) [] in
    let fresh : has_name itself seen x.name ≡ false = named_none itself seen x.name (subst (AllByRecursion (λ (other : List ℕ). other ≢ x.name)) (sym (map_itself seen)) fit.0.new) in
    let next : after_line here (lines.Class x.name) ≡ Ok (Some there) = rw (lt-ltb (length seen) 64 (omega arith), fresh) refl in
    one_then here there (heading signals (seen ++ map class_name_of (x ∷ new)) []) (class_line x) (map class_line new) (next_line here there (lines.Class x.name) fit.0.name_is next)
    (classes_next signals (seen ++ x.name ∷ []) new fit.1 (omega (arith, length-append seen (x.name ∷ [])))
    ∙ ap (λ xs. Some (heading signals xs [])) (append_assoc seen (x.name ∷ []) (map class_name_of new)))

-- the first place of a name in a list of different names
place_of_name : (names : List (List ℕ)) (n : ℕ) → AllPairs Unlike names → n < length names → position (λ c. bytes_eq c (nth_name names n)) names ≡ Some n
place_of_name names n differ lt =
    let is : nth_name names n ≡ get_or names n [] = ap (λ o. option_map_or itself o []) (slice_get-get_or names n [] lt) in
    position_again (λ c. bytes_eq c (nth_name names n)) names n [] lt ((bytes_eq-Decides (get_or names n []) (nth_name names n)).1 (sym is))
    (λ j less. false_from (bytes_eq (get_or names j []) (nth_name names n)) (λ same. differ j n [] less lt ((bytes_eq-Decides (get_or names j []) (nth_name names n)).0 same ∙ is)))

nth_is_name : (names : List (List ℕ)) (n : ℕ) → AreNames names → n < length names → IsName (nth_name names n)
nth_is_name names n are lt =
    let at = slice_get-get_or names n [] lt in
    let all : AllByRecursion IsName (map itself names) = subst (AllByRecursion IsName) (sym (map_itself names)) (names_are names are) in
    subst IsName (sym (ap (λ o. option_map_or itself o []) at)) (name_named itself names n (get_or names n []) all at)

nth_of : (classes : List Class) (n : ℕ) → class_name classes n ≡ nth_name (map class_name_of classes) n
nth_of [] zero = refl
nth_of [] (suc n) = refl
nth_of (x ∷ classes) zero = refl
nth_of (x ∷ classes) (suc n) = nth_of classes n

objects_next : (signals : List SignalDecl) (classes : List Class) (seen new : List ObjectDecl) → AreNames (map class_name_of classes) → AllBehind IsNewName (map object_of seen) (map object_of new)
    → AllByRecursion (λ (o : ObjectDecl). o.class < length (map class_name_of classes)) new → length seen + length new ≤ 64
    → after_lines (heading signals (map class_name_of classes) seen) (map (object_line classes) new) ≡ Some (heading signals (map class_name_of classes) (seen ++ new))
unfolding with_object_line
objects_next signals classes seen [] are fit places few = ap (λ xs. Some (heading signals (map class_name_of classes) xs)) (sym (append-nil seen))
objects_next signals classes seen (x ∷ new) are fit places few =
    let names = map class_name_of classes in
    let class = nth_name names x.class in
    let here = heading signals names seen in
    let there = heading signals names (seen ++ x ∷ []) in
    let next : after_line here (lines.Object x.name class) ≡ Ok (Some there) =
    rw (lt-ltb (length seen) 64 (omega arith), named_none object_of seen x.name fit.0.new, place_of_name names x.class (names_differ names are) places.0) refl in
    let read : after_bytes here (object_line classes x) ≡ Ok (Some there) =
    ap (λ (t : List ℕ). after_bytes here (codes "object " ++ (x.name ++ (codes " " ++ t)))) (nth_of classes x.class) ∙ next_line here there (lines.Object x.name class) (fit.0.name_is, nth_is_name names x.class are places.0) next in
    one_then here there (heading signals names (seen ++ x ∷ new)) (object_line classes x) (map (object_line classes) new) read
    (objects_next signals classes (seen ++ x ∷ []) new are (names_next object_of seen new x fit.1) places.1 (omega (arith, length-append seen (x ∷ [])))
    ∙ ap (λ xs. Some (heading signals names xs)) (append_assoc seen (x ∷ []) new))

map_count : {X Y : Type 0} (f : X → Y) (xs : List X) → length (map f xs) ≡ length xs
map_count f [] = refl
map_count f (x ∷ xs) = ap suc (map_count f xs)

-- the head is read
pub head_next : (s : Setting) → IsWritten s → after_lines stages.Start (head_lines s) ≡ Some (stages.Heading (head_of s))
head_next s w =
    let names = map class_name_of s.classes in
    let start : after_bytes stages.Start (codes "pssm-flat 1") ≡ Ok (Some (heading [] [] [])) = next_line stages.Start (heading [] [] []) lines.Header tt refl in
    let signals = signals_next [] s.signals w.signal_names w.counts (let few = w.few_signals in omega arith) in
    let classes = classes_next s.signals [] s.classes w.class_names (let few = w.few_classes in omega arith) in
    let places : AllByRecursion (λ (o : ObjectDecl). o.class < length names) s.objects = subst (λ n. AllByRecursion (λ (o : ObjectDecl). o.class < n) s.objects) (sym (map_count class_name_of s.classes)) w.placed in
    let objects = objects_next s.signals s.classes [] s.objects w.class_names w.object_names places (let few = w.few_objects in omega arith) in
    one_then stages.Start (heading [] [] []) (stages.Heading (head_of s)) (codes "pssm-flat 1") _ start
    (many_then (heading [] [] []) (heading s.signals [] []) (stages.Heading (head_of s)) (map signal_line s.signals) _ signals
    (many_then (heading s.signals [] []) (heading s.signals names []) (stages.Heading (head_of s)) (map class_line s.classes) (map (object_line s.classes) s.objects) classes objects))
