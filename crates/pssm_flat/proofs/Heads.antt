-- Lines before the first block: the head that goes on with one has it behind the ones before.
use Rattle.std.proofs.Common.{◌≡◌, ℕ, ◌<◌, ◌≤◌, false, eqb, ltb, not, ◌&&◌, List, [], ◌∷◌, ◌++◌, length, get_or, Option, Some, None, refl, sym, ap, subst, ◌∙◌, append_assoc, arith}
use Rattle.std.specs.Prelude.{map, codes, slice_get, position}
use Rattle.std.specs.Option.{option_map}
use Rattle.std.specs.List.{AllByRecursion}
use Rattle.std.specs.Str.{bytes_eq}
use Rattle.std.proofs.lemmas.Bool.{and_parts, ltb-true}
use Rattle.std.proofs.lemmas.Option.{slice_get-get_or}
use Rattle.std.proofs.lemmas.List.{append-nil, length-append}
use Rattle.std.proofs.lemmas.Slice.Eq.{bytes_eq-Decides}
use Rattle.pssm_semantics.specs.declared.setting.SignalDecl.{SignalDecl}
use Rattle.pssm_semantics.specs.declared.setting.ObjectDecl.{ObjectDecl}
use Rattle.pssm_spelling.specs.Spelling.{IsName}
use Rattle.pssm_acts.proofs.Each.{all_push}
use Rattle.pssm_flat.specs.declared.head.Head.{Head}
use Rattle.pssm_flat.specs.declared.line.Line.{Line}
use Rattle.pssm_flat.specs.declared.line.Line.TheVariants as lines
use Rattle.pssm_flat.specs.Text.{signal_line}
use Rattle.pssm_flat.specs.inner.Lines.{line_text}
use Rattle.pssm_flat.specs.inner.Outlines.{has_name, signal_of, object_of, itself, with_signal_line, with_class_line, placed, with_object_line, with_head_line}
use Rattle.pssm_flat.specs.Flat.{AreNames}
use Rattle.pssm_flat.proofs.Bind.{chosen_some, some_is}
use Rattle.pssm_flat.proofs.Items.{map_push}
use Rattle.pssm_flat.proofs.NameLaws.{names_push, map_itself, position_takes}
use Rattle.pssm_flat.proofs.LineForms.{IsGoodLine}
use Rattle.pssm_flat.proofs.Good.{nth_name, class_part, object_part, head_part, IsGoodHead}
use Rattle.pssm_flat.proofs.Blocks.{empty_from}
use Rattle.pssm_flat.proofs.ElementLines.{not_true_is}

-- the head that goes on has this further line
pub record AddsToHead (h k : Head) (l : List ℕ) : Type 0 where
  pub parts : head_part k ≡ head_part h ++ l ∷ []
  pub good : IsGoodHead k

behind_signals : (m : List ℕ) (s c o : List (List ℕ)) (l : List ℕ) → c ≡ [] → o ≡ [] → m ∷ ((s ++ l ∷ []) ++ (c ++ o)) ≡ (m ∷ (s ++ (c ++ o))) ++ l ∷ []
behind_signals m s c o l p q = rw (p, q) (ap (λ ls. m ∷ ls) (append-nil (s ++ l ∷ []) ∙ ap (λ ls. ls ++ l ∷ []) (sym (append-nil s))))

behind_classes : (m : List ℕ) (s c o : List (List ℕ)) (l : List ℕ) → o ≡ [] → m ∷ (s ++ ((c ++ l ∷ []) ++ o)) ≡ (m ∷ (s ++ (c ++ o))) ++ l ∷ []
behind_classes m s c o l q = rw q (ap (λ ls. m ∷ ls) (ap (λ ls. s ++ ls) (append-nil (c ++ l ∷ [])) ∙ sym (append_assoc s c (l ∷ [])) ∙ ap (λ ls. (s ++ ls) ++ l ∷ []) (sym (append-nil c))))

behind_objects : (m : List ℕ) (s c o : List (List ℕ)) (l : List ℕ) → m ∷ (s ++ (c ++ (o ++ l ∷ []))) ≡ (m ∷ (s ++ (c ++ o))) ++ l ∷ []
behind_objects m s c o l = simp append_assoc

signal_adds : (h k : Head) (name : List ℕ) (count : ℕ) → IsGoodHead h → IsName name → count ≤ 8 → with_signal_line h name count ≡ Some k → AddsToHead h k (line_text (lines.Signal name count))
unfolding with_signal_line
signal_adds h k name count good is few eq =
    let x : SignalDecl = record { name = name; count = count } in
    let made : Head = record h { signals = h.signals ++ x ∷ [] } in
    let found = chosen_some (eqb (length h.classes) 0 && eqb (length h.objects) 0 && ltb (length h.signals) 256 && not (has_name signal_of h.signals name)) (Some made) k eq in
    let tests = and_parts (eqb (length h.classes) 0 && eqb (length h.objects) 0 && ltb (length h.signals) 256) (not (has_name signal_of h.signals name)) found.0 in
    let counts = and_parts (eqb (length h.classes) 0 && eqb (length h.objects) 0) (ltb (length h.signals) 256) tests.0 in
    let empties = and_parts (eqb (length h.classes) 0) (eqb (length h.objects) 0) counts.0 in
    let room : length h.signals < 256 = ltb-true (length h.signals) 256 counts.1 in
    let no_classes : map class_part h.classes ≡ [] = ap (map class_part) (empty_from h.classes empties.0) in
    let no_objects : map (object_part h.classes) h.objects ≡ [] = ap (map (object_part h.classes)) (empty_from h.objects empties.1) in
    let l = signal_line x in
    let kept : IsGoodHead made = record {
      signal_names = names_push signal_of h.signals x good.signal_names is (not_true_is (has_name signal_of h.signals name) tests.1);
      few_signals = omega (arith, room, length-append h.signals (x ∷ []));
      counts = all_push (λ (g : SignalDecl). g.count ≤ 8) h.signals x good.counts few;
      class_names = good.class_names;
      few_classes = good.few_classes;
      object_names = good.object_names;
      few_objects = good.few_objects;
      placed = good.placed;
    } in
    let parts : head_part made ≡ head_part h ++ l ∷ [] =
    ap (λ ss. codes "pssm-flat 1" ∷ (ss ++ (map class_part h.classes ++ map (object_part h.classes) h.objects))) (map_push signal_line h.signals x)
    ∙ behind_signals (codes "pssm-flat 1") (map signal_line h.signals) (map class_part h.classes) (map (object_part h.classes) h.objects) l no_classes no_objects in
    subst (λ (y : Head). AddsToHead h y l) (some_is made k found.1) (record { parts = parts; good = kept })

class_adds : (h k : Head) (name : List ℕ) → IsGoodHead h → IsName name → with_class_line h name ≡ Some k → AddsToHead h k (class_part name)
unfolding with_class_line
class_adds h k name good is eq =
    let made : Head = record h { classes = h.classes ++ name ∷ [] } in
    let found = chosen_some (eqb (length h.objects) 0 && ltb (length h.classes) 64 && not (has_name itself h.classes name)) (Some made) k eq in
    let tests = and_parts (eqb (length h.objects) 0 && ltb (length h.classes) 64) (not (has_name itself h.classes name)) found.0 in
    let counts = and_parts (eqb (length h.objects) 0) (ltb (length h.classes) 64) tests.0 in
    let room : length h.classes < 64 = ltb-true (length h.classes) 64 counts.1 in
    let none = empty_from h.objects counts.0 in
    let no_objects : map (object_part h.classes) h.objects ≡ [] = ap (map (object_part h.classes)) none in
    let still_none : map (object_part (h.classes ++ name ∷ [])) h.objects ≡ [] = ap (map (object_part (h.classes ++ name ∷ []))) none in
    let all : AreNames (map itself (h.classes ++ name ∷ [])) =
    names_push itself h.classes name (subst AreNames (sym (map_itself h.classes)) good.class_names) is (not_true_is (has_name itself h.classes name) tests.1) in
    let kept : IsGoodHead made = record {
      signal_names = good.signal_names;
      few_signals = good.few_signals;
      counts = good.counts;
      class_names = subst AreNames (map_itself (h.classes ++ name ∷ [])) all;
      few_classes = omega (arith, room, length-append h.classes (name ∷ []));
      object_names = good.object_names;
      few_objects = good.few_objects;
      placed = subst (AllByRecursion (λ (o : ObjectDecl). o.class < length (h.classes ++ name ∷ []))) (sym none) tt;
    } in
    let parts : head_part made ≡ head_part h ++ class_part name ∷ [] =
    ap (λ cs. codes "pssm-flat 1" ∷ (map signal_line h.signals ++ (cs ++ map (object_part (h.classes ++ name ∷ [])) h.objects))) (map_push class_part h.classes name)
    ∙ ap (λ os. codes "pssm-flat 1" ∷ (map signal_line h.signals ++ ((map class_part h.classes ++ class_part name ∷ []) ++ os))) (still_none ∙ sym no_objects)
    ∙ behind_classes (codes "pssm-flat 1") (map signal_line h.signals) (map class_part h.classes) (map (object_part h.classes) h.objects) (class_part name) no_objects in
    subst (λ (y : Head). AddsToHead h y (class_part name)) (some_is made k found.1) (record { parts = parts; good = kept })

-- the name at the place of the first such name
pub name_at_place : (names : List (List ℕ)) (n : ℕ) (name : List ℕ) → position (λ c. bytes_eq c name) names ≡ Some n → (nth_name names n ≡ name) × (n < length names)
name_at_place names n name e =
    let place = position_takes (λ c. bytes_eq c name) names n e in
    let at : slice_get names n ≡ Some (get_or names n []) = slice_get-get_or names n [] place.within in
    let is : get_or names n [] ≡ name = (bytes_eq-Decides (get_or names n []) name).0 (place.passes []) in
    (rw at is, place.within)

object_adds : (h k : Head) (name class : List ℕ) → IsGoodHead h → IsName name → with_object_line h name class ≡ Some k → AddsToHead h k (line_text (lines.Object name class))
unfolding with_object_line
object_adds h k name class good is eq =
    let found = chosen_some (ltb (length h.objects) 64 && not (has_name object_of h.objects name)) (option_map (placed h name) (position (λ c. bytes_eq c class) h.classes)) k eq in
    let tests = and_parts (ltb (length h.objects) 64) (not (has_name object_of h.objects name)) found.0 in
    by_class (position (λ c. bytes_eq c class) h.classes) refl found.1 (ltb-true (length h.objects) 64 tests.0) (not_true_is (has_name object_of h.objects name) tests.1) where
      by_class : (o : Option ℕ) → position (λ c. bytes_eq c class) h.classes ≡ o → option_map (placed h name) o ≡ Some k → length h.objects < 64 → has_name object_of h.objects name ≡ false → AddsToHead h k (line_text (lines.Object name class))
      by_class None at eq room new = absurd cc
      by_class (Some n) at eq room new =
          let x : ObjectDecl = record { name = name; class = n } in
          let made : Head = placed h name n in
          let place = name_at_place h.classes n class at in
          let l = line_text (lines.Object name class) in
          let line : object_part h.classes x ≡ l = ap (λ (t : List ℕ). codes "object " ++ (name ++ (codes " " ++ t))) place.0 in
          let kept : IsGoodHead made = record {
            signal_names = good.signal_names;
            few_signals = good.few_signals;
            counts = good.counts;
            class_names = good.class_names;
            few_classes = good.few_classes;
            object_names = names_push object_of h.objects x good.object_names is new;
            few_objects = omega (arith, room, length-append h.objects (x ∷ []));
            placed = all_push (λ (o : ObjectDecl). o.class < length h.classes) h.objects x good.placed place.1;
          } in
          let parts : head_part made ≡ head_part h ++ l ∷ [] =
          ap (λ os. codes "pssm-flat 1" ∷ (map signal_line h.signals ++ (map class_part h.classes ++ os))) (map_push (object_part h.classes) h.objects x ∙ ap (λ t. map (object_part h.classes) h.objects ++ t ∷ []) line)
          ∙ behind_objects (codes "pssm-flat 1") (map signal_line h.signals) (map class_part h.classes) (map (object_part h.classes) h.objects) l in
          subst (λ (y : Head). AddsToHead h y l) (some_is made k eq) (record { parts = parts; good = kept })

pub head_adds : (h k : Head) (l : Line) → IsGoodHead h → IsGoodLine l → with_head_line h l ≡ Some k → AddsToHead h k (line_text l)
head_adds h k (lines.Signal name count) good is eq = signal_adds h k name count good is.0 is.1 eq
head_adds h k (lines.Class name) good is eq = class_adds h k name good is eq
head_adds h k (lines.Object name class) good is eq = object_adds h k name class good is.0 eq
head_adds h k _ good is eq = absurd cc
