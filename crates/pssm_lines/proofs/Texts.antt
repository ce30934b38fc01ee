-- Texts of values: what begins one is ended by a sample.
use Rattle.std.proofs.Common.{◌≡◌, ℕ, suc, ◌<◌, List, [], ◌∷◌, ◌++◌, length, refl, sym, ap, ◌∙◌, arith}
use Rattle.std.specs.Prelude.{map}
use Rattle.std.specs.List.{AllByRecursion}
use Rattle.pssm_lines.proofs.Cuts.{Closes, closes_as, Then, closes_then, Row, row_text, closes_row, Rows, closes_rows}
use Rattle.pssm_lines.proofs.Readers.{others_text, AreFew, AreSome, joined_text, joined_parts}

-- The text is that of a sound value.
pub record TextOf {A : Type 0} (Is : A → Type 0) (text : A → List ℕ) (t : List ℕ) : Type 0 where
  pub value : A
  pub is : Is value
  pub spelled : t ≡ text value

-- the value of a text of values in a row
record Values {A : Type 0} (Is : A → Type 0) (text : A → List ℕ) (before : ℕ) (texts : List (List ℕ)) : Type 0 where
  values : List A
  count : length values ≡ length texts
  all : AllByRecursion Is values
  parts : row_text before texts ≡ others_text before text values

values_of : {A : Type 0} (Is : A → Type 0) (text : A → List ℕ) (before : ℕ) (texts : List (List ℕ)) → AllByRecursion (TextOf Is text) texts → Values Is text before texts
values_of Is text before [] all = record { values = []; count = refl; all = tt; parts = refl }
values_of Is text before (t ∷ texts) all =
    let others = values_of Is text before texts all.1 in
    record {
      values = all.0.value ∷ others.values;
      count = omega (arith, others.count);
      all = (all.0.is, others.all);
      parts = ap (λ (u : List ℕ). before ∷ u) (ap (λ (u : List ℕ). u ++ row_text before texts) all.0.spelled ∙ ap (λ (u : List ℕ). text all.0.value ++ u) others.parts);
    }

texts_of : {A : Type 0} (Is : A → Type 0) (text : A → List ℕ) (xs : List A) → AllByRecursion Is xs → AllByRecursion (TextOf Is text) (map text xs)
texts_of Is text [] all = tt
texts_of Is text (x ∷ xs) all = (record { value = x; is = all.0; spelled = refl }, texts_of Is text xs all.1)

map_row : {A : Type 0} (text : A → List ℕ) (before : ℕ) (xs : List A) → row_text before (map text xs) ≡ others_text before text xs
map_row text before [] = refl
map_row text before (x ∷ xs) = ap (λ (u : List ℕ). before ∷ (text x ++ u)) (map_row text before xs)

map_count : {A : Type 0} (text : A → List ℕ) (xs : List A) → length (map text xs) ≡ length xs
map_count text [] = refl
map_count text (x ∷ xs) = let more = map_count text xs in omega arith

to_few : {A : Type 0} (Is : A → Type 0) (text : A → List ℕ) (before most : ℕ) (t : List ℕ) → Row before (TextOf Is text) most t → TextOf (AreFew most Is) (others_text before text) t
to_few Is text before most t row =
    let v = values_of Is text before row.texts row.all in
    record { value = v.values; is = (omega (arith, row.few, v.count), v.all); spelled = row.parts ∙ v.parts }

from_few : {A : Type 0} (Is : A → Type 0) (text : A → List ℕ) (before most : ℕ) (t : List ℕ) → TextOf (AreFew most Is) (others_text before text) t → Row before (TextOf Is text) most t
from_few Is text before most t of = record { texts = map text of.value; few = omega (arith, map_count text of.value, of.is.0); all = texts_of Is text of.value of.is.1; parts = of.spelled ∙ sym (map_row text before of.value) }

-- at most so many values, each with a byte before it
pub closes_few : {A : Type 0} (Is : A → Type 0) (text : A → List ℕ) (before most : ℕ) (sample : List ℕ) → Closes (TextOf Is text) sample → Closes (TextOf (AreFew (suc most) Is) (others_text before text)) (before ∷ sample)
closes_few Is text before most sample closes =
    closes_as (Row before (TextOf Is text) (suc most)) (TextOf (AreFew (suc most) Is) (others_text before text)) (before ∷ sample)
    (to_few Is text before (suc most)) (from_few Is text before (suc most)) (closes_row before (TextOf Is text) most sample closes)

to_all : {A : Type 0} (Is : A → Type 0) (text : A → List ℕ) (before : ℕ) (t : List ℕ) → Rows before (TextOf Is text) t → TextOf (AllByRecursion Is) (others_text before text) t
to_all Is text before t row =
    let v = values_of Is text before row.texts row.all in
    record { value = v.values; is = v.all; spelled = row.parts ∙ v.parts }

from_all : {A : Type 0} (Is : A → Type 0) (text : A → List ℕ) (before : ℕ) (t : List ℕ) → TextOf (AllByRecursion Is) (others_text before text) t → Rows before (TextOf Is text) t
from_all Is text before t of = record { texts = map text of.value; all = texts_of Is text of.value of.is; parts = of.spelled ∙ sym (map_row text before of.value) }

-- any number of values, each with a byte before it
pub closes_all : {A : Type 0} (Is : A → Type 0) (text : A → List ℕ) (before : ℕ) (sample : List ℕ) → Closes (TextOf Is text) sample → Closes (TextOf (AllByRecursion Is) (others_text before text)) (before ∷ sample)
closes_all Is text before sample closes =
    closes_as (Rows before (TextOf Is text)) (TextOf (AllByRecursion Is) (others_text before text)) (before ∷ sample)
    (to_all Is text before) (from_all Is text before) (closes_rows before (TextOf Is text) sample closes)

-- ---- values with a byte between two

to_some : {A : Type 0} (Is : A → Type 0) (text : A → List ℕ) (between most : ℕ) (t : List ℕ) → Then (TextOf Is text) (TextOf (AreFew most Is) (others_text between text)) t → TextOf (AreSome most Is) (joined_text between text) t
to_some Is text between most t of =
    let x = of.is_first in
    let xs = of.is_second in
    record {
      value = x.value ∷ xs.value;
      is = (omega arith, omega (arith, xs.is.0), (x.is, xs.is.1));
      spelled = of.parts ∙ ap (λ (u : List ℕ). u ++ of.second) x.spelled ∙ ap (λ (u : List ℕ). text x.value ++ u) xs.spelled ∙ sym (joined_parts between text x.value xs.value);
    }

from_some : {A : Type 0} (Is : A → Type 0) (text : A → List ℕ) (between most : ℕ) (t : List ℕ) → TextOf (AreSome most Is) (joined_text between text) t → Then (TextOf Is text) (TextOf (AreFew most Is) (others_text between text)) t
from_some {A = A} Is text between most t of = by_values of.value of.is of.spelled where
  by_values : (xs : List A) → AreSome most Is xs → t ≡ joined_text between text xs → Then (TextOf Is text) (TextOf (AreFew most Is) (others_text between text)) t
  by_values [] are spelled = absurd (omega (arith, are.0))
  by_values (x ∷ xs) are spelled = record {
    first = text x;
    second = others_text between text xs;
    parts = spelled ∙ joined_parts between text x xs;
    is_first = record { value = x; is = are.2.0; spelled = refl };
    is_second = record { value = xs; is = (omega (arith, are.1), are.2.1); spelled = refl };
  }

pub closes_some : {A : Type 0} (Is : A → Type 0) (text : A → List ℕ) (between most : ℕ) (sample : List ℕ) → Closes (TextOf Is text) sample → Closes (TextOf (AreSome (suc most) Is) (joined_text between text)) (sample ++ (between ∷ sample))
closes_some Is text between most sample closes =
    closes_as (Then (TextOf Is text) (TextOf (AreFew (suc most) Is) (others_text between text))) (TextOf (AreSome (suc most) Is) (joined_text between text)) (sample ++ (between ∷ sample))
    (to_some Is text between (suc most)) (from_some Is text between (suc most))
    (closes_then (TextOf Is text) (TextOf (AreFew (suc most) Is) (others_text between text)) sample (between ∷ sample) closes (closes_few Is text between most sample closes))

-- some values, and all of them sound
abbrev pub AreAny : {A : Type 0} → (A → Type 0) → List A → Type 0
AreAny Is xs = (0 < length xs) × AllByRecursion Is xs

to_any : {A : Type 0} (Is : A → Type 0) (text : A → List ℕ) (between : ℕ) (t : List ℕ) → Then (TextOf Is text) (TextOf (AllByRecursion Is) (others_text between text)) t → TextOf (AreAny Is) (joined_text between text) t
to_any Is text between t of =
    let x = of.is_first in
    let xs = of.is_second in
    record {
      value = x.value ∷ xs.value;
      is = (omega arith, (x.is, xs.is));
      spelled = of.parts ∙ ap (λ (u : List ℕ). u ++ of.second) x.spelled ∙ ap (λ (u : List ℕ). text x.value ++ u) xs.spelled ∙ sym (joined_parts between text x.value xs.value);
    }

from_any : {A : Type 0} (Is : A → Type 0) (text : A → List ℕ) (between : ℕ) (t : List ℕ) → TextOf (AreAny Is) (joined_text between text) t → Then (TextOf Is text) (TextOf (AllByRecursion Is) (others_text between text)) t
from_any {A = A} Is text between t of = by_values of.value of.is of.spelled where
  by_values : (xs : List A) → AreAny Is xs → t ≡ joined_text between text xs → Then (TextOf Is text) (TextOf (AllByRecursion Is) (others_text between text)) t
  by_values [] are spelled = absurd (omega (arith, are.0))
  by_values (x ∷ xs) are spelled = record {
    first = text x;
    second = others_text between text xs;
    parts = spelled ∙ joined_parts between text x xs;
    is_first = record { value = x; is = are.1.0; spelled = refl };
    is_second = record { value = xs; is = are.1.1; spelled = refl };
  }

pub closes_any : {A : Type 0} (Is : A → Type 0) (text : A → List ℕ) (between : ℕ) (sample : List ℕ) → Closes (TextOf Is text) sample → Closes (TextOf (AreAny Is) (joined_text between text)) (sample ++ (between ∷ sample))
closes_any Is text between sample closes =
    closes_as (Then (TextOf Is text) (TextOf (AllByRecursion Is) (others_text between text))) (TextOf (AreAny Is) (joined_text between text)) (sample ++ (between ∷ sample))
    (to_any Is text between) (from_any Is text between)
    (closes_then (TextOf Is text) (TextOf (AllByRecursion Is) (others_text between text)) sample (between ∷ sample) closes (closes_all Is text between sample closes))
