-- Names, no two of them alike, and lists of signals in strictly ascending number.
use Rattle.std.proofs.Common.{◌≡◌, ◌≢◌, ℕ, ◌+◌, ◌-◌, ◌<◌, ◌≤◌, Bool, true, false, not, ltb, List, [], ◌∷◌, ◌++◌, length, get_or, drop, Option, Some, None, refl, sym, ap, subst, ◌∙◌, append_assoc, arith}
use Rattle.std.specs.Prelude.{position, AllPairs, map, slice_get, zero, suc}
use Rattle.std.specs.Option.{option_map}
use Rattle.std.specs.List.{AllByRecursion, position_or_len}
use Rattle.std.specs.Str.{bytes_eq}
use Rattle.std.proofs.lemmas.Bool.{lt-ltb, ltb-true}
use Rattle.std.proofs.lemmas.Option.{cond_some, slice_get-get_or}
use Rattle.std.proofs.lemmas.List.{append-nil, get_or-drop, length-drop, get_or-map, length-map}
use Rattle.std.proofs.lemmas.List.Sums.{prefix_len_is, prefix_len_stops}
use Rattle.std.proofs.lemmas.List.Quantifiers.{all_pairs_push}
use Rattle.std.proofs.lemmas.Slice.Eq.{bytes_eq-Decides}
use Rattle.pssm_model.specs.declared.ids.SignalId.{SignalId}
use Rattle.pssm_semantics.specs.declared.setting.SignalDecl.{SignalDecl}
use Rattle.pssm_spelling.specs.Spelling.{IsName}
use Rattle.pssm_acts.proofs.Each.{all_get}
use Rattle.pssm_flat.specs.Text.{signal_name}
use Rattle.pssm_flat.specs.Flat.{AllBehind, IsNewName, AreNames, next_number, IsNextSignal}
use Rattle.pssm_flat.specs.inner.Outlines.{has_name, itself, signal_of, number_from, with_signal}
use Rattle.pssm_flat.proofs.Bind.{some_is}
use Rattle.pssm_flat.proofs.Items.{fit_push, map_push}

pub false_from : (t : Bool) → (t ≡ true → ⊥) → t ≡ false
false_from true h = absurd (h refl)
false_from false h = refl

pub apart : (t : Bool) → t ≡ true → t ≡ false → ⊥
apart t is is_not = absurd (let e : true ≡ false = sym is ∙ is_not in cc)

-- ---- a new name

-- No item has the name.
pub none_named : {X : Type 0} (named : X → List ℕ) (xs : List X) (name : List ℕ) → has_name named xs name ≡ false → AllByRecursion (λ (other : List ℕ). other ≢ name) (map named xs)
none_named named [] name e = tt
none_named named (x ∷ xs) name e = by_first (bytes_eq (named x) name) refl (none_named named xs name) where
  by_first : (t : Bool) → bytes_eq (named x) name ≡ t → (has_name named xs name ≡ false → AllByRecursion (λ (other : List ℕ). other ≢ name) (map named xs)) → AllByRecursion (λ (other : List ℕ). other ≢ name) (map named (x ∷ xs))
  by_first true same rest = absurd (let whole : has_name named (x ∷ xs) name ≡ true = rw same refl in apart (has_name named (x ∷ xs) name) whole e)
  by_first false other rest =
      let more : has_name named xs name ≡ false = (let whole : has_name named (x ∷ xs) name ≡ has_name named xs name = rw other refl in sym whole ∙ e) in
      (λ same. apart (bytes_eq (named x) name) ((bytes_eq-Decides (named x) name).1 same) other, rest more)

pub named_none : {X : Type 0} (named : X → List ℕ) (xs : List X) (name : List ℕ) → AllByRecursion (λ (other : List ℕ). other ≢ name) (map named xs) → has_name named xs name ≡ false
named_none named [] name all = refl
named_none named (x ∷ xs) name all =
    let other : bytes_eq (named x) name ≡ false = false_from (bytes_eq (named x) name) (λ e. all.0 ((bytes_eq-Decides (named x) name).0 e)) in
    rw (other, named_none named xs name all.1) refl

pub map_itself : (names : List (List ℕ)) → map itself names ≡ names
map_itself [] = refl
map_itself (n ∷ names) = ap (λ t. n ∷ t) (map_itself names)

-- one more name that none has
pub names_push : {X : Type 0} (named : X → List ℕ) (xs : List X) (x : X) → AreNames (map named xs) → IsName (named x) → has_name named xs (named x) ≡ false → AreNames (map named (xs ++ x ∷ []))
names_push named xs x are is new =
    subst AreNames (sym (map_push named xs x)) (fit_push IsNewName [] (map named xs) (named x) are (record { name_is = is; new = none_named named xs (named x) new }))

-- ---- a place in a list

pub record IsPlace {X : Type 0} (p : X → Bool) (xs : List X) (k : ℕ) : Type 0 where
  pub within : k < length xs
  pub passes : (d : X) → p (get_or xs k d) ≡ true

not_false : (t : Bool) → not t ≡ false → t ≡ true
not_false true e = refl
not_false false e = absurd cc

pub position_takes : {X : Type 0} (p : X → Bool) (xs : List X) (k : ℕ) → position p xs ≡ Some k → IsPlace p xs k
position_takes p xs k e =
    let t = cond_some (ltb (position_or_len p xs) (length xs)) (position_or_len p xs) k e in
    let lt : position_or_len p xs < length xs = ltb-true (position_or_len p xs) (length xs) t.0 in
    subst (λ n. IsPlace p xs n) t.1 (record { within = lt; passes = λ d. not_false (p (get_or xs (position_or_len p xs) d)) (prefix_len_stops (λ x. not (p x)) xs d lt) })

pub position_again : {X : Type 0} (p : X → Bool) (xs : List X) (k : ℕ) (d : X) → k < length xs → p (get_or xs k d) ≡ true → ((j : ℕ) → j < k → p (get_or xs j d) ≡ false) → position p xs ≡ Some k
position_again p xs k d lt here before =
    let n : position_or_len p xs ≡ k = prefix_len_is (λ x. not (p x)) xs k d (omega arith) (λ j less. ap not (before j less)) (λ _. ap not here) in
    rw (n, lt-ltb k (length xs) lt) refl

-- ---- names that differ pairwise

abbrev pub Unlike : List ℕ → List ℕ → Type 0
Unlike a b = a ≢ b

behind_differ : (seen new : List (List ℕ)) → AllPairs Unlike seen → AllBehind IsNewName seen new → AllPairs Unlike (seen ++ new)
behind_differ seen [] differ fit = subst (λ xs. AllPairs Unlike xs) (sym (append-nil seen)) differ
behind_differ seen (x ∷ new) differ fit =
    subst (λ xs. AllPairs Unlike xs) (append_assoc seen (x ∷ []) new)
    (behind_differ (seen ++ x ∷ []) new (all_pairs_push Unlike seen x differ (λ k d lt. all_get (λ (other : List ℕ). other ≢ x) seen k d fit.0.new lt)) fit.1)

pub names_differ : (names : List (List ℕ)) → AreNames names → AllPairs Unlike names
names_differ names are = behind_differ [] names (λ i j d less lt. absurd (omega arith)) are

-- names of two signals differ
abbrev pub Differ : SignalDecl → SignalDecl → Type 0
Differ a b = a.name ≢ b.name

pub signals_differ : (signals : List SignalDecl) → AreNames (map signal_of signals) → AllPairs Differ signals
signals_differ signals are i j d less lt same =
    names_differ (map signal_of signals) are i j d.name less (omega (arith, lt, length-map signals signal_of))
    (get_or-map signal_of signals i d d.name (omega (arith, less, lt)) ∙ same ∙ sym (get_or-map signal_of signals j d d.name lt))

behind_named : (seen new : List (List ℕ)) → AllBehind IsNewName seen new → AllByRecursion IsName new
behind_named seen [] fit = tt
behind_named seen (x ∷ new) fit = (fit.0.name_is, behind_named (seen ++ x ∷ []) new fit.1)

pub names_are : (names : List (List ℕ)) → AreNames names → AllByRecursion IsName names
names_are names are = behind_named [] names are

-- the name with a number is one
pub name_named : {X : Type 0} (named : X → List ℕ) (xs : List X) (n : ℕ) (x : X) → AllByRecursion IsName (map named xs) → slice_get xs n ≡ Some x → IsName (named x)
name_named named [] zero x all e = absurd cc
name_named named [] (suc n) x all e = absurd cc
name_named named (y ∷ xs) zero x all e = let same : y ≡ x = cc in subst (λ z. IsName (named z)) same all.0
name_named named (y ∷ xs) (suc n) x all e = name_named named xs n x all.1 e

-- ---- a signal by its name

pub name_of_place : (signals : List SignalDecl) (g : SignalId) (d : SignalDecl) → g.0 < length signals → signal_name signals g ≡ (get_or signals g.0 d).name
name_of_place signals g d lt = rw (slice_get-get_or signals g.0 d lt) refl

pub record IsNumberOf (signals : List SignalDecl) (from : ℕ) (name : List ℕ) (g : ℕ) : Type 0 where
  pub later : from ≤ g
  pub known : g < length signals
  pub name_is : signal_name signals (record { 0 = g }) ≡ name

mapped : (o : Option ℕ) (from g : ℕ) → option_map (λ k. k + from) o ≡ Some g → (k : ℕ) × (o ≡ Some k) × (k + from ≡ g)
mapped None from g e = absurd cc
mapped (Some k) from g e = (k, refl, cc)

pub number_from_takes : (signals : List SignalDecl) (from : ℕ) (name : List ℕ) (g : ℕ) → number_from signals from name ≡ Some g → IsNumberOf signals from name g
number_from_takes [] from name g e =
    let m = mapped (position (λ s. bytes_eq s.name name) (drop from [])) from g e in
    let place = position_takes (λ s. bytes_eq s.name name) (drop from []) m.0 m.1 in
    let within = place.within in
    absurd (omega (arith, length-drop from (let none : List SignalDecl = [] in none)))
number_from_takes (d ∷ signals) from name g e =
    let p : SignalDecl → Bool = λ s. bytes_eq s.name name in
    let all : List SignalDecl = d ∷ signals in
    let m = mapped (position p (drop from all)) from g e in
    let place = position_takes p (drop from all) m.0 m.1 in
    let within = place.within in
    let sum : m.0 + from ≡ g = m.2 in
    let known : g < length all = omega (arith, length-drop from all) in
    let at_g : get_or (drop from all) m.0 d ≡ get_or all g d = get_or-drop from all m.0 d ∙ ap (λ i. get_or all i d) (omega arith) in
    let named : (get_or all g d).name ≡ name = (bytes_eq-Decides (get_or all g d).name name).0 (rw at_g at (place.passes d)) in
    record { later = omega arith; known = known; name_is = name_of_place all (record { 0 = g }) d known ∙ named }

pub number_from_again : (signals : List SignalDecl) (from : ℕ) (g : SignalId) → AllPairs Differ signals → from ≤ g.0 → g.0 < length signals → number_from signals from (signal_name signals g) ≡ Some g.0
number_from_again [] from g differ le lt = absurd (omega arith)
number_from_again (d ∷ signals) from g differ le lt =
    let all : List SignalDecl = d ∷ signals in
    let name = signal_name all g in
    let p : SignalDecl → Bool = λ s. bytes_eq s.name name in
    let named : name ≡ (get_or all g.0 d).name = name_of_place all g d lt in
    let at : (j : ℕ) → get_or (drop from all) j d ≡ get_or all (from + j) d = λ j. get_or-drop from all j d in
    let back : from + (g.0 - from) ≡ g.0 = omega arith in
    let here : p (get_or (drop from all) (g.0 - from) d) ≡ true =
    (bytes_eq-Decides (get_or (drop from all) (g.0 - from) d).name name).1 (ap (λ (s : SignalDecl). s.name) (at (g.0 - from) ∙ ap (λ i. get_or all i d) back) ∙ sym named) in
    let before : (j : ℕ) → j < g.0 - from → p (get_or (drop from all) j d) ≡ false = λ j less.
    let differs : (get_or all (from + j) d).name ≢ (get_or all g.0 d).name = differ (from + j) g.0 d (omega arith) lt in
    false_from (p (get_or (drop from all) j d)) (λ same. differs (ap (λ (s : SignalDecl). s.name) (sym (at j)) ∙ (bytes_eq-Decides (get_or (drop from all) j d).name name).0 same ∙ named)) in
    let place : position p (drop from all) ≡ Some (g.0 - from) = position_again p (drop from all) (g.0 - from) d (omega (arith, length-drop from all)) here before in
    let sum : (g.0 - from) + from ≡ g.0 = omega arith in
    rw place (ap Some sum)

-- ---- one more signal by its name

-- what a line names behind the ones before
pub record IsMoreSignal (signals : List SignalDecl) (seen : List SignalId) (name : List ℕ) (new : List SignalId) : Type 0 where
  pub signal : SignalId
  pub new_is : new ≡ seen ++ signal ∷ []
  pub name_is : signal_name signals signal ≡ name
  pub fits : IsNextSignal (length signals) seen signal

pub with_signal_takes : (signals : List SignalDecl) (seen : List SignalId) (name : List ℕ) (new : List SignalId) → with_signal signals seen name ≡ Some new → IsMoreSignal signals seen name new
unfolding with_signal
with_signal_takes signals seen name new e = by_number (number_from signals (next_number seen) name) refl e where
  by_number : (o : Option ℕ) → number_from signals (next_number seen) name ≡ o → option_map (λ g. let y : List SignalId = seen ++ record { 0 = g } ∷ [] in y) o ≡ Some new → IsMoreSignal signals seen name new
  by_number None at_g e = absurd cc
  by_number (Some g) at_g e =
      let found = number_from_takes signals (next_number seen) name g at_g in
      record { signal = record { 0 = g }; new_is = sym (some_is (seen ++ record { 0 = g } ∷ []) new e); name_is = found.name_is; fits = record { above = found.later; known = found.known } }

pub with_signal_again : (signals : List SignalDecl) (seen : List SignalId) (g : SignalId) → AllPairs Differ signals → IsNextSignal (length signals) seen g → with_signal signals seen (signal_name signals g) ≡ Some (seen ++ g ∷ [])
unfolding with_signal
with_signal_again signals seen g differ fits = rw (number_from_again signals (next_number seen) g differ fits.above fits.known) refl

-- the name of a signal that there is
pub known_name : (signals : List SignalDecl) (g : SignalId) → AreNames (map signal_of signals) → g.0 < length signals → IsName (signal_name signals g)
known_name [] g are lt = absurd (omega arith)
known_name (d ∷ signals) g are lt =
    let all : List SignalDecl = d ∷ signals in
    let at : slice_get all g.0 ≡ Some (get_or all g.0 d) = slice_get-get_or all g.0 d lt in
    subst IsName (sym (name_of_place all g d lt)) (name_named signal_of all g.0 (get_or all g.0 d) (names_are (map signal_of all) are) at)
