-- Marks are names, no two of them alike.
use Rattle.std.proofs.Common.{◌≡◌, ◌≢◌, ℕ, zero, suc, ◌+◌, ◌-◌, ◌≤◌, Bool, true, false, ltb, eqb, ◌&&◌, List, [], ◌∷◌, ◌++◌, length, take, Option, Some, None, refl, sym, ap, ◌∙◌, arith, AllPairs}
use Rattle.std.specs.Prelude.{position, if◌then◌else◌}
use Rattle.std.specs.List.{AllByRecursion, position_or_len, slice_index_or}
use Rattle.std.specs.Str.{bytes_eq}
use Rattle.std.proofs.lemmas.Bool.{ltb-false}
use Rattle.std.proofs.lemmas.List.Quantifiers.{all_pairs_push}
use Rattle.std.proofs.lemmas.Slice.Eq.{bytes_eq-Decides}
use Rattle.pssm_semantics.specs.declared.setting.Names.{Names}
use Rattle.pssm_semantics.specs.declared.tree.Act.{Act}
use Rattle.pssm_semantics.specs.declared.tree.Stmt.{Stmt}
use Rattle.pssm_spelling.specs.Spelling.{IsName}
use Rattle.pssm_semantics.specs.declared.tree.Rel.TheVariants.{Eq, Ne, Le, Ge}
use Rattle.pssm_acts.specs.declared.token.Kind.{Kind}
use Rattle.pssm_acts.specs.declared.token.Kind.TheVariants as kinds
use Rattle.pssm_acts.specs.Tokens.{Token, tokens_of, cut, front, is_blank, ends_operand, double_sign, single_sign}
use Rattle.pssm_acts.specs.Longest.{IsToken, word_token, natural_token, negative_token, parameter_token, double_token, single_token, IsTaken, token, no_token}
use Rattle.pssm_acts.specs.Marks.{grown, with_mark}
use Rattle.pssm_acts.specs.ActGrammar.{SpellsPhrase, assignment, sending, bare_mark, marking, SpellsStmts, nothing, phrase, choice, alternative, SpellsBehaviours, first, step}
use Rattle.pssm_acts.proofs.LongestLaws.{longest_taken}
use Rattle.pssm_acts.proofs.Each.{all_push, all_get}

abbrev Unlike : List ℕ → List ℕ → Type 0
Unlike a b = a ≢ b

-- Marks are names, and differ from one another.
pub record AreMarks (marks : List (List ℕ)) : Type 0 where
  pub names : AllByRecursion IsName marks
  pub differ : AllPairs (λ (a b : List ℕ). a ≢ b) marks

pub no_marks : AreMarks []
no_marks = record { names = tt; differ = λ i j d less lt. absurd (omega arith) }

-- ---- names among tokens

-- what a token of a name holds is one
abbrev NameWords : List Token → Type 0
NameWords [] = Unit {0}
NameWords (t ∷ ts) = (t.kind ≡ kinds.Name → IsName t.word) × NameWords ts

word_parts : (ts us : List Token) → NameWords (ts ++ us) → NameWords ts × NameWords us
word_parts [] us h = (tt, h)
word_parts (t ∷ ts) us h = let rest = word_parts ts us h.1 in ((h.0, rest.0), rest.1)

-- No sign is a name.
no_double : (c d : ℕ) → double_sign c d ≢ Some kinds.Name
no_double c d =
    by_tests (eqb c 38 && eqb d 38) (eqb c 124 && eqb d 124) (eqb c 61 && eqb d 61) (eqb c 33 && eqb d 61) (eqb c 60 && eqb d 61) (eqb c 62 && eqb d 61)
    (eqb c 58 && eqb d 61) where
      by_tests : (b0 b1 b2 b3 b4 b5 b6 : Bool)
          → (if b0 then Some kinds.And else if b1 then Some kinds.Or else if b2 then Some (kinds.Relation Eq)
          else if b3 then Some (kinds.Relation Ne) else if b4 then Some (kinds.Relation Le)
          else if b5 then Some (kinds.Relation Ge) else if b6 then Some kinds.Becomes else None) ≢ Some kinds.Name
      by_tests true b1 b2 b3 b4 b5 b6 e = absurd cc
      by_tests false true b2 b3 b4 b5 b6 e = absurd cc
      by_tests false false true b3 b4 b5 b6 e = absurd cc
      by_tests false false false true b4 b5 b6 e = absurd cc
      by_tests false false false false true b5 b6 e = absurd cc
      by_tests false false false false false true b6 e = absurd cc
      by_tests false false false false false false true e = absurd cc
      by_tests false false false false false false false e = absurd cc

-- whether a sign is that of a name
abbrev is_name_sign : Kind → Bool
is_name_sign kinds.Name = true
is_name_sign kind = false

choice_of : (b : Bool) (x y : Kind) → is_name_sign x ≡ false → is_name_sign y ≡ false → is_name_sign (if b then x else y) ≡ false
choice_of true x y one other = one
choice_of false x y one other = other

no_single : (c : ℕ) → single_sign c ≢ kinds.Name
no_single c e = absurd (let none : is_name_sign (single_sign c) ≡ false = (
    choice_of (eqb c 43) _ _ refl (choice_of (eqb c 45) _ _ refl (choice_of (eqb c 42) _ _ refl (choice_of (eqb c 40) _ _ refl (choice_of (eqb c 41) _ _ refl
    (choice_of (eqb c 91) _ _ refl (choice_of (eqb c 93) _ _ refl (choice_of (eqb c 123) _ _ refl (choice_of (eqb c 125) _ _ refl (choice_of (eqb c 33) _ _ refl
    (choice_of (eqb c 60) _ _ refl (choice_of (eqb c 62) _ _ refl (choice_of (eqb c 59) _ _ refl
    (choice_of (eqb c 44) _ _ refl (choice_of (eqb c 46) _ _ refl refl))))))))))))))) in
    let both : false ≡ true = sym none ∙ ap is_name_sign e in cc)

token_name : {a : Bool} {kind : Kind} {word : List ℕ} → IsToken a kind word → kind ≡ kinds.Name → IsName word
token_name (word_token name) e = name
token_name (natural_token some all) e = absurd cc
token_name (negative_token none some all) e = absurd cc
token_name (parameter_token low high) e = absurd cc
token_name (double_token {c} {d} is) e = absurd (no_double c d (is ∙ ap Some e))
token_name (single_token {c} known) e = absurd (no_single c e)

taken_name : {a : Bool} {bytes : List ℕ} {kind : Kind} {n : ℕ} → IsTaken a bytes kind n → kind ≡ kinds.Name → IsName (take n bytes)
taken_name (token is whole longest) e = token_name is e
taken_name (no_token unknown one longest) e = absurd cc

cut_names : (end : ℕ) (a : Bool) (used : ℕ) (bytes : List ℕ) → NameWords (cut end a used bytes)
unfolding cut
cut_names end a used [] = tt
cut_names end a (suc used) (c ∷ cs) = cut_names end a used cs
cut_names end a zero (c ∷ cs) = go (is_blank c) (cut_names end a zero cs) (cut_names end (ends_operand kind) (size - 1) cs) where
  kind : Kind
  kind = (front a (c ∷ cs)).0

  size : ℕ
  size = (front a (c ∷ cs)).1

  go : (b : Bool) → NameWords (cut end a zero cs) → NameWords (cut end (ends_operand kind) (size - 1) cs)
      → NameWords (if b then cut end a zero cs else record { at = end - length (c ∷ cs); kind = kind; word = take size (c ∷ cs) } ∷ cut end (ends_operand kind) (size - 1) cs)
  go true p q = p
  go false p q = (taken_name (longest_taken a c cs), q)

pub tokens_named : (text : List ℕ) → NameWords (tokens_of text)
tokens_named text = cut_names (length text) false 0 text

-- ---- one more mark

-- Each fails the test.
abbrev pub AllFail : {X : Type 0} → (X → Bool) → List X → Type 0
AllFail {X} p xs = AllByRecursion (λ (x : X). p x ≡ false) xs

pub none_passes : {X : Type 0} (p : X → Bool) (xs : List X) → length xs ≤ position_or_len p xs → AllFail p xs
none_passes p [] le = tt
none_passes {X} p (x ∷ xs) le = by_first (p x) refl le (none_passes p xs) where
  by_first : (t : Bool) → p x ≡ t → length (x ∷ xs) ≤ position_or_len p (x ∷ xs) → (length xs ≤ position_or_len p xs → AllFail p xs) → AllFail p (x ∷ xs)
  by_first true e le more = absurd (let none : position_or_len p (x ∷ xs) ≡ 0 = rw e refl in omega (arith, none, le))
  by_first false e le more =
      let longer : position_or_len p (x ∷ xs) ≡ 1 + position_or_len p xs = rw e refl in
      (e, more (omega (arith, longer, le)))

pub none_found : {X : Type 0} (p : X → Bool) (xs : List X) → position p xs ≡ None → length xs ≤ position_or_len p xs
none_found p xs e = by_below (ltb (position_or_len p xs) (length xs)) refl where
  by_below : (t : Bool) → ltb (position_or_len p xs) (length xs) ≡ t → length xs ≤ position_or_len p xs
  by_below true lt = absurd (
      let some : position p xs ≡ Some (position_or_len p xs) = rw lt refl in
      let both : None ≡ Some (position_or_len p xs) = sym e ∙ some in cc)
  by_below false le = ltb-false (position_or_len p xs) (length xs) le

mark_on : (marks : List (List ℕ)) (name : List ℕ) → AreMarks marks → IsName name → AreMarks (with_mark marks name)
mark_on marks name are is_name = go (position (λ m. bytes_eq m name) marks) refl where
  go : (found : Option ℕ) → position (λ m. bytes_eq m name) marks ≡ found → AreMarks (grown found marks name)
  go (Some k) e = are
  go None e =
      let none = none_passes (λ (m : List ℕ). bytes_eq m name) marks (none_found (λ m. bytes_eq m name) marks e) in
      record {
        names = all_push IsName marks name are.names is_name;
        differ = all_pairs_push Unlike marks name are.differ (λ k d lt same. absurd (
            let not_same : bytes_eq (slice_index_or marks k d) name ≡ false = all_get (λ (m : List ℕ). bytes_eq m name ≡ false) marks k d none lt in
            let is_same = (bytes_eq-Decides (slice_index_or marks k d) name).1 same in
            let both : true ≡ false = sym is_same ∙ not_same in cc));
      }

-- ---- the marks of a behaviour

phrase_marks : {names : Names} {marks noted : List (List ℕ)} {l : ℕ} {ts : List Token} {s : Stmt} → SpellsPhrase names marks l ts s noted
    → NameWords ts → AreMarks marks → AreMarks noted
phrase_marks (assignment semicolon is found assigns spelled ends) h are = are
phrase_marks (sending semicolon is receives dots named found spelled few ends) h are = are
phrase_marks {names} {marks} (bare_mark {l} {mark} {name} is named ends) h are = mark_on marks name.word are (h.1.0 named)
phrase_marks {names} {marks} (marking {l} {mark} {name} semicolon is named spelled few ends) h are = mark_on marks name.word are (h.1.0 named)

pub stmts_marks : {names : Names} {marks noted : List (List ℕ)} {l : ℕ} {ts : List Token} {block : List Stmt} → SpellsStmts names marks l ts block noted
    → NameWords ts → AreMarks marks → AreMarks noted
stmts_marks nothing h are = are
stmts_marks (phrase {l} {ts} {us} before spelled) h are = let parts = word_parts ts us h in phrase_marks spelled parts.1 (stmts_marks before parts.0 are)
stmts_marks (choice {l} {ts} {cs} {us} if' opening closing before is guard opens inner closes) h are =
    let parts = word_parts ts (if' ∷ (cs ++ opening ∷ (us ++ closing ∷ []))) h in
    let condition = word_parts cs (opening ∷ (us ++ closing ∷ [])) parts.1.1 in
    let block' = word_parts us (closing ∷ []) condition.1.1 in
    stmts_marks inner block'.0 (stmts_marks before parts.0 are)
stmts_marks (alternative {l} {ts} {cs} {us} {vs} if' opening closing else' opening' closing' before is guard opens inner closes is' opens' rest closes') h are =
    let behind = else' ∷ opening' ∷ (vs ++ closing' ∷ []) in
    let parts = word_parts ts (if' ∷ (cs ++ opening ∷ (us ++ closing ∷ behind))) h in
    let condition = word_parts cs (opening ∷ (us ++ closing ∷ behind)) parts.1.1 in
    let first' = word_parts us (closing ∷ behind) condition.1.1 in
    let second = word_parts vs (closing' ∷ []) first'.1.1.1.1 in
    stmts_marks rest second.0 (stmts_marks inner first'.0 (stmts_marks before parts.0 are))

pub behaviours_marks : {names : Names} {marks noted : List (List ℕ)} {ts : List Token} {acts : List Act} → SpellsBehaviours names marks ts acts noted
    → NameWords ts → AreMarks marks → AreMarks noted
behaviours_marks (first spelled) h are = stmts_marks spelled.spelled h are
behaviours_marks (step {ts} {us} step' semicolon before is ends spelled) h are =
    let parts = word_parts ts (step' ∷ semicolon ∷ us) h in
    stmts_marks spelled.spelled parts.1.1.1 (behaviours_marks before parts.0 are)
