-- Names, blanks and words at the front of a text: what is taken is spelled so, and what is spelled so is taken.
use Rattle.std.proofs.Common.{◌≡◌, ◌≢◌, inl, inr, ℕ, suc, ◌+◌, Bool, true, false, cond, eqb, ◌||◌, List, [], ◌∷◌, ◌++◌, take, drop, Option, Some, None, refl, sym, ◌∙◌, ap, subst, arith, append_assoc}
use Rattle.std.specs.Prelude.{option_map, option_and_then, ◌==◌}
use Rattle.std.specs.List.{prefix_len, list_all}
use Rattle.std.proofs.Math.Seq.{take-append_seam, drop-append_seam}
use Rattle.std.proofs.lemmas.List.{take-append-drop, append-nil}
use Rattle.std.proofs.lemmas.Bool.{and_parts, and_from, or_cases, eq-eqb, eqb-true, not_from_true, cond-true}
use Rattle.pssm_spelling.specs.SpellingReading.{stripped, EndsRun}
use Rattle.pssm_spelling.proofs.SpellingLaws.{stripped_takes, stripped_again, passes_front, front_again}
use Rattle.pssm_xml.specs.Characters.{is_blank, AreBlanks, HasNo}
use Rattle.pssm_xml.specs.Pieces.{begins_tag_name, continues_tag_name, IsTagName}
use Rattle.pssm_xml.specs.inner.Reading.{past_blanks, begins_with, tag_name_taken, is_other, split_byte, with_first, until_here, until}

-- ---- steps that gave a value

pub then_some : {A B P : Type 0} (f : A → Option B) (o : Option A) (y : B) → option_and_then f o ≡ Some y → ((x : A) → o ≡ Some x → f x ≡ Some y → P) → P
then_some f None y e k = absurd cc
then_some f (Some x) y e k = k x refl e

pub map_some : {A B P : Type 0} (f : A → B) (o : Option A) (y : B) → option_map f o ≡ Some y → ((x : A) → o ≡ Some x → f x ≡ y → P) → P
map_some f None y e k = absurd cc
map_some f (Some x) y e k = k x refl (let same : f x ≡ y = cc in same)

pub test_some : {A : Type 0} (b : Bool) (o : Option A) (y : A) → cond b o None ≡ Some y → (b ≡ true) × (o ≡ Some y)
test_some true o y e = (refl, e)
test_some false o y e = absurd cc

pub some_same : {A : Type 0} (x y : A) → Some x ≡ Some y → x ≡ y
some_same x y e = cc

-- two numbers that are not equal
pub clash : {P : Type 0} (a b : ℕ) → eqb a b ≡ false → a ≡ b → P
clash a b other same = let equal : eqb a b ≡ true = eq-eqb a b same in absurd cc

-- ---- blanks

pub blanks_again : (blanks rest : List ℕ) → AreBlanks blanks → EndsRun is_blank rest → past_blanks (blanks ++ rest) ≡ rest
unfolding past_blanks
blanks_again blanks rest are ends = ap (λ n. drop n (blanks ++ rest)) (front_again is_blank blanks rest are ends) ∙ drop-append_seam blanks rest

pub blanks_taken : (bytes : List ℕ) → (blanks : List ℕ) × (bytes ≡ blanks ++ past_blanks bytes) × AreBlanks blanks
unfolding past_blanks
blanks_taken bytes = (take (prefix_len is_blank bytes) bytes, sym (take-append-drop (prefix_len is_blank bytes) bytes), passes_front is_blank bytes)

-- at least one
pub some_blanks : (bytes : List ℕ) → begins_with is_blank bytes ≡ true → (blanks : List ℕ) × (bytes ≡ blanks ++ past_blanks bytes) × AreBlanks blanks × (blanks ≢ [])
unfolding past_blanks
some_blanks [] e = absurd cc
some_blanks (c ∷ cs) e =
    let n : prefix_len is_blank (c ∷ cs) ≡ suc (prefix_len is_blank cs) = cond-true (is_blank c) (1 + prefix_len is_blank cs) 0 e ∙ omega arith in
    let some : take (prefix_len is_blank (c ∷ cs)) (c ∷ cs) ≢ [] = λ none. let x : c ∷ take (prefix_len is_blank cs) cs ≡ [] = ap (λ k. take k (c ∷ cs)) (sym n) ∙ none in absurd cc in
    (take (prefix_len is_blank (c ∷ cs)) (c ∷ cs), sym (take-append-drop (prefix_len is_blank (c ∷ cs)) (c ∷ cs)), passes_front is_blank (c ∷ cs), some)

pub begins_blank : (blanks rest : List ℕ) → AreBlanks blanks → blanks ≢ [] → begins_with is_blank (blanks ++ rest) ≡ true
begins_blank [] rest are some = absurd (some refl)
begins_blank (c ∷ cs) rest are some = (and_parts (is_blank c) (list_all is_blank cs) are).0

-- ---- names

goes_on : (c : ℕ) → begins_tag_name c ≡ true → continues_tag_name c ≡ true
goes_on c e = rw e refl

name_goes_on : (name : List ℕ) → IsTagName name → list_all continues_tag_name name ≡ true
name_goes_on [] e = refl
name_goes_on (c ∷ cs) e =
    let both = and_parts (begins_tag_name c) (list_all continues_tag_name cs) e in
    and_from (continues_tag_name c) (list_all continues_tag_name cs) (goes_on c both.0) both.1

pub name_begins : (name rest : List ℕ) → IsTagName name → begins_with begins_tag_name (name ++ rest) ≡ true
name_begins [] rest e = absurd cc
name_begins (c ∷ cs) rest e = (and_parts (begins_tag_name c) (list_all continues_tag_name cs) e).0

pub name_again : (name rest : List ℕ) → IsTagName name → EndsRun continues_tag_name rest → tag_name_taken (name ++ rest) ≡ Some (name, rest)
unfolding tag_name_taken
name_again name rest is ends =
    let n = front_again continues_tag_name name rest (name_goes_on name is) ends in
    rw (n, name_begins name rest is, take-append_seam name rest, drop-append_seam name rest) refl

name_from : (bytes : List ℕ) → begins_with begins_tag_name bytes ≡ true → IsTagName (take (prefix_len continues_tag_name bytes) bytes)
name_from [] e = absurd cc
name_from (c ∷ bytes) e =
    let n : cond (continues_tag_name c) (1 + prefix_len continues_tag_name bytes) 0 ≡ suc (prefix_len continues_tag_name bytes) =
    cond-true (continues_tag_name c) (1 + prefix_len continues_tag_name bytes) 0 (goes_on c e) ∙ omega arith in
    rw n (and_from (begins_tag_name c) (list_all continues_tag_name (take (prefix_len continues_tag_name bytes) bytes)) e (passes_front continues_tag_name bytes))

pub name_takes : (bytes name rest : List ℕ) → tag_name_taken bytes ≡ Some (name, rest) → (bytes ≡ name ++ rest) × IsTagName name
unfolding tag_name_taken
name_takes bytes name rest e =
    let n = prefix_len continues_tag_name bytes in
    let took = test_some (begins_with begins_tag_name bytes) (Some (take n bytes, drop n bytes)) (name, rest) e in
    let whole : (bytes ≡ take n bytes ++ drop n bytes) × IsTagName (take n bytes) = (sym (take-append-drop n bytes), name_from bytes took.0) in
    let same : (let x : List ℕ × List ℕ = (take n bytes, drop n bytes) in x) ≡ (name, rest) = let t = took.1 in cc in
    subst (λ (x : List ℕ × List ℕ). (bytes ≡ x.0 ++ x.1) × IsTagName x.0) same whole

-- what a blank is
pub blank_is : (c : ℕ) → is_blank c ≡ true → (P : ℕ → Type 0) → P 32 → P 9 → P 13 → P 10 → P c
blank_is c e P space tab return feed =
    let is : (k : ℕ) → P k → eqb c k ≡ true → P c = λ k p t. subst P (sym (eqb-true c k t)) p in
    elim (or_cases ((c == 32) || (c == 9) || (c == 13)) (c == 10) e) [
      | inl three ↦ elim (or_cases ((c == 32) || (c == 9)) (c == 13) three) [
        | inl two ↦ elim (or_cases (c == 32) (c == 9) two) [ inl one ↦ is 32 space one | inr one ↦ is 9 tab one ]
        | inr one ↦ is 13 return one
      ]
      | inr one ↦ is 10 feed one
    ]

-- A name begins with no blank.
pub no_blank_name : (c : ℕ) → begins_tag_name c ≡ true → is_blank c ≡ false
no_blank_name c e = by_test (is_blank c) refl where
  by_test : (b : Bool) → is_blank c ≡ b → is_blank c ≡ false
  by_test false h = h
  by_test true h = absurd (blank_is c h (λ k. begins_tag_name k ≡ true → ⊥) (λ w. absurd cc) (λ w. absurd cc) (λ w. absurd cc) (λ w. absurd cc) e)

-- ---- up to a byte

pub byte_again : (b : ℕ) (front more : List ℕ) → list_all (is_other b) front ≡ true → split_byte b (front ++ b ∷ more) ≡ Some (front, more)
unfolding split_byte
byte_again b front more others =
    let ends : is_other b b ≡ false = not_from_true (eqb b b) (eq-eqb b b refl) in
    let n = front_again (is_other b) front (b ∷ more) others ends in
    rw (n, take-append_seam front (b ∷ more), drop-append_seam front (b ∷ more)) (ap (option_map (λ (rest : List ℕ). (front, rest))) (stripped_again (b ∷ []) more))

pub byte_takes : (b : ℕ) (bytes front more : List ℕ) → split_byte b bytes ≡ Some (front, more) → bytes ≡ front ++ b ∷ more
unfolding split_byte
byte_takes b bytes front more e =
    let n = prefix_len (is_other b) bytes in
    map_some (λ (rest : List ℕ). let x : List ℕ × List ℕ = (take n bytes, rest) in x) (stripped (b ∷ []) (drop n bytes)) (front, more) e
    (λ rest found same.
    let parts : drop n bytes ≡ b ∷ rest = stripped_takes (b ∷ []) (drop n bytes) rest found in
    let whole : bytes ≡ take n bytes ++ b ∷ rest = sym (take-append-drop n bytes) ∙ ap (λ t. take n bytes ++ t) parts in
    subst (λ (x : List ℕ × List ℕ). bytes ≡ x.0 ++ b ∷ x.1) same whole)

-- ---- up to a word

-- The word begins at no place before the end of the front, where this follows.
abbrev pub NoneBefore : List ℕ → List ℕ → List ℕ → Type 0
NoneBefore word front behind = (before rest : List ℕ) → front ≡ before ++ rest → rest ≢ [] → stripped word (rest ++ behind) ≡ None

later_none : (word : List ℕ) (c : ℕ) (front behind : List ℕ) → NoneBefore word (c ∷ front) behind → NoneBefore word front behind
later_none word c front behind none before rest parts some = none (c ∷ before) rest (ap (λ t. c ∷ t) parts) some

pub until_again : (word front more : List ℕ) → word ≢ [] → NoneBefore word front (word ++ more) → until word (front ++ (word ++ more)) ≡ Some (front, more)
until_again [] front more some none = absurd (some refl)
until_again (w ∷ word) [] more some none = ap (λ o. until_here o (option_map (with_first w) (until (w ∷ word) (word ++ more)))) (stripped_again (w ∷ word) more)
until_again (w ∷ word) (c ∷ front) more some none =
    ap (λ o. until_here o (option_map (with_first c) (until (w ∷ word) (front ++ (w ∷ word ++ more))))) (none [] (c ∷ front) refl (λ e. absurd cc))
    ∙ ap (option_map (with_first c)) (until_again (w ∷ word) front more some (later_none (w ∷ word) c front (w ∷ word ++ more) none))

empty_back : (before rest : List ℕ) → [] ≡ before ++ rest → rest ≡ []
empty_back [] rest p = sym p
empty_back (b ∷ before) rest p = absurd cc

none_more : (word behind : List ℕ) (c : ℕ) (f : List ℕ) → stripped word ((c ∷ f) ++ behind) ≡ None → NoneBefore word f behind → NoneBefore word (c ∷ f) behind
none_more word behind c f here later [] rest p some = ap (λ t. stripped word (t ++ behind)) (sym p) ∙ here
none_more word behind c f here later (b ∷ before) rest p some = let tail : f ≡ before ++ rest = cc in later before rest tail some

pub until_takes : (word bytes front more : List ℕ) → until word bytes ≡ Some (front, more) → (bytes ≡ front ++ (word ++ more)) × NoneBefore word front (word ++ more)
until_takes word [] front more e = absurd cc
until_takes word (c ∷ cs) front more e = by_here (stripped word (c ∷ cs)) refl e (λ f. until_takes word cs f more) where
  by_here : (o : Option (List ℕ)) → stripped word (c ∷ cs) ≡ o → until_here o (option_map (with_first c) (until word cs)) ≡ Some (front, more)
      → ((f : List ℕ) → until word cs ≡ Some (f, more) → (cs ≡ f ++ (word ++ more)) × NoneBefore word f (word ++ more))
      → (c ∷ cs ≡ front ++ (word ++ more)) × NoneBefore word front (word ++ more)
  by_here (Some rest) found h later =
      let pair : (let x : List ℕ × List ℕ = ([], rest) in x) ≡ (front, more) = some_same ([], rest) (front, more) h in
      let nothing : [] ≡ front = ap (λ (x : List ℕ × List ℕ). x.0) pair in let same : rest ≡ more = ap (λ (x : List ℕ × List ℕ). x.1) pair in
      let parts : c ∷ cs ≡ word ++ more = stripped_takes word (c ∷ cs) rest found ∙ ap (λ t. word ++ t) same in
      subst (λ (f : List ℕ). (c ∷ cs ≡ f ++ (word ++ more)) × NoneBefore word f (word ++ more)) nothing (parts, λ before rest p some. absurd (some (empty_back before rest p)))
  by_here None none h later =
      map_some (with_first c) (until word cs) (front, more) h
      (λ x is same.
      let first : c ∷ x.0 ≡ front = ap (λ (p : List ℕ × List ℕ). p.0) same in
      let rest_is : x.1 ≡ more = ap (λ (p : List ℕ × List ℕ). p.1) same in
      let found : until word cs ≡ Some (x.0, more) = is ∙ ap (λ (t : List ℕ). Some (x.0, t)) rest_is in
      let k = later x.0 found in
      let parts : c ∷ cs ≡ c ∷ (x.0 ++ (word ++ more)) = ap (λ t. c ∷ t) k.0 in
      let here : stripped word ((c ∷ x.0) ++ (word ++ more)) ≡ None = ap (stripped word) (sym parts) ∙ none in
      subst (λ (f : List ℕ). (c ∷ cs ≡ f ++ (word ++ more)) × NoneBefore word f (word ++ more)) first (parts, none_more word (word ++ more) c x.0 here k.1))

-- What is not there is not found there.
pub not_taken : (word bytes : List ℕ) → ((rest : List ℕ) → bytes ≡ word ++ rest → ⊥) → stripped word bytes ≡ None
not_taken word bytes hasnt = by_result (stripped word bytes) refl where
  by_result : (o : Option (List ℕ)) → stripped word bytes ≡ o → stripped word bytes ≡ None
  by_result None e = e
  by_result (Some rest) e = absurd (hasnt rest (stripped_takes word bytes rest e))

-- ---- the three words

-- No word `?>` in the front, and none begins there.
pub instruction_end : (inner more : List ℕ) → HasNo (63 ∷ 62 ∷ []) inner → NoneBefore (63 ∷ 62 ∷ []) inner (63 ∷ 62 ∷ more)
instruction_end inner more hasnt before [] parts some = absurd (some refl)
instruction_end inner more hasnt before (x ∷ []) parts some = not_taken (63 ∷ 62 ∷ []) (x ∷ 63 ∷ 62 ∷ more) (λ rest e. clash 63 62 refl cc)
instruction_end inner more hasnt before (x ∷ y ∷ rest) parts some =
    not_taken (63 ∷ 62 ∷ []) (x ∷ y ∷ (rest ++ 63 ∷ 62 ∷ more)) (λ behind e. let one : x ≡ 63 = cc in let two : y ≡ 62 = cc in
    let whole : inner ≡ before ++ 63 ∷ 62 ∷ rest = parts ∙ ap (λ k. before ++ k ∷ y ∷ rest) one ∙ ap (λ k. before ++ 63 ∷ k ∷ rest) two in
    hasnt before rest (whole ∙ sym (append_assoc before (63 ∷ 62 ∷ []) rest)))

-- The same of `]]>`.
pub section_end : (inner more : List ℕ) → HasNo (93 ∷ 93 ∷ 62 ∷ []) inner → NoneBefore (93 ∷ 93 ∷ 62 ∷ []) inner (93 ∷ 93 ∷ 62 ∷ more)
section_end inner more hasnt before [] parts some = absurd (some refl)
section_end inner more hasnt before (x ∷ []) parts some = not_taken (93 ∷ 93 ∷ 62 ∷ []) (x ∷ 93 ∷ 93 ∷ 62 ∷ more) (λ rest e. clash 93 62 refl cc)
section_end inner more hasnt before (x ∷ y ∷ []) parts some = not_taken (93 ∷ 93 ∷ 62 ∷ []) (x ∷ y ∷ 93 ∷ 93 ∷ 62 ∷ more) (λ rest e. clash 93 62 refl cc)
section_end inner more hasnt before (x ∷ y ∷ z ∷ rest) parts some =
    not_taken (93 ∷ 93 ∷ 62 ∷ []) (x ∷ y ∷ z ∷ (rest ++ 93 ∷ 93 ∷ 62 ∷ more)) (λ behind e. let one : x ≡ 93 = cc in let two : y ≡ 93 = cc in let three : z ≡ 62 = cc in
    let whole : inner ≡ before ++ 93 ∷ 93 ∷ 62 ∷ rest = parts ∙ ap (λ k. before ++ k ∷ y ∷ z ∷ rest) one ∙ ap (λ k. before ++ 93 ∷ k ∷ z ∷ rest) two ∙ ap (λ k. before ++ 93 ∷ 93 ∷ k ∷ rest) three in
    hasnt before rest (whole ∙ sym (append_assoc before (93 ∷ 93 ∷ 62 ∷ []) rest)))

-- The same of `--`, of which the first may stand at the end of the front.
pub comment_end : (inner more : List ℕ) → HasNo (45 ∷ 45 ∷ []) (inner ++ 45 ∷ []) → NoneBefore (45 ∷ 45 ∷ []) inner (45 ∷ 45 ∷ more)
comment_end inner more hasnt before [] parts some = absurd (some refl)
comment_end inner more hasnt before (x ∷ []) parts some = not_taken (45 ∷ 45 ∷ []) (x ∷ 45 ∷ 45 ∷ more) (λ rest e. let one : x ≡ 45 = cc in
    let whole : inner ++ 45 ∷ [] ≡ (before ++ 45 ∷ []) ++ 45 ∷ [] = ap (λ t. t ++ 45 ∷ []) (parts ∙ ap (λ k. before ++ k ∷ []) one) in
    hasnt before [] (whole ∙ append_assoc before (45 ∷ []) (45 ∷ []) ∙ sym (append-nil (before ++ 45 ∷ 45 ∷ []))))
comment_end inner more hasnt before (x ∷ y ∷ rest) parts some =
    not_taken (45 ∷ 45 ∷ []) (x ∷ y ∷ (rest ++ 45 ∷ 45 ∷ more)) (λ behind e. let one : x ≡ 45 = cc in let two : y ≡ 45 = cc in
    let whole : inner ++ 45 ∷ [] ≡ (before ++ 45 ∷ 45 ∷ rest) ++ 45 ∷ [] = ap (λ t. t ++ 45 ∷ []) (parts ∙ ap (λ k. before ++ k ∷ y ∷ rest) one ∙ ap (λ k. before ++ 45 ∷ k ∷ rest) two) in
    hasnt before (rest ++ 45 ∷ []) (whole ∙ append_assoc before (45 ∷ 45 ∷ rest) (45 ∷ []) ∙ sym (append_assoc before (45 ∷ 45 ∷ []) (rest ++ 45 ∷ []))))

filled_front : (word after : List ℕ) → word ≢ [] → word ++ after ≢ []
filled_front [] after some e = absurd (some refl)
filled_front (w ∷ word) after some e = absurd cc

-- A front in which the word begins nowhere has no such word.
pub has_none : (word front more : List ℕ) → word ≢ [] → NoneBefore word front (word ++ more) → HasNo word front
has_none word front more filled none before after parts =
    let flat : front ≡ before ++ (word ++ after) = parts ∙ append_assoc before word after in
    let found : stripped word ((word ++ after) ++ (word ++ more)) ≡ Some (after ++ (word ++ more)) =
    ap (stripped word) (append_assoc word after (word ++ more)) ∙ stripped_again word (after ++ (word ++ more)) in
    let nowhere = none before (word ++ after) flat (filled_front word after filled) in
    absurd cc

-- the same of a comment's inside and the `-` behind it
pub comment_has_none : (front more : List ℕ) → NoneBefore (45 ∷ 45 ∷ []) front (45 ∷ 45 ∷ more) → HasNo (45 ∷ 45 ∷ []) (front ++ 45 ∷ [])
comment_has_none front more none before after parts = by_place before front (λ b r p s. none b r p s) (parts ∙ append_assoc before (45 ∷ 45 ∷ []) after) where
  at_start : (rest : List ℕ) → stripped (45 ∷ 45 ∷ []) (45 ∷ 45 ∷ rest) ≡ None → ⊥
  at_start rest none_here = let found : stripped (45 ∷ 45 ∷ []) (45 ∷ 45 ∷ rest) ≡ Some rest = stripped_again (45 ∷ 45 ∷ []) rest in absurd cc

  by_place : (b f : List ℕ) → NoneBefore (45 ∷ 45 ∷ []) f (45 ∷ 45 ∷ more) → f ++ 45 ∷ [] ≡ b ++ 45 ∷ 45 ∷ after → ⊥
  by_place [] [] hasnt e = let wrong : [] ≡ 45 ∷ after = cc in absurd cc
  by_place [] (x ∷ []) hasnt e =
      let one : x ≡ 45 = cc in
      at_start (45 ∷ more) (subst (λ (k : ℕ). stripped (45 ∷ 45 ∷ []) (k ∷ 45 ∷ 45 ∷ more) ≡ None) one (hasnt [] (x ∷ []) refl (λ n. absurd cc)))
  by_place [] (x ∷ y ∷ f) hasnt e =
      let one : x ≡ 45 = cc in let two : y ≡ 45 = cc in
      at_start (f ++ 45 ∷ 45 ∷ more) (subst (λ (k : ℕ). stripped (45 ∷ 45 ∷ []) (k ∷ 45 ∷ (f ++ 45 ∷ 45 ∷ more)) ≡ None) one
      (subst (λ (k : ℕ). stripped (45 ∷ 45 ∷ []) (x ∷ k ∷ (f ++ 45 ∷ 45 ∷ more)) ≡ None) two (hasnt [] (x ∷ y ∷ f) refl (λ n. absurd cc))))
  by_place (z ∷ []) [] hasnt e = let wrong : [] ≡ 45 ∷ 45 ∷ after = cc in absurd cc
  by_place (z ∷ w ∷ b) [] hasnt e = let wrong : [] ≡ w ∷ (b ++ 45 ∷ 45 ∷ after) = cc in absurd cc
  by_place (z ∷ b) (x ∷ f) hasnt e = let tail : f ++ 45 ∷ [] ≡ b ++ 45 ∷ 45 ∷ after = cc in by_place b f (later_none (45 ∷ 45 ∷ []) x f (45 ∷ 45 ∷ more) hasnt) tail
