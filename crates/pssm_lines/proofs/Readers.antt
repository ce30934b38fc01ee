-- Readers of pieces: what is read of a text has that spelling, and a spelling is read again.
use Rattle.std.proofs.Common.{◌≡◌, ℕ, zero, suc, ◌-◌, ◌<◌, ◌≤◌, Bool, true, false, cond, eqb, List, [], ◌∷◌, ◌++◌, length, Option, Some, None, refl, sym, ap, subst, ◌∙◌, append_assoc, arith, inl, inr, ◌⊎◌, eq-eqb}
use Rattle.std.specs.Prelude.{map}
use Rattle.std.specs.List.{AllByRecursion, flat_map, join_with_byte}
use Rattle.std.specs.Option.{option_map, option_map_or}
use Rattle.std.proofs.lemmas.Bool.{cond-true, cond-false, eqb-true, ne_eqb}
use Rattle.std.proofs.lemmas.List.{append-nil, length-append}
use Rattle.std.proofs.lemmas.Option.{same_Some}
use Rattle.pssm_spelling.specs.SpellingReading.{stripped, EndsRun}
use Rattle.pssm_spelling.proofs.SpellingLaws.{stripped_takes, stripped_again}
use Rattle.pssm_lines.specs.inner.LineReading.{◌>>=◌, Reader, each_taken, behind_first, joined_taken}

-- ---- steps

-- the value of a step that did not fail
pub bind_some : {A B : Type 0} (o : Option A) (f : A → Option B) (y : B) → (o >>= f) ≡ Some y → (x : A) × (o ≡ Some x) × (f x ≡ Some y)
bind_some (Some x) f y e = (x, refl, e)
bind_some None f y e = absurd cc

-- a choice that did not fail
pub chosen : {A B : Type 0} (f : A → Option B) (o : Option A) (other : Option B) (y : B) → option_map_or f o other ≡ Some y → ((x : A) × (o ≡ Some x) × (f x ≡ Some y)) ⊎ (other ≡ Some y)
chosen f (Some x) other y e = inl (x, refl, e)
chosen f None other y e = inr e

-- a step that goes on with a value
pub bind_at : {A B : Type 0} (o : Option A) (f : A → Option B) (x : A) → o ≡ Some x → (o >>= f) ≡ f x
bind_at {A = A} o f x e = ap (λ (p : Option A). p >>= f) e

-- a choice at the place where it is made
pub choice_at : {A B : Type 0} (f : A → Option B) (o : Option A) (other : Option B) (x : A) → o ≡ Some x → option_map_or f o other ≡ f x
choice_at f o other x e = ap (λ p. option_map_or f p other) e

-- a value that was read, and what follows it
abbrev pub got : {A : Type 0} → A → List ℕ → Option (A × List ℕ)
got x rest = Some (x, rest)

pub same_got : {A : Type 0} (x y : A) (r s : List ℕ) → got x r ≡ got y s → (x ≡ y) × (r ≡ s)
same_got {A = A} x y r s e =
    let from : A × List ℕ = (x, r) in
    let to : A × List ℕ = (y, s) in
    let both : from ≡ to = same_Some from to e in
    (ap (λ (p : A × List ℕ). p.0) both, ap (λ (p : A × List ℕ). p.1) both)

-- the same of what is said of both
pub got_is : {A : Type 0} (P : A → List ℕ → Type 0) (x y : A) (r s : List ℕ) → got x r ≡ got y s → P x r → P y s
got_is P x y r s e p =
    let both = same_got x y r s e in
    subst (λ z. P z s) both.0 (subst (λ t. P x t) both.1 p)

-- ---- words

-- what stands behind a word, and how it goes on
pub record IsBehind {B : Type 0} (word bytes : List ℕ) (f : List ℕ → Option B) (y : B) : Type 0 where
  pub rest : List ℕ
  pub parts : bytes ≡ word ++ rest
  pub more : f rest ≡ Some y

pub word_takes : {B : Type 0} (word bytes : List ℕ) (f : List ℕ → Option B) (y : B) → (stripped word bytes >>= f) ≡ Some y → IsBehind word bytes f y
word_takes word bytes f y e =
    let b = bind_some (stripped word bytes) f y e in
    record { rest = b.0; parts = stripped_takes word bytes b.0 b.1; more = b.2 }

pub word_again : {B : Type 0} (word more : List ℕ) (f : List ℕ → Option B) → (stripped word (word ++ more) >>= f) ≡ f more
word_again word more f = bind_at (stripped word (word ++ more)) f more (stripped_again word more)

-- ---- readers

-- What is read has the spelling and is sound; a sound value that is spelled before such a rest is read.
pub record Reads {A : Type 0} (read : Reader A) (text : A → List ℕ) (Is : A → Type 0) (Ends : List ℕ → Type 0) : Type 0 where
  pub takes : (bytes : List ℕ) (x : A) (rest : List ℕ) → read bytes ≡ got x rest → (bytes ≡ text x ++ rest) × Is x
  pub again : (x : A) (rest : List ℕ) → Is x → Ends rest → read (text x ++ rest) ≡ got x rest

-- what a step read, and how it goes on
pub record IsStep {A B : Type 0} (text : A → List ℕ) (Is : A → Type 0) (bytes : List ℕ) (f : A × List ℕ → Option B) (y : B) : Type 0 where
  pub value : A
  pub rest : List ℕ
  pub parts : bytes ≡ text value ++ rest
  pub is : Is value
  pub more : f (value, rest) ≡ Some y

pub step_takes : {A B : Type 0} {read : Reader A} {text : A → List ℕ} {Is : A → Type 0} {Ends : List ℕ → Type 0} → Reads read text Is Ends → (bytes : List ℕ) (f : A × List ℕ → Option B) (y : B) → (read bytes >>= f) ≡ Some y → IsStep text Is bytes f y
step_takes {read = read} reads bytes f y e =
    let b = bind_some (read bytes) f y e in
    let took = reads.takes bytes b.0.0 b.0.1 b.1 in
    record { value = b.0.0; rest = b.0.1; parts = took.0; is = took.1; more = b.2 }

pub step_again : {A B : Type 0} {read : Reader A} {text : A → List ℕ} {Is : A → Type 0} {Ends : List ℕ → Type 0} → Reads read text Is Ends → (x : A) (more : List ℕ) (f : A × List ℕ → Option B) → Is x → Ends more → (read (text x ++ more) >>= f) ≡ f (x, more)
step_again {read = read} {text = text} reads x more f is ends = bind_at (read (text x ++ more)) f (x, more) (reads.again x more is ends)

-- ---- pieces in a row

-- the pieces, each with a byte before it
abbrev pub others_text : {A : Type 0} → ℕ → (A → List ℕ) → List A → List ℕ
others_text before text xs = flat_map (λ x. before ∷ text x) xs

-- The rest does not go on with this byte.
abbrev pub StopsAt : ℕ → List ℕ → Type 0
StopsAt before rest = EndsRun (λ c. eqb c before) rest

-- at most so many pieces, all of them sound
abbrev pub AreFew : {A : Type 0} → ℕ → (A → Type 0) → List A → Type 0
AreFew most Is xs = (length xs ≤ most) × AllByRecursion Is xs

-- The bytes are these pieces and the rest.
abbrev pub AreFront : {A : Type 0} → ℕ → (A → List ℕ) → (A → Type 0) → ℕ → List ℕ → List A → List ℕ → Type 0
AreFront before text Is most bytes xs rest = (bytes ≡ others_text before text xs ++ rest) × AreFew most Is xs

-- pieces are at least as many bytes
pub few_others : {A : Type 0} (before : ℕ) (text : A → List ℕ) (xs : List A) (rest : List ℕ) → length xs ≤ length (others_text before text xs ++ rest)
few_others before text [] rest = omega arith
few_others before text (x ∷ xs) rest =
    let more = few_others before text xs rest in
    omega (arith, length-append (others_text before text xs) rest, length-append (text x ++ others_text before text xs) rest, length-append (text x) (others_text before text xs))

pub joined_parts : {A : Type 0} (between : ℕ) (text : A → List ℕ) (x : A) (xs : List A) → join_with_byte between (map text (x ∷ xs)) ≡ text x ++ others_text between text xs
joined_parts between text x [] = sym (append-nil (text x))
joined_parts between text x (y ∷ ys) = ap (λ t. text x ++ between ∷ t) (joined_parts between text y ys)

no_others : {A : Type 0} (before : ℕ) (text : A → List ℕ) (Is : A → Type 0) (most : ℕ) (bytes : List ℕ) (xs : List A) (rest : List ℕ) → got [] bytes ≡ got xs rest → AreFront before text Is most bytes xs rest
no_others before text Is most bytes xs rest e = got_is (AreFront before text Is most bytes) [] xs bytes rest e (refl, (omega arith, tt))

each_takes : {A : Type 0} (before : ℕ) (read : Reader A) (text : A → List ℕ) (Is : A → Type 0) (Ends : List ℕ → Type 0) → Reads read text Is Ends → (most : ℕ) (bytes : List ℕ) (xs : List A) (rest : List ℕ) → each_taken before read most bytes ≡ got xs rest → AreFront before text Is most bytes xs rest
unfolding each_taken
each_takes before read text Is Ends reads most [] xs rest e = no_others before text Is most [] xs rest e
each_takes before read text Is Ends reads zero (c ∷ bytes) xs rest e = by_test (eqb c before) e where
  by_test : (t : Bool) → cond t None (got [] (c ∷ bytes)) ≡ got xs rest → AreFront before text Is 0 (c ∷ bytes) xs rest
  by_test true h = absurd cc
  by_test false h = no_others before text Is 0 (c ∷ bytes) xs rest h
each_takes {A = A} before read text Is Ends reads (suc most) (c ∷ bytes) xs rest e = by_test (λ b ys r. each_takes before read text Is Ends reads most b ys r) (eqb c before) refl e where
  by_test : ((b : List ℕ) (ys : List A) (r : List ℕ) → each_taken before read most b ≡ got ys r → AreFront before text Is most b ys r) → (t : Bool) → eqb c before ≡ t → cond t (read bytes >>= λ x. each_taken before read most x.1 >>= λ y. got (x.0 ∷ y.0) y.1) (got [] (c ∷ bytes)) ≡ got xs rest → AreFront before text Is (suc most) (c ∷ bytes) xs rest
  by_test others_take true here h =
      let first = step_takes reads bytes (λ x. each_taken before read most x.1 >>= λ y. got (x.0 ∷ y.0) y.1) (xs, rest) h in
      let others = bind_some (each_taken before read most first.rest) (λ y. got (first.value ∷ y.0) y.1) (xs, rest) first.more in
      let took = others_take first.rest others.0.0 others.0.1 others.1 in
      let byte : c ≡ before = eqb-true c before here in
      let parts : c ∷ bytes ≡ others_text before text (first.value ∷ others.0.0) ++ others.0.1 =
      ap (λ (k : ℕ). k ∷ bytes) byte ∙ ap (λ (t : List ℕ). before ∷ t) (first.parts ∙ ap (λ (t : List ℕ). text first.value ++ t) took.0 ∙ sym (append_assoc (text first.value) (others_text before text others.0.0) others.0.1)) in
      got_is (AreFront before text Is (suc most) (c ∷ bytes)) (first.value ∷ others.0.0) xs others.0.1 rest others.2 (parts, (omega (arith, took.1.0), (first.is, took.1.1)))
  by_test others_take false here h = no_others before text Is (suc most) (c ∷ bytes) xs rest h

-- where no more pieces stand
each_ends : {A : Type 0} (before : ℕ) (read : Reader A) (most : ℕ) (rest : List ℕ) → StopsAt before rest → each_taken before read most rest ≡ got [] rest
unfolding each_taken
each_ends before read most [] stops = refl
each_ends before read zero (c ∷ rest) stops = cond-false (eqb c before) None (got [] (c ∷ rest)) stops
each_ends before read (suc most) (c ∷ rest) stops = cond-false (eqb c before) (read rest >>= λ x. each_taken before read most x.1 >>= λ y. got (x.0 ∷ y.0) y.1) (got [] (c ∷ rest)) stops

-- one more piece
each_more : {A : Type 0} (before : ℕ) (read : Reader A) (most : ℕ) (bytes : List ℕ) → each_taken before read (suc most) (before ∷ bytes) ≡ (read bytes >>= λ x. each_taken before read most x.1 >>= λ y. got (x.0 ∷ y.0) y.1)
unfolding each_taken
each_more before read most bytes = cond-true (eqb before before) (read bytes >>= λ x. each_taken before read most x.1 >>= λ y. got (x.0 ∷ y.0) y.1) (got [] (before ∷ bytes)) (eq-eqb before before refl)

pub ends_others : {A : Type 0} (before : ℕ) (text : A → List ℕ) (Ends : List ℕ → Type 0) → ((more : List ℕ) → Ends (before ∷ more)) → (xs : List A) (rest : List ℕ) → Ends rest → Ends (others_text before text xs ++ rest)
ends_others before text Ends goes_on [] rest ends = ends
ends_others before text Ends goes_on (x ∷ xs) rest ends = goes_on ((text x ++ others_text before text xs) ++ rest)

each_again : {A : Type 0} (before : ℕ) (read : Reader A) (text : A → List ℕ) (Is : A → Type 0) (Ends : List ℕ → Type 0) → Reads read text Is Ends → ((more : List ℕ) → Ends (before ∷ more)) → (most : ℕ) (xs : List A) (rest : List ℕ) → AreFew most Is xs → Ends rest → StopsAt before rest → each_taken before read most (others_text before text xs ++ rest) ≡ got xs rest
each_again before read text Is Ends reads goes_on most [] rest few ends stops = each_ends before read most rest stops
each_again before read text Is Ends reads goes_on zero (x ∷ xs) rest few ends stops = absurd (omega (arith, few.0))
each_again before read text Is Ends reads goes_on (suc most) (x ∷ xs) rest few ends stops =
    let tail = others_text before text xs ++ rest in
    let others = each_again before read text Is Ends reads goes_on most xs rest (omega (arith, few.0), few.1.1) ends stops in
    ap (λ (t : List ℕ). each_taken before read (suc most) (before ∷ t)) (append_assoc (text x) (others_text before text xs) rest)
    ∙ each_more before read most (text x ++ tail)
    ∙ step_again reads x tail (λ x. each_taken before read most x.1 >>= λ y. got (x.0 ∷ y.0) y.1) few.1.0 (ends_others before text Ends goes_on xs rest ends)
    ∙ bind_at (each_taken before read most tail) (λ y. got (x ∷ y.0) y.1) (xs, rest) others

pub each_reads : {A : Type 0} (before : ℕ) {read : Reader A} {text : A → List ℕ} {Is : A → Type 0} {Ends : List ℕ → Type 0} → Reads read text Is Ends → ((more : List ℕ) → Ends (before ∷ more)) → (most : ℕ) → Reads (each_taken before read most) (others_text before text) (AreFew most Is) (λ rest. Ends rest × StopsAt before rest)
each_reads before {read = read} {text = text} {Is = Is} {Ends = Ends} reads goes_on most = record {
  takes = each_takes before read text Is Ends reads most;
  again = λ xs rest few ends. each_again before read text Is Ends reads goes_on most xs rest few ends.0 ends.1;
}

-- ---- one piece and more of them

-- pieces with a byte between two
abbrev pub joined_text : {A : Type 0} → ℕ → (A → List ℕ) → List A → List ℕ
joined_text between text xs = join_with_byte between (map text xs)

abbrev pub AreSome : {A : Type 0} → ℕ → (A → Type 0) → List A → Type 0
AreSome most Is xs = (0 < length xs) × (length xs ≤ suc most) × AllByRecursion Is xs

joined_takes : {A : Type 0} (between : ℕ) (read : Reader A) (text : A → List ℕ) (Is : A → Type 0) (Ends : List ℕ → Type 0) → Reads read text Is Ends → (most : ℕ) (bytes : List ℕ) (xs : List A) (rest : List ℕ) → joined_taken between read most bytes ≡ got xs rest → (bytes ≡ joined_text between text xs ++ rest) × AreSome most Is xs
joined_takes between read text Is Ends reads most bytes xs rest e =
    let first = step_takes reads bytes (λ x. each_taken between read most x.1 >>= λ y. got (x.0 ∷ y.0) y.1) (xs, rest) e in
    let others = bind_some (each_taken between read most first.rest) (λ y. got (first.value ∷ y.0) y.1) (xs, rest) first.more in
    let took = each_takes between read text Is Ends reads most first.rest others.0.0 others.0.1 others.1 in
    let parts : bytes ≡ joined_text between text (first.value ∷ others.0.0) ++ others.0.1 =
    first.parts ∙ ap (λ (t : List ℕ). text first.value ++ t) took.0 ∙ sym (append_assoc (text first.value) (others_text between text others.0.0) others.0.1)
    ∙ ap (λ (t : List ℕ). t ++ others.0.1) (sym (joined_parts between text first.value others.0.0)) in
    got_is (λ ys r. (bytes ≡ joined_text between text ys ++ r) × AreSome most Is ys) (first.value ∷ others.0.0) xs others.0.1 rest others.2 (parts, (omega arith, omega (arith, took.1.0), (first.is, took.1.1)))

joined_again : {A : Type 0} (between : ℕ) (read : Reader A) (text : A → List ℕ) (Is : A → Type 0) (Ends : List ℕ → Type 0) → Reads read text Is Ends → ((more : List ℕ) → Ends (between ∷ more)) → (most : ℕ) (xs : List A) (rest : List ℕ) → AreSome most Is xs → Ends rest → StopsAt between rest → joined_taken between read most (joined_text between text xs ++ rest) ≡ got xs rest
joined_again between read text Is Ends reads goes_on most [] rest are ends stops = absurd (omega (arith, are.0))
joined_again between read text Is Ends reads goes_on most (x ∷ xs) rest are ends stops =
    let tail = others_text between text xs ++ rest in
    ap (λ (t : List ℕ). joined_taken between read most t) (ap (λ (t : List ℕ). t ++ rest) (joined_parts between text x xs) ∙ append_assoc (text x) (others_text between text xs) rest)
    ∙ step_again reads x tail (λ x. each_taken between read most x.1 >>= λ y. got (x.0 ∷ y.0) y.1) are.2.0 (ends_others between text Ends goes_on xs rest ends)
    ∙ bind_at (each_taken between read most tail) (λ y. got (x ∷ y.0) y.1) (xs, rest) (each_again between read text Is Ends reads goes_on most xs rest (omega (arith, are.1), are.2.1) ends stops)

pub joined_reads : {A : Type 0} (between : ℕ) {read : Reader A} {text : A → List ℕ} {Is : A → Type 0} {Ends : List ℕ → Type 0} → Reads read text Is Ends → ((more : List ℕ) → Ends (between ∷ more)) → (most : ℕ) → Reads (joined_taken between read most) (joined_text between text) (AreSome most Is) (λ rest. Ends rest × StopsAt between rest)
joined_reads between {read = read} {text = text} {Is = Is} {Ends = Ends} reads goes_on most = record {
  takes = joined_takes between read text Is Ends reads most;
  again = λ xs rest are ends. joined_again between read text Is Ends reads goes_on most xs rest are ends.0 ends.1;
}

-- ---- one turn of a loop over pieces in a row

stopped : (before : ℕ) (rest : List ℕ) → stripped (before ∷ []) rest ≡ None → StopsAt before rest
unfolding stripped
stopped before [] e = tt
stopped before (c ∷ rest) e = by_test (eqb c before) refl e where
  by_test : (t : Bool) → eqb c before ≡ t → cond t (Some rest) None ≡ None → eqb c before ≡ false
  by_test true here h = absurd cc
  by_test false here h = here

each_full : {A : Type 0} (before : ℕ) (read : Reader A) (bytes : List ℕ) → each_taken before read 0 (before ∷ bytes) ≡ None
unfolding each_taken
each_full before read bytes = cond-true (eqb before before) None (got [] (before ∷ bytes)) (eq-eqb before before refl)

-- no more pieces stand there
pub turn_end : {A : Type 0} (before : ℕ) (read : Reader A) (left : ℕ) (rest : List ℕ) → stripped (before ∷ []) rest ≡ None → each_taken before read left rest ≡ got [] rest
turn_end before read left rest e = each_ends before read left rest (stopped before rest e)

-- one piece too many stands there
pub turn_full : {A : Type 0} (before : ℕ) (read : Reader A) (left : ℕ) (rest after : List ℕ) → stripped (before ∷ []) rest ≡ Some after → left ≡ 0 → each_taken before read left rest ≡ None
turn_full before read left rest after e none =
    ap (λ (n : ℕ). each_taken before read n rest) none
    ∙ ap (λ (t : List ℕ). each_taken before read 0 t) (stripped_takes (before ∷ []) rest after e)
    ∙ each_full before read after

-- a piece may stand there
turn_on : {A : Type 0} (before : ℕ) (read : Reader A) (left : ℕ) (rest after : List ℕ) → stripped (before ∷ []) rest ≡ Some after → 0 < left → each_taken before read left rest ≡ (read after >>= λ x. each_taken before read (left - 1) x.1 >>= λ y. got (x.0 ∷ y.0) y.1)
turn_on before read left rest after e some =
    let whole : left ≡ suc (left - 1) = omega arith in
    ap (λ (n : ℕ). each_taken before read n rest) whole
    ∙ ap (λ (t : List ℕ). each_taken before read (suc (left - 1)) t) (stripped_takes (before ∷ []) rest after e)
    ∙ each_more before read (left - 1) after

-- no piece stands there
pub turn_bad : {A : Type 0} (before : ℕ) (read : Reader A) (left : ℕ) (rest after : List ℕ) → stripped (before ∷ []) rest ≡ Some after → 0 < left → read after ≡ None → each_taken before read left rest ≡ None
turn_bad before read left rest after e some none =
    turn_on before read left rest after e some ∙ ap (λ o. o >>= λ x. each_taken before read (left - 1) x.1 >>= λ y. got (x.0 ∷ y.0) y.1) none

-- a piece stands there
pub turn_more : {A : Type 0} (before : ℕ) (read : Reader A) (left : ℕ) (rest after : List ℕ) (x : A) (more : List ℕ) → stripped (before ∷ []) rest ≡ Some after → 0 < left → read after ≡ got x more → each_taken before read left rest ≡ (each_taken before read (left - 1) more >>= λ y. got (x ∷ y.0) y.1)
turn_more before read left rest after x more e some is =
    turn_on before read left rest after e some ∙ bind_at (read after) (λ x. each_taken before read (left - 1) x.1 >>= λ y. got (x.0 ∷ y.0) y.1) (x, more) is

-- pieces behind one that was read before
pub behind_more : {A : Type 0} (items : List A) (x : A) (others : Option (List A × List ℕ)) → behind_first (items ++ x ∷ []) others ≡ behind_first items (others >>= λ y. got (x ∷ y.0) y.1)
behind_more items x None = refl
behind_more items x (Some y) = ap (λ xs. got xs y.1) (append_assoc items (x ∷ []) y.0)

pub behind_none : {A : Type 0} (items : List A) (rest : List ℕ) → got items rest ≡ behind_first items (got [] rest)
behind_none items rest = ap (λ xs. got xs rest) (sym (append-nil items))

-- what follows a piece is what follows the others
pub rest_more : {A : Type 0} (x : A) (others : Option (List A × List ℕ)) → option_map (λ y. y.1) others ≡ option_map (λ y. y.1) (others >>= λ y. got (x ∷ y.0) y.1)
rest_more x None = refl
rest_more x (Some y) = refl

-- the same where only what follows is known
pub turn_none : {A : Type 0} (before : ℕ) (read : Reader A) (left : ℕ) (rest after : List ℕ) → stripped (before ∷ []) rest ≡ Some after → 0 < left → option_map (λ x. x.1) (read after) ≡ None → option_map (λ x. x.1) (each_taken before read left rest) ≡ None
turn_none {A = A} before read left rest after e some none = by_cases (read after) refl none where
  by_cases : (o : Option (A × List ℕ)) → read after ≡ o → option_map (λ x. x.1) o ≡ None → option_map (λ x. x.1) (each_taken before read left rest) ≡ None
  by_cases None is h = ap (λ o. option_map (λ x. x.1) o) (turn_bad before read left rest after e some is)
  by_cases (Some x) is h = absurd cc

pub turn_rest : {A : Type 0} (before : ℕ) (read : Reader A) (left : ℕ) (rest after more : List ℕ) → stripped (before ∷ []) rest ≡ Some after → 0 < left → option_map (λ x. x.1) (read after) ≡ Some more → option_map (λ x. x.1) (each_taken before read left rest) ≡ option_map (λ x. x.1) (each_taken before read (left - 1) more)
turn_rest {A = A} before read left rest after more e some is_more = by_cases (read after) refl is_more where
  by_cases : (o : Option (A × List ℕ)) → read after ≡ o → option_map (λ x. x.1) o ≡ Some more → option_map (λ x. x.1) (each_taken before read left rest) ≡ option_map (λ x. x.1) (each_taken before read (left - 1) more)
  by_cases None is h = absurd cc
  by_cases (Some x) is h =
      let follows : x.1 ≡ more = same_Some x.1 more h in
      ap (λ o. option_map (λ x. x.1) o) (turn_more before read left rest after x.0 x.1 e some is)
      ∙ sym (rest_more x.0 (each_taken before read (left - 1) x.1))
      ∙ ap (λ (t : List ℕ). option_map (λ x. x.1) (each_taken before read (left - 1) t)) follows

-- what stands behind a byte at the front
pub behind_yes : (byte first : ℕ) (bytes rest : List ℕ) → bytes ≡ first ∷ rest → first ≡ byte → Some rest ≡ stripped (byte ∷ []) bytes
behind_yes byte first bytes rest parts same = sym (ap (λ (t : List ℕ). stripped (byte ∷ []) t) (parts ∙ ap (λ (k : ℕ). k ∷ rest) same) ∙ stripped_again (byte ∷ []) rest)

pub behind_no : (byte first : ℕ) (bytes rest : List ℕ) → bytes ≡ first ∷ rest → (first ≡ byte → ⊥) → None ≡ stripped (byte ∷ []) bytes
unfolding stripped
behind_no byte first bytes rest parts other = sym (ap (λ (t : List ℕ). stripped (byte ∷ []) t) parts ∙ cond-false (eqb first byte) (Some rest) None (ne_eqb first byte other))

pub behind_nothing : (byte : ℕ) (bytes : List ℕ) → length bytes ≡ 0 → None ≡ stripped (byte ∷ []) bytes
unfolding stripped
behind_nothing byte [] none = refl
behind_nothing byte (c ∷ bytes) none = absurd (omega arith)
