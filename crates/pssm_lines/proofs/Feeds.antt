-- Where line feeds stand in a text.
use Rattle.std.proofs.Common.{◌≡◌, ℕ, suc, ◌-◌, ◌<◌, ◌≤◌, Bool, true, false, eqb, List, [], ◌∷◌, ◌++◌, length, take, drop, refl, sym, ap, subst, ◌∙◌, arith}
use Rattle.std.proofs.lemmas.Bool.{and_parts, and_from, eqb-true, not-false}
use Rattle.std.proofs.lemmas.List.{take-append-drop, take_all, append-nil}
use Rattle.pssm_spelling.specs.SpellingReading.{EndsRun}
use Rattle.pssm_spelling.proofs.SpellingLaws.{passes_front, ends_after}
use Rattle.std.specs.List.{prefix_len, list_all}
use Rattle.pssm_lines.specs.Faults.{is_no_feed}

abbrev pub has_no_feed : List ℕ → Bool
has_no_feed bytes = list_all is_no_feed bytes

-- ---- the first line feed

pub cut_first : (bytes front : List ℕ) (n : ℕ) → n ≡ prefix_len is_no_feed bytes → front ≡ take n bytes → has_no_feed front ≡ true
cut_first bytes front n n_is front_is =
    let whole : front ≡ take (prefix_len is_no_feed bytes) bytes = front_is ∙ ap (λ (k : ℕ). take k bytes) n_is in
    subst (λ (t : List ℕ). has_no_feed t ≡ true) (sym whole) (passes_front is_no_feed bytes)

pub cut_none : (bytes back : List ℕ) (n : ℕ) → n ≡ prefix_len is_no_feed bytes → back ≡ drop n bytes → length back ≡ 0 → has_no_feed bytes ≡ true
cut_none bytes [] n n_is back_is none =
    let all : take n bytes ≡ bytes = sym (append-nil (take n bytes)) ∙ ap (λ (t : List ℕ). take n bytes ++ t) back_is ∙ take-append-drop n bytes in
    subst (λ (t : List ℕ). has_no_feed t ≡ true) all (cut_first bytes (take n bytes) n n_is refl)
cut_none bytes (c ∷ cs) n n_is back_is none = absurd (omega arith)

feed_at : (c : ℕ) → is_no_feed c ≡ false → c ≡ 10
feed_at c e = eqb-true c 10 (not-false (eqb c 10) e)

pub cut_found : (bytes front back : List ℕ) (n : ℕ) → n ≡ prefix_len is_no_feed bytes → front ≡ take n bytes → back ≡ drop n bytes → 0 < length back → bytes ≡ front ++ 10 ∷ take (length back - 1) (drop 1 back)
cut_found bytes front [] n n_is front_is back_is some = absurd (omega arith)
cut_found bytes front (c ∷ cs) n n_is front_is back_is some =
    let whole : c ∷ cs ≡ drop (prefix_len is_no_feed bytes) bytes = back_is ∙ ap (λ (k : ℕ). drop k bytes) n_is in
    let stops : EndsRun is_no_feed (c ∷ cs) = subst (λ (t : List ℕ). EndsRun is_no_feed t) (sym whole) (ends_after is_no_feed bytes) in
    let feed : c ≡ 10 = feed_at c stops in
    let rest : take (suc (length cs) - 1) cs ≡ cs = take_all (suc (length cs) - 1) cs (omega arith) in
    let parts : bytes ≡ front ++ (c ∷ cs) = sym (take-append-drop n bytes) ∙ ap (λ (t : List ℕ). t ++ drop n bytes) (sym front_is) ∙ ap (λ (t : List ℕ). front ++ t) (sym back_is) in
    rw (rest, ← feed) parts

-- ---- what stands before a line feed

feed_stops : (xs : List ℕ) → has_no_feed (10 ∷ xs) ≡ true → ⊥
feed_stops xs e = absurd cc

-- Two texts without line feeds that stand before a line feed are one.
pub feed_apart : (a b x y : List ℕ) → has_no_feed a ≡ true → has_no_feed b ≡ true → a ++ 10 ∷ x ≡ b ++ 10 ∷ y → (a ≡ b) × (x ≡ y)
feed_apart [] [] x y p q e = (refl, cc)
feed_apart [] (c ∷ b) x y p q e =
    let head : 10 ≡ c = cc in
    absurd (feed_stops b (subst (λ (k : ℕ). has_no_feed (k ∷ b) ≡ true) (sym head) q))
feed_apart (c ∷ a) [] x y p q e =
    let head : c ≡ 10 = cc in
    absurd (feed_stops a (subst (λ (k : ℕ). has_no_feed (k ∷ a) ≡ true) head p))
feed_apart (c ∷ a) (d ∷ b) x y p q e =
    let head : c ≡ d = cc in
    let tail : a ++ 10 ∷ x ≡ b ++ 10 ∷ y = cc in
    let more = feed_apart a b x y (and_parts (is_no_feed c) (has_no_feed a) p).1 (and_parts (is_no_feed d) (has_no_feed b) q).1 tail in
    let tails : a ≡ b = more.0 in
    (cc, more.1)

-- A text without line feeds that begins what has one later is no longer than what stands before it.
pub feed_beyond : (a more b y : List ℕ) → has_no_feed a ≡ true → a ++ more ≡ b ++ 10 ∷ y → length a ≤ length b
feed_beyond [] more b y p e = omega arith
feed_beyond (c ∷ a) more [] y p e =
    let head : c ≡ 10 = cc in
    absurd (feed_stops a (subst (λ (k : ℕ). has_no_feed (k ∷ a) ≡ true) head p))
feed_beyond (c ∷ a) more (d ∷ b) y p e =
    let tail : a ++ more ≡ b ++ 10 ∷ y = cc in
    let shorter = feed_beyond a more b y (and_parts (is_no_feed c) (has_no_feed a) p).1 tail in
    omega arith

pub no_feed_append : (a b : List ℕ) → has_no_feed a ≡ true → has_no_feed b ≡ true → has_no_feed (a ++ b) ≡ true
no_feed_append [] b p q = q
no_feed_append (c ∷ a) b p q =
    let both = and_parts (is_no_feed c) (has_no_feed a) p in
    and_from (is_no_feed c) (has_no_feed (a ++ b)) both.0 (no_feed_append a b both.1 q)

pub no_feed_at_all : (bytes : List ℕ) (n : ℕ) → n ≡ prefix_len is_no_feed bytes → n ≡ length bytes → has_no_feed bytes ≡ true
no_feed_at_all bytes n n_is whole =
    subst (λ (t : List ℕ). has_no_feed t ≡ true) (take_all n bytes (omega arith)) (cut_first bytes (take n bytes) n n_is refl)
