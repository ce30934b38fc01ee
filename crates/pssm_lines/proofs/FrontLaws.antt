-- What stands at the front of the bytes that are still to be read.
use Rattle.std.proofs.Common.{◌≡◌, ◌≢◌, ℕ, zero, suc, ◌+◌, ◌-◌, ◌<◌, ◌≤◌, min, Bool, true, false, cond, eqb, List, [], ◌∷◌, ◌++◌, length, take, drop, get_or, Some, None, refl, sym, ap, subst, ◌∙◌, append_assoc, arith, inl, inr, ◌⊎◌, length-append}
use Rattle.std.specs.Prelude.{codes, IsTrue}
use Rattle.std.specs.List.{prefix_len, list_all, starts_with}
use Rattle.std.proofs.lemmas.Bool.{cond-true, cond-false, and_parts, and_from, eqb-true, not-false, cases_lt}
use Rattle.std.proofs.lemmas.Bool.Decides.{Decides-eqb}
use Rattle.std.proofs.lemmas.Slice.Eq.{starts_is}
use Rattle.std.proofs.lemmas.List.{append-nil, take-append-drop, length-take-le, take_all}
use Rattle.std.proofs.Math.Seq.{take-append-add, drop-append_seam}
use Rattle.pssm_semantics.specs.declared.line.Line.{Line}
use Rattle.pssm_semantics.specs.declared.line.Line.TheVariants.{Start}
use Rattle.pssm_spelling.specs.SpellingReading.{EndsRun, stripped}
use Rattle.pssm_spelling.proofs.SpellingLaws.{stripped_again, ends_after}
use Rattle.pssm_lines.specs.declared.fault.LineFault.TheVariants.{BadLine, LongLine}
use Rattle.pssm_lines.specs.LineText.{line_text, header_text, header_line}
use Rattle.pssm_lines.specs.Grammar.{IsLine}
use Rattle.pssm_lines.specs.Faults.{is_no_feed, IsJournalLine, BeginsHeader, Begins, IsOpen, IsFaultOf}
use Rattle.pssm_lines.specs.inner.Lines.{BeginsNoLine, HasNoWholeLine}
use Rattle.pssm_lines.proofs.Feeds.{has_no_feed, feed_apart}
use Rattle.pssm_lines.proofs.LineFeeds.{clean_line}
use Rattle.pssm_lines.proofs.Samples.{sample_name}

-- ---- what begins

pub begins_header : (bytes : List ℕ) (r : Bool) → r ≡ starts_with eqb header_line bytes → (IsTrue r → BeginsHeader bytes) × (BeginsHeader bytes → IsTrue r)
begins_header bytes r e =
    let is = starts_is Decides-eqb header_line bytes r e in
    (λ yes. record { more = drop (length bytes) header_line; parts = is.0 yes }, λ begun. is.1 begun.more begun.parts)

pub begins_nothing : (begun : Bool) → Begins begun []
begins_nothing false = record { more = header_line; parts = refl }
begins_nothing true = record { line = Start (codes "a"); more = line_text (Start (codes "a")) ++ 10 ∷ []; is_line = sample_name; parts = refl }

-- ---- the first byte that is lost

-- What is known of the two ends between which the first lost byte lies.
pub record IsBetween (begun : Bool) (bytes : List ℕ) (low high : ℕ) : Type 0 where
  pub apart : low < high
  pub within : high ≤ length bytes
  pub begins : Begins begun (take low bytes)
  pub stops : Begins begun (take high bytes) → ⊥

pub between_first : (begun : Bool) (bytes : List ℕ) → (Begins begun bytes → ⊥) → IsBetween begun bytes 0 (length bytes)
between_first begun [] lost = absurd (lost (begins_nothing begun))
between_first begun (c ∷ bytes) lost = record {
  apart = omega arith;
  within = omega arith;
  begins = begins_nothing begun;
  stops = λ begun_all. lost (subst (λ (t : List ℕ). Begins begun t) (take_all (length (c ∷ bytes)) (c ∷ bytes) (omega arith)) begun_all);
}

-- ---- a line that goes wrong

one_more_taken : (xs : List ℕ) (n : ℕ) → n < length xs → take (suc n) xs ≡ take n xs ++ get_or xs n 0 ∷ []
one_more_taken [] n within = absurd (omega arith)
one_more_taken (x ∷ xs) zero within = refl
one_more_taken (x ∷ xs) (suc n) within = ap (λ (t : List ℕ). x ∷ t) (one_more_taken xs n (omega arith))

cut_at : (xs : List ℕ) (n : ℕ) → n < length xs → xs ≡ take n xs ++ get_or xs n 0 ∷ drop (suc n) xs
cut_at [] n within = absurd (omega arith)
cut_at (x ∷ xs) zero within = refl
cut_at (x ∷ xs) (suc n) within = ap (λ (t : List ℕ). x ∷ t) (cut_at xs n (omega arith))

clean_take : (xs : List ℕ) (n : ℕ) → has_no_feed xs ≡ true → has_no_feed (take n xs) ≡ true
clean_take [] zero clean = refl
clean_take [] (suc n) clean = refl
clean_take (x ∷ xs) zero clean = refl
clean_take (x ∷ xs) (suc n) clean =
    let both = and_parts (is_no_feed x) (has_no_feed xs) clean in
    and_from (is_no_feed x) (has_no_feed (take n xs)) both.0 (clean_take xs n both.1)

-- within a front without line feed
pub bad_within : (begun : Bool) (line byte : ℕ) (bytes front after : List ℕ) (n : ℕ) → bytes ≡ front ++ after → has_no_feed front ≡ true → length front ≤ 65536
    → n < length front → Begins begun (take n front) → (Begins begun (take (n + 1) front) → ⊥) → byte ≡ n + 1
    → (more : List ℕ) → IsFaultOf begun line (bytes ++ more) (BadLine line byte)
bad_within begun line byte bytes front after n parts clean few within begins stops counted more =
    let next = get_or front n 0 in
    let rest = drop (suc n) front ++ (after ++ more) in
    let long : length (take n front) ≡ n = length-take-le n front (omega arith) in
    let whole : bytes ++ more ≡ take n front ++ next ∷ rest =
    ap (λ (t : List ℕ). t ++ more) parts ∙ append_assoc front after more ∙ ap (λ (t : List ℕ). t ++ (after ++ more)) (cut_at front n within) ∙ append_assoc (take n front) (next ∷ drop (suc n) front) (after ++ more) in
    let here : n + 1 ≡ suc n = omega arith in
    let one : take (n + 1) front ≡ take n front ++ next ∷ [] = ap (λ (k : ℕ). take k front) here ∙ one_more_taken front n within in (
      refl,
      record {
        front = take n front;
        next = next;
        rest = rest;
        parts = whole;
        one_line = clean_take front n clean;
        begins = begins;
        stops = λ begun_more. stops (subst (λ (t : List ℕ). Begins begun t) (sym one) begun_more);
        counted = omega (arith, counted, long);
        within = inl (omega (arith, long));
      },
    )

-- Where no whole line stands, the front and a line feed begin none.
not_whole : (begun : Bool) (front after : List ℕ) → has_no_feed front ≡ true → length front ≤ 65536 → HasNoWholeLine begun (front ++ 10 ∷ after) → Begins begun (front ++ 10 ∷ []) → ⊥
not_whole false front after clean few none begun =
    let parts : header_text ++ 10 ∷ [] ≡ front ++ 10 ∷ begun.more = begun.parts ∙ append_assoc front (10 ∷ []) begun.more in
    let same : header_text ≡ front = (feed_apart header_text front [] begun.more refl clean parts).0 in
    none after (ap (λ (t : List ℕ). t ++ 10 ∷ after) (sym same))
not_whole true front after clean few none begun =
    let parts : line_text begun.line ++ 10 ∷ [] ≡ front ++ 10 ∷ begun.more = begun.parts ∙ append_assoc front (10 ∷ []) begun.more in
    let same : line_text begun.line ≡ front = (feed_apart (line_text begun.line) front [] begun.more (clean_line begun.line begun.is_line) clean parts).0 in
    let long : length (line_text begun.line) ≡ length front = ap length same in
    none begun.line after (record { line = begun.is_line; short = omega (arith, long) }) (ap (λ (t : List ℕ). t ++ 10 ∷ after) (sym same))

-- at a line feed
pub bad_at_feed : (begun : Bool) (line byte : ℕ) (bytes front after : List ℕ) → bytes ≡ front ++ 10 ∷ after → has_no_feed front ≡ true → length front ≤ 65536
    → Begins begun front → HasNoWholeLine begun bytes → byte ≡ length front + 1
    → (more : List ℕ) → IsFaultOf begun line (bytes ++ more) (BadLine line byte)
bad_at_feed begun line byte bytes front after parts clean few begins none counted more = (
  refl,
  record {
    front = front;
    next = 10;
    rest = after ++ more;
    parts = ap (λ (t : List ℕ). t ++ more) parts ∙ append_assoc front (10 ∷ after) more;
    one_line = clean;
    begins = begins;
    stops = not_whole begun front after clean few (subst (λ (t : List ℕ). HasNoWholeLine begun t) parts none);
    counted = omega (arith, counted);
    within = at_feed (length front) 10 few refl;
  },
)
  where
    at_feed : (n c : ℕ) → n ≤ 65536 → c ≡ 10 → (n < 65536) ⊎ ((n ≡ 65536) × (c ≡ 10))
    at_feed n c low feed = elim (cases_lt n 65536) [
      | inl less ↦ inl less
      | inr more_is ↦ inr (omega arith, feed)
    ]

-- past the greatest length
pub too_long : (begun : Bool) (line : ℕ) (bytes front after : List ℕ) (c : ℕ) → bytes ≡ front ++ c ∷ after → has_no_feed front ≡ true → length front ≡ 65536
    → Begins begun front → c ≢ 10 → (more : List ℕ) → IsFaultOf begun line (bytes ++ more) (LongLine line)
too_long begun line bytes front after c parts clean full begins other more = (
  refl,
  record {
    front = front;
    next = c;
    rest = after ++ more;
    parts = ap (λ (t : List ℕ). t ++ more) parts ∙ append_assoc front (c ∷ after) more;
    one_line = clean;
    begins = begins;
    full = full;
    goes_on = other;
  },
)

-- ---- the front that is looked at

-- a front without line feed, and what stands behind it
pub record IsLookedAt (bytes front after : List ℕ) : Type 0 where
  pub parts : bytes ≡ front ++ after
  pub clean : has_no_feed front ≡ true
  pub few : length front ≤ 65536
  pub ends : (length front ≡ 65536) ⊎ EndsRun is_no_feed after

short_run : (p : ℕ → Bool) (xs : List ℕ) (n : ℕ) → n ≤ prefix_len p xs → list_all p (take n xs) ≡ true
short_run p [] zero low = refl
short_run p [] (suc n) low = refl
short_run p (x ∷ xs) zero low = refl
short_run p (x ∷ xs) (suc n) low = by_test (p x) refl (λ k. short_run p xs n k) low where
  by_test : (t : Bool) → p x ≡ t → (n ≤ prefix_len p xs → list_all p (take n xs) ≡ true) → suc n ≤ cond (p x) (1 + prefix_len p xs) 0 → list_all p (x ∷ take n xs) ≡ true
  by_test true here others few =
      let m : cond (p x) (1 + prefix_len p xs) 0 ≡ 1 + prefix_len p xs = cond-true (p x) (1 + prefix_len p xs) 0 here in
      and_from (p x) (list_all p (take n xs)) here (others (omega arith))
  by_test false here others few =
      let m : cond (p x) (1 + prefix_len p xs) 0 ≡ 0 = cond-false (p x) (1 + prefix_len p xs) 0 here in
      absurd (omega arith)

pub looked_at : (bytes front after : List ℕ) (run len : ℕ) → run ≡ prefix_len is_no_feed bytes → len ≡ min run 65536 → len ≤ length bytes → front ≡ take len bytes → after ≡ drop len bytes → IsLookedAt bytes front after
looked_at bytes front after run len run_is len_is within front_is after_is =
    let long : length front ≡ len = ap length front_is ∙ length-take-le len bytes within in
    record {
      parts = sym (take-append-drop len bytes) ∙ ap (λ (t : List ℕ). t ++ drop len bytes) (sym front_is) ∙ ap (λ (t : List ℕ). front ++ t) (sym after_is);
      clean = subst (λ (t : List ℕ). has_no_feed t ≡ true) (sym front_is) (short_run is_no_feed bytes len (omega arith));
      few = omega arith;
      ends = elim (cases_lt len 65536) [
        | inl less ↦
            let whole : len ≡ prefix_len is_no_feed bytes = omega arith in
            inr (subst (λ (t : List ℕ). EndsRun is_no_feed t) (sym (after_is ∙ ap (λ (k : ℕ). drop k bytes) whole)) (ends_after is_no_feed bytes))
        | inr more ↦ inl (omega arith)
      ];
    }

-- all of the bytes
pub open_front : (begun : Bool) (bytes front after : List ℕ) → IsLookedAt bytes front after → length after ≡ 0 → Begins begun front → IsOpen begun bytes
open_front begun bytes front [] at none begins =
    let same : front ≡ bytes = sym (append-nil front) ∙ sym at.parts in
    record {
      one_line = subst (λ (t : List ℕ). has_no_feed t ≡ true) same at.clean;
      begins = subst (λ (t : List ℕ). Begins begun t) same begins;
      short = let long : length front ≡ length bytes = ap length same in omega (arith, at.few, long);
    }
open_front begun bytes front (c ∷ after) at none begins = absurd (omega arith)

pub feed_front : (begun : Bool) (line byte : ℕ) (bytes front after : List ℕ) → IsLookedAt bytes front after → 0 < length after → get_or after 0 0 ≡ 10 → Begins begun front → HasNoWholeLine begun bytes → byte ≡ length front + 1
    → (more : List ℕ) → IsFaultOf begun line (bytes ++ more) (BadLine line byte)
feed_front begun line byte bytes front [] at some feed begins none counted = absurd (omega arith)
feed_front begun line byte bytes front (c ∷ after) at some feed begins none counted =
    bad_at_feed begun line byte bytes front after (at.parts ∙ ap (λ (k : ℕ). front ++ k ∷ after) feed) at.clean at.few begins none counted

pub long_front : (begun : Bool) (line : ℕ) (bytes front after : List ℕ) → IsLookedAt bytes front after → 0 < length after → get_or after 0 0 ≢ 10 → Begins begun front
    → (more : List ℕ) → IsFaultOf begun line (bytes ++ more) (LongLine line)
long_front begun line bytes front [] at some other begins = absurd (omega arith)
long_front begun line bytes front (c ∷ after) at some other begins =
    let full : length front ≡ 65536 = elim at.ends [
      | inl full ↦ full
      | inr stops ↦ absurd (other (eqb-true c 10 (not-false (eqb c 10) stops)))
    ] in
    too_long begun line bytes front after c at.parts at.clean full begins other

-- ---- whole lines

pub no_header : (bytes : List ℕ) → stripped header_line bytes ≡ None → HasNoWholeLine false bytes
no_header bytes e = λ rest parts.
    let some : stripped header_line bytes ≡ Some rest = ap (λ (t : List ℕ). stripped header_line t) parts ∙ stripped_again header_line rest in
    absurd (cc (e, some))

-- ---- a line among the first bytes, as many as the longest line has with its line feed

feed_behind : (text rest : List ℕ) → text ++ 10 ∷ rest ≡ (text ++ 10 ∷ []) ++ rest
feed_behind text rest = sym (append_assoc text (10 ∷ []) rest)

module _ (bytes near : List ℕ) (n : ℕ) (n_is : n ≡ min (length bytes) 65537) (is_near : near ≡ take n bytes) where
  -- no line among them
  pub no_line : BeginsNoLine near → HasNoWholeLine true bytes
  no_line none = λ l rest is parts.
      let whole = line_text l ++ 10 ∷ [] in
      let all : bytes ≡ whole ++ rest = parts ∙ feed_behind (line_text l) rest in
      let some : length whole ≤ n = omega (arith, n_is, ap length all, length-append whole rest, is.short, length-append (line_text l) (10 ∷ [])) in
      let cut : n ≡ length whole + (n - length whole) = omega (arith, some) in
      let stands : near ≡ whole ++ take (n - length whole) rest =
      is_near ∙ ap (λ (t : List ℕ). take n t) all ∙ ap (λ (k : ℕ). take k (whole ++ rest)) cut ∙ take-append-add whole rest (n - length whole) in
      none l (take (n - length whole) rest) is.line (stands ∙ sym (feed_behind (line_text l) (take (n - length whole) rest)))

  module _ (l : Line) (after rest : List ℕ) (is : IsLine l) (parts : near ≡ line_text l ++ 10 ∷ after) (rest_is : rest ≡ drop (length near - length after) bytes) where
    -- A line among them is short enough.
    pub near_line : IsJournalLine l
    near_line =
        let few : length near ≤ 65537 = omega (arith, n_is, ap length is_near, length-take-le n bytes (omega (arith, n_is))) in
        record { line = is; short = omega (arith, ap length parts, few, length-append (line_text l) (10 ∷ after)) }

    -- Behind it stand all other bytes.
    pub near_rest : bytes ≡ line_text l ++ 10 ∷ rest
    near_rest =
        let whole = line_text l ++ 10 ∷ [] in
        let far = drop n bytes in
        let front : near ≡ whole ++ after = parts ∙ feed_behind (line_text l) after in
        let all : bytes ≡ whole ++ (after ++ far) =
        sym (take-append-drop n bytes) ∙ ap (λ (t : List ℕ). t ++ far) (sym is_near ∙ front) ∙ append_assoc whole after far in
        let size : length near - length after ≡ length whole = omega (arith, ap length front, length-append whole after) in
        let follows : rest ≡ after ++ far = rest_is ∙ ap (λ (k : ℕ). drop k bytes) size ∙ ap (λ (t : List ℕ). drop (length whole) t) all ∙ drop-append_seam whole (after ++ far) in
        all ∙ ap (λ (t : List ℕ). whole ++ t) (sym follows) ∙ sym (feed_behind (line_text l) rest)
