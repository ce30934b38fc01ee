-- Each text is that of a journal or has a fault.
use Rattle.std.proofs.Common.{◌≡◌, ℕ, zero, suc, ◌+◌, ◌<◌, ◌≤◌, min, Bool, true, false, eqb, List, [], ◌∷◌, ◌++◌, length, take, drop, get_or, Option, Some, None, refl, sym, ap, subst, ◌∙◌, append_assoc, arith, inl, inr, ◌⊎◌, length-append}
use Rattle.std.specs.List.{AllByRecursion, prefix_len, starts_with}
use Rattle.std.proofs.lemmas.Bool.{cases_lt, eqb-true, eqb-false}
use Rattle.std.proofs.lemmas.List.{append-nil, take_all}
use Rattle.std.proofs.lemmas.List.Sums.{prefix_len-le-length}
use Rattle.pssm_semantics.specs.declared.line.Line.{Line}
use Rattle.pssm_lines.specs.declared.fault.LineFault.{LineFault}
use Rattle.pssm_lines.specs.declared.fault.LineFault.TheVariants.{BadLine, LongLine, NoEnd}
use Rattle.pssm_lines.specs.LineText.{line_text, header_text, header_line, text_of, journal_text}
use Rattle.pssm_lines.specs.Faults.{is_no_feed, IsJournalLine, Begins, IsFaultOf, HasFault, in_header, in_line}
use Rattle.pssm_lines.specs.inner.LineReading.{Shown, shown_of, line_taken}
use Rattle.pssm_lines.specs.inner.Lines.{IsWholeLine, IsEndedBy, samples}
use Rattle.pssm_lines.proofs.Readers.{got, same_got}
use Rattle.pssm_lines.proofs.LineLaws.{line_takes, line_again}
use Rattle.pssm_lines.proofs.Feeds.{has_no_feed, feed_apart}
use Rattle.pssm_lines.proofs.LineFeeds.{clean_line}
use Rattle.pssm_lines.proofs.ClosingLaws.{begun_is_ended, ended_is_begun}
use Rattle.pssm_lines.proofs.FrontLaws.{begins_header, begins_nothing, bad_within, open_front, long_front, IsLookedAt, looked_at}

-- ---- what can be decided

abbrev Decided : Type 0 → Type 0
Decided P = P ⊎ (P → ⊥)

-- below a limit some number has what can be decided, or none has
below : (P : ℕ → Type 0) → ((n : ℕ) → Decided (P n)) → (limit : ℕ) → ((n : ℕ) × (n < limit) × P n) ⊎ ((n : ℕ) → n < limit → P n → ⊥)
below P decide zero = inr (λ n low p. absurd (omega arith))
below P decide (suc limit) = elim (decide limit) [
  | inl here ↦ inl (limit, omega arith, here)
  | inr none ↦ elim (below P decide limit) [
    | inl found ↦ inl (found.0, omega (arith, found.1), found.2)
    | inr others ↦ inr (λ n low p. elim (cases_lt n limit) [
      | inl less ↦ others n less p
      | inr more ↦ let same : n ≡ limit = omega arith in none (subst P same p)
    ])
  ]
]

decide_whole : (bytes : List ℕ) → Decided (IsWholeLine bytes)
decide_whole bytes = by_cases (line_taken bytes) refl where
  by_cases : (o : Option (Shown × List ℕ)) → line_taken bytes ≡ o → Decided (IsWholeLine bytes)
  by_cases None is = inr (λ whole. absurd (cc (is, ap line_taken whole.2 ∙ line_again whole.0 [] whole.1)))
  by_cases (Some (s, [])) is = let at = line_takes bytes s [] is in inl (at.line, at.is_line, at.parts)
  by_cases (Some (s, c ∷ rest)) is = inr (λ whole.
      let again : line_taken bytes ≡ got (shown_of whole.0) [] = ap line_taken whole.2 ∙ line_again whole.0 [] whole.1 in
      let both = same_got s (shown_of whole.0) (c ∷ rest) [] (sym is ∙ again) in
      absurd (cc both.1))

decide_ended : (front sample : List ℕ) → Decided (IsEndedBy front sample)
decide_ended front sample = elim (below (λ n. IsWholeLine (front ++ drop n sample)) (λ n. decide_whole (front ++ drop n sample)) (suc (length sample))) [
  | inl found ↦ inl (found.0, omega (arith, found.1), found.2)
  | inr none ↦ inr (λ ended. none ended.0 (omega (arith, ended.1)) ended.2)
]

decide_begins : (begun : Bool) (bytes : List ℕ) → Decided (Begins begun bytes)
decide_begins false bytes = by_test (starts_with eqb header_line bytes) refl where
  by_test : (b : Bool) → starts_with eqb header_line bytes ≡ b → Decided (Begins false bytes)
  by_test true is = inl ((begins_header bytes true (sym is)).0 refl)
  by_test false is = inr (λ begun. absurd (cc ((begins_header bytes false (sym is)).1 begun)))
decide_begins true bytes = elim (below (λ k. IsEndedBy bytes (get_or samples k [])) (λ k. decide_ended bytes (get_or samples k [])) 12) [
  | inl found ↦ inl (ended_is_begun bytes (get_or samples found.0 []) found.2)
  | inr none ↦ inr (λ begun. let one = begun_is_ended bytes begun in none one.number one.few one.ended)
]

-- ---- the next line, or the fault

-- the last front that begins a line
lost : (begun : Bool) (bytes : List ℕ) (n : ℕ) → (Begins begun (take n bytes) → ⊥) → (k : ℕ) × (k < n) × Begins begun (take k bytes) × (Begins begun (take (k + 1) bytes) → ⊥)
lost begun bytes zero stops = absurd (stops (none bytes)) where
  none : (xs : List ℕ) → Begins begun (take 0 xs)
  none [] = begins_nothing begun
  none (x ∷ xs) = begins_nothing begun
lost begun bytes (suc n) stops = elim (decide_begins begun (take n bytes)) [
  | inl begins ↦ let more : n + 1 ≡ suc n = omega arith in (n, omega arith, begins, subst (λ (k : ℕ). Begins begun (take k bytes) → ⊥) (sym more) stops)
  | inr earlier ↦ let found = lost begun bytes n earlier in (found.0, omega (arith, found.1), found.2, found.3)
]

-- a whole line or the first line, the end, or a fault
data Next (begun : Bool) (bytes : List ℕ) : Type 0 where
  header : (rest : List ℕ) → begun ≡ false → bytes ≡ header_line ++ rest → Next begun bytes
  line : (l : Line) (rest : List ℕ) → begun ≡ true → IsJournalLine l → bytes ≡ line_text l ++ 10 ∷ rest → Next begun bytes
  done : begun ≡ true → bytes ≡ [] → Next begun bytes
  fault : ((number : ℕ) → (f : LineFault) × IsFaultOf begun number bytes f) → Next begun bytes

whole_next : (begun : Bool) (front after : List ℕ) → has_no_feed front ≡ true → length front ≤ 65536 → Begins begun (front ++ 10 ∷ []) → Next begun (front ++ 10 ∷ after)
whole_next false front after clean few begun =
    let same : header_text ≡ front = (feed_apart header_text front [] begun.more refl clean (begun.parts ∙ append_assoc front (10 ∷ []) begun.more)).0 in
    header after refl (ap (λ (t : List ℕ). t ++ 10 ∷ after) (sym same))
whole_next true front after clean few begun =
    let same : line_text begun.line ≡ front = (feed_apart (line_text begun.line) front [] begun.more (clean_line begun.line begun.is_line) clean (begun.parts ∙ append_assoc front (10 ∷ []) begun.more)).0 in
    let long : length (line_text begun.line) ≡ length front = ap length same in
    line begun.line after refl (record { line = begun.is_line; short = omega (arith, long) }) (ap (λ (t : List ℕ). t ++ 10 ∷ after) (sym same))

open_next : (begun : Bool) (bytes : List ℕ) → ((number : ℕ) → ((begun ≡ true) × (bytes ≡ []) → ⊥) → IsFaultOf begun number bytes (NoEnd number)) → Next begun bytes
open_next true [] ends = done refl refl
open_next true (c ∷ bytes) ends = fault (λ number. (NoEnd number, ends number (λ none. absurd (cc none.1))))
open_next false bytes ends = fault (λ number. (NoEnd number, ends number (λ none. absurd (cc none.0))))

at_least : (n : ℕ) → n ≤ 65536 → (n < 65536) ⊎ (n ≡ 65536)
at_least n few = elim (cases_lt n 65536) [ inl less ↦ inl less | inr more ↦ inr (omega arith) ]

-- a front that begins a line, and what stands behind it
behind_front : (begun : Bool) (bytes front after : List ℕ) → IsLookedAt bytes front after → Begins begun front → Next begun bytes
behind_front begun bytes front [] at begins = open_next begun bytes (λ number some. (refl, open_front begun bytes front [] at refl begins, some))
behind_front begun bytes front (c ∷ after) at begins = by_test (eqb c 10) refl (decide_begins begun (front ++ 10 ∷ [])) where
  by_test : (b : Bool) → eqb c 10 ≡ b → Decided (Begins begun (front ++ 10 ∷ [])) → Next begun bytes
  by_test true is (inl whole) =
      let parts : bytes ≡ front ++ 10 ∷ after = at.parts ∙ ap (λ (k : ℕ). front ++ k ∷ after) (eqb-true c 10 is) in
      subst (λ (t : List ℕ). Next begun t) (sym parts) (whole_next begun front after at.clean at.few whole)
  by_test true is (inr stops) =
      let feed : c ≡ 10 = eqb-true c 10 is in
      fault (λ number. (
        BadLine number (suc (length front)),
        (
          refl,
          record {
            front = front;
            next = c;
            rest = after;
            parts = at.parts;
            one_line = at.clean;
            begins = begins;
            stops = λ more. stops (subst (λ (k : ℕ). Begins begun (front ++ k ∷ [])) feed more);
            counted = refl;
            within = elim (at_least (length front) at.few) [ inl less ↦ inl less | inr full ↦ inr (full, feed) ];
          },
        ),
      ))
  by_test false is whole = fault (λ number. (LongLine number, subst (λ (t : List ℕ). IsFaultOf begun number t (LongLine number)) (append-nil bytes) (long_front begun number bytes front (c ∷ after) at (omega arith) (eqb-false c 10 is) begins [])))

next : (begun : Bool) (bytes : List ℕ) → Next begun bytes
next begun bytes =
    let run = prefix_len is_no_feed bytes in
    let len = min run 65536 in
    let front = take len bytes in
    let after = drop len bytes in
    let at : IsLookedAt bytes front after = looked_at bytes front after run len refl refl (omega (arith, prefix_len-le-length is_no_feed bytes)) refl refl in
    by_begins front after at (decide_begins begun front)
  where
    by_begins : (front after : List ℕ) → IsLookedAt bytes front after → Decided (Begins begun front) → Next begun bytes
    by_begins front after at (inl begins) = behind_front begun bytes front after at begins
    by_begins front after at (inr stops) =
        let all : take (length front) front ≡ front = take_all (length front) front (omega arith) in
        let found = lost begun front (length front) (λ begins. stops (subst (λ (t : List ℕ). Begins begun t) all begins)) in
        fault (λ number. (BadLine number (found.0 + 1), subst (λ (t : List ℕ). IsFaultOf begun number t (BadLine number (found.0 + 1))) (append-nil bytes) (bad_within begun number (found.0 + 1) bytes front after found.0 at.parts at.clean at.few found.1 found.2 found.3 refl [])))

-- ---- all lines

-- lines, and nothing or a fault after them
data Read (bytes : List ℕ) : Type 0 where
  all : (lines : List Line) → AllByRecursion IsJournalLine lines → bytes ≡ text_of lines → Read bytes
  some : (lines : List Line) (rest : List ℕ) → AllByRecursion IsJournalLine lines → bytes ≡ text_of lines ++ rest → ((number : ℕ) → (f : LineFault) × IsFaultOf true number rest f) → Read bytes

one_more : (bytes rest : List ℕ) (l : Line) → IsJournalLine l → bytes ≡ line_text l ++ 10 ∷ rest → Read rest → Read bytes
one_more bytes rest l is parts (all lines are text) =
    all (l ∷ lines) (is, are) (parts ∙ ap (λ (t : List ℕ). line_text l ++ 10 ∷ t) text ∙ sym (append_assoc (line_text l) (10 ∷ []) (text_of lines)))
one_more bytes rest l is parts (some lines left are text faulty) =
    some (l ∷ lines) left (is, are) (parts ∙ ap (λ (t : List ℕ). line_text l ++ 10 ∷ t) text ∙ simp append_assoc) faulty

read_all : (steps : ℕ) (bytes : List ℕ) → length bytes < steps → Read bytes
read_all zero bytes few = absurd (omega arith)
read_all (suc steps) bytes few = by_next (next true bytes) (λ rest less. read_all steps rest less) where
  by_next : Next true bytes → ((rest : List ℕ) → length rest < steps → Read rest) → Read bytes
  by_next (header rest unread parts) others = absurd cc
  by_next (line l rest begun_is is parts) others =
      let long : length bytes ≡ length (line_text l ++ 10 ∷ rest) = ap length parts in
      one_more bytes rest l is parts (others rest (omega (arith, long, length-append (line_text l) (10 ∷ rest))))
  by_next (done begun_is none) others = all [] tt none
  by_next (fault faulty) others = some [] bytes tt refl faulty

-- the text of these lines
pub record IsJournalText (text : List ℕ) : Type 0 where
  pub lines : List Line
  pub are : AllByRecursion IsJournalLine lines
  pub parts : text ≡ journal_text lines

pub record IsFaulty (text : List ℕ) : Type 0 where
  pub lines : List Line
  pub fault : LineFault
  pub has : HasFault text lines fault

pub each_text : (text : List ℕ) → IsJournalText text ⊎ IsFaulty text
each_text text = by_next (next false text) where
  by_rest : (rest : List ℕ) → text ≡ header_line ++ rest → Read rest → IsJournalText text ⊎ IsFaulty text
  by_rest rest parts (all lines are body) = inl (record { lines = lines; are = are; parts = parts ∙ ap (λ (t : List ℕ). header_line ++ t) body })
  by_rest rest parts (some lines left are body faulty) =
      let found = faulty (2 + length lines) in
      inr (record { lines = lines; fault = found.0; has = in_line left (parts ∙ ap (λ (t : List ℕ). header_line ++ t) body ∙ sym (append_assoc header_line (text_of lines) left)) are found.1 })

  by_next : Next false text → IsJournalText text ⊎ IsFaulty text
  by_next (header rest unread parts) = by_rest rest parts (read_all (suc (length rest)) rest (omega arith))
  by_next (line l rest begun_is is parts) = absurd cc
  by_next (done begun_is none) = absurd cc
  by_next (fault faulty) = let found = faulty 1 in inr (record { lines = []; fault = found.0; has = in_header refl found.1 })
