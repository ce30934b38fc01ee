-- A text has one fault at most, and the lines of a journal have none.
use Rattle.std.proofs.Common.{◌≡◌, ℕ, ◌+◌, ◌<◌, ◌≤◌, Bool, true, false, List, [], ◌∷◌, ◌++◌, length, refl, sym, ap, subst, ◌∙◌, append_assoc, arith, inl, inr, length-append}
use Rattle.std.specs.List.{AllByRecursion}
use Rattle.std.proofs.lemmas.Bool.{cases_lt}
use Rattle.std.proofs.lemmas.List.{append-nil}
use Rattle.pssm_semantics.specs.declared.line.Line.{Line}
use Rattle.pssm_lines.specs.declared.fault.LineFault.{LineFault}
use Rattle.pssm_lines.specs.declared.fault.LineFault.TheVariants.{BadLine, LongLine, NoEnd}
use Rattle.pssm_lines.specs.LineText.{line_text, header_text, header_line, text_of, journal_text}
use Rattle.pssm_lines.specs.Faults.{IsJournalLine, Begins, IsBadAt, IsTooLong, IsOpen, IsFaultOf, HasFault, in_header, in_line}
use Rattle.pssm_lines.proofs.Cuts.{Cut, within, beyond, cut}
use Rattle.pssm_lines.proofs.Feeds.{has_no_feed, feed_beyond}
use Rattle.pssm_lines.proofs.LineFeeds.{clean_line}
use Rattle.pssm_lines.proofs.Spellings.{lines_apart}

-- ---- fronts of one list

-- of two fronts of one list, the longer goes on from the shorter
record GoesOn (a b c d : List ℕ) : Type 0 where
  between : List ℕ
  longer : c ≡ a ++ between
  rest : b ≡ between ++ d

nothing : (xs : List ℕ) → length xs ≡ 0 → xs ≡ []
nothing [] e = refl
nothing (x ∷ xs) e = absurd (omega arith)

goes_on : (a b c d : List ℕ) → a ++ b ≡ c ++ d → length a ≤ length c → GoesOn a b c d
goes_on a b c d e few = by_cut (cut a b c d e) where
  by_cut : Cut a b c d → GoesOn a b c d
  by_cut (within left a_is d_is) =
      let long : length a ≡ length (c ++ left) = ap length a_is in
      let none : left ≡ [] = nothing left (omega (arith, long, length-append c left)) in
      let same : a ≡ c = a_is ∙ ap (λ (t : List ℕ). c ++ t) none ∙ append-nil c in
      record { between = []; longer = sym same ∙ sym (append-nil a); rest = sym (d_is ∙ ap (λ (t : List ℕ). t ++ b) none) }
  by_cut (beyond passed c_is b_is) = record { between = passed; longer = c_is; rest = b_is }

-- what begins a line does so from its first byte on
begins_front : (begun : Bool) (a b : List ℕ) → Begins begun (a ++ b) → Begins begun a
begins_front false a b is = record { more = b ++ is.more; parts = is.parts ∙ append_assoc a b is.more }
begins_front true a b is = record { line = is.line; more = b ++ is.more; is_line = is.is_line; parts = is.parts ∙ append_assoc a b is.more }

-- A front with one byte more is within a longer front of the same bytes.
one_more : (begun : Bool) (front rest other others : List ℕ) (c : ℕ) → front ++ c ∷ rest ≡ other ++ others → length front < length other → Begins begun other → Begins begun (front ++ c ∷ [])
one_more begun front rest other others c e few is =
    let longer : length (front ++ c ∷ []) ≤ length other = omega (arith, few, length-append front (c ∷ [])) in
    let on = goes_on (front ++ c ∷ []) rest other others (append_assoc front (c ∷ []) rest ∙ e) longer in
    begins_front begun (front ++ c ∷ []) on.between (subst (λ (t : List ℕ). Begins begun t) on.longer is)

-- ---- one fault of one line

-- fronts of one length are one, and so are the bytes after them
same_front : (a b c d : List ℕ) (x y : ℕ) → a ++ x ∷ b ≡ c ++ y ∷ d → length a ≡ length c → x ≡ y
same_front [] b [] d x y e same = cc
same_front [] b (c ∷ cs) d x y e same = absurd (omega arith)
same_front (a ∷ as_) b [] d x y e same = absurd (omega arith)
same_front (a ∷ as_) b (c ∷ cs) d x y e same = let tail : as_ ++ x ∷ b ≡ cs ++ y ∷ d = cc in same_front as_ b cs d x y tail (omega arith)

not_before : (begun : Bool) (bytes : List ℕ) (i j : ℕ) (a : IsBadAt begun bytes i) (b : IsBadAt begun bytes j) → length a.front < length b.front → ⊥
not_before begun bytes i j a b less = a.stops (one_more begun a.front a.rest b.front (b.next ∷ b.rest) a.next (sym a.parts ∙ b.parts) less b.begins)

one_byte : (begun : Bool) (bytes : List ℕ) (i j : ℕ) → IsBadAt begun bytes i → IsBadAt begun bytes j → i ≡ j
one_byte begun bytes i j a b = elim (cases_lt (length a.front) (length b.front)) [
  | inl less ↦ absurd (not_before begun bytes i j a b less)
  | inr most ↦ elim (cases_lt (length b.front) (length a.front)) [
    | inl less ↦ absurd (not_before begun bytes j i b a less)
    | inr least ↦ omega (arith, a.counted, b.counted)
  ]
]

bad_not_long : (begun : Bool) (bytes : List ℕ) (i : ℕ) → IsBadAt begun bytes i → IsTooLong begun bytes → ⊥
bad_not_long begun bytes i a b = elim a.within [
  | inl less ↦ a.stops (one_more begun a.front a.rest b.front (b.next ∷ b.rest) a.next (sym a.parts ∙ b.parts) (omega (arith, less, b.full)) b.begins)
  | inr full ↦
      let same : a.next ≡ b.next = same_front a.front a.rest b.front b.rest a.next b.next (sym a.parts ∙ b.parts) (full.0 ∙ sym b.full) in
      b.goes_on (sym same ∙ full.1)
]

bad_not_open : (begun : Bool) (bytes : List ℕ) (i : ℕ) → IsBadAt begun bytes i → IsOpen begun bytes → ⊥
bad_not_open begun bytes i a b =
    let long : length bytes ≡ length (a.front ++ a.next ∷ a.rest) = ap length a.parts in
    a.stops (one_more begun a.front a.rest bytes [] a.next (sym a.parts ∙ sym (append-nil bytes)) (omega (arith, long, length-append a.front (a.next ∷ a.rest))) b.begins)

long_not_open : (begun : Bool) (bytes : List ℕ) → IsTooLong begun bytes → IsOpen begun bytes → ⊥
long_not_open begun bytes a b =
    let long : length bytes ≡ length (a.front ++ a.next ∷ a.rest) = ap length a.parts in
    absurd (omega (arith, long, a.full, b.short, length-append a.front (a.next ∷ a.rest)))

fault_unique : (begun : Bool) (number : ℕ) (bytes : List ℕ) (f g : LineFault) → IsFaultOf begun number bytes f → IsFaultOf begun number bytes g → f ≡ g
fault_unique begun number bytes (BadLine line byte) (BadLine line' byte') p q = let same : byte ≡ byte' = one_byte begun bytes byte byte' p.1 q.1 in cc (p.0, q.0, same)
fault_unique begun number bytes (BadLine line byte) (LongLine line') p q = absurd (bad_not_long begun bytes byte p.1 q.1)
fault_unique begun number bytes (BadLine line byte) (NoEnd line') p q = absurd (bad_not_open begun bytes byte p.1 q.1)
fault_unique begun number bytes (LongLine line) (BadLine line' byte') p q = absurd (bad_not_long begun bytes byte' q.1 p.1)
fault_unique begun number bytes (LongLine line) (LongLine line') p q = cc (p.0, q.0)
fault_unique begun number bytes (LongLine line) (NoEnd line') p q = absurd (long_not_open begun bytes p.1 q.1)
fault_unique begun number bytes (NoEnd line) (BadLine line' byte') p q = absurd (bad_not_open begun bytes byte' q.1 p.1)
fault_unique begun number bytes (NoEnd line) (LongLine line') p q = absurd (long_not_open begun bytes q.1 p.1)
fault_unique begun number bytes (NoEnd line) (NoEnd line') p q = cc (p.0, q.0)

-- ---- no fault where a line stands

-- a whole line of a journal, or its first line, as bytes
record IsWhole (begun : Bool) (text : List ℕ) : Type 0 where
  clean : has_no_feed text ≡ true
  short : length text ≤ 65536
  whole : Begins begun (text ++ 10 ∷ [])

whole_header : IsWhole false header_text
whole_header = record { clean = refl; short = omega arith; whole = record { more = []; parts = sym (append-nil header_line) } }

whole_line : (l : Line) → IsJournalLine l → IsWhole true (line_text l)
whole_line l is = record { clean = clean_line l is.line; short = is.short; whole = record { line = l; more = []; is_line = is.line; parts = sym (append-nil (line_text l ++ 10 ∷ [])) } }

not_bad : (begun : Bool) (text rest : List ℕ) (i : ℕ) → IsWhole begun text → IsBadAt begun (text ++ 10 ∷ rest) i → ⊥
not_bad begun text rest i is a =
    let few : length a.front ≤ length text = feed_beyond a.front (a.next ∷ a.rest) text rest a.one_line (sym a.parts) in
    a.stops (one_more begun a.front a.rest (text ++ 10 ∷ []) rest a.next (sym a.parts ∙ sym (append_assoc text (10 ∷ []) rest)) (omega (arith, few, length-append text (10 ∷ []))) is.whole)

not_long : (begun : Bool) (text rest : List ℕ) → IsWhole begun text → IsTooLong begun (text ++ 10 ∷ rest) → ⊥
not_long begun text rest is a =
    let few : length a.front ≤ length text = feed_beyond a.front (a.next ∷ a.rest) text rest a.one_line (sym a.parts) in
    let same : a.next ≡ 10 = same_front a.front a.rest text rest a.next 10 (sym a.parts) (omega (arith, few, a.full, is.short)) in
    a.goes_on same

feed_within : (begun : Bool) (text rest : List ℕ) → IsOpen begun (text ++ 10 ∷ rest) → ⊥
feed_within begun text rest a =
    let few = feed_beyond (text ++ 10 ∷ rest) [] text rest a.one_line (append-nil (text ++ 10 ∷ rest)) in
    absurd (omega (arith, few, length-append text (10 ∷ rest)))

no_fault : (begun : Bool) (number : ℕ) (text rest : List ℕ) (f : LineFault) → IsWhole begun text → IsFaultOf begun number (text ++ 10 ∷ rest) f → ⊥
no_fault begun number text rest (BadLine line byte) is p = not_bad begun text rest byte is p.1
no_fault begun number text rest (LongLine line) is p = not_long begun text rest is p.1
no_fault begun number text rest (NoEnd line) is p = feed_within begun text rest p.1

no_fault_at_end : (number : ℕ) (f : LineFault) → IsFaultOf true number [] f → ⊥
no_fault_at_end number (BadLine line byte) p = absurd (omega (arith, ap length p.1.parts, length-append p.1.front (p.1.next ∷ p.1.rest)))
no_fault_at_end number (LongLine line) p = absurd (omega (arith, ap length p.1.parts, p.1.full, length-append p.1.front (p.1.next ∷ p.1.rest)))
no_fault_at_end number (NoEnd line) p = p.2 (refl, refl)

-- Where a line of a journal stands it has no fault.
pub no_line_fault : (l : Line) (number : ℕ) (rest : List ℕ) (f : LineFault) → IsJournalLine l → IsFaultOf true number (line_text l ++ 10 ∷ rest) f → ⊥
no_line_fault l number rest f is p = no_fault true number (line_text l) rest f (whole_line l is) p

-- ---- two readings of one text

line_and_more : (l : Line) (ls : List Line) (x : List ℕ) → text_of (l ∷ ls) ++ x ≡ line_text l ++ 10 ∷ (text_of ls ++ x)
line_and_more l ls x = simp append_assoc

compared : (ls ms : List Line) (x y : List ℕ) (m n : ℕ) (f g : LineFault) → AllByRecursion IsJournalLine ls → AllByRecursion IsJournalLine ms → IsFaultOf true m x f → IsFaultOf true n y g → text_of ls ++ x ≡ text_of ms ++ y → (ls ≡ ms) × (x ≡ y)
compared [] [] x y m n f g p q fx gy e = (refl, e)
compared [] (k ∷ ms) x y m n f g p q fx gy e =
    absurd (no_fault true m (line_text k) (text_of ms ++ y) f (whole_line k q.0) (subst (λ (t : List ℕ). IsFaultOf true m t f) (e ∙ line_and_more k ms y) fx))
compared (l ∷ ls) [] x y m n f g p q fx gy e =
    absurd (no_fault true n (line_text l) (text_of ls ++ x) g (whole_line l p.0) (subst (λ (t : List ℕ). IsFaultOf true n t g) (sym e ∙ line_and_more l ls x) gy))
compared (l ∷ ls) (k ∷ ms) x y m n f g p q fx gy e =
    let apart = lines_apart l k (text_of ls ++ x) (text_of ms ++ y) p.0.line q.0.line (sym (line_and_more l ls x) ∙ e ∙ line_and_more k ms y) in
    let more = compared ls ms x y m n f g p.1 q.1 fx gy apart.1 in
    (cc (apart.0, more.0), more.1)

behind_header : (a b : List ℕ) → header_line ++ a ≡ header_line ++ b → a ≡ b
behind_header a b e = cc

-- Where the first line stands it has no fault.
pub no_header_fault : (rest : List ℕ) (f : LineFault) → IsFaultOf false 1 (header_line ++ rest) f → ⊥
no_header_fault rest f p = no_fault false 1 header_text rest f whole_header p

-- the lines and the fault
pub record AreOne (ls ms : List Line) (f g : LineFault) : Type 0 where
  pub lines : ls ≡ ms
  pub fault : f ≡ g

pub one_reading : (text : List ℕ) (ls ms : List Line) (f g : LineFault) → HasFault text ls f → HasFault text ms g → AreOne ls ms f g
one_reading text ls ms f g (in_header none p) (in_header none' q) = record { lines = none ∙ sym none'; fault = fault_unique false 1 text f g p q }
one_reading text ls ms f g (in_header none p) (in_line y parts are q) = absurd (no_header_fault (text_of ms ++ y) f (subst (λ (t : List ℕ). IsFaultOf false 1 t f) (parts ∙ append_assoc header_line (text_of ms) y) p))
one_reading text ls ms f g (in_line x parts are p) (in_header none q) = absurd (no_header_fault (text_of ls ++ x) g (subst (λ (t : List ℕ). IsFaultOf false 1 t g) (parts ∙ append_assoc header_line (text_of ls) x) q))
one_reading text ls ms f g (in_line x parts are p) (in_line y parts' are' q) =
    let texts = behind_header (text_of ls ++ x) (text_of ms ++ y) (sym (append_assoc header_line (text_of ls) x) ∙ sym parts ∙ parts' ∙ append_assoc header_line (text_of ms) y) in
    let both = compared ls ms x y (2 + length ls) (2 + length ms) f g are are' p q texts in
    let here = subst (λ (t : List ℕ). IsFaultOf true (2 + length ls) t f) both.1 p in
    let there = subst (λ (zs : List Line). IsFaultOf true (2 + length zs) y g) (sym both.0) q in
    record { lines = both.0; fault = fault_unique true (2 + length ls) y f g here there }

-- lines of a journal, and lines with a fault behind them
ended : (ls ms : List Line) (y : List ℕ) (n : ℕ) (g : LineFault) → AllByRecursion IsJournalLine ls → AllByRecursion IsJournalLine ms → IsFaultOf true n y g → text_of ls ≡ text_of ms ++ y → ⊥
ended [] [] y n g p q gy e = no_fault_at_end n g (subst (λ (t : List ℕ). IsFaultOf true n t g) (sym e) gy)
ended [] (k ∷ ms) y n g p q gy e = absurd (let long : 0 ≡ length (line_text k ++ 10 ∷ (text_of ms ++ y)) = ap length (e ∙ line_and_more k ms y) in omega (arith, long, length-append (line_text k) (10 ∷ (text_of ms ++ y))))
ended (l ∷ ls) [] y n g p q gy e =
    no_fault true n (line_text l) (text_of ls) g (whole_line l p.0) (subst (λ (t : List ℕ). IsFaultOf true n t g) (sym e ∙ append_assoc (line_text l) (10 ∷ []) (text_of ls)) gy)
ended (l ∷ ls) (k ∷ ms) y n g p q gy e =
    let apart = lines_apart l k (text_of ls) (text_of ms ++ y) p.0.line q.0.line (sym (append_assoc (line_text l) (10 ∷ []) (text_of ls)) ∙ e ∙ line_and_more k ms y) in
    ended ls ms y n g p.1 q.1 gy apart.1

pub no_fault_at_all : (ls ms : List Line) (f : LineFault) → AllByRecursion IsJournalLine ls → HasFault (journal_text ls) ms f → ⊥
no_fault_at_all ls ms f are (in_header none p) = no_header_fault (text_of ls) f p
no_fault_at_all ls ms f are (in_line y parts are' q) =
    ended ls ms y (2 + length ms) f are are' q (behind_header (text_of ls) (text_of ms ++ y) (parts ∙ append_assoc header_line (text_of ms) y))

texts_apart : (ls ms : List Line) → AllByRecursion IsJournalLine ls → AllByRecursion IsJournalLine ms → text_of ls ≡ text_of ms → ls ≡ ms
texts_apart [] [] p q e = refl
texts_apart [] (k ∷ ms) p q e = absurd (let long : 0 ≡ length (line_text k ++ 10 ∷ text_of ms) = ap length (e ∙ append_assoc (line_text k) (10 ∷ []) (text_of ms)) in omega (arith, long, length-append (line_text k) (10 ∷ text_of ms)))
texts_apart (l ∷ ls) [] p q e = absurd (let long : length (line_text l ++ 10 ∷ text_of ls) ≡ 0 = ap length (sym (append_assoc (line_text l) (10 ∷ []) (text_of ls)) ∙ e) in omega (arith, long, length-append (line_text l) (10 ∷ text_of ls)))
texts_apart (l ∷ ls) (k ∷ ms) p q e =
    let apart = lines_apart l k (text_of ls) (text_of ms) p.0.line q.0.line (sym (append_assoc (line_text l) (10 ∷ []) (text_of ls)) ∙ e ∙ append_assoc (line_text k) (10 ∷ []) (text_of ms)) in
    let more = texts_apart ls ms p.1 q.1 apart.1 in
    cc (apart.0, more)

pub one_text : (ls ms : List Line) → AllByRecursion IsJournalLine ls → AllByRecursion IsJournalLine ms → journal_text ls ≡ journal_text ms → ls ≡ ms
one_text ls ms p q e = texts_apart ls ms p q (behind_header (text_of ls) (text_of ms) e)
