-- What reading one more line does to what was read, and what it is in the whole text.
use Rattle.std.proofs.Common.{◌≡◌, ℕ, ◌+◌, ◌<◌, ◌≤◌, Bool, true, false, cond, eqb, List, [], ◌∷◌, ◌++◌, length, Option, Some, None, is_some, refl, sym, ap, subst, ◌∙◌, append_assoc, arith, length-append}
use Rattle.std.specs.List.{AllByRecursion}
use Rattle.std.proofs.lemmas.List.{append-nil}
use Rattle.std.proofs.lemmas.List.Sums.{sum_by-append}
use Rattle.std.proofs.lemmas.Bool.{and_parts, not-true}
use Rattle.pssm_semantics.specs.declared.line.Line.{Line}
use Rattle.pssm_lines.specs.declared.fault.LineFault.{LineFault}
use Rattle.pssm_lines.specs.declared.fault.LineFault.TheVariants.{NoEnd}
use Rattle.pssm_lines.specs.LineText.{line_text, header_line, text_of, journal_text}
use Rattle.pssm_lines.specs.Faults.{is_no_feed, IsJournalLine, IsOpen, IsFaultOf, HasFault, in_header, in_line}
use Rattle.pssm_lines.specs.Reading.{Reading, line_feeds, stream_of, AreSoFar, next_number, HasRead, IsFed}
use Rattle.pssm_lines.specs.inner.Batches.{Advances, IsBatch}
use Rattle.pssm_lines.proofs.Feeds.{has_no_feed}
use Rattle.pssm_lines.proofs.FrontLaws.{begins_nothing}

-- ---- line feeds

feeds_append : (a b : List ℕ) → line_feeds (a ++ b) ≡ line_feeds a + line_feeds b
feeds_append a b = sum_by-append (λ c. cond (eqb c 10) 1 0) a b

pub no_feeds : (a : List ℕ) → has_no_feed a ≡ true → line_feeds a ≡ 0
no_feeds [] clean = refl
no_feeds (c ∷ a) clean =
    let both = and_parts (is_no_feed c) (has_no_feed a) clean in
    let others = no_feeds a both.1 in
    let here : line_feeds (c ∷ []) ≡ 0 = rw (not-true (eqb c 10) both.0) refl in
    feeds_append (c ∷ []) a ∙ omega (arith, here, others)

-- ---- what was read

-- what comes later stands at the end
pub stream_append : (begun : Bool) (lines : List Line) (rest more : List ℕ) → stream_of begun lines (rest ++ more) ≡ stream_of begun lines rest ++ more
stream_append true lines rest more = sym (append_assoc (journal_text lines) rest more)
stream_append false lines rest more = refl

pub text_of-append : (ls ms : List Line) → text_of (ls ++ ms) ≡ text_of ls ++ text_of ms
text_of-append [] ms = refl
text_of-append (l ∷ ls) ms = ap (λ (t : List ℕ). (line_text l ++ 10 ∷ []) ++ t) (text_of-append ls ms) ∙ sym (append_assoc (line_text l ++ 10 ∷ []) (text_of ls) (text_of ms))

-- a journal with one more line, and the text after it
pub one_more_line : (ls : List Line) (l : Line) (rest : List ℕ) → journal_text (ls ++ l ∷ []) ++ rest ≡ journal_text ls ++ (line_text l ++ 10 ∷ rest)
one_more_line ls l rest = rw (text_of-append ls (l ∷ [])) (simp append_assoc)

pub all-append : (P : Line → Type 0) (ls ms : List Line) → AllByRecursion P ls → AllByRecursion P ms → AllByRecursion P (ls ++ ms)
all-append P [] ms p q = q
all-append P (l ∷ ls) ms p q = (p.0, all-append P ls ms p.1 q)

pub advance_none : (begun : Bool) (number : ℕ) (text : List ℕ) → Advances begun number text [] begun number text
advance_none begun number text = record {
  stream = λ before so_far. ap (λ (ls : List Line). stream_of begun ls text) (append-nil before);
  so_far = λ before so_far. subst (λ (ls : List Line). AreSoFar begun ls) (sym (append-nil before)) so_far;
  numbered = λ before so_far is. is ∙ ap (λ (ls : List Line). next_number begun ls) (sym (append-nil before));
}

advance_header : (begun : Bool) (number : ℕ) (text : List ℕ) (lines : List Line) (n : ℕ) (rest after : List ℕ) → Advances begun number text lines false n rest → rest ≡ header_line ++ after → Advances begun number text lines true (n + 1) after
advance_header begun number text lines n rest after so parts = record {
  stream = λ before p.
      let none : before ++ lines ≡ [] = so.so_far before p in
      ap (λ (ls : List Line). journal_text ls ++ after) none ∙ sym parts ∙ so.stream before p;
  so_far = λ before p. subst (λ (ls : List Line). AllByRecursion IsJournalLine ls) (sym (so.so_far before p)) tt;
  numbered = λ before p is.
      let none : before ++ lines ≡ [] = so.so_far before p in
      let count : length (before ++ lines) ≡ 0 = ap length none in
      let here : n ≡ 1 = so.numbered before p is in
      omega arith;
}

advance_line : (begun : Bool) (number : ℕ) (text : List ℕ) (lines : List Line) (n : ℕ) (rest after : List ℕ) (l : Line) → Advances begun number text lines true n rest → IsJournalLine l → rest ≡ line_text l ++ 10 ∷ after → Advances begun number text (lines ++ l ∷ []) true (n + 1) after
advance_line begun number text lines n rest after l so is parts = record {
  stream = λ before p.
      ap (λ (ls : List Line). journal_text ls ++ after) (sym (append_assoc before lines (l ∷ [])))
      ∙ one_more_line (before ++ lines) l after
      ∙ ap (λ (t : List ℕ). journal_text (before ++ lines) ++ t) (sym parts)
      ∙ so.stream before p;
  so_far = λ before p. subst (λ (ls : List Line). AllByRecursion IsJournalLine ls) (append_assoc before lines (l ∷ [])) (all-append IsJournalLine (before ++ lines) (l ∷ []) (so.so_far before p) (is, tt));
  numbered = λ before p is_n.
      let here : n ≡ 2 + length (before ++ lines) = so.numbered before p is_n in
      let longer : length (before ++ (lines ++ l ∷ [])) ≡ length ((before ++ lines) ++ l ∷ []) = ap length (sym (append_assoc before lines (l ∷ []))) in
      omega (arith, here, longer, length-append (before ++ lines) (l ∷ []));
}

-- ---- the loop over the lines of a text

-- What is known before each line: what was read, and that line feeds are left for the numbers to come.
pub record IsUnderWay (begun : Bool) (number : ℕ) (text : List ℕ) (lines : List Line) (b : Bool) (n : ℕ) (rest : List ℕ) : Type 0 where
  pub advances : Advances begun number text lines b n rest
  pub counted : n + line_feeds rest ≤ number + line_feeds text

pub under_way_first : (begun : Bool) (number : ℕ) (text : List ℕ) → IsUnderWay begun number text [] begun number text
under_way_first begun number text = record { advances = advance_none begun number text; counted = omega arith }

-- what one line leaves
pub record IsPassed (begun : Bool) (number : ℕ) (text : List ℕ) (lines : List Line) (n : ℕ) (rest after : List ℕ) : Type 0 where
  pub next : IsUnderWay begun number text lines true (n + 1) after
  pub some : 0 < line_feeds rest
  pub shorter : length after < length rest

pub pass_header : (begun : Bool) (number : ℕ) (text : List ℕ) (lines : List Line) (b : Bool) (n : ℕ) (rest after : List ℕ) → IsUnderWay begun number text lines b n rest → b ≡ false → rest ≡ header_line ++ after → IsPassed begun number text lines n rest after
pass_header begun number text lines b n rest after way is parts =
    let here = subst (λ (x : Bool). Advances begun number text lines x n rest) is way.advances in
    let feeds : line_feeds rest ≡ 1 + line_feeds after = ap line_feeds parts ∙ feeds_append header_line after in
    let long : length rest ≡ 15 + length after = ap length parts ∙ length-append header_line after in
    record {
      next = record { advances = advance_header begun number text lines n rest after here parts; counted = omega (arith, feeds, way.counted) };
      some = omega (arith, feeds);
      shorter = omega (arith, long);
    }

pub pass_line : (begun : Bool) (number : ℕ) (text : List ℕ) (lines : List Line) (b : Bool) (n : ℕ) (rest after : List ℕ) (l : Line) → IsUnderWay begun number text lines b n rest → b ≡ true → IsJournalLine l → rest ≡ line_text l ++ 10 ∷ after → IsPassed begun number text (lines ++ l ∷ []) n rest after
pass_line begun number text lines b n rest after l way is line parts =
    let here = subst (λ (x : Bool). Advances begun number text lines x n rest) is way.advances in
    let feeds : line_feeds rest ≡ line_feeds (line_text l) + line_feeds (10 ∷ after) = ap line_feeds parts ∙ feeds_append (line_text l) (10 ∷ after) in
    let feed : line_feeds (10 ∷ after) ≡ 1 + line_feeds after = feeds_append (10 ∷ []) after in
    let long : length rest ≡ length (line_text l) + length (10 ∷ after) = ap length parts ∙ length-append (line_text l) (10 ∷ after) in
    record {
      next = record { advances = advance_line begun number text lines n rest after l here line parts; counted = omega (arith, feeds, feed, way.counted) };
      some = omega (arith, feeds, feed);
      shorter = omega (arith, long);
    }

-- the same, with what the code knows of the new values
pub moved : (begun : Bool) (number : ℕ) (text : List ℕ) (lines lines' : List Line) (b b' : Bool) (n : ℕ) (rest rest' : List ℕ) → IsUnderWay begun number text lines b n rest → lines' ≡ lines → b' ≡ b → rest' ≡ rest → IsUnderWay begun number text lines' b' n rest'
moved begun number text lines lines' b b' n rest rest' way lines_is b_is rest_is =
    subst (λ ls. IsUnderWay begun number text ls b' n rest') (sym lines_is) (subst (λ x. IsUnderWay begun number text lines x n rest') (sym b_is) (subst (λ t. IsUnderWay begun number text lines b n t) (sym rest_is) way))

pub open_nothing : IsOpen false []
open_nothing = record { one_line = refl; begins = begins_nothing false; short = omega arith }

-- ---- faults of the whole text

pub fault_of_stream : (begun : Bool) (number : ℕ) (text : List ℕ) (lines : List Line) (rest : List ℕ) (fault : LineFault) → text ≡ stream_of begun lines rest → AreSoFar begun lines → number ≡ next_number begun lines → IsFaultOf begun number rest fault → HasFault text lines fault
fault_of_stream false number text lines rest fault parts so_far numbered is =
    in_header so_far (subst (λ (t : List ℕ). IsFaultOf false 1 t fault) (sym parts) (subst (λ (n : ℕ). IsFaultOf false n rest fault) numbered is))
fault_of_stream true number text lines rest fault parts so_far numbered is =
    in_line rest parts so_far (subst (λ (n : ℕ). IsFaultOf true n rest fault) numbered is)

-- what a batch of lines tells of all that came
pub fed_by : (old new : Reading) (piece text : List ℕ) (lines : List Line) (b : Bool) (n : ℕ) (rest : List ℕ) (fault : Option LineFault) → text ≡ old.pending ++ piece → IsBatch old.begun old.number text lines b n rest fault
    → (fault ≡ None → (new.begun ≡ b) × (new.number ≡ n) × (new.pending ≡ rest)) → IsFed old new piece lines fault
fed_by old new piece text lines b n rest None text_is batch kept = λ came before read.
    let now = kept refl in
    let grown : came ++ piece ≡ stream_of old.begun before text =
    ap (λ (t : List ℕ). t ++ piece) read.stream ∙ sym (stream_append old.begun before old.pending piece) ∙ ap (λ (t : List ℕ). stream_of old.begun before t) (sym text_is) in
    record {
      stream = grown ∙ sym (batch.0.stream before read.so_far) ∙ ap (λ (x : Bool). stream_of x (before ++ lines) rest) (sym now.0) ∙ ap (λ (t : List ℕ). stream_of new.begun (before ++ lines) t) (sym now.2);
      so_far = subst (λ (x : Bool). AreSoFar x (before ++ lines)) (sym now.0) (batch.0.so_far before read.so_far);
      numbered = now.1 ∙ batch.0.numbered before read.so_far read.numbered ∙ ap (λ (x : Bool). next_number x (before ++ lines)) (sym now.0);
    }
fed_by old new piece text lines b n rest (Some fault) text_is batch kept = λ came before read more.
    let grown : came ++ piece ≡ stream_of old.begun before text =
    ap (λ (t : List ℕ). t ++ piece) read.stream ∙ sym (stream_append old.begun before old.pending piece) ∙ ap (λ (t : List ℕ). stream_of old.begun before t) (sym text_is) in
    let all : (came ++ piece) ++ more ≡ stream_of b (before ++ lines) (rest ++ more) =
    ap (λ (t : List ℕ). t ++ more) (grown ∙ sym (batch.0.stream before read.so_far)) ∙ sym (stream_append b (before ++ lines) rest more) in
    fault_of_stream b n ((came ++ piece) ++ more) (before ++ lines) (rest ++ more) fault all (batch.0.so_far before read.so_far) (batch.0.numbered before read.so_far read.numbered) (batch.1 more)

-- the end of the input
pub no_end : (reading : Reading) (came : List ℕ) (lines : List Line) → HasRead came lines reading → IsOpen reading.begun reading.pending → ((reading.begun ≡ true) × (reading.pending ≡ []) → ⊥) → HasFault came lines (NoEnd reading.number)
no_end reading came lines read is_open unfinished =
    fault_of_stream reading.begun reading.number came lines reading.pending (NoEnd reading.number) read.stream read.so_far read.numbered (refl, is_open, unfinished)

-- the same, with what the code knows of the old values
pub fed_at : (old new : Reading) (piece text : List ℕ) (begun : Bool) (number : ℕ) (lines : List Line) (b : Bool) (n : ℕ) (rest : List ℕ) (fault : Option LineFault) → begun ≡ old.begun → number ≡ old.number → text ≡ old.pending ++ piece
    → IsBatch begun number text lines b n rest fault → (fault ≡ None → (new.begun ≡ b) × (new.number ≡ n) × (new.pending ≡ rest)) → IsFed old new piece lines fault
fed_at old new piece text begun number lines b n rest fault begun_is number_is text_is batch kept =
    fed_by old new piece text lines b n rest fault text_is (subst (λ x. IsBatch x old.number text lines b n rest fault) begun_is (subst (λ k. IsBatch begun k text lines b n rest fault) number_is batch)) kept

-- how many line feeds there are in what waits and the piece
pub feeds_of : (pending piece text : List ℕ) → text ≡ pending ++ piece → has_no_feed pending ≡ true → line_feeds text ≡ line_feeds piece
feeds_of pending piece text parts clean =
    let none = no_feeds pending clean in
    ap line_feeds parts ∙ feeds_append pending piece ∙ omega (arith, none)

pub some_fault : (o : Option LineFault) → is_some o ≡ true → o ≡ None → ⊥
some_fault None some none = absurd cc
some_fault (Some f) some none = absurd cc

pub none_at_all : (o : Option LineFault) → is_some o ≡ false → o ≡ None
none_at_all None is = refl
none_at_all (Some f) is = absurd cc
