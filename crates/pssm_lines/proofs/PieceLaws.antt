-- The pieces of a line: what is read of each is spelled so, and what is spelled so is read.
use Rattle.std.proofs.Common.{◌≡◌, ℕ, ◌<◌, ◌≤◌, List, [], ◌∷◌, ◌++◌, length, Option, Some, None, ℤ, pos, negsuc, refl, sym, ap, ◌∙◌, append_assoc, arith, inl, inr, length-append}
use Rattle.std.specs.Prelude.{codes, FitsSigned}
use Rattle.std.specs.Int.{w64}
use Rattle.std.specs.List.{AllByRecursion}
use Rattle.std.specs.Option.{option_map, option_map_or}
use Rattle.std.specs.Fmt.{decimal, signed_decimal}
use Rattle.std.proofs.lemmas.Fmt.{digits_decimal, decimal_nonempty}
use Rattle.std.proofs.lemmas.Option.{same_Some}
use Rattle.pssm_semantics.specs.declared.line.LineOut.{LineOut}
use Rattle.pssm_semantics.specs.declared.line.LineOut.TheVariants.{Mark, Send}
use Rattle.pssm_spelling.specs.Spelling.{IsName, continues_name}
use Rattle.pssm_spelling.specs.SpellingReading.{is_digit, EndsRun, stripped, name_taken, number_taken, index_taken}
use Rattle.pssm_spelling.proofs.SpellingLaws.{stripped_takes, stripped_again, name_takes, name_again, number_takes, number_again, digits_model}
use Rattle.pssm_lines.specs.LineText.{args_text, out_text, outs_text}
use Rattle.pssm_lines.specs.declared.parts.OutParts.{OutParts}
use Rattle.pssm_lines.specs.declared.parts.OutParts.TheVariants as out_parts
use Rattle.pssm_lines.specs.Parts.{ShowsOut}
use Rattle.pssm_lines.specs.Grammar.{IsIndex, AreArgs, IsSpelledOut, AreSpelledOuts}
use Rattle.pssm_lines.specs.inner.LineReading.{◌>>=◌, joined_taken, signed_taken, args_taken, called_taken, mark_taken, send_taken, shown_out, out_taken, outs_taken, outs_span_taken}
use Rattle.pssm_lines.proofs.Readers.{chosen, choice_at, got, got_is, word_takes, word_again, Reads, step_takes, step_again, others_text, StopsAt, AreSome, joined_parts, joined_text, each_reads, joined_reads, turn_end}
use Rattle.pssm_lines.proofs.SignedLaws.{stripped_other, signed_reads}

-- any rest
abbrev pub Anything : List ℕ → Type 0
Anything rest = Unit {0}

-- ---- names and numbers

pub name_reads : Reads name_taken (λ t. t) IsName (EndsRun continues_name)
name_reads = record {
  takes = λ bytes text rest e. let took = name_takes bytes text rest e in (took.parts, took.name);
  again = λ text rest name ends. name_again text rest name ends;
}

pub index_reads : Reads index_taken decimal IsIndex (EndsRun is_digit)
index_reads = record {
  takes = λ bytes n rest e. let took = number_takes 65536 bytes n rest (omega arith) e in (took.parts, took.small);
  again = λ n rest small ends. number_again 65536 n rest (omega arith) small ends;
}

pub number_reads : Reads number_taken decimal (λ n. n < 4294967296) (EndsRun is_digit)
number_reads = record {
  takes = λ bytes n rest e. let took = number_takes 4294967296 bytes n rest (omega arith) e in (took.parts, took.small);
  again = λ n rest small ends. number_again 4294967296 n rest (omega arith) small ends;
}

-- ---- arguments

numbers_reads : Reads (joined_taken 44 signed_taken 7) (joined_text 44 signed_decimal) (AreSome 7 (FitsSigned w64)) (λ rest. EndsRun is_digit rest × StopsAt 44 rest)
numbers_reads = joined_reads 44 signed_reads (λ more. refl) 7

numbers_text : List ℤ → List ℕ
numbers_text xs = joined_text 44 signed_decimal xs

args_takes : (bytes : List ℕ) (xs : List ℤ) (rest : List ℕ) → args_taken bytes ≡ got xs rest → (bytes ≡ args_text xs ++ rest) × AreArgs xs
unfolding args_taken
args_takes bytes xs rest e =
    let begin = word_takes (codes "(") bytes _ (xs, rest) e in
    elim (chosen (λ r. got [] r) (stripped (codes ")") begin.rest) (joined_taken 44 signed_taken 7 begin.rest >>= λ args. stripped (codes ")") args.1 >>= λ r. got args.0 r) (xs, rest) begin.more) [
      | inl none ↦
          let ended = stripped_takes (codes ")") begin.rest none.0 none.1 in
          got_is (λ ys r. (bytes ≡ args_text ys ++ r) × AreArgs ys) [] xs none.0 rest none.2 (begin.parts ∙ ap (λ (t : List ℕ). codes "(" ++ t) ended, (omega arith, tt))
      | inr some ↦
          let args = step_takes numbers_reads begin.rest (λ args. stripped (codes ")") args.1 >>= λ r. got args.0 r) (xs, rest) some in
          let end = word_takes (codes ")") args.rest (λ r. got args.value r) (xs, rest) args.more in
          let joined = joined_text 44 signed_decimal args.value in
          let parts : bytes ≡ args_text args.value ++ end.rest =
          begin.parts ∙ ap (λ (t : List ℕ). codes "(" ++ t) (args.parts ∙ ap (λ (t : List ℕ). joined ++ t) end.parts ∙ sym (append_assoc joined (codes ")") end.rest)) in
          got_is (λ ys r. (bytes ≡ args_text ys ++ r) × AreArgs ys) args.value xs end.rest rest end.more (parts, (args.is.1, args.is.2))
    ]

-- no parenthesis stands before a number
no_end : (z : ℤ) (more : List ℕ) → FitsSigned w64 z → stripped (codes ")") (signed_decimal z ++ more) ≡ None
unfolding stripped
no_end (pos n) more fits =
    let small : n < 9223372036854775808 = fits.sfits in
    stripped_other 41 (omega arith) (decimal n) more (digits_decimal digits_model n (omega arith)) (decimal_nonempty n (omega arith))
no_end (negsuc n) more fits = refl

args_again : (xs : List ℤ) (rest : List ℕ) → AreArgs xs → Anything rest → args_taken (args_text xs ++ rest) ≡ got xs rest
unfolding args_taken
args_again [] rest are any =
    word_again (codes "(") (codes ")" ++ rest) (λ inside. option_map_or (λ r. got [] r) (stripped (codes ")") inside) (joined_taken 44 signed_taken 7 inside >>= λ args. stripped (codes ")") args.1 >>= λ r. got args.0 r))
    ∙ choice_at (λ r. got [] r) (stripped (codes ")") (codes ")" ++ rest)) (joined_taken 44 signed_taken 7 (codes ")" ++ rest) >>= λ args. stripped (codes ")") args.1 >>= λ r. got args.0 r) rest (stripped_again (codes ")") rest)
args_again (x ∷ xs) rest are any =
    let joined = joined_text 44 signed_decimal (x ∷ xs) in
    let inside = joined ++ (codes ")" ++ rest) in
    let others = others_text 44 signed_decimal xs in
    let first : inside ≡ signed_decimal x ++ (others ++ (codes ")" ++ rest)) =
    ap (λ (t : List ℕ). t ++ (codes ")" ++ rest)) (joined_parts 44 signed_decimal x xs) ∙ append_assoc (signed_decimal x) others (codes ")" ++ rest) in
    let open_end : stripped (codes ")") inside ≡ None = ap (λ (t : List ℕ). stripped (codes ")") t) first ∙ no_end x (others ++ (codes ")" ++ rest)) are.1.0 in
    let after : Option (List ℤ × List ℕ) = joined_taken 44 signed_taken 7 inside >>= λ args. stripped (codes ")") args.1 >>= λ r. got args.0 r in
    ap (λ (t : List ℕ). args_taken (codes "(" ++ t)) (append_assoc joined (codes ")") rest)
    ∙ word_again (codes "(") inside (λ inside. option_map_or (λ r. got [] r) (stripped (codes ")") inside) (joined_taken 44 signed_taken 7 inside >>= λ args. stripped (codes ")") args.1 >>= λ r. got args.0 r))
    ∙ ap (λ o. option_map_or (λ r. got [] r) o after) open_end
    ∙ step_again numbers_reads (x ∷ xs) (codes ")" ++ rest) (λ args. stripped (codes ")") args.1 >>= λ r. got args.0 r) (omega arith, are.0, are.1) (refl, refl)
    ∙ word_again (codes ")") rest (λ r. got (x ∷ xs) r)

pub args_reads : Reads args_taken args_text AreArgs Anything
args_reads = record { takes = args_takes; again = args_again }

-- ---- a signal at an object

abbrev pub called_text : List ℕ × List ℕ → List ℕ
called_text c = c.0 ++ (codes "." ++ c.1)

abbrev pub IsCalled : List ℕ × List ℕ → Type 0
IsCalled c = IsName c.0 × IsName c.1

called_takes : (bytes : List ℕ) (c : List ℕ × List ℕ) (rest : List ℕ) → called_taken bytes ≡ got c rest → (bytes ≡ called_text c ++ rest) × IsCalled c
unfolding called_taken
called_takes bytes c rest e =
    let object = step_takes name_reads bytes _ (c, rest) e in
    let dot = word_takes (codes ".") object.rest _ (c, rest) object.more in
    let signal = step_takes name_reads dot.rest _ (c, rest) dot.more in
    let both : List ℕ × List ℕ = (object.value, signal.value) in
    let parts : bytes ≡ called_text both ++ signal.rest =
    object.parts ∙ ap (λ (t : List ℕ). object.value ++ t) (dot.parts ∙ ap (λ (t : List ℕ). codes "." ++ t) signal.parts) ∙ sym (append_assoc object.value (codes "." ++ signal.value) signal.rest) in
    got_is (λ x r. (bytes ≡ called_text x ++ r) × IsCalled x) both c signal.rest rest signal.more (parts, (object.is, signal.is))

called_again : (c : List ℕ × List ℕ) (rest : List ℕ) → IsCalled c → EndsRun continues_name rest → called_taken (called_text c ++ rest) ≡ got c rest
unfolding called_taken
called_again c rest is ends =
    ap called_taken (append_assoc c.0 (codes "." ++ c.1) rest)
    ∙ step_again name_reads c.0 (codes "." ++ (c.1 ++ rest)) (λ object. stripped (codes ".") object.1 >>= λ dot. name_taken dot >>= λ signal. got (object.0, signal.0) signal.1) is.0 refl
    ∙ word_again (codes ".") (c.1 ++ rest) (λ dot. name_taken dot >>= λ signal. got (c.0, signal.0) signal.1)
    ∙ step_again name_reads c.1 rest (λ signal. got (c.0, signal.0) signal.1) is.1 ends

pub called_reads : Reads called_taken called_text IsCalled (EndsRun continues_name)
called_reads = record { takes = called_takes; again = called_again }

-- ---- outputs

mark_takes : (bytes : List ℕ) (out : LineOut) (rest : List ℕ) → mark_taken bytes ≡ got out rest → (codes "!" ++ bytes ≡ out_text out ++ rest) × IsSpelledOut out
unfolding mark_taken
mark_takes bytes out rest e =
    let mark = step_takes name_reads bytes _ (out, rest) e in
    let args = step_takes args_reads mark.rest _ (out, rest) mark.more in
    let parts : codes "!" ++ bytes ≡ out_text (Mark mark.value args.value) ++ args.rest =
    ap (λ (t : List ℕ). codes "!" ++ t) (mark.parts ∙ ap (λ (t : List ℕ). mark.value ++ t) args.parts ∙ sym (append_assoc mark.value (args_text args.value) args.rest)) in
    got_is (λ x r. (codes "!" ++ bytes ≡ out_text x ++ r) × IsSpelledOut x) (Mark mark.value args.value) out args.rest rest args.more (parts, (mark.is, args.is))

send_takes : (bytes : List ℕ) (out : LineOut) (rest : List ℕ) → send_taken bytes ≡ got out rest → (codes ">" ++ bytes ≡ out_text out ++ rest) × IsSpelledOut out
unfolding send_taken
send_takes bytes out rest e =
    let called = step_takes called_reads bytes _ (out, rest) e in
    let args = step_takes args_reads called.rest _ (out, rest) called.more in
    let parts : codes ">" ++ bytes ≡ out_text (Send called.value.0 called.value.1 args.value) ++ args.rest =
    ap (λ (t : List ℕ). codes ">" ++ t) (called.parts ∙ ap (λ (t : List ℕ). called_text called.value ++ t) args.parts ∙ simp append_assoc) in
    got_is (λ x r. (codes ">" ++ bytes ≡ out_text x ++ r) × IsSpelledOut x) (Send called.value.0 called.value.1 args.value) out args.rest rest args.more (parts, (called.is.0, called.is.1, args.is))

out_takes : (bytes : List ℕ) (out : LineOut) (rest : List ℕ) → out_taken bytes ≡ got out rest → (bytes ≡ out_text out ++ rest) × IsSpelledOut out
unfolding out_taken
out_takes bytes out rest e =
    elim (chosen mark_taken (stripped (codes "!") bytes) (option_map_or send_taken (stripped (codes ">") bytes) None) (out, rest) e) [
      | inl b ↦ let took = mark_takes b.0 out rest b.2 in (stripped_takes (codes "!") bytes b.0 b.1 ∙ took.0, took.1)
      | inr other ↦ elim (chosen send_taken (stripped (codes ">") bytes) None (out, rest) other) [
        | inl b ↦ let took = send_takes b.0 out rest b.2 in (stripped_takes (codes ">") bytes b.0 b.1 ∙ took.0, took.1)
        | inr none ↦ absurd cc
      ]
    ]

mark_again : (mark : List ℕ) (args : List ℤ) (rest : List ℕ) → IsName mark → AreArgs args → mark_taken (mark ++ (args_text args ++ rest)) ≡ got (Mark mark args) rest
unfolding mark_taken
mark_again mark args rest name are =
    step_again name_reads mark (args_text args ++ rest) (λ m. args_taken m.1 >>= λ a. got (Mark m.0 a.0) a.1) name refl
    ∙ step_again args_reads args rest (λ a. got (Mark mark a.0) a.1) are tt

send_again : (object signal : List ℕ) (args : List ℤ) (rest : List ℕ) → IsName object → IsName signal → AreArgs args → send_taken (called_text (object, signal) ++ (args_text args ++ rest)) ≡ got (Send object signal args) rest
unfolding send_taken
send_again object signal args rest name other are =
    step_again called_reads (object, signal) (args_text args ++ rest) (λ c. args_taken c.1 >>= λ a. got (Send c.0.0 c.0.1 a.0) a.1) (name, other) refl
    ∙ step_again args_reads args rest (λ a. got (Send object signal a.0) a.1) are tt

out_again : (out : LineOut) (rest : List ℕ) → IsSpelledOut out → Anything rest → out_taken (out_text out ++ rest) ≡ got out rest
unfolding out_taken stripped
out_again (Mark mark args) rest is any =
    ap (λ (t : List ℕ). mark_taken t) (append_assoc mark (args_text args) rest) ∙ mark_again mark args rest is.0 is.1
out_again (Send object signal args) rest is any =
    let parts : (object ++ (codes "." ++ (signal ++ args_text args))) ++ rest ≡ called_text (object, signal) ++ (args_text args ++ rest) = simp append_assoc in
    ap (λ (t : List ℕ). send_taken t) parts ∙ send_again object signal args rest is.0 is.1 is.2

pub out_reads : Reads out_taken out_text IsSpelledOut Anything
out_reads = record { takes = out_takes; again = out_again }

pub outs_reads : Reads outs_taken outs_text AreSpelledOuts (λ rest. Anything rest × StopsAt 32 rest)
outs_reads = each_reads 32 out_reads (λ more. tt) 64

-- The text spells outputs.
abbrev pub IsOutsText : List ℕ → Type 0
IsOutsText text = (outs : List LineOut) × AreSpelledOuts outs × (text ≡ outs_text outs)

outs_span_takes : (bytes text rest : List ℕ) → outs_span_taken bytes ≡ got text rest → (bytes ≡ text ++ rest) × IsOutsText text
unfolding outs_span_taken
outs_span_takes bytes text rest e = by_cases (outs_taken bytes) refl e where
  by_cases : (o : Option (List LineOut × List ℕ)) → outs_taken bytes ≡ o → option_map (λ outs. (outs_text outs.0, outs.1)) o ≡ got text rest → (bytes ≡ text ++ rest) × IsOutsText text
  by_cases None is h = absurd cc
  by_cases (Some x) is h =
      let took = outs_reads.takes bytes x.0 x.1 is in
      got_is (λ t r. (bytes ≡ t ++ r) × IsOutsText t) (outs_text x.0) text x.1 rest h (took.0, (x.0, took.1, refl))

outs_span_again : (text rest : List ℕ) → IsOutsText text → StopsAt 32 rest → outs_span_taken (text ++ rest) ≡ got text rest
unfolding outs_span_taken
outs_span_again text rest is stops =
    ap (λ (t : List ℕ). outs_span_taken (t ++ rest)) is.2
    ∙ ap (λ o. option_map (λ outs. (outs_text outs.0, outs.1)) o) (outs_reads.again is.0 rest is.1 (tt, stops))
    ∙ ap (λ (t : List ℕ). got t rest) (sym is.2)

pub outs_span_reads : Reads outs_span_taken (λ t. t) IsOutsText (StopsAt 32)
outs_span_reads = record { takes = outs_span_takes; again = outs_span_again }

-- ---- for the functions that read them

pub few_numbers : (bytes : List ℕ) (xs : List ℤ) (rest : List ℕ) → joined_taken 44 signed_taken 7 bytes ≡ got xs rest → length xs ≤ 8
few_numbers bytes xs rest e = (numbers_reads.takes bytes xs rest e).1.1

-- where no space stands at the front there are no outputs
pub no_outs : (bytes : List ℕ) → stripped (codes " ") bytes ≡ None → outs_span_taken bytes ≡ got [] bytes
unfolding outs_span_taken
no_outs bytes none = ap (λ o. option_map (λ outs. (outs_text outs.0, outs.1)) o) (turn_end 32 out_taken 64 bytes none)

-- what follows outputs, and their text before it
pub record IsSpan (bytes rest : List ℕ) : Type 0 where
  pub text : List ℕ
  pub parts : bytes ≡ text ++ rest
  pub taken : outs_span_taken bytes ≡ got text rest

pub span_at : (bytes rest : List ℕ) → option_map (λ x. x.1) (outs_taken bytes) ≡ Some rest → IsSpan bytes rest
unfolding outs_span_taken
span_at bytes rest e = by_cases (outs_taken bytes) refl e where
  by_cases : (o : Option (List LineOut × List ℕ)) → outs_taken bytes ≡ o → option_map (λ x. x.1) o ≡ Some rest → IsSpan bytes rest
  by_cases None is h = absurd cc
  by_cases (Some x) is h =
      let follows : x.1 ≡ rest = same_Some x.1 rest h in
      let took = outs_reads.takes bytes x.0 x.1 is in
      record {
        text = outs_text x.0;
        parts = took.0 ∙ ap (λ (t : List ℕ). outs_text x.0 ++ t) follows;
        taken = ap (λ o. option_map (λ outs. (outs_text outs.0, outs.1)) o) is ∙ ap (λ (t : List ℕ). got (outs_text x.0) t) follows;
      }

-- no outputs are left
pub no_more : (bytes : List ℕ) (spelled : List LineOut) → stripped (codes " ") bytes ≡ None → bytes ≡ outs_text spelled → spelled ≡ []
unfolding stripped
no_more bytes [] e text = refl
no_more bytes (x ∷ xs) e text =
    let some : stripped (codes " ") bytes ≡ Some (out_text x ++ outs_text xs) = ap (λ (t : List ℕ). stripped (codes " ") t) text in
    absurd cc

-- the first output, and the others
pub record IsNextOut (rest : List ℕ) (spelled : List LineOut) : Type 0 where
  pub first : LineOut
  pub others : List LineOut
  pub parts : spelled ≡ first ∷ others
  pub taken : out_taken rest ≡ got first (outs_text others)

pub next_is : (bytes rest : List ℕ) (spelled : List LineOut) → stripped (codes " ") bytes ≡ Some rest → AllByRecursion IsSpelledOut spelled → bytes ≡ outs_text spelled → IsNextOut rest spelled
next_is bytes rest [] e are text =
    let front : bytes ≡ codes " " ++ rest = stripped_takes (codes " ") bytes rest e in
    absurd cc
next_is bytes rest (x ∷ xs) e are text =
    let front : bytes ≡ codes " " ++ rest = stripped_takes (codes " ") bytes rest e in
    let left : rest ≡ out_text x ++ outs_text xs = cc in
    record { first = x; others = xs; parts = refl; taken = ap out_taken left ∙ out_again x (outs_text xs) are.0 tt }

-- an output that is read is shorter than its text, a space before it included
pub shorter_by_out : (bytes rest after : List ℕ) (out : LineOut) → stripped (codes " ") bytes ≡ Some rest → out_taken rest ≡ got out after → length after < length bytes
shorter_by_out bytes rest after out e taken =
    let front : length bytes ≡ length (codes " " ++ rest) = ap length (stripped_takes (codes " ") bytes rest e) in
    let parts : length rest ≡ length (out_text out ++ after) = ap length (out_takes rest out after taken).0 in
    omega (arith, front, parts, length-append (out_text out) after)

pub shows_out : (p : OutParts) (out : LineOut) → out ≡ shown_out p → ShowsOut p out
shows_out (out_parts.Mark mark args) out e = e
shows_out (out_parts.Send object signal args) out e = e
