-- The outputs of a line have one space each, before them.
use Rattle.std.proofs.Common.{◌≡◌, ℕ, suc, ◌+◌, ◌<◌, ◌^◌, Bool, true, false, cond, eqb, List, [], ◌∷◌, ◌++◌, ℤ, pos, negsuc, length, refl, sym, ap, subst, ◌∙◌, arith, zero-add, Bor}
use Rattle.std.specs.Prelude.{codes, FitsSigned, map, count_by, ◌==◌}
use Rattle.std.specs.Int.{w64}
use Rattle.std.specs.List.{list_all, AllByRecursion, join_with_byte}
use Rattle.std.specs.Fmt.{decimal, signed_decimal}
use Rattle.std.proofs.lemmas.Bool.{and_parts, eqb-true}
use Rattle.std.proofs.lemmas.List.Sums.{sum_by-append, sum_by-cons}
use Rattle.std.proofs.lemmas.Fmt.{digits_decimal}
use Rattle.pssm_semantics.specs.declared.line.Line.{Line}
use Rattle.pssm_semantics.specs.declared.line.LineOut.{LineOut}
use Rattle.pssm_semantics.specs.declared.line.LineOut.TheVariants.{Mark, Send}
use Rattle.pssm_spelling.specs.Spelling.{IsName, continues_name}
use Rattle.pssm_spelling.specs.SpellingReading.{is_digit}
use Rattle.pssm_spelling.proofs.SpellingLaws.{digits_model, name_goes_on}
use Rattle.pssm_model.specs.declared.ids.VertexId.{VertexId}
use Rattle.pssm_model.specs.declared.ids.TransId.{TransId}
use Rattle.pssm_lines.specs.declared.parts.OutsText.{OutsText}
use Rattle.pssm_lines.specs.declared.parts.LineParts.{LineParts}
use Rattle.pssm_lines.specs.declared.parts.LineParts.TheVariants as part
use Rattle.pssm_lines.specs.Parts.{Shows}
use Rattle.pssm_journal.specs.Judged.{line_output_count}
use Rattle.pssm_lines.specs.LineText.{args_text, call_text, out_text, outs_text}
use Rattle.pssm_lines.specs.Grammar.{IsLine, AreArgs, IsSpelledOut}

-- how many spaces
abbrev pub space_count : List ℕ → ℕ
space_count bytes = count_by (λ c. c == 32) bytes

count-append : (a b : List ℕ) → space_count (a ++ b) ≡ space_count a + space_count b
count-append a b = sum_by-append (λ (c : ℕ). cond (c == 32) 1 0) a b

count-cons : (c : ℕ) (a : List ℕ) → space_count (c ∷ a) ≡ cond (c == 32) 1 0 + space_count a
count-cons c a = sum_by-cons (λ (k : ℕ). cond (k == 32) 1 0) c a

none_behind : (a b : List ℕ) → space_count a ≡ 0 → space_count b ≡ 0 → space_count (a ++ b) ≡ 0
none_behind a b p q = omega (arith, count-append a b, p, q)

-- characters of a kind that has no space
none_by : (p : ℕ → Bool) → (p 32 ≡ true → ⊥) → (xs : List ℕ) → list_all p xs ≡ true → space_count xs ≡ 0
none_by p h [] e = refl
none_by p h (x ∷ xs) e =
    let both = and_parts (p x) (list_all p xs) e in
    by_test (eqb x 32) refl both.0 (none_by p h xs both.1) where
      by_test : (t : Bool) → eqb x 32 ≡ t → p x ≡ true → space_count xs ≡ 0 → space_count (x ∷ xs) ≡ 0
      by_test true same passes none = absurd (h (subst (λ k. p k ≡ true) (eqb-true x 32 same) passes))
      by_test false other passes none = count-cons x xs ∙ ap (λ t. cond t 1 0 + space_count xs) other ∙ zero-add (space_count xs) ∙ none

name_spaces : (text : List ℕ) → IsName text → space_count text ≡ 0
name_spaces text name = none_by continues_name (λ e. absurd cc) text (name_goes_on text name.spelled)

number_spaces : (n : ℕ) → n < 2 ^ 64 → space_count (decimal n) ≡ 0
number_spaces n small = none_by is_digit (λ e. absurd cc) (decimal n) (digits_decimal digits_model n small)

signed_spaces : (z : ℤ) → FitsSigned w64 z → space_count (signed_decimal z) ≡ 0
signed_spaces (pos n) fits = let small : n < 9223372036854775808 = fits.sfits in number_spaces n (omega arith)
signed_spaces (negsuc n) fits = let small : n < 9223372036854775808 = fits.sfits in none_behind (codes "-") (decimal (suc n)) refl (number_spaces (suc n) (omega arith))

joined_spaces : (args : List ℤ) → AllByRecursion (FitsSigned w64) args → space_count (join_with_byte 44 (map signed_decimal args)) ≡ 0
joined_spaces [] all = refl
joined_spaces (z ∷ []) all = signed_spaces z all.0
joined_spaces (z ∷ y ∷ args) all =
    none_behind (signed_decimal z) (44 ∷ join_with_byte 44 (map signed_decimal (y ∷ args))) (signed_spaces z all.0) (joined_spaces (y ∷ args) all.1)

args_spaces : (args : List ℤ) → AreArgs args → space_count (args_text args) ≡ 0
args_spaces args are =
    let joined = join_with_byte 44 (map signed_decimal args) in
    none_behind (codes "(") (joined ++ codes ")") refl (none_behind joined (codes ")") (joined_spaces args are.1) refl)

call_spaces : (object signal : List ℕ) (args : List ℤ) → IsName object → IsName signal → AreArgs args → space_count (call_text object signal args) ≡ 0
call_spaces object signal args name other are =
    none_behind object (codes "." ++ (signal ++ args_text args)) (name_spaces object name)
    (none_behind (codes ".") (signal ++ args_text args) refl (none_behind signal (args_text args) (name_spaces signal other) (args_spaces args are)))

out_spaces : (out : LineOut) → IsSpelledOut out → space_count (out_text out) ≡ 0
out_spaces (Mark mark args) is = none_behind (codes "!") (mark ++ args_text args) refl (none_behind mark (args_text args) (name_spaces mark is.0) (args_spaces args is.1))
out_spaces (Send object signal args) is = none_behind (codes ">") (call_text object signal args) refl (call_spaces object signal args is.0 is.1 is.2)

-- as many spaces as outputs
pub outs_spaces : (outs : List LineOut) → AllByRecursion IsSpelledOut outs → space_count (outs_text outs) ≡ length outs
outs_spaces [] all = refl
outs_spaces (out ∷ outs) all =
    omega (arith, count-append (codes " " ++ out_text out) (outs_text outs), count-append (codes " ") (out_text out), out_spaces out all.0, outs_spaces outs all.1)

-- the spaces of a text of outputs
abbrev pub text_spaces : OutsText → ℕ
text_spaces outs = space_count outs.bytes.now

-- as many spaces as outputs of the line that parts with outputs show
pub exit_count : (parts : LineParts) (object : Bor (List ℕ)) (state : VertexId) (outs : OutsText) (line : Line) → parts ≡ part.Exit object state outs → IsLine line → Shows parts line → text_spaces outs ≡ line_output_count line
exit_count parts object state outs line is is_line shown =
    let s = subst (λ (p : LineParts). Shows p line) is shown in
    let grammar = subst IsLine s.1 is_line in
    ap space_count s.2 ∙ outs_spaces s.0 grammar.2.1 ∙ sym (ap line_output_count s.1)

pub effect_count : (parts : LineParts) (object : Bor (List ℕ)) (t : TransId) (outs : OutsText) (line : Line) → parts ≡ part.Effect object t outs → IsLine line → Shows parts line → text_spaces outs ≡ line_output_count line
effect_count parts object t outs line is is_line shown =
    let s = subst (λ (p : LineParts). Shows p line) is shown in
    let grammar = subst IsLine s.1 is_line in
    ap space_count s.2 ∙ outs_spaces s.0 grammar.2.1 ∙ sym (ap line_output_count s.1)

pub enter_count : (parts : LineParts) (object : Bor (List ℕ)) (state : VertexId) (outs : OutsText) (line : Line) → parts ≡ part.Enter object state outs → IsLine line → Shows parts line → text_spaces outs ≡ line_output_count line
enter_count parts object state outs line is is_line shown =
    let s = subst (λ (p : LineParts). Shows p line) is shown in
    let grammar = subst IsLine s.1 is_line in
    ap space_count s.2 ∙ outs_spaces s.0 grammar.2.1 ∙ sym (ap line_output_count s.1)

pub do_count : (parts : LineParts) (object : Bor (List ℕ)) (state : VertexId) (step : ℕ) (outs : OutsText) (line : Line) → parts ≡ part.DoStep object state step outs → IsLine line → Shows parts line → text_spaces outs ≡ line_output_count line
do_count parts object state step outs line is is_line shown =
    let s = subst (λ (p : LineParts). Shows p line) is shown in
    let grammar = subst IsLine s.1 is_line in
    ap space_count s.2 ∙ outs_spaces s.0 grammar.3.1 ∙ sym (ap line_output_count s.1)
