use Rattle.std.proofs.Common.{ℕ, get_or, take, sym, ap, ◌∙◌, arith}
use Rattle.std.specs.Str.Parse.{digits_value}
use Rattle.pssm_spelling.proofs.DigitRuns.{nothing_read, digit_range, digit_read, small_value, ends_at_other, ends_at_end, longer_run}
use Rattle.pssm_spelling.proofs.front.digits_at.Goals as goal

pub loop-c-init : goal.loop-c-init
loop-c-init c = record { at = omega arith; read = nothing_read c.args.bytes.now }

-- the byte is no digit
pub returns-then-not-is_decimal-clause-value : goal.returns-then-not-is_decimal-clause-value
returns-then-not-is_decimal-clause-value c =
    let l = c.loop-c in
    l.invariant.read.spelled ∙ ap (λ (n : ℕ). digits_value 10 (take n c.args.bytes.now)) (sym l.invariant.at)

pub returns-then-not-is_decimal-clause-count : goal.returns-then-not-is_decimal-clause-count
returns-then-not-is_decimal-clause-count c =
    let l = c.loop-c in
    l.invariant.at ∙ ends_at_other c.args.bytes.now l.c-index l.value l.invariant.read (omega arith) (sym c.is_decimal.ensures ∙ c.if-not-is_decimal.true)

pub returns-then-not-is_decimal-clause-few : goal.returns-then-not-is_decimal-clause-few
returns-then-not-is_decimal-clause-few c = let l = c.loop-c in omega (arith, l.invariant.at, l.invariant.read.few)

-- it is the eleventh
pub returns-then-len-eq10-clause-many : goal.returns-then-len-eq10-clause-many
returns-then-len-eq10-clause-many c =
    let l = c.loop-c in
    let longer = longer_run c.args.bytes.now l.c-index l.value l.invariant.read (omega arith) (sym c.is_decimal.ensures ∙ c.if-not-is_decimal.false) in
    omega (arith, longer, l.invariant.at)

-- one digit more
pub overflow_sub-digit : goal.overflow_sub-digit
overflow_sub-digit c =
    let range = digit_range (get_or c.args.bytes.now c.loop-c.c-index 0) (sym c.is_decimal.ensures ∙ c.if-not-is_decimal.false) in
    omega (arith, range.0)

pub overflow_mul-value : goal.overflow_mul-value
overflow_mul-value c = let l = c.loop-c in omega (arith, small_value c.args.bytes.now l.c-index l.value l.invariant.read)

pub overflow_add-value : goal.overflow_add-value
overflow_add-value c =
    let l = c.loop-c in
    let range = digit_range (get_or c.args.bytes.now l.c-index 0) (sym c.is_decimal.ensures ∙ c.if-not-is_decimal.false) in
    omega (arith, small_value c.args.bytes.now l.c-index l.value l.invariant.read, range.1)

pub loop-c-preserved : goal.loop-c-preserved
loop-c-preserved c =
    let l = c.loop-c in
    let read = l.invariant.read in
    let few = read.few in
    record {
      at = omega (arith, l.invariant.at);
      read = digit_read c.args.bytes.now l.c-index l.value _ read (omega arith) (omega (arith, l.invariant.at, few)) (sym c.is_decimal.ensures ∙ c.if-not-is_decimal.false) (omega arith);
    }

-- all bytes are digits
pub returns-clause-value : goal.returns-clause-value
returns-clause-value c =
    let l = c.loop-c in
    l.invariant.read.spelled ∙ ap (λ (n : ℕ). digits_value 10 (take n c.args.bytes.now)) (sym l.invariant.at)

pub returns-clause-count : goal.returns-clause-count
returns-clause-count c =
    let l = c.loop-c in
    l.invariant.at ∙ ends_at_end c.args.bytes.now l.c-index l.value l.invariant.read (omega arith)

pub returns-clause-few : goal.returns-clause-few
returns-clause-few c = let l = c.loop-c in omega (arith, l.invariant.at, l.invariant.read.few)
