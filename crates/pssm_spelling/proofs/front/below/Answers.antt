use Rattle.std.proofs.Common.{refl, sym, ◌∙◌, arith}
use Rattle.std.specs.List.{prefix_len}
use Rattle.std.proofs.lemmas.List.Sums.{prefix_len-le-length}
use Rattle.pssm_spelling.specs.SpellingReading.{is_digit}
use Rattle.pssm_spelling.proofs.NumberReading.{number_many, number_not_plain, number_past, number_is}
use Rattle.pssm_spelling.proofs.front.below.Goals as goal

-- too many digits
pub returns-in_default-clause-gives : goal.returns-in_default-clause-gives
returns-in_default-clause-gives c = number_many c.args.limit c.args.bytes.now (prefix_len is_digit c.args.bytes.now) refl c.in_default.ensures.many

pub split_at-requires : goal.split_at-requires
split_at-requires c = omega (arith, prefix_len-le-length is_digit c.args.bytes.now, c.in-Some.ensures.count)

-- no digit, or a zero before others
pub returns-then-not-is_plain_number-clause-gives : goal.returns-then-not-is_plain_number-clause-gives
returns-then-not-is_plain_number-clause-gives c =
    number_not_plain c.args.limit c.args.bytes.now c.in-Some.len c.in-Some.ensures.count c.in-Some.ensures.few c.split_at.result.0.now c.split_at.ensures.front
    (sym c.is_plain_number.ensures ∙ c.if-not-is_plain_number.true)

-- the number
pub returns-then-value-limit-clause-gives : goal.returns-then-value-limit-clause-gives
returns-then-value-limit-clause-gives c =
    number_is c.args.limit c.args.bytes.now c.in-Some.len c.in-Some.ensures.count c.in-Some.ensures.few c.split_at.result.0.now c.split_at.ensures.front
    (sym c.is_plain_number.ensures ∙ c.if-not-is_plain_number.false) c.in-Some.value c.in-Some.ensures.value c.if-value-limit.true c.split_at.result.1.now c.split_at.ensures.back

-- one that is past the limit
pub returns-else-value-limit-clause-gives : goal.returns-else-value-limit-clause-gives
returns-else-value-limit-clause-gives c =
    number_past c.args.limit c.args.bytes.now c.in-Some.len c.in-Some.ensures.count c.in-Some.ensures.few c.split_at.result.0.now c.split_at.ensures.front
    (sym c.is_plain_number.ensures ∙ c.if-not-is_plain_number.false) c.in-Some.value c.in-Some.ensures.value c.if-value-limit.false
