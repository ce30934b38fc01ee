use Rattle.std.proofs.Common.{arith}
use Rattle.pssm_spelling.proofs.SpellingLaws.{digit_more}
use Rattle.pssm_spelling.proofs.numbers.magnitude.Goals as goal

pub loop-digit-preserved : goal.loop-digit-preserved
loop-digit-preserved c =
    let more = digit_more c.args.digits.now c.loop-digit.digit-index c.requires.digits (omega arith) in
    omega (arith, more, c.loop-digit.invariant)
