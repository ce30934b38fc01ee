use Rattle.std.proofs.Common.{ℕ, arith, length-drop}
use Rattle.std.proofs.lemmas.List.{length-take}
use Rattle.std.proofs.lemmas.List.Sums.{prefix_len-le-length}
use Rattle.pssm_spelling.specs.SpellingReading.{is_digit}
use Rattle.pssm_acts.proofs.token.number.Goals as goal

pub overflow_add-result : goal.overflow_add-result
overflow_add-result c = omega (arith, prefix_len-le-length {X = ℕ} is_digit, length-drop {A = ℕ}, length-take {A = ℕ})

pub returns-else-digits-eq0-clause-within : goal.returns-else-digits-eq0-clause-within
returns-else-digits-eq0-clause-within c = omega (arith, prefix_len-le-length {X = ℕ} is_digit, length-drop {A = ℕ}, length-take {A = ℕ})

pub returns-in_default-clause-within : goal.returns-in_default-clause-within
returns-in_default-clause-within c = omega (arith, prefix_len-le-length is_digit c.args.bytes.now)
