use Rattle.std.proofs.Common.{ℕ, arith}
use Rattle.std.proofs.lemmas.List.{length-take}
use Rattle.std.proofs.lemmas.List.Sums.{prefix_len-le-length}
use Rattle.pssm_spelling.specs.Spelling.{continues_name}
use Rattle.pssm_acts.proofs.token.token_at.Goals as goal

pub slice_bounds-kind_of_word-end : goal.slice_bounds-kind_of_word-end
slice_bounds-kind_of_word-end c = omega (arith, prefix_len-le-length continues_name c.args.bytes.now, length-take {A = ℕ})

pub returns-then-name_starts-clause-within : goal.returns-then-name_starts-clause-within
returns-then-name_starts-clause-within c = omega (arith, prefix_len-le-length continues_name c.args.bytes.now)
