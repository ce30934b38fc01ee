use Rattle.pssm_heritage.specs.inner.Tables.{IsNumbering}
use Rattle.pssm_heritage.proofs.numbers.numbers_of.Given as goal

abbrev pub invariant-loop-k : goal.invariant-loop-k
invariant-loop-k l = IsNumbering l.fn.draft l.fn.kind l.fn.machines l.k 0 l.numbers.rows.items l.numbers.firsts.items
