use Rattle.pssm_heritage.specs.inner.Tables.{IsNumbering}
use Rattle.pssm_heritage.proofs.numbers.add_machine.Given as goal

abbrev pub invariant-loop-i : goal.invariant-loop-i
invariant-loop-i l = IsNumbering l.fn.draft l.fn.kind l.fn.machines l.fn.k l.i l.numbers.rows.items l.numbers.firsts.items
