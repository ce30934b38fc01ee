use Rattle.pssm_numbering.specs.inner.Tables.{AreMachines}
use Rattle.pssm_numbering.proofs.machines.table_of.Given as goal

abbrev pub invariant-loop-n : goal.invariant-loop-n
invariant-loop-n l = AreMachines l.file l.n l.table.items
