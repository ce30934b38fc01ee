use Rattle.pssm_numbering.specs.Lists.{is_listed}
use Rattle.pssm_numbering.specs.inner.Tables.{AreGroups}
use Rattle.pssm_numbering.proofs.groups.groups_of.Given as goal

abbrev pub invariant-loop-n : goal.invariant-loop-n
invariant-loop-n l = AreGroups l.fn.file (is_listed l.kind) l.n l.groups.rows.items l.groups.places.items
