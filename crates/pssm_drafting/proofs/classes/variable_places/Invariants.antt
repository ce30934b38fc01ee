use Rattle.std.proofs.Common.{◌≡◌, take}
use Rattle.std.specs.Prelude.{filter}
use Rattle.pssm_numbering.specs.Meanings.{is_variable}
use Rattle.pssm_drafting.proofs.classes.variable_places.Given as goal

abbrev pub invariant-loop-n : goal.invariant-loop-n
invariant-loop-n l = l.list.items ≡ filter (is_variable l.file) (take l.n-index l.n-items)
