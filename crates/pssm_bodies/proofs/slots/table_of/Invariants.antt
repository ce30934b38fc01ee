use Rattle.std.proofs.Common.{◌≡◌, take, length}
use Rattle.pssm_bodies.specs.inner.Counts.{IsTable}
use Rattle.pssm_bodies.proofs.slots.table_of.Given as goal

abbrev pub invariant-loop-slot : goal.invariant-loop-slot
invariant-loop-slot l = record { width : length l.table.items ≡ l.width; slots : IsTable (take l.slot-index l.slots) l.table.items }
