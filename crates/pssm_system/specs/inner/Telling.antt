-- The journal that a follower has been told.
use Rattle.std.specs.Prelude.{List, map}
use Rattle.pssm_semantics.specs.declared.entry.Entry.{Entry}
use Rattle.pssm_system.specs.declared.follower.Told.{Told}

-- the entries that it has been told, in order
abbrev pub entries_of : List Told → List Entry
entries_of = map (λ x. x.entry.value)
