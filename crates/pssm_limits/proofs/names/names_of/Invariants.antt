use Rattle.std.proofs.Common.{◌<◌, length, take}
use Rattle.std.specs.List.{All}
use Rattle.pssm_limits.specs.inner.Variables.{AreNames, name_of, belongs}
use Rattle.pssm_limits.proofs.names.names_of.Given as goal

abbrev pub invariant-loop-n : goal.invariant-loop-n
invariant-loop-n l =
    AreNames (name_of l.fn.file) (belongs l.fn.file l.fn.marks l.fn.c) (take l.n-index l.fn.classes.variables.items) l.found.items
    × All (λ m. m < length l.fn.file.doc) l.found.items
