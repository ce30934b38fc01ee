-- Files of the system and standard output, of which only what went through them is told.
use Rattle.std.specs.Prelude.{ℕ, List}
use Rattle.pssm_base.specs.History.{Reading}

-- files of the system: the calls that were answered, the first of them first, and the count of faults, of all paths together
pub record FilesRead : Type 0 where
  pub readings : List Reading
  pub faults : ℕ

-- standard output: all bytes that it has taken, and the count of faults
pub record OutputWritten : Type 0 where
  pub taken : List ℕ
  pub faults : ℕ
