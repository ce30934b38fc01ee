-- What the work for a task is worth now.
use Rattle.std.specs.Prelude.{◌≡◌, ◌≢◌, ℤ, List, length}
use Rattle.pssm_semantics.specs.declared.entry.ObjectId.{ObjectId}
use Rattle.pssm_semantics.specs.declared.stimulus.Task.{Task}
use Rattle.pssm_semantics.specs.Work.{Work}
use Rattle.pssm_system.specs.History.{History}
use Rattle.pssm_book.specs.declared.comparing.Compared.{Compared}
use Rattle.pssm_book.specs.declared.comparing.Compared.TheVariants.{Apart, Differing, Same}
use Rattle.pssm_book.specs.Committing.{IsItsWork, DifferFirst, IsStale, IsUpToDate}

-- how the values that were carried stand to those that are kept
abbrev pub ComparesStores : List ℤ → List ℤ → Compared → Type 0
ComparesStores kept carried Apart = length kept ≢ length carried
ComparesStores kept carried (Differing place here there) = (length kept ≡ length carried) × DifferFirst kept carried place here there
ComparesStores kept carried Same = kept ≡ carried

-- how the work stands to the task
abbrev pub Compares : History → List (ObjectId × Task) → Task → Work → Compared → Type 0
Compares run claims task work Apart = IsItsWork run claims task work → ⊥
Compares run claims task work (Differing place here there) = IsStale run claims task work place here there
Compares run claims task work Same = IsUpToDate run claims task work
