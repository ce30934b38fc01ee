-- what the type keeps, as a clause sees it
use Rattle.std.proofs.Common.{subst}
use Rattle.pssm_book.specs.Contents.{IsKept}
use Rattle.pssm_book.proofs.DeskLaws.{kept}
use Rattle.pssm_book.proofs.book.Book.system.Goals as goal

pub returns-clause-kept : goal.returns-clause-kept
returns-clause-kept g c = subst IsKept c.self.view_is (kept c.self.inside.desk c.self.inside.tally.total c.self.invariant.0 c.self.invariant.1)
