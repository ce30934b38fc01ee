-- the ledger is the one that the blank is of
use Rattle.pssm_book_rows.proofs.book_rows.try_on_book.Given as goal

abbrev pub ghosts-try_on : goal.ghosts-try_on
ghosts-try_on a = record { name = a.blank.name; parts = a.blank.parts }
