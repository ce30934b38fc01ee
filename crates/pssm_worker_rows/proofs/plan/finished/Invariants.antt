-- the ledger is the one that the blank is of
use Rattle.pssm_worker_rows.proofs.plan.finished.Given as goal

abbrev pub ghosts-finished_on : goal.ghosts-finished_on
ghosts-finished_on a = record { name = a.blank.name; parts = a.blank.parts }
