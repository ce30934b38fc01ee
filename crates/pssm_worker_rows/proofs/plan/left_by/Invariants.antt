-- the ledger is the one that the blank is of
use Rattle.pssm_worker_rows.proofs.plan.left_by.Given as goal

abbrev pub ghosts-left_on : goal.ghosts-left_on
ghosts-left_on g a = record { name = a.blank.name; parts = a.blank.parts }
