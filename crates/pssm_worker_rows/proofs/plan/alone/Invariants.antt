-- the ledger is the one that the blank is of
use Rattle.pssm_worker_rows.proofs.plan.alone.Given as goal

abbrev pub ghosts-alone_on : goal.ghosts-alone_on
ghosts-alone_on a = record { name = a.blank.name; parts = a.blank.parts }
