-- the ledger is the one that the blank is of
use Rattle.pssm_tool.proofs.run.run_by_workers.Given as goal

abbrev pub ghosts-work_and_finish : goal.ghosts-work_and_finish
ghosts-work_and_finish g a = record { name = a.blank.name; parts = a.blank.parts }
