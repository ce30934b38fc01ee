-- the ledger is the one that the blank is of
use Rattle.pssm_tool.proofs.run.run_by_itself.Given as goal

abbrev pub ghosts-go_by_itself : goal.ghosts-go_by_itself
ghosts-go_by_itself a = record { name = a.blank.name; parts = a.blank.parts }
