-- the type stands for the setting that is run
use Rattle.pssm_workers.proofs.running.run_workers.Given as goal

abbrev pub ghosts-run_in : goal.ghosts-run_in
ghosts-run_in g a = record { setting = a.setting.now }
