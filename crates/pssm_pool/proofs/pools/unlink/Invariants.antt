-- the ledger is the one that the blank is of
use Rattle.pssm_pool.proofs.pools.unlink.Given as goal

abbrev pub ghosts-unlink_counted : goal.ghosts-unlink_counted
ghosts-unlink_counted a = record { name = a.blank.name; parts = a.blank.parts }
