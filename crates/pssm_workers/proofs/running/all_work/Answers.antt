-- What the workers share may be shared.
use denote.Exit.{no}
use denote.Param.{param}
use denote.Param.Send.{arg_sync, param_sync}
use Rattle.pssm_workers.proofs.Crossing.{shift_sync}
use Rattle.pssm_workers.proofs.running.all_work.Goals as goal

pub work_together-requires-sync-C : goal.work_together-requires-sync-C
work_together-requires-sync-C g c κs within = param_sync 2 _ (arg_sync _ no _ (shift_sync (param 0 g.row.L) (param 1 g.row.V) g.V.Scene g.L.Ledger))
