use Rattle.std.proofs.Common.{◌≡◌, take}
use Rattle.std.specs.Prelude.{map}
use Rattle.pssm_drafting.specs.Drafts.{signal_at}
use Rattle.pssm_drafting.proofs.signals.signals_of.Given as goal

abbrev pub invariant-loop-n : goal.invariant-loop-n
invariant-loop-n l = l.row ≡ map (signal_at l.file) (take l.n-index l.n-items)
