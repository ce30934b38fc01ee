use Rattle.std.proofs.Common.{◌≡◌, take}
use Rattle.std.specs.Prelude.{map}
use Rattle.pssm_settings.specs.Settings.{signal_of}
use Rattle.pssm_settings.proofs.classes.signals_of.Given as goal

-- those so far
abbrev pub invariant-loop-of : goal.invariant-loop-of
invariant-loop-of l = l.all.items ≡ map signal_of (take l.of-index l.signals)
