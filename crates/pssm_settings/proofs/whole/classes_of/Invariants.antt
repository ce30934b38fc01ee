use Rattle.std.proofs.Common.{◌≡◌, length}
use Rattle.pssm_settings.specs.Settings.{AreLoadedClasses}
use Rattle.pssm_settings.proofs.whole.classes_of.Given as goal

-- the classes so far
abbrev pub invariant-loop-number : goal.invariant-loop-number
invariant-loop-number l = (length l.classes.items ≡ l.number) × AreLoadedClasses l.draft l.classes.items
