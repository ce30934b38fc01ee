use Rattle.std.proofs.Common.{◌≡◌, ◌++◌, take}
use Rattle.std.specs.List.{flat_map}
use Rattle.pssm_flat.specs.Text.{line, signal_name}
use Rattle.pssm_flat.proofs.behaviours.put_names.Given as goal

abbrev pub invariant-loop-signal : goal.invariant-loop-signal
invariant-loop-signal l = l.text.items ≡ l.fn.text.items ++ flat_map (λ g. line (l.word ++ signal_name l.names.signals g)) (take l.signal-index l.signal-items)
