-- the outputs that have their names are the first ones
use Rattle.std.proofs.Common.{◌≡◌, take}
use Rattle.std.specs.Prelude.{map}
use Rattle.pssm_journal.specs.inner.EntryLine.{out_line}
use Rattle.pssm_journal.proofs.entry_lines.named_outs.Given as goal

abbrev pub invariant-loop-out : goal.invariant-loop-out
invariant-loop-out l = l.named.items ≡ map (out_line l.setting l.own) (take l.out-index l.outs)
