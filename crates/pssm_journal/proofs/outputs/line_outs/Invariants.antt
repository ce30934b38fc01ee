use Rattle.std.proofs.Common.{◌≡◌, drop}
use Rattle.pssm_journal.specs.Entries.{outs_named}
use Rattle.pssm_journal.proofs.EntryLaws.{with_front}
use Rattle.pssm_journal.proofs.outputs.line_outs.Given as goal

abbrev pub invariant-loop-out : goal.invariant-loop-out
invariant-loop-out g l = with_front l.known.items (outs_named (g.N.Names.setting l.names) l.own (drop l.out-index l.outs)) ≡ outs_named (g.N.Names.setting l.names) l.own l.outs
