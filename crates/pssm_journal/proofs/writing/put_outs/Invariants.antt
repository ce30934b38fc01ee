-- the outputs that were written are the first ones
use Rattle.std.proofs.Common.{◌≡◌, ◌++◌, take}
use Rattle.std.specs.Prelude.{map}
use Rattle.pssm_lines.specs.LineText.{outs_text}
use Rattle.pssm_journal.specs.inner.EntryLine.{out_line}
use Rattle.pssm_journal.proofs.writing.put_outs.Given as goal

abbrev pub invariant-loop-out : goal.invariant-loop-out
invariant-loop-out l = l.text.items ≡ l.fn.text.items ++ outs_text (map (out_line l.setting l.own) (take l.out-index l.outs))
