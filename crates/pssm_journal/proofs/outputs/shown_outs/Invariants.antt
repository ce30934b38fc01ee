use Rattle.std.proofs.Common.{List, length}
use Rattle.std.specs.List.{AllByRecursion}
use Rattle.pssm_semantics.specs.declared.line.LineOut.{LineOut}
use Rattle.pssm_lines.specs.Grammar.{IsSpelledOut}
use Rattle.pssm_lines.specs.Parts.{ShowsOuts}
use Rattle.pssm_journal.proofs.EntryLaws.{IsPartly}
use Rattle.pssm_journal.proofs.outputs.shown_outs.Given as goal

-- Of any outputs that the text spells, those that are known are the first, and the rest spells the others.
abbrev pub invariant-loop-known : goal.invariant-loop-known
invariant-loop-known g l = (spelled : List LineOut) → AllByRecursion IsSpelledOut spelled → ShowsOuts l.fn.outs spelled → IsPartly (g.N.Names.setting l.names) l.own l.known.items l.rest spelled

-- the bytes of the others
abbrev pub decreases-loop-known : goal.decreases-loop-known
decreases-loop-known g l = length l.rest.bytes.now
