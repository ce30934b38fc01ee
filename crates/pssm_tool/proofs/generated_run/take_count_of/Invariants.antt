use Rattle.std.proofs.Common.{◌≡◌, take}
use Rattle.std.specs.List.{count_by}
use Rattle.pssm_suite.specs.Counts.{takes_signal as takes_a_signal}
use Rattle.pssm_tool.proofs.generated_run.take_count_of.Given as goal

-- those among the entries so far that take a signal
abbrev pub invariant-loop-entry : goal.invariant-loop-entry
invariant-loop-entry l = l.takes ≡ count_by takes_a_signal (take l.entry-index l.entries)
