use Rattle.std.proofs.Common.{◌≡◌, replicate}
use Rattle.pssm_suite.specs.Generated.{go}
use Rattle.pssm_suite.proofs.writing.make_stimuli.Given as goal

abbrev pub invariant-loop : goal.invariant-loop
invariant-loop l = l.stimuli.items ≡ replicate l.counter go
