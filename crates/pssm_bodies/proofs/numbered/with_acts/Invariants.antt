use Rattle.std.proofs.Common.{◌≤◌, ◌+◌, length}
use Rattle.pssm_bodies.proofs.ThroughLaws.{IsNumberedTo}
use Rattle.pssm_bodies.proofs.numbered.with_acts.Given as goal

abbrev pub decreases-loop-acts : goal.decreases-loop-acts
decreases-loop-acts l = length l.acts.items

abbrev pub invariant-loop-acts : goal.invariant-loop-acts
invariant-loop-acts l = record {
  numbers : IsNumberedTo l.fn.program l.fn.acts.items l.numbers.items l.program l.acts.items;
  room : length l.program.acts + length l.acts.items ≤ 65535;
}
