use Rattle.std.proofs.Common.{take}
use Rattle.pssm_bodies.specs.Readings.{KeepsLimits}
use Rattle.pssm_bodies.specs.Programs.{NumbersTransition, AllNumbered}
use Rattle.pssm_bodies.proofs.elements.transitions_numbered.Given as goal

abbrev pub invariant-loop-transition : goal.invariant-loop-transition
invariant-loop-transition l = record {
  numbers : AllNumbered (NumbersTransition l.names l.bodies) l.fn.program (take l.transition-index l.from) l.numbered.items l.program;
  limits : KeepsLimits l.program;
}
