use Rattle.std.proofs.Common.{take}
use Rattle.pssm_bodies.specs.Readings.{KeepsLimits}
use Rattle.pssm_bodies.specs.Programs.{NumbersVertex, AllNumbered}
use Rattle.pssm_bodies.proofs.elements.vertices_numbered.Given as goal

abbrev pub invariant-loop-vertex : goal.invariant-loop-vertex
invariant-loop-vertex l = record {
  numbers : AllNumbered (NumbersVertex l.names l.bodies) l.fn.program (take l.vertex-index l.from) l.numbered.items l.program;
  limits : KeepsLimits l.program;
}
