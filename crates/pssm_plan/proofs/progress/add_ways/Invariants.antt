use Rattle.std.proofs.Common.{take}
use Rattle.pssm_plan.specs.inner.Going.{AreFired}
use Rattle.pssm_plan.proofs.progress.add_ways.Given as goal

-- the ways of the routes so far
abbrev pub invariant-loop-route : goal.invariant-loop-route
invariant-loop-route l = AreFired l.machine (take l.route-index l.routes) l.ways.items
