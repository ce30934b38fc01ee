use Rattle.std.proofs.Common.{take, All}
use Rattle.pssm_routes.specs.inner.Footprints.{AreFootprints, IsFootprintIn}
use Rattle.pssm_routes.proofs.set.footprints_of.Given as goal

-- the footprints of the routes so far
abbrev pub invariant-loop-route : goal.invariant-loop-route
invariant-loop-route l = AreFootprints l.machine (take l.route-index l.routes) l.footprints.items × All (IsFootprintIn l.machine) l.footprints.items
