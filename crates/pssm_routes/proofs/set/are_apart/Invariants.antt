use Rattle.std.proofs.Common.{◌↔◌, length, All}
use Rattle.pssm_routes.specs.inner.Footprints.{IsFootprintIn}
use Rattle.pssm_routes.specs.inner.Sets.{AreApart}
use Rattle.pssm_routes.proofs.set.are_apart.Given as goal

-- all of them are apart where the rest is
abbrev pub invariant-loop-first : goal.invariant-loop-first
invariant-loop-first l = All (IsFootprintIn l.machine) l.rest × (AreApart l.machine l.footprints ↔ AreApart l.machine l.rest)

abbrev pub decreases-loop-first : goal.decreases-loop-first
decreases-loop-first l = length l.rest
