-- those so far are apart
use Rattle.std.proofs.Common.{◌≡◌, length, take}
use Rattle.pssm_routes.specs.inner.Spread.{AreSpread}
use Rattle.pssm_routes.proofs.spread.are_spread.Given as goal

abbrev pub invariant-loop-footprint : goal.invariant-loop-footprint
invariant-loop-footprint l =
    (length l.claimed.items ≡ length l.machine.regions) × (length l.met.items ≡ length l.machine.regions)
    × AreSpread l.machine (take l.footprint-index l.footprints) l.claimed.items l.met.items
