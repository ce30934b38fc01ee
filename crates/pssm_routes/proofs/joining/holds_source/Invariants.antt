use Rattle.std.proofs.Common.{take, Contains}
use Rattle.pssm_model.specs.Forest.{LiesInRegion}
use Rattle.pssm_routes.specs.declared.areas.Footprint.{Footprint}
use Rattle.pssm_routes.proofs.joining.holds_source.Given as goal

-- none so far has its source in the region
abbrev pub invariant-loop-footprint : goal.invariant-loop-footprint
invariant-loop-footprint l = (a : Footprint) → Contains (take l.footprint-index l.footprints) a → LiesInRegion l.machine a.source l.region → ⊥
