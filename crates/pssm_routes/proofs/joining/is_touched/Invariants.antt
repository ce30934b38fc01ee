use Rattle.std.proofs.Common.{take, Contains}
use Rattle.pssm_routes.specs.declared.areas.Footprint.{Footprint}
use Rattle.pssm_routes.specs.inner.Rooms.{Touches}
use Rattle.pssm_routes.proofs.joining.is_touched.Given as goal

-- none so far touches the State
abbrev pub invariant-loop-footprint : goal.invariant-loop-footprint
invariant-loop-footprint l = (a : Footprint) → Contains (take l.footprint-index l.footprints) a → Touches l.machine l.s a → ⊥
