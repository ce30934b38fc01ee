-- none so far is the State
use Rattle.std.proofs.Common.{◌≡◌, take, Contains}
use Rattle.pssm_routes.specs.declared.areas.Footprint.{Footprint}
use Rattle.pssm_routes.proofs.joining.is_anchor.Given as goal

abbrev pub invariant-loop-footprint : goal.invariant-loop-footprint
invariant-loop-footprint l = (a : Footprint) → Contains (take l.footprint-index l.footprints) a → a.source ≡ l.s → ⊥
