use Rattle.std.proofs.Common.{◌≡◌, Some, Contains, take}
use Rattle.pssm_model.specs.declared.ids.VertexId.{VertexId}
use Rattle.pssm_model.specs.declared.ids.RegionId.{RegionId}
use Rattle.pssm_model.specs.declared.elements.Owner.TheVariants.{Region, State}
use Rattle.pssm_model.specs.Forest.{owner_of}
use Rattle.pssm_plan.proofs.direct.has_none_inside.Given as goal

-- none of the States so far has a region
abbrev pub invariant-loop-s : goal.invariant-loop-s
invariant-loop-s l =
    (w : VertexId) (q : RegionId) → Contains (take l.s-index l.s-items) w → owner_of l.machine (Region q) ≡ Some (State w) → ⊥
