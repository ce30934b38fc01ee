use Rattle.std.proofs.Common.{◌≡◌, map, take}
use Rattle.pssm_redefine.specs.Gathering.{region_owner}
use Rattle.pssm_redefine.proofs.numbered.region_owners.Given as goal

abbrev pub invariant-loop-first : goal.invariant-loop-first
invariant-loop-first l = l.owners.items ≡ map (region_owner l.draft l.heritage) (take l.first-index l.first-items)
