use Rattle.std.proofs.Common.{◌↔◌, map, drop}
use Rattle.pssm_roles.specs.inner.Seen.{seen}
use Rattle.pssm_tally.specs.inner.Objects.{OneMeansActive}
use Rattle.pssm_tally.proofs.objects.any_means_active.Given as goal

-- None of those before this one does.
abbrev pub invariant-loop-reference : goal.invariant-loop-reference
invariant-loop-reference l = OneMeansActive l.elements (map seen l.found) ↔ OneMeansActive l.elements (map seen (drop l.reference-index l.found))
