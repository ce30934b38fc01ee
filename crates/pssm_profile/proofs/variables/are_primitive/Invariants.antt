use Rattle.std.proofs.Common.{◌≡◌, length}
use Rattle.std.specs.List.{list_all}
use Rattle.pssm_values.specs.Ids.{ids_in}
use Rattle.pssm_profile.specs.inner.Texts.{means_primitive}
use Rattle.pssm_profile.proofs.variables.are_primitive.Given as goal

-- The ids of the rest are still to be asked.
abbrev pub invariant-ids : goal.invariant-ids
invariant-ids l = list_all (means_primitive l.elements) (ids_in l.value) ≡ list_all (means_primitive l.elements) (ids_in l.rest)

abbrev pub decreases-ids : goal.decreases-ids
decreases-ids l = length l.rest
