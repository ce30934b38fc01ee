use Rattle.std.proofs.Common.{◌≡◌, ◌++◌, map, length}
use Rattle.pssm_values.specs.Ids.{ids_in}
use Rattle.pssm_roles.specs.References.{refers_at}
use Rattle.pssm_roles.specs.inner.Seen.{seen}
use Rattle.pssm_roles.proofs.references.with_ids.Given as goal

-- The ids of the rest are still to be put.
abbrev pub invariant-ids : goal.invariant-ids
invariant-ids l = map seen l.more.items ++ refers_at l.at (ids_in l.rest) ≡ map seen l.fn.found.items ++ refers_at l.at (ids_in l.value)

abbrev pub decreases-ids : goal.decreases-ids
decreases-ids l = length l.rest
