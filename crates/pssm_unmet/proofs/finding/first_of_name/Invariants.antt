use Rattle.std.proofs.Common.{◌≡◌, fold, map, take}
use Rattle.pssm_roles.specs.inner.Seen.{seen}
use Rattle.pssm_unmet.specs.inner.Found.{with_reference}
use Rattle.pssm_unmet.proofs.finding.first_of_name.Given as goal

-- the first of these references
abbrev pub invariant-loop-reference : goal.invariant-loop-reference
invariant-loop-reference l =
    l.first ≡ fold (with_reference l.file l.followed.target l.n) l.initial.first (map seen (take l.reference-index l.reference-items))
