use Rattle.std.proofs.Common.{◌≡◌, fold, map, take}
use Rattle.pssm_unmet.specs.inner.Found.{named, with_name}
use Rattle.pssm_unmet.proofs.finding.first_of_element.Given as goal

-- the first under these names
abbrev pub invariant-loop-followed : goal.invariant-loop-followed
invariant-loop-followed l =
    l.first ≡ fold (with_name l.file l.n) l.initial.first (map named (take l.followed-index l.followed-items))
