use Rattle.std.proofs.Common.{◌≡◌, ◌++◌, map, length}
use Rattle.pssm_roles.specs.References.{references}
use Rattle.pssm_roles.specs.inner.Seen.{seen, of_rest, IsChildOf, left_from}
use Rattle.pssm_roles.proofs.references.references_of.Given as goal

-- The references of the children from this one on are still to be put.
abbrev pub invariant-children : goal.invariant-children
invariant-children l = record {
  child : IsChildOf l.elements l.n l.child;
  parts : map seen l.found.items ++ of_rest l.elements l.n l.name l.child ≡ references l.elements l.n l.name;
}

abbrev pub decreases-children : goal.decreases-children
decreases-children l = left_from (length l.elements) l.child
