use Rattle.std.proofs.Common.{◌<◌, length}
use Rattle.pssm_roles.specs.declared.role.Role.{Role}
use Rattle.pssm_roles.specs.Roles.{HasRole}
use Rattle.pssm_roles.proofs.laws.some_role.Given as goal

-- A role of the element above gives one of the element.
abbrev pub invariant-up : goal.invariant-up
invariant-up l = record {
  in_file : l.above < length l.elements;
  leads : (r : Role) → HasRole l.elements l.above r → (s : Role) × HasRole l.elements l.n s;
}

abbrev pub decreases-up : goal.decreases-up
decreases-up l = l.above
