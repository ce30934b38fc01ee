use Rattle.std.proofs.Common.{◌≡◌, ℕ, List, map, drop}
use Rattle.std.specs.List.{list_any}
use Rattle.pssm_roles.specs.Roles.{is_machine_point}
use Rattle.pssm_roles.specs.inner.Seen.{seen}
use Rattle.pssm_roles.proofs.settling.any_point.Given as goal

abbrev pub invariant-loop-reference : goal.invariant-loop-reference
invariant-loop-reference l =
    list_any (λ (r : ℕ × List ℕ). is_machine_point l.elements r.1) (map seen l.found)
    ≡ list_any (λ (r : ℕ × List ℕ). is_machine_point l.elements r.1) (map seen (drop l.reference-index l.found))
