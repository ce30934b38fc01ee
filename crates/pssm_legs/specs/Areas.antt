-- Where a leg exits and enters, as it is told.
use Rattle.std.specs.Prelude.{◌<◌, length}
use Rattle.pssm_model.specs.declared.elements.DraftMachine.{DraftMachine}
use Rattle.pssm_model.specs.Legs.{Scope}
use Rattle.pssm_model.specs.Legs.Scope.{Nowhere as nowhere, Inside as inside, Within as within}
use Rattle.pssm_legs.specs.declared.areas.Area.{Area}
use Rattle.pssm_legs.specs.declared.areas.Area.TheVariants.{Nowhere, Inside, Within}

-- the scope that an area names (UML 2.5.1 14.2.3.9, least common ancestor)
abbrev pub scope_of : Area → Scope
scope_of Nowhere = nowhere
scope_of (Inside s) = inside s
scope_of (Within r) = within r

-- The area names a place of the machine.
abbrev pub IsAreaIn : DraftMachine → Area → Type 0
IsAreaIn m Nowhere = Unit {0}
IsAreaIn m (Inside s) = s.0 < length m.vertices
IsAreaIn m (Within r) = r.0 < length m.regions
