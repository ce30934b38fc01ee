-- Lists of faults in their order.
use Rattle.std.specs.Prelude.{◌≡◌, ◌⊎◌, ◌<◌}
use Rattle.pssm_model.specs.declared.elements.FaultPlace.{FaultPlace}
use Rattle.pssm_model.specs.declared.elements.FaultPlace.TheVariants.{Top, At}
use Rattle.pssm_model.specs.Shapes.{IsEarlier}
use Rattle.pssm_wellformed.specs.declared.fault.Fault.{Fault}

-- the machine as a whole, and then its regions, vertices and transitions, each by number (this profile's choice)
abbrev pub IsEarlierPlace : FaultPlace → FaultPlace → Type 0
IsEarlierPlace Top Top = ⊥
IsEarlierPlace Top (At e) = Unit {0}
IsEarlierPlace (At d) Top = ⊥
IsEarlierPlace (At d) (At e) = IsEarlier d e

-- by place, and at one place by rule (this profile's choice)
abbrev pub IsEarlierFault : Fault → Fault → Type 0
IsEarlierFault f g = IsEarlierPlace f.element g.element ⊎ ((f.element ≡ g.element) × (f.rule < g.rule))
