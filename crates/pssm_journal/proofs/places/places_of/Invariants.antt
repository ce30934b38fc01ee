use Rattle.std.proofs.Common.{length, take, ◌-◌}
use Rattle.pssm_journal.specs.inner.Places.{HoldsPlaces}
use Rattle.pssm_journal.proofs.places.places_of.Given as goal

-- The places of the first things are noted.
abbrev pub invariant-loop-place : goal.invariant-loop-place
invariant-loop-place g l = HoldsPlaces g.T.Named.name_of (take l.place l.named) l.places

-- those that are still to be noted
abbrev pub decreases-loop-place : goal.decreases-loop-place
decreases-loop-place g l = length l.named - l.place
