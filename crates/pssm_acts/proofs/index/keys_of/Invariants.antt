use Rattle.std.proofs.Common.{◌≡◌, length, take, map, ◌-◌}
use Rattle.pssm_acts.proofs.index.keys_of.Given as goal

-- The keys are the names of the first ones.
abbrev pub invariant-loop-place : goal.invariant-loop-place
invariant-loop-place g l = l.keys.keys ≡ map g.T.Named.name_of (take l.place l.items)

-- those that are still to be noted
abbrev pub decreases-loop-place : goal.decreases-loop-place
decreases-loop-place g l = length l.items - l.place
