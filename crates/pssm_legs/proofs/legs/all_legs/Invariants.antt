use Rattle.std.proofs.Common.{◌-◌, length}
use Rattle.pssm_legs.specs.inner.Chained.{AreDone}
use Rattle.pssm_legs.proofs.legs.all_legs.Given as goal

-- all that begin behind the legs so far have been put
abbrev pub invariant-legs : goal.invariant-legs
invariant-legs l = AreDone l.fn.machine l.fn.route l.legs l.place

-- there are no more legs than transitions
abbrev pub decreases-legs : goal.decreases-legs
decreases-legs l = length l.fn.machine.transitions - l.place
