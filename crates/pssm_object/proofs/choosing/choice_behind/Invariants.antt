-- how much of the list is left
use Rattle.std.proofs.Common.{◌-◌, length}
use Rattle.pssm_object.proofs.choosing.choice_behind.Given as goal

abbrev pub decreases-loop-next : goal.decreases-loop-next
decreases-loop-next l = length l.plan.calls - l.place
