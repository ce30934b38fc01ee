-- the run is under way, and began with the journal that was there
use Rattle.std.proofs.Common.{◌-◌, length}
use Rattle.pssm_book.specs.inner.Keeping.{IsRunning}
use Rattle.pssm_workers.specs.Endings.{GoesOnFrom}
use Rattle.pssm_workers.proofs.finishing.go_on.Given as goal

abbrev pub invariant-loop-alloc : goal.invariant-loop-alloc
invariant-loop-alloc l =
    IsRunning l.fn.course.system.setting l.stimuli l.limit l.system l.posted l.outputs
    × GoesOnFrom l.fn.course.system.journal l.system.journal

abbrev pub decreases-loop-alloc : goal.decreases-loop-alloc
decreases-loop-alloc l = l.limit - length l.system.journal
