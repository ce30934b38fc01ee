-- the stimuli so far
use Rattle.std.specs.Prelude.{◌≡◌, take}
use Rattle.pssm_workers.proofs.copies.copies.Given as goal

abbrev pub invariant-loop-stimulus : goal.invariant-loop-stimulus
invariant-loop-stimulus l = l.made.items ≡ take l.stimulus-index l.stimuli
