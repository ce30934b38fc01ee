use Rattle.std.proofs.Common.{◌≡◌, take}
use Rattle.pssm_heritage.specs.Heritages.{numbering_of}
use Rattle.pssm_redefine.specs.Gathering.{numbered_of}
use Rattle.pssm_redefine.proofs.gathering.all_numbered.Given as goal

abbrev pub invariant-loop-machine : goal.invariant-loop-machine
invariant-loop-machine l = l.all.items ≡ numbered_of l.draft l.kind (numbering_of l.kind l.heritage) (take l.machine-index l.machine-items)
