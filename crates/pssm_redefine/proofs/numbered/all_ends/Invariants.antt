use Rattle.std.proofs.Common.{◌≡◌, map, take}
use Rattle.pssm_redefine.specs.Gathering.{ends_in}
use Rattle.pssm_redefine.proofs.numbered.all_ends.Given as goal

abbrev pub invariant-loop-forms : goal.invariant-loop-forms
invariant-loop-forms l = l.ends.items ≡ map (ends_in l.draft l.heritage) (take l.forms-index l.transitions)
