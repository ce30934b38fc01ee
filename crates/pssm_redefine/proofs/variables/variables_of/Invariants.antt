use Rattle.std.proofs.Common.{◌≡◌, [], take, fold}
use Rattle.std.specs.List.{flat_map}
use Rattle.pssm_redefine.specs.Variables.{with_variable, machine_variables}
use Rattle.pssm_redefine.proofs.variables.variables_of.Given as goal

abbrev pub invariant-loop-machine : goal.invariant-loop-machine
invariant-loop-machine l = l.kept.items ≡ fold with_variable [] (flat_map (machine_variables l.draft) (take l.machine-index l.machine-items))
