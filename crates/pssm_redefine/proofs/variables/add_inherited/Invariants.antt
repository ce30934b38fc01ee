use Rattle.std.proofs.Common.{◌≡◌, take, fold}
use Rattle.pssm_redefine.specs.Variables.{with_variable, variables_among}
use Rattle.pssm_redefine.proofs.variables.add_inherited.Given as goal

abbrev pub invariant-loop-class : goal.invariant-loop-class
invariant-loop-class l = l.kept.items ≡ fold with_variable l.initial.kept.items (variables_among l.machine (take l.class-index l.class-items))
