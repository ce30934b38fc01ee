use Rattle.std.proofs.Common.{◌≡◌, take, fold}
use Rattle.pssm_redefine.specs.Variables.{with_variable}
use Rattle.pssm_redefine.proofs.variables.add_variables.Given as goal

abbrev pub invariant-loop-var : goal.invariant-loop-var
invariant-loop-var l = l.kept.items ≡ fold with_variable l.initial.kept.items (take l.var-index l.vars)
