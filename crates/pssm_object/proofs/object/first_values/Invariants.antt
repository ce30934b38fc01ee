-- the first values of the variables so far
use Rattle.std.proofs.Common.{◌≡◌, take, map}
use Rattle.pssm_object.proofs.object.first_values.Given as goal

abbrev pub invariant-loop-var : goal.invariant-loop-var
invariant-loop-var l = l.values.items ≡ map (λ x. x.first) (take l.var-index l.vars)
