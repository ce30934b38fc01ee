use Rattle.std.proofs.Common.{◌≡◌, take, false}
use Rattle.pssm_limits.specs.inner.Variables.{has_name, name_of}
use Rattle.pssm_limits.proofs.names.has_name.Given as goal

abbrev pub invariant-loop-m : goal.invariant-loop-m
invariant-loop-m l = has_name (name_of l.file) (take l.m-index l.found) l.name ≡ false
