-- The values so far are those of the first arguments.
use Rattle.std.proofs.Common.{◌≡◌, take}
use Rattle.pssm_semantics.specs.Values.{values_of}
use Rattle.pssm_semantics.proofs.running.values.Given as goal

abbrev pub invariant-loop-expr : goal.invariant-loop-expr
invariant-loop-expr l = l.values.items ≡ values_of (take l.expr-index l.args) l.store l.params
