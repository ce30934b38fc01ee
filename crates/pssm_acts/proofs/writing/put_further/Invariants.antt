-- The first expressions are written.
use Rattle.std.proofs.Common.{◌≡◌, ◌++◌, take}
use Rattle.pssm_acts.specs.ActText.{further_text}
use Rattle.pssm_acts.proofs.writing.put_further.Given as goal

abbrev pub invariant-loop-expr : goal.invariant-loop-expr
invariant-loop-expr l = l.text.items ≡ l.initial.text.items ++ further_text l.names (take l.expr-index l.args)
