use Rattle.pssm_model.specs.inner.Faultless.{AreFaultless, transition_element}
use Rattle.pssm_model.proofs.shape.check_transitions.Given as goal

-- nothing is wrong with the transitions so far
abbrev pub invariant-loop-number : goal.invariant-loop-number
invariant-loop-number l = AreFaultless l.fn.draft transition_element l.number
