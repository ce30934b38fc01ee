use Rattle.std.proofs.Common.{◌≡◌, ◌++◌, drop}
use Rattle.pssm_flat.specs.Text.{text_of, numbered, transition_lines}
use Rattle.pssm_flat.proofs.writing.put_transitions.Given as goal

abbrev pub invariant-loop-number : goal.invariant-loop-number
invariant-loop-number l = l.text.items ++ text_of (numbered (transition_lines l.names l.class) l.number (drop l.number l.class.machine.transitions)) ≡ l.fn.text.items ++ text_of (numbered (transition_lines l.names l.class) 0 l.class.machine.transitions)
