use Rattle.pssm_profile.specs.inner.Texts.{HasSeenTo, IsBehind}
use Rattle.pssm_profile.proofs.texts.choice_of.Given as goal

-- The languages and bodies before the next child are seen.
abbrev pub invariant-loop-turn : goal.invariant-loop-turn
invariant-loop-turn l = record {
  behind : IsBehind l.elements l.p l.turn l.next;
  seen : HasSeenTo l.elements l.p l.next l.choice;
}
