use Rattle.pssm_tool.proofs.WordLaws.{true_and_false}
use Rattle.pssm_tool.proofs.CallLaws.{not_spelled}
use Rattle.pssm_tool.proofs.stimuli.are_spelled.Goals as goal

-- A word is not spelled as a stimulus.
pub returns-then-not-branch : goal.returns-then-not-branch
returns-then-not-branch c = (
  λ f. absurd cc,
  λ all. absurd (not_spelled c.args.words.now c.loop-word.word-index _ c.as_bytes.result.now c.loop-word-test.true c.as_bytes.ensures.value
      (λ text. true_and_false c.in_ok-is_spelled.field-0 (c.in_ok-is_spelled.ensures.1 text) c.if-not-branch.true) all),
)
