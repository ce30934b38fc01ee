use Rattle.pssm_tool.proofs.CallLaws.{more_named, not_named}
use Rattle.pssm_tool.proofs.stimuli.all_named.Goals as goal

-- A word names nothing.
pub returns-in-None-clause-none : goal.returns-in-None-clause-none
returns-in-None-clause-none c =
    let none = rw c.in-None.is at c.in_ok-stimulus.ensures.none in
    not_named c.args.setting.now c.args.words.now c.loop-word.word-index _ c.as_bytes.result.now c.loop-word-test.true c.as_bytes.ensures.value none

-- One word more names a stimulus.
pub loop-word-preserved : goal.loop-word-preserved
loop-word-preserved c =
    let names = rw c.in-Some.is at c.in_ok-stimulus.ensures.names in
    more_named c.args.setting.now c.args.words.now c.loop-word.word-index _ c.as_bytes.result.now c.loop-word.stimuli.items c.push.new.self.items c.in-Some.stimulus
    c.loop-word-test.true c.as_bytes.ensures.value c.loop-word.invariant names c.in_ok-push-in-Some.ensures.items
