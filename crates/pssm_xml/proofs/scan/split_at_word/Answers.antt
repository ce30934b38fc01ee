use Rattle.std.proofs.Common.{◌≡◌, ◌∙◌, ap, Some, None}
use Rattle.pssm_spelling.specs.SpellingReading.{stripped}
use Rattle.pssm_xml.proofs.ScanLaws.{until_turn, until_found}
use Rattle.std.proofs.Common.{drop, List, ℕ}
use Rattle.pssm_xml.proofs.scan.split_at_word.Goals as goal

pub returns-in-Some : goal.returns-in-Some
returns-in-Some c =
    let found : Some c.in-Some.more.now ≡ stripped c.args.word.now (drop c.loop-i.i c.args.bytes.now) = c.in-Some.ensures ∙ ap (stripped c.args.word.now) c.split_at.ensures.back in
    ap (λ (t : List ℕ). Some (t, c.in-Some.more.now)) c.split_at.ensures.front
    ∙ until_found c.args.word.now c.args.bytes.now c.in-Some.more.now c.loop-i.i c.loop-i-test.true found c.loop-i.invariant

pub loop-i-preserved : goal.loop-i-preserved
loop-i-preserved c =
    let none : None ≡ stripped c.args.word.now (drop c.loop-i.i c.args.bytes.now) = c.in_default.ensures ∙ ap (stripped c.args.word.now) c.split_at.ensures.back in
    until_turn c.args.word.now c.args.bytes.now c.loop-i.i c.loop-i-test.true none c.loop-i.invariant
