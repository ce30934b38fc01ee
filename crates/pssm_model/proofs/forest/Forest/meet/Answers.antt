-- The deeper of two regions goes one further out; where it has no region above it, they have none in common.
use Rattle.std.proofs.Common.{◌≢◌, ◌∙◌, sym, get_or, arith, rules}
use Rattle.pssm_model.proofs.Nesting.{level_at, level_falls, meeting_turned, meeting_goes_on, never_meeting, sum_turned}
use Rattle.pssm_model.proofs.forest.Forest.meet.Goals as goal

pub returns-then-level-eq0-clause-none : goal.returns-then-level-eq0-clause-none
returns-then-level-eq0-clause-none c =
    let apart : c.loop-second.first ≢ c.loop-second.second = search rules in
    let turned = meeting_turned _ _ _ _ _ c.deeper_first.result c.loop-second.invariant apart c.deeper_first.ensures.both in
    let deep = level_at _ c.requires.tables c.deeper_first.result.0 turned.0.first in
    let other = level_at _ c.requires.tables c.deeper_first.result.1 turned.0.second in
    never_meeting _ _ _ _ _ _ _ turned.0 deep other c.deeper_first.ensures.deeper turned.1 (sym c.level.ensures.listed ∙ c.if-level-eq0.true)

pub loop-second-smaller : goal.loop-second-smaller
loop-second-smaller c =
    let apart : c.loop-second.first ≢ c.loop-second.second = search rules in
    let turned = meeting_turned _ _ _ _ _ c.deeper_first.result c.loop-second.invariant apart c.deeper_first.ensures.both in
    let falls = level_falls _ c.requires.tables _ _ turned.0.first c.outer-first.ensures.inside c.outer-first.ensures.outer.nested in
    let sum = sum_turned (λ r. get_or c.args.self.now.regions r.0 0) _ _ _ c.deeper_first.ensures.both in
    omega (arith, falls, sum)

pub loop-second-preserved : goal.loop-second-preserved
loop-second-preserved c =
    let apart : c.loop-second.first ≢ c.loop-second.second = search rules in
    let turned = meeting_turned _ _ _ _ _ c.deeper_first.result c.loop-second.invariant apart c.deeper_first.ensures.both in
    let deep = level_at _ c.requires.tables c.deeper_first.result.0 turned.0.first in
    let other = level_at _ c.requires.tables c.deeper_first.result.1 turned.0.second in
    meeting_goes_on _ _ _ _ _ _ _ _ turned.0 deep other c.deeper_first.ensures.deeper turned.1 c.outer-first.ensures.outer c.outer-first.ensures.inside
