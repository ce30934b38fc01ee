use Rattle.std.proofs.Common.{refl}
use Rattle.std.proofs.lemmas.Bool.{false≢true}
use Rattle.pssm_judge.proofs.PieceLaws.{fewer_first, going_placed, none_fewer}
use Rattle.pssm_judge.proofs.lines.judge_lines.Goals as goal

-- Nothing was read.
pub lines-init : goal.lines-init
lines-init c = record { goes_on = λ setting bytes placed. placed; fewer = fewer_first c.args.text.now c.args.place c.args.place.stop }

-- The next line.
pub next_turn-requires : goal.next_turn-requires
next_turn-requires c =
    let q = c.requires in
    let going = (c.lines-test.ensures.0 refl).0 in
    record { judging = (q.0, q.1, going_placed q.0 q.1 c.lines.behind.rest.now c.lines.behind.place c.lines.run going (c.lines.invariant.goes_on q.0 q.1 q.2)) }

pub lines-preserved : goal.lines-preserved
lines-preserved c =
    let going = (c.lines-test.ensures.0 refl).0 in
    record {
      goes_on = λ setting bytes placed. c.in_ok-behind.ensures.goes_on setting bytes (going_placed setting bytes c.lines.behind.rest.now c.lines.behind.place c.lines.run going (c.lines.invariant.goes_on setting bytes placed));
      fewer = c.in_ok-behind.ensures.shorter;
    }

pub lines-smaller : goal.lines-smaller
lines-smaller c = (c.lines-test.ensures.0 refl).1

-- The judging has ended, or the line is open.
pub returns-clause-over : goal.returns-clause-over
returns-clause-over c = none_fewer c.lines.behind c.lines.left c.lines.invariant.fewer (λ both. false≢true (c.lines-test.ensures.1 both))
