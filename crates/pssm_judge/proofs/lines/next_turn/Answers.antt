use Rattle.std.proofs.Common.{◌+◌, true, inr, subst, arith}
use Rattle.pssm_judge.specs.declared.lines.Turn.{Turn}
use Rattle.pssm_judge.specs.inner.Judging.{IsJudging, IsTurn, IsShorter, IsPlaced}
use Rattle.pssm_judge.proofs.JudgingLaws.{few_lines}
use Rattle.pssm_judge.proofs.TurnLaws.{onward, less_left}
use Rattle.pssm_judge.proofs.lines.next_turn.Goals as goal

-- There are not many lines.
pub overflow_add-next : goal.overflow_add-next
overflow_add-next c =
    let q = c.requires.judging in
    omega (arith, few_lines q.0 q.1 c.args.rest.now c.args.begun c.args.line c.args.run.now q.2)

-- The line was taken.
pub take_briefs-requires : goal.take_briefs-requires
take_briefs-requires c =
    let q = c.requires.judging in
    record { judging = (q.0, q.1, subst (λ (x : Turn). IsTurn q.0 q.1 c.args.begun c.args.line c.args.rest.now c.any_turn.new.run x) c.in-On.is (c.in_ok-after.ensures.goes_on q.0 q.1 q.2)) }

pub returns-in-On-clause-goes_on : goal.returns-in-On-clause-goes_on
returns-in-On-clause-goes_on c =
    onward c.take_briefs.result (λ s t. IsJudging s t c.args.rest.now c.args.begun c.args.line c.args.run.now) (λ s t. IsJudging s t c.in-On.after.now true (c.args.line + 1) c.any_turn.new.run)
    (λ s t j. subst (λ (x : Turn). IsTurn s t c.args.begun c.args.line c.args.rest.now c.any_turn.new.run x) c.in-On.is (c.in_ok-after.ensures.goes_on s t j))
    (λ s t behind. IsPlaced s t behind.rest.now behind.place c.take_briefs.new.run) c.take_briefs.ensures.goes_on

pub returns-in-On-clause-shorter : goal.returns-in-On-clause-shorter
returns-in-On-clause-shorter c =
    let less = subst (λ (x : Turn). IsShorter c.args.begun c.args.rest.now x) c.in-On.is c.in_ok-after.ensures.shorter in
    less_left c.take_briefs.result c.in-On.after.now c.args.rest.now less c.take_briefs.ensures.within

-- The line is open.
pub returns-in-Open-clause-goes_on : goal.returns-in-Open-clause-goes_on
returns-in-Open-clause-goes_on c = λ setting bytes j. subst (λ (x : Turn). IsTurn setting bytes c.args.begun c.args.line c.args.rest.now c.any_turn.new.run x) c.in-Open.is (c.in_ok-after.ensures.goes_on setting bytes j)

pub returns-in-Open-clause-shorter : goal.returns-in-Open-clause-shorter
returns-in-Open-clause-shorter c = inr (subst (λ (x : Turn). IsShorter c.args.begun c.args.rest.now x) c.in-Open.is c.in_ok-after.ensures.shorter)

-- The judging ends at the line.
pub returns-in-Stop-clause-goes_on : goal.returns-in-Stop-clause-goes_on
returns-in-Stop-clause-goes_on c = λ setting bytes j. subst (λ (x : Turn). IsTurn setting bytes c.args.begun c.args.line c.args.rest.now c.any_turn.new.run x) c.in-Stop.is (c.in_ok-after.ensures.goes_on setting bytes j)
