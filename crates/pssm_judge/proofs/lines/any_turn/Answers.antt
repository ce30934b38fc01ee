use Rattle.std.proofs.Common.{Option, subst}
use Rattle.std.specs.Prelude.{IfNone, IfSome}
use Rattle.pssm_lines.specs.declared.front.Front.{Front}
use Rattle.pssm_lines.specs.Reading.{IsFront}
use Rattle.pssm_judge.specs.declared.run.Stop.{Stop}
use Rattle.pssm_judge.specs.inner.Following.{TakesLine, StopsAt}
use Rattle.pssm_judge.proofs.JudgingLaws.{judging_line, stops_here, bad_anyhow}
use Rattle.pssm_judge.proofs.lines.any_turn.Goals as goal

-- The judging ends at the line.
pub returns-in-Some-clause-goes_on : goal.returns-in-Some-clause-goes_on
returns-in-Some-clause-goes_on c = λ setting bytes j.
    let f = subst (λ (x : Front). IsFront c.args.begun c.args.line c.args.rest.now x) c.in-Line.is c.in_ok-after.ensures in
    let stops = subst (λ (o : Option Stop). IfSome o (StopsAt c.args.run.now.setting c.args.run.now.journal f.0)) c.in-Some.is (c.in_ok-stop-in-Line.ensures.stops f.0 f.2.line f.4) in
    stops_here setting bytes c.args.rest.now c.in-Line.after.now c.args.begun c.args.line c.args.run.now f.0 c.in-Some.stop j f.1 f.2 f.3 stops

-- The run has taken the line.
pub returns-in-None-clause-goes_on : goal.returns-in-None-clause-goes_on
returns-in-None-clause-goes_on c = λ setting bytes j.
    let f = subst (λ (x : Front). IsFront c.args.begun c.args.line c.args.rest.now x) c.in-Line.is c.in_ok-after.ensures in
    let takes = subst (λ (o : Option Stop). IfNone o (TakesLine c.args.run.now c.take.new.self f.0)) c.in-None.is (c.in_ok-stop-in-Line.ensures.takes f.0 f.2.line f.4) in
    judging_line setting bytes c.args.rest.now c.in-Line.after.now c.args.begun c.args.line c.args.run.now c.take.new.self f.0 j f.1 f.2 f.3 takes

-- The line has a fault.
pub returns-in-Fault-clause-goes_on : goal.returns-in-Fault-clause-goes_on
returns-in-Fault-clause-goes_on c = λ setting bytes j.
    let f = subst (λ (x : Front). IsFront c.args.begun c.args.line c.args.rest.now x) c.in-Fault.is c.in_ok-after.ensures in
    bad_anyhow setting bytes c.args.rest.now c.args.begun c.args.line c.args.run.now c.in-Fault.fault j f
