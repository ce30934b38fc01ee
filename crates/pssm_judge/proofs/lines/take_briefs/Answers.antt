use Rattle.std.proofs.Common.{Option, refl, subst, arith, true}
use Rattle.std.specs.Prelude.{IfNone, IfSome}
use Rattle.pssm_lines.specs.Parts.{brief_line}
use Rattle.pssm_judge.specs.declared.run.Stop.{Stop}
use Rattle.pssm_judge.specs.inner.Following.{TakesLine, StopsAt}
use Rattle.pssm_judge.proofs.JudgingLaws.{judging_line, stops_here, few_lines, shorter_line}
use Rattle.pssm_judge.proofs.lines.take_briefs.Goals as goal

-- Nothing was read.
pub loop-parts-init : goal.loop-parts-init
loop-parts-init c = record { goes_on = λ setting bytes j. j; within = omega arith }

-- The judging ends at the brief line.
pub returns-in-Some-2-clause-goes_on : goal.returns-in-Some-2-clause-goes_on
returns-in-Some-2-clause-goes_on c = λ setting bytes j.
    let l = brief_line c.in-Some.parts in
    let stops = subst (λ (o : Option Stop). IfSome o (StopsAt c.loop-parts.run.setting c.loop-parts.run.journal l)) c.in-Some-2.is c.in_ok-stop.ensures.stops in
    stops_here setting bytes c.loop-parts.left.now c.in-Some.after.now true c.loop-parts.number c.loop-parts.run l c.in-Some-2.stop (c.loop-parts.invariant.goes_on setting bytes j) refl
    c.in-Some.ensures.journal c.in-Some.ensures.text stops

-- There are not many lines.
pub overflow_add-number : goal.overflow_add-number
overflow_add-number c =
    let q = c.requires.judging in
    omega (arith, few_lines q.0 q.1 c.loop-parts.left.now true c.loop-parts.number c.loop-parts.run (c.loop-parts.invariant.goes_on q.0 q.1 q.2))

-- The run has taken it.
pub loop-parts-preserved : goal.loop-parts-preserved
loop-parts-preserved c =
    let l = brief_line c.in-Some.parts in
    let takes = subst (λ (o : Option Stop). IfNone o (TakesLine c.loop-parts.run c.take_brief.new.self l)) c.in_default-2.is c.in_ok-stop.ensures.takes in
    let less = shorter_line l c.loop-parts.left.now c.in-Some.after.now c.in-Some.ensures.text in
    record {
      goes_on = λ setting bytes j.
          judging_line setting bytes c.loop-parts.left.now c.in-Some.after.now true c.loop-parts.number c.loop-parts.run c.take_brief.new.self l (c.loop-parts.invariant.goes_on setting bytes j) refl
          c.in-Some.ensures.journal c.in-Some.ensures.text takes;
      within = let so_far = c.loop-parts.invariant.within in omega (arith, less, so_far);
    }

pub loop-parts-smaller : goal.loop-parts-smaller
loop-parts-smaller c = shorter_line (brief_line c.in-Some.parts) c.loop-parts.left.now c.in-Some.after.now c.in-Some.ensures.text

-- No brief line stands here.
pub returns-clause-goes_on : goal.returns-clause-goes_on
returns-clause-goes_on c = λ setting bytes j. c.loop-parts.invariant.goes_on setting bytes j
