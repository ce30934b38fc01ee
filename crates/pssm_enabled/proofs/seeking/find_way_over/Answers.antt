-- the start leads out, or a step that the search goes on from, or none does
use Rattle.std.proofs.Common.{subst}
use Rattle.pssm_enabled.specs.inner.Seeking.{Tries}
use Rattle.pssm_enabled.proofs.Sought.{under_way_from_start, found_from_start, kept_short, all_dead, start_dead}
use Rattle.pssm_enabled.proofs.seeking.find_way_over.Goals as goal

pub returns-then-try_step-clause-found : goal.returns-then-try_step-clause-found
returns-then-try_step-clause-found g c = λ values told.
    found_from_start
    (subst (Tries c.args.machine.now values c.args.within _ _ c.try_step.new.self) c.if-try_step.true (c.try_step.ensures.tries values told))

pub loop-place-init : goal.loop-place-init
loop-place-init g c = (
  c.try_step.ensures.once,
  λ values told.
      under_way_from_start
      (subst (Tries c.args.machine.now values c.args.within _ _ c.try_step.new.self) c.if-try_step.false (c.try_step.ensures.tries values told)),
)

pub returns-in-Some-clause-found : goal.returns-in-Some-clause-found
returns-in-Some-clause-found g c = λ values told.
    c.in-Some.ensures.found values c.args.start c.args.search.now told (c.loop-place.invariant.1 values told)

pub loop-place-preserved : goal.loop-place-preserved
loop-place-preserved g c = (
  c.go_on.ensures.once,
  λ values told. c.in_default.ensures.none values c.args.start c.args.search.now told (c.loop-place.invariant.1 values told),
)

pub returns-clause-none : goal.returns-clause-none
returns-clause-none g c = λ values told dead.
    start_dead (c.loop-place.invariant.1 values told) (kept_short c.loop-place.search c.loop-place.place c.loop-place-test.false) dead

pub returns-clause-dead : goal.returns-clause-dead
returns-clause-dead g c = λ values told dead.
    all_dead (c.loop-place.invariant.1 values told) (kept_short c.loop-place.search c.loop-place.place c.loop-place-test.false) dead
