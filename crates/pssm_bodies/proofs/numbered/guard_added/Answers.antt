use Rattle.std.proofs.Common.{sym, subst, []}
use Rattle.pssm_model.specs.declared.elements.Guard.{Guard}
use Rattle.pssm_model.specs.declared.elements.Guard.TheVariants.{Always, Otherwise, When}
use Rattle.pssm_acts.specs.Answers.{Faults}
use Rattle.pssm_bodies.specs.declared.slot.Reading.TheVariants as readings
use Rattle.pssm_bodies.specs.Slots.{slot, guard_slots}
use Rattle.pssm_bodies.specs.Programs.{NumbersGuard, always, otherwise, when}
use Rattle.pssm_bodies.specs.inner.Through.{StopsIn}
use Rattle.pssm_bodies.proofs.ActLaws.{text_fails, stops_here}
use Rattle.pssm_bodies.proofs.ThroughLaws.{passed_on}
use Rattle.pssm_bodies.proofs.numbered.guard_added.Goals as goal

pub returns-in_err-id-in-When-clause-fault : goal.returns-in_err-id-in-When-clause-fault
returns-in_err-id-in-When-clause-fault c =
    let names = c.args.names.now in
    let bodies = c.args.bodies.now in
    let fault = c.in_err-id-in-When.field-0.0 in
    let body = c.in-When.body.0 in
    passed_on (Faults (StopsIn names bodies (guard_slots c.args.from) c.args.program)) fault c.from_residual.result c.from_residual.ensures.1
    (subst (λ (g : Guard). Faults (StopsIn names bodies (guard_slots g) c.args.program) fault) (sym c.in-When.is)
    (stops_here names bodies c.args.program (slot readings.Guard body) [] fault
    (text_fails names bodies c.args.program body readings.Guard fault c.in_err-id-in-When.ensures.fault)))

pub returns-in-Always-clause-numbers : goal.returns-in-Always-clause-numbers
returns-in-Always-clause-numbers c = subst (λ (g : Guard). NumbersGuard c.args.names.now c.args.bodies.now c.args.program g Always c.args.program)
    (sym c.in-Always.is) always

pub returns-in-Otherwise-clause-numbers : goal.returns-in-Otherwise-clause-numbers
returns-in-Otherwise-clause-numbers c = subst
    (λ (g : Guard). NumbersGuard c.args.names.now c.args.bodies.now c.args.program g Otherwise c.args.program) (sym c.in-Otherwise.is) otherwise

pub returns-in_ok-id-in-When-clause-numbers : goal.returns-in_ok-id-in-When-clause-numbers
returns-in_ok-id-in-When-clause-numbers c =
    let n = c.in_ok-id-in-When.ensures.numbers in
    subst (λ (g : Guard). NumbersGuard c.args.names.now c.args.bodies.now c.args.program g (When c.in_ok-id-in-When.id) c.in_ok-id-in-When.behind)
    (sym c.in-When.is) (when n.0 n.1 n.2 n.3)
