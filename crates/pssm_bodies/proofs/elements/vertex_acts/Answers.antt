use Rattle.std.proofs.Common.{◌∷◌, List, subst}
use Rattle.pssm_model.specs.declared.ids.ActId.{ActId}
use Rattle.pssm_acts.specs.Answers.{Faults}
use Rattle.pssm_bodies.specs.declared.slot.Reading.TheVariants as readings
use Rattle.pssm_bodies.specs.Slots.{slot, vertex_slots}
use Rattle.pssm_bodies.specs.inner.Through.{StopsIn}
use Rattle.pssm_bodies.proofs.ActLaws.{stops_here, stops_later, step_slots}
use Rattle.pssm_bodies.proofs.ThroughLaws.{passed_on, act_leads}
use Rattle.pssm_bodies.proofs.elements.vertex_acts.Goals as goal

pub returns-in_err-entry-clause-fault : goal.returns-in_err-entry-clause-fault
returns-in_err-entry-clause-fault c =
    let names = c.args.names.now in
    let bodies = c.args.bodies.now in
    let v = c.args.from.now in
    let fault = c.in_err-entry.field-0.0 in
    passed_on (Faults (StopsIn names bodies (vertex_slots v) c.args.program)) fault c.from_residual.result c.from_residual.ensures.1
    (stops_here names bodies c.args.program (slot readings.Behaviour v.entry.0)
    (slot readings.Behaviour v.exit.0 ∷ step_slots v.steps) fault c.in_err-entry.ensures.fault)

pub returns-in_err-exit-clause-fault : goal.returns-in_err-exit-clause-fault
returns-in_err-exit-clause-fault c =
    let names = c.args.names.now in
    let bodies = c.args.bodies.now in
    let v = c.args.from.now in
    let fault = c.in_err-exit.field-0.0 in
    let entered = c.in_ok-entry.entered in
    passed_on (Faults (StopsIn names bodies (vertex_slots v) c.args.program)) fault c.from_residual-in_err-exit.result c.from_residual-in_err-exit.ensures.1
    (stops_later names bodies c.args.program entered (slot readings.Behaviour v.entry.0) (slot readings.Behaviour v.exit.0 ∷ step_slots v.steps) fault
    (act_leads names bodies c.args.program v.entry c.in_ok-entry.entry entered c.in_ok-entry.ensures.numbers)
    (stops_here names bodies entered (slot readings.Behaviour v.exit.0) (step_slots v.steps) fault c.in_err-exit.ensures.fault))

pub returns-in_err-steps-clause-fault : goal.returns-in_err-steps-clause-fault
returns-in_err-steps-clause-fault c =
    let names = c.args.names.now in
    let bodies = c.args.bodies.now in
    let v = c.args.from.now in
    let fault = c.in_err-steps.field-0.0 in
    let entered = c.in_ok-entry.entered in
    let left = c.in_ok-exit.left in
    passed_on (Faults (StopsIn names bodies (vertex_slots v) c.args.program)) fault c.from_residual-in_err-steps.result c.from_residual-in_err-steps.ensures.1
    (stops_later names bodies c.args.program entered (slot readings.Behaviour v.entry.0) (slot readings.Behaviour v.exit.0 ∷ step_slots v.steps) fault
    (act_leads names bodies c.args.program v.entry c.in_ok-entry.entry entered c.in_ok-entry.ensures.numbers)
    (stops_later names bodies entered left (slot readings.Behaviour v.exit.0) (step_slots v.steps) fault
    (act_leads names bodies entered v.exit c.in_ok-exit.exit left c.in_ok-exit.ensures.numbers)
    (subst (λ (all : List ActId). Faults (StopsIn names bodies (step_slots all) left) fault) c.as_slice.ensures c.in_err-steps.ensures.fault)))
