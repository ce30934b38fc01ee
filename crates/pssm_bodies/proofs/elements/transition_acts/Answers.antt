use Rattle.std.proofs.Common.{◌∷◌, []}
use Rattle.pssm_acts.specs.Answers.{Faults}
use Rattle.pssm_bodies.specs.declared.slot.Reading.TheVariants as readings
use Rattle.pssm_bodies.specs.Slots.{slot, guard_slots, transition_slots}
use Rattle.pssm_bodies.specs.inner.Through.{StopsIn}
use Rattle.pssm_bodies.proofs.ActLaws.{stops_here}
use Rattle.pssm_bodies.proofs.ThroughLaws.{passed_on, faults_so, stops_before, stops_behind, guard_leads}
use Rattle.pssm_bodies.proofs.elements.transition_acts.Goals as goal

pub returns-in_err-guard-clause-fault : goal.returns-in_err-guard-clause-fault
returns-in_err-guard-clause-fault c =
    let names = c.args.names.now in
    let bodies = c.args.bodies.now in
    let t = c.args.from.now in
    passed_on (Faults (StopsIn names bodies (transition_slots t) c.args.program)) c.in_err-guard.field-0.0 c.from_residual.result c.from_residual.ensures.1
    (faults_so {P = StopsIn names bodies (guard_slots t.guard) c.args.program} {Q = StopsIn names bodies (transition_slots t) c.args.program}
    (λ f s. stops_before names bodies (slot readings.Behaviour t.effect.0 ∷ []) s) c.in_err-guard.field-0.0 c.in_err-guard.ensures.fault)

pub returns-in_err-effect-clause-fault : goal.returns-in_err-effect-clause-fault
returns-in_err-effect-clause-fault c =
    let names = c.args.names.now in
    let bodies = c.args.bodies.now in
    let t = c.args.from.now in
    let fault = c.in_err-effect.field-0.0 in
    let guarded = c.in_ok-guard.guarded in
    passed_on (Faults (StopsIn names bodies (transition_slots t) c.args.program)) fault c.from_residual-in_err-effect.result
    c.from_residual-in_err-effect.ensures.1
    (faults_so {P = StopsIn names bodies (slot readings.Behaviour t.effect.0 ∷ []) guarded} {Q = StopsIn names bodies (transition_slots t) c.args.program}
    (λ f s. stops_behind names bodies (guard_leads names bodies c.args.program t.guard c.in_ok-guard.guard guarded c.in_ok-guard.ensures.numbers) s) fault
    (stops_here names bodies guarded (slot readings.Behaviour t.effect.0) [] fault c.in_err-effect.ensures.fault))
