use Rattle.pssm_acts.specs.Answers.{Faults}
use Rattle.pssm_bodies.specs.inner.Through.{StopsInside}
use Rattle.pssm_bodies.proofs.ThroughLaws.{passed_on}
use Rattle.pssm_bodies.proofs.MachineLaws.{vertex_stops, transition_stops, guards_room}
use Rattle.pssm_bodies.proofs.reading.numbered.Goals as goal

pub returns-in_err-vertices-clause-fault : goal.returns-in_err-vertices-clause-fault
returns-in_err-vertices-clause-fault c =
    let names = c.args.names.now in
    let flat = c.args.flat.now in
    let fault = c.in_err-vertices.field-0.0 in
    passed_on (Faults (StopsInside names flat)) fault c.from_residual-in_err-vertices.result c.from_residual-in_err-vertices.ensures.1
    (vertex_stops names flat c.as_slice-bodies.result.now c.as_slice-bodies.ensures c.as_slice.result.now c.as_slice.ensures
    c.in_ok-first.first c.in_ok-first.ensures fault c.in_err-vertices.ensures.fault)

pub transitions_numbered-requires-clause-room : goal.transitions_numbered-requires-clause-room
transitions_numbered-requires-clause-room c =
    let names = c.args.names.now in
    let flat = c.args.flat.now in
    guards_room names flat c.as_slice-bodies.result.now c.as_slice-bodies.ensures c.as_slice.result.now c.as_slice.ensures
    c.in_ok-first.first c.in_ok-first.ensures
    c.in_ok-vertices.vertices.items c.in_ok-vertices.middle c.in_ok-vertices.ensures.numbers c.as_slice-2.result.now c.as_slice-2.ensures c.requires.guards

pub returns-in_err-transitions-clause-fault : goal.returns-in_err-transitions-clause-fault
returns-in_err-transitions-clause-fault c =
    let names = c.args.names.now in
    let flat = c.args.flat.now in
    let fault = c.in_err-transitions.field-0.0 in
    passed_on (Faults (StopsInside names flat)) fault c.from_residual-in_err-transitions.result c.from_residual-in_err-transitions.ensures.1
    (transition_stops names flat c.as_slice-bodies.result.now c.as_slice-bodies.ensures c.as_slice.result.now c.as_slice.ensures
    c.in_ok-first.first c.in_ok-first.ensures
    c.in_ok-vertices.vertices.items c.in_ok-vertices.middle c.in_ok-vertices.ensures.numbers c.as_slice-2.result.now c.as_slice-2.ensures
    fault c.in_err-transitions.ensures.fault)
