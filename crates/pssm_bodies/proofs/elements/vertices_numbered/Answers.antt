use Rattle.std.proofs.Common.{take, subst, sym, ◌∷◌, [], ◌++◌}
use Rattle.std.specs.List.{flat_map}
use Rattle.pssm_acts.specs.Answers.{Faults}
use Rattle.pssm_bodies.specs.Slots.{vertex_slots}
use Rattle.pssm_bodies.specs.Programs.{NumbersVertex, AllNumbered}
use Rattle.pssm_bodies.specs.inner.Through.{StopsIn}
use Rattle.pssm_bodies.proofs.ListLaws.{take_one_more}
use Rattle.pssm_bodies.proofs.ThroughLaws.{passed_on, stops_at, all_lead, vertex_leads, one_more}
use Rattle.pssm_bodies.proofs.elements.vertices_numbered.Goals as goal

pub returns-in_err-to-clause-fault : goal.returns-in_err-to-clause-fault
returns-in_err-to-clause-fault c =
    let names = c.args.names.now in
    let bodies = c.args.bodies.now in
    let l = c.loop-vertex in
    let leads = all_lead names bodies (NumbersVertex names bodies) vertex_slots (vertex_leads names bodies) c.args.program
    (take l.vertex-index c.args.from.now) l.numbered.items l.program l.invariant.numbers in
    passed_on (Faults (StopsIn names bodies (flat_map vertex_slots c.args.from.now) c.args.program)) c.in_err-to.field-0.0
    c.from_residual.result c.from_residual.ensures.1
    (stops_at names bodies vertex_slots c.args.from.now l.vertex-index c.vertex-item.result c.args.program l.program c.loop-vertex-test.true
    c.vertex-item.is leads c.in_err-to.field-0.0 c.in_err-to.ensures.fault)

pub loop-vertex-preserved : goal.loop-vertex-preserved
loop-vertex-preserved c =
    let l = c.loop-vertex in
    let Step = NumbersVertex c.args.names.now c.args.bodies.now in
    let v = c.vertex-item.result in
    let next = c.in_ok-to.next in
    let more = one_more Step c.args.program (take l.vertex-index c.args.from.now) l.numbered.items l.program l.invariant.numbers v
    c.in_ok-to.to next c.in_ok-to.ensures.numbers in
    record {
      numbers = subst (λ xs. AllNumbered Step c.args.program xs c.in_ok-numbered.numbered.items next)
          (sym (take_one_more c.args.from.now l.vertex-index v c.loop-vertex-test.true c.vertex-item.is))
          (subst (λ ys. AllNumbered Step c.args.program (take l.vertex-index c.args.from.now ++ v ∷ []) ys next) (sym c.in_ok-numbered.ensures) more);
      limits = c.in_ok-to.ensures.limits;
    }
