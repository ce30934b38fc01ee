-- Each turn marks the States around one vertex more.
use Rattle.pssm_model.specs.declared.ids.VertexId.{VertexId}
use Rattle.pssm_routes.proofs.Around.{around_more, around_end}
use Rattle.pssm_routes.proofs.candidates.states_around.Goals as goal

pub loop-s-preserved : goal.loop-s-preserved
loop-s-preserved c =
    let d : VertexId = record { 0 = 0 } in
    around_more c.args.machine.now c.args.inner.now c.loop-s.s-index d c.loop-s.marks.items c.mark_around.new.marks.items c.loop-s-test.true
    c.loop-s.invariant c.mark_around.ensures.width c.mark_around.ensures.marks

pub returns-clause-marks : goal.returns-clause-marks
returns-clause-marks c =
    around_end c.args.machine.now c.args.inner.now c.loop-s.s-index c.loop-s.marks.items c.loop-s-test.false c.loop-s.invariant
