use Rattle.pssm_limits.proofs.CountLaws.{bodies_from}
use Rattle.pssm_limits.proofs.counts.bodies_of.Goals as goal

pub returns : goal.returns
returns c = λ m at.
    bodies_from c.args.numbering.now c.args.file.now c.requires.same c.args.k m at _ _ c.own.ensures.list c.own-2.ensures.list _ _ _
    c.bodies_of_vertices-vertices.ensures c.in_ok-transitions.ensures c.cut_sum.ensures
