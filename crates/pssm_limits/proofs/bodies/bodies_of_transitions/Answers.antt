use Rattle.std.proofs.Common.{◌<◌, ◌+◌, length, min, ap, ◌∙◌, arith}
use Rattle.pssm_parts.specs.Elements.{transition_at}
use Rattle.pssm_limits.specs.inner.Counts.{transition_bodies}
use Rattle.pssm_limits.proofs.CountLaws.{cut_more}
use Rattle.pssm_limits.proofs.bodies.bodies_of_transitions.Goals as goal

pub loop-n-preserved : goal.loop-n-preserved
loop-n-preserved c =
    let test = c.loop-n-test.true in
    let lt : c.loop-n.n-index < length c.args.transitions.now = grind (arith, test) in
    cut_more (λ n. transition_bodies (transition_at c.args.file.now n)) c.args.transitions.now c.loop-n.n-index c.loop-n.total c.cut_sum-total.result lt
    c.loop-n.invariant
    (c.cut_sum-total.ensures ∙ ap (λ count. min 65536 (c.loop-n.total + count)) c.in_ok-bodies_of_transition.ensures.count)
