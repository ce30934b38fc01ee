use Rattle.pssm_base.proofs.Pieces.{has_put_more}
use Rattle.pssm_base.proofs.sink.put_all.Goals as goal

pub loop-done-preserved : goal.loop-done-preserved
loop-done-preserved g c =
    has_put_more _ _ _ _ _ _ c.args.bytes.now c.loop-done.done c.in_ok-done.field-0 c.split_at.result.1.now c.split_at.ensures.back c.loop-done.invariant c.in_ok-done.ensures.within
    c.in_ok-done.ensures.taken c.in_ok-done.ensures.counts
