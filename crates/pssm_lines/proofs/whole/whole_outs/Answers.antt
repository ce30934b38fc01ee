use Rattle.pssm_lines.proofs.WholeLaws.{taken_more}
use Rattle.pssm_lines.proofs.whole.whole_outs.Goals as goal

pub loop-all-preserved : goal.loop-all-preserved
loop-all-preserved c =
    taken_more c.args.outs c.loop-all.text c.in-Some.rest c.loop-all.all.items c.push.new.self.items c.in-Some.out c.in_ok-whole_out.field-0
    c.loop-all.invariant (rw c.in-Some.is at c.in_ok-out.ensures.next) c.in_ok-whole_out.ensures c.in_ok-push.ensures.items
