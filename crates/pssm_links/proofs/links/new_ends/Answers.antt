-- one more end
use Rattle.std.proofs.Common.{refl, arith}
use Rattle.pssm_links.proofs.Growing.{ends-pushed}
use Rattle.pssm_links.proofs.links.new_ends.Goals as goal

pub loop-number-preserved : goal.loop-number-preserved
loop-number-preserved g c =
    let push = c.in_ok-push.ensures in
    ends-pushed c.loop-number.slots.items c.push.new.self.items c.ring_of_one.result c.loop-number.number c.loop-number.number refl (omega arith)
    c.ring_of_one.ensures push.items c.loop-number.invariant

pub returns : goal.returns
returns g c =
    let push = c.in_ok-push-2.ensures in
    ends-pushed c.loop-number.slots.items c.push-2.new.self.items c.ring_of_one-2.result c.args.lists c.loop-number.number (omega arith) (omega arith)
    c.ring_of_one-2.ensures push.items c.loop-number.invariant
