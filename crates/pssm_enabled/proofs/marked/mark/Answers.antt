-- each turn marks one transition more
use Rattle.std.proofs.Common.{◌<◌, ◌≤◌, length, arith}
use Rattle.pssm_enabled.proofs.Marks.{sets_none, sets_more, sets_all}
use Rattle.pssm_enabled.proofs.marked.mark.Goals as goal

pub loop-t-init : goal.loop-t-init
loop-t-init c = sets_none c.args.on.now c.args.transitions.now

pub loop-t-preserved : goal.loop-t-preserved
loop-t-preserved c =
    let more : c.loop-t.t-index < length c.args.transitions.now =
    let less = c.loop-t-test.true in let upto = c.loop-t.auto.t-index-end in omega (arith, less, upto) in
    sets_more c.args.on.now c.loop-t.on c.mark_one.new.on c.args.transitions.now c.loop-t.t-index _ more c.loop-t.invariant c.mark_one.ensures

pub returns : goal.returns
returns c =
    let all : length c.args.transitions.now ≤ c.loop-t.t-index =
    let last = c.loop-t-test.false in let upto = c.loop-t.auto.t-index-end in omega (arith, last, upto) in
    sets_all c.args.on.now c.loop-t.on c.args.transitions.now c.loop-t.t-index all c.loop-t.invariant
