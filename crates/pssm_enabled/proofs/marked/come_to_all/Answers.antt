-- each turn comes to the end of one transition more
use Rattle.std.proofs.Common.{◌<◌, ◌≤◌, length, get_or, arith}
use Rattle.std.proofs.lemmas.List.Elements.{Contains-get_or}
use Rattle.pssm_model.specs.declared.ids.TransId.{TransId}
use Rattle.pssm_enabled.proofs.Marks.{comes_none, comes_more, comes_fails, comes_all}
use Rattle.pssm_enabled.proofs.marked.come_to_all.Goals as goal

pub loop-t-init : goal.loop-t-init
loop-t-init c = comes_none c.args.machine.now c.args.on.now c.args.seen.now c.args.transitions.now

pub returns-then-not-come_to-clause-dead : goal.returns-then-not-come_to-clause-dead
returns-then-not-come_to-clause-dead c fails =
    let d : TransId = record { 0 = 0 } in
    let more : c.loop-t.t-index < length c.args.transitions.now =
    let less = c.loop-t-test.true in let upto = c.loop-t.auto.t-index-end in omega (arith, less, upto) in
    let t = get_or c.args.transitions.now c.loop-t.t-index d in
    let at = comes_fails c.args.machine.now c.args.on.now c.loop-t.seen c.come_to.new.seen t c.come_to.result c.if-not-come_to.true c.come_to.ensures in
    (t, at.0, Contains-get_or c.args.transitions.now c.loop-t.t-index d more, at.1, at.2)

pub loop-t-preserved : goal.loop-t-preserved
loop-t-preserved c =
    let more : c.loop-t.t-index < length c.args.transitions.now =
    let less = c.loop-t-test.true in let upto = c.loop-t.auto.t-index-end in omega (arith, less, upto) in
    comes_more c.args.machine.now c.args.on.now c.args.seen.now c.loop-t.seen c.come_to.new.seen c.args.transitions.now c.loop-t.t-index _ c.come_to.result
    more c.loop-t.invariant c.if-not-come_to.false c.come_to.ensures

pub returns-clause-all : goal.returns-clause-all
returns-clause-all c holds =
    let all : length c.args.transitions.now ≤ c.loop-t.t-index =
    let last = c.loop-t-test.false in let upto = c.loop-t.auto.t-index-end in omega (arith, last, upto) in
    comes_all c.args.machine.now c.args.on.now c.args.seen.now c.loop-t.seen c.args.transitions.now c.loop-t.t-index all c.loop-t.invariant
