-- each turn adds one end more
use Rattle.std.proofs.Common.{◌<◌, ◌≤◌, length, arith}
use Rattle.pssm_model.specs.declared.ids.TransId.{TransId}
use Rattle.pssm_enabled.proofs.Expanding.{further_none, further_more, further_all}
use Rattle.pssm_enabled.proofs.tracing.add_ends_of.Goals as goal

pub loop-t-init : goal.loop-t-init
loop-t-init c = further_none c.args.machine.now c.args.come.now c.args.transitions.now c.requires.once

pub add-requires-clause-once : goal.add-requires-clause-once
add-requires-clause-once c = c.loop-t.invariant.once

pub loop-t-preserved : goal.loop-t-preserved
loop-t-preserved c =
    let d : TransId = record { 0 = 0 } in
    let more : c.loop-t.t-index < length c.args.transitions.now =
    let less = c.loop-t-test.true in let upto = c.loop-t.auto.t-index-end in omega (arith, less, upto) in
    further_more c.args.machine.now c.args.come.now c.args.transitions.now c.loop-t.t-index d c.loop-t.come c.add.new.self c.target.result more
    c.target.ensures.enters c.loop-t.invariant c.add.ensures.once c.add.ensures.further

pub returns : goal.returns
returns c =
    let all : length c.args.transitions.now ≤ c.loop-t.t-index =
    let last = c.loop-t-test.false in let upto = c.loop-t.auto.t-index-end in omega (arith, last, upto) in
    further_all c.args.machine.now c.args.come.now c.args.transitions.now c.loop-t.t-index c.loop-t.come all c.loop-t.invariant
