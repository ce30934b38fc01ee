use Rattle.std.proofs.Common.{arith}
use Rattle.pssm_plan.specs.inner.Sequence.{IsSequence}
use Rattle.pssm_plan.proofs.Looking.{settled_ahead, settled_behind, passed_back}
use Rattle.pssm_plan.proofs.waiting.look_back.Goals as goal

pub returns-in-Some : goal.returns-in-Some
returns-in-Some c =
    settled_behind (IsSequence c.args.machine.now c.args.ways.now) c.args.calls.now c.args.call.now c.args.at.place c.in-Some.k
    c.in-Some.ensures.0 c.requires.back (let lt = c.in-Some.ensures.0 in let back = c.requires.back in let there = c.requires.there in omega (arith, lt, back, there))
    c.in-Some.ensures.1 c.in-Some.ensures.2 c.requires.seen.passed

pub returns-in-None : goal.returns-in-None
returns-in-None c =
    settled_ahead (IsSequence c.args.machine.now c.args.ways.now) c.args.calls.now c.args.call.now c.args.at.place _ c.look_ahead.result
    (omega arith) c.requires.there
    (passed_back (IsSequence c.args.machine.now c.args.ways.now) c.args.calls.now c.args.call.now c.args.at.place c.args.at.done
    c.requires.done c.in-None.ensures c.requires.seen.passed)
    c.look_ahead.ensures
