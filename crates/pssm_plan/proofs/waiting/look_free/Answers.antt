use Rattle.std.proofs.Common.{inl}
use Rattle.pssm_plan.proofs.Looking.{waiting}
use Rattle.pssm_plan.proofs.ApartCalls.{free_settled, settled_begun}
use Rattle.pssm_plan.proofs.waiting.look_free.Goals as goal

pub raised-requires-clause-passed : goal.raised-requires-clause-passed
raised-requires-clause-passed c = λ k d lt inside up. c.requires.passed k d lt inside (inl up.0, up.1)

pub returns : goal.returns
returns c =
    free_settled c.args.machine.now c.args.ways.now c.args.calls.now c.args.place c.args.call.now (waiting c.args.call.now c.look_nested.result) c.args.first
    c.requires.passed c.requires.apart
    (settled_begun _ c.args.calls.now c.args.place c.raised.result c.args.call.now c.look_nested.result c.raised.ensures.item c.raised.ensures.ran
    c.look_nested.ensures)
