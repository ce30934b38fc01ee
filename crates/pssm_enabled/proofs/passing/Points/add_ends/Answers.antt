-- each turn looks at one vertex more
use Rattle.std.proofs.Common.{◌≤◌, length, refl, arith}
use Rattle.pssm_model.specs.declared.ids.VertexId.{VertexId}
use Rattle.pssm_enabled.proofs.PassingLaws.{ends_none, ends_more, ends_all, ends_lead}
use Rattle.pssm_enabled.proofs.passing.Points.add_ends.Goals as goal

pub loop-number-init : goal.loop-number-init
loop-number-init c = (c.requires.once, ends_none c.args.machine.now c.args.self.now c.requires.nothing)

pub loop-number-preserved : goal.loop-number-preserved
loop-number-preserved c =
    let at : VertexId = record { 0 = c.loop-number.number } in (
      c.add_end.ensures.once,
      ends_more c.args.machine.now c.loop-number.self c.add_end.new.self at c.loop-number.number refl c.loop-number.invariant.1 c.add_end.ensures.further,
    )

pub returns-clause-once : goal.returns-clause-once
returns-clause-once c = c.loop-number.invariant.0

pub returns-clause-ends : goal.returns-clause-ends
returns-clause-ends c =
    let enough : length c.args.machine.now.vertices ≤ c.loop-number.number =
    let test = c.loop-number-test.false in let e = c.vertices-number-end.ensures in omega (arith, test, e) in
    ends_all c.args.machine.now c.loop-number.self c.loop-number.number enough c.loop-number.invariant.1

pub returns-clause-lead : goal.returns-clause-lead
returns-clause-lead c values = ends_lead c.args.machine.now values c.loop-number.self c.loop-number.number c.loop-number.invariant.1
