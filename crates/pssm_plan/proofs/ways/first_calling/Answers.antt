use Rattle.pssm_plan.specs.declared.ways.Way.{Way}
use Rattle.pssm_plan.specs.inner.ByWays.{calls_by}
use Rattle.std.proofs.Common.{◌≡◌, true}
use Rattle.pssm_plan.proofs.SomeWay.{is_there, none_before_more}
use Rattle.pssm_plan.proofs.ways.first_calling.Goals as goal

pub may_call-requires-clause-way : goal.may_call-requires-clause-way
may_call-requires-clause-way c =
    c.requires.ways c.index-ways-k.result (is_there c.args.ways.now c.loop-k.k c.index-ways-k.result c.loop-k-test.true c.index-ways-k.is)

pub loop-k-preserved : goal.loop-k-preserved
loop-k-preserved c =
    none_before_more c.args.ways.now c.loop-k.k c.index-ways-k.result c.loop-k-test.true c.index-ways-k.is
    (λ (way : Way). calls_by c.args.machine.now way c.args.item)
    (λ h. absurd (let yes : c.may_call.result ≡ true = c.may_call.ensures h in let no = c.if-may_call.false in cc))
    c.loop-k.invariant
