use Rattle.std.proofs.Common.{Contains}
use Rattle.pssm_model.specs.declared.ids.TransId.{TransId}
use Rattle.pssm_legs.proofs.NoneSoFar.{none_more, none_at_all, refuted}
use Rattle.pssm_legs.proofs.path.one_among.Goals as goal

pub loop-t-preserved : goal.loop-t-preserved
loop-t-preserved c =
    none_more (λ (t : TransId). Contains c.args.transitions.now t) c.args.some.now c.loop-t.t-index c.loop-t.invariant _ c.loop-t-test.true
    (refuted _ c.if-is_among.false c.is_among.ensures)

pub returns-clause-none : goal.returns-clause-none
returns-clause-none c =
    none_at_all (λ (t : TransId). Contains c.args.transitions.now t) c.args.some.now c.loop-t.t-index c.loop-t.invariant c.loop-t-test.false
