-- each turn goes on to one entry point more
use Rattle.pssm_enabled.proofs.GoingDown.{down_none, down_more}
use Rattle.pssm_enabled.proofs.descending.descend.Goals as goal

pub loop-left-init : goal.loop-left-init
loop-left-init c = (c.requires.there, λ values. down_none c.requires.rules values c.args.v c.new-over.result.items c.new-over.ensures.items)

pub loop-left-preserved : goal.loop-left-preserved
loop-left-preserved c = (
  c.target-to.ensures.there,
  λ values. down_more c.requires.rules values c.args.v c.loop-left.over.items c.push.new.self.items c.loop-left.to c.target-to.result c.in-Some.t
      c.in_ok-push.ensures.items c.in-Some.ensures.step c.target-to.ensures.enters (c.loop-left.invariant.1 values),
)
