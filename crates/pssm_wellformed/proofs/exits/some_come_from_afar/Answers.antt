use Rattle.std.proofs.lemmas.Bool.{false≢true}
use Rattle.pssm_wellformed.specs.inner.Ends.{transition_number}
use Rattle.pssm_wellformed.specs.inner.Strays.{ComesFromAfar}
use Rattle.pssm_wellformed.proofs.Listing.{none_more, none_at_all}
use Rattle.pssm_wellformed.proofs.exits.some_come_from_afar.Goals as goal

pub loop-transition-preserved : goal.loop-transition-preserved
loop-transition-preserved c =
    none_more (ComesFromAfar c.args.marked.now c.args.vertex c.args.state) c.args.transitions.now c.loop-transition.transition-index (transition_number 0)
    c.loop-transition-test.true (λ h. false≢true (c.if-comes_from_afar.ensures.1 h)) c.loop-transition.invariant

pub returns : goal.returns
returns c = (
  λ t. absurd (false≢true t),
  λ h. absurd (none_at_all (ComesFromAfar c.args.marked.now c.args.vertex c.args.state) c.args.transitions.now c.loop-transition.transition-index
      c.loop-transition-test.false c.loop-transition.invariant h.0 h.1 h.2),
)
