-- each turn looks at one footprint more
use Rattle.std.proofs.Common.{◌≡◌}
use Rattle.std.proofs.lemmas.Bool.{false≢true}
use Rattle.pssm_legs.proofs.NoneSoFar.{none_more, none_at_all}
use Rattle.pssm_routes.specs.declared.areas.Footprint.{Footprint}
use Rattle.pssm_routes.proofs.joining.is_anchor.Goals as goal

pub loop-footprint-preserved : goal.loop-footprint-preserved
loop-footprint-preserved c =
    none_more (λ (a : Footprint). a.source ≡ c.args.s) c.args.footprints.now c.loop-footprint.footprint-index c.loop-footprint.invariant _
    c.loop-footprint-test.true (λ h. false≢true (c.if-starts_at.ensures.1 h))

pub returns : goal.returns
returns c = (
  λ t. absurd (false≢true t),
  λ h. absurd (none_at_all (λ (a : Footprint). a.source ≡ c.args.s) c.args.footprints.now c.loop-footprint.footprint-index c.loop-footprint.invariant
      c.loop-footprint-test.false h.0 h.1 h.2),
)
