-- One place more is climbed, and at the end something is known of the place above the path.
use Rattle.std.proofs.Common.{◌≢◌, subst, sym, rules}
use Rattle.pssm_model.specs.declared.depths.Depth.TheVariants.{Unknown}
use Rattle.pssm_model.specs.inner.Depths.{noted}
use Rattle.pssm_model.proofs.Climbing.{IsClimbing, climbing_goes_on, climbing_ends}
use Rattle.pssm_model.proofs.depths.Depths.climb.Goals as goal

pub loop-at-preserved : goal.loop-at-preserved
loop-at-preserved c =
    subst
    (λ path. IsClimbing c.args.draft.now c.args.place path c.owner_of-at.result c.set.new.self)
    (sym c.in_ok-push.ensures.items)
    (climbing_goes_on _ _ _ _ _ _ _ c.loop-at.invariant c.owner_of-at.ensures c.set.ensures)

pub returns-clause-climbed : goal.returns-clause-climbed
returns-clause-climbed c =
    let known : noted c.loop-at.self c.loop-at.at ≢ Unknown = search rules in
    (climbing_ends _ _ _ _ _ c.loop-at.invariant known).0
