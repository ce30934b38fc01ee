-- The last place of the path has an owner whose depth is noted, and with its own depth noted the rest of the path is settled in the same way.
use Rattle.std.proofs.Common.{subst}
use Rattle.pssm_model.specs.inner.Depths.{HasClimbed}
use Rattle.pssm_model.proofs.Climbing.{settled_next, settles}
use Rattle.pssm_model.proofs.depths.Depths.settle.Goals as goal

pub owner_of-owner-requires : goal.owner_of-owner-requires
owner_of-owner-requires c =
    let climbed = subst (λ path. HasClimbed c.args.draft.now path c.loop-place.self) c.in-Some.ensures.items c.loop-place.invariant.0 in
    (settled_next _ _ _ _ climbed).0

pub set-requires : goal.set-requires
set-requires c =
    let climbed = subst (λ path. HasClimbed c.args.draft.now path c.loop-place.self) c.in-Some.ensures.items c.loop-place.invariant.0 in
    (settled_next _ _ _ _ climbed).1

pub loop-place-preserved : goal.loop-place-preserved
loop-place-preserved c =
    let climbed = subst (λ path. HasClimbed c.args.draft.now path c.loop-place.self) c.in-Some.ensures.items c.loop-place.invariant.0 in
    let notes = rw (c.depth_under-depth.ensures, c.of.ensures) at c.set.ensures in
    let settled = settles _ _ _ _ _ _ climbed c.owner_of-owner.ensures notes in
    (settled.0, λ p unknown. c.loop-place.invariant.1 p (settled.1 p unknown))
