-- each neighbour that starts later keeps the order
use Rattle.std.proofs.Common.{◌<◌, refl, arith}
use Rattle.pssm_routes.proofs.Listing.{one_is_listed, one_more_listed, all_are_listed, neighbours_listed}
use Rattle.pssm_enabled.proofs.Scanning.{refuted}
use Rattle.pssm_routes.proofs.set.are_listed.Goals as goal

pub loop-i-init : goal.loop-i-init
loop-i-init c = one_is_listed c.args.routes.now

pub returns-then-not-starts_before : goal.returns-then-not-starts_before
returns-then-not-starts_before c =
    let some : 0 < c.loop-i.i = let from = c.loop-i.auto.i in omega (arith, from) in (
      λ f. absurd (cc),
      λ listed. absurd (refuted c.starts_before.result c.if-not-starts_before.true c.starts_before.ensures (neighbours_listed
          c.args.routes.now c.loop-i.i c.index-routes-i.result c.index-routes-i-in-loop-i.result some c.loop-i-test.true c.index-routes-i.is
          c.index-routes-i-in-loop-i.is listed)),
    )

pub loop-i-preserved : goal.loop-i-preserved
loop-i-preserved c =
    let some : 0 < c.loop-i.i = let from = c.loop-i.auto.i in omega (arith, from) in
    one_more_listed c.args.routes.now c.loop-i.i c.index-routes-i.result c.index-routes-i-in-loop-i.result some c.loop-i-test.true c.requires
    c.index-routes-i.is c.index-routes-i-in-loop-i.is (c.starts_before.ensures.0 c.if-not-starts_before.false) c.loop-i.invariant

pub returns : goal.returns
returns c =
    let listed = all_are_listed c.args.routes.now c.loop-i.i (let last = c.loop-i-test.false in omega (arith, last)) c.loop-i.invariant in
    (λ t. listed, λ h. refl)
