-- each turn looks at one footprint more
use Rattle.pssm_routes.proofs.FootprintLists.{apart_after}
use Rattle.pssm_enabled.proofs.Scanning.{refuted}
use Rattle.pssm_routes.proofs.set.are_apart.Goals as goal

pub loop-first-preserved : goal.loop-first-preserved
loop-first-preserved c =
    apart_after c.args.machine.now c.args.footprints.now c.loop-first.rest.now c.in-Some.more.now c.in-Some.first.now c.in-Some.ensures.cases.0
    (refuted c.clashes_with.result c.if-clashes_with.false c.clashes_with.ensures) c.loop-first.invariant
