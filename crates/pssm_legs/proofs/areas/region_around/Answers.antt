-- each turn goes one region further out
use Rattle.std.proofs.Common.{arith}
use Rattle.pssm_legs.proofs.NoneSoFar.{refuted}
use Rattle.pssm_legs.proofs.RegionsAround.{rise_begins, rise_higher, not_top}
use Rattle.pssm_legs.proofs.areas.region_around.Goals as goal

pub up-init : goal.up-init
up-init c =
    rise_begins c.args.machine.now c.args.state c.args.v c.home-region.result c.depth-height.result c.home-region.ensures.there c.home-region.ensures.home
    c.depth-height.ensures.depth

pub is_owned_by-requires : goal.is_owned_by-requires
is_owned_by-requires c = c.up.invariant.there

pub outer_region-region-requires-clause-region : goal.outer_region-region-requires-clause-region
outer_region-region-requires-clause-region c = c.up.invariant.there

pub outer_region-region-requires-clause-nested : goal.outer_region-region-requires-clause-nested
outer_region-region-requires-clause-nested c =
    not_top c.args.machine.now c.args.state c.args.v c.up.region c.up.height c.up.invariant c.requires.inside
    (refuted _ c.up-test.true c.is_owned_by.ensures)

pub overflow_sub-height : goal.overflow_sub-height
overflow_sub-height c = let less = c.up.invariant.below.1 in omega (arith, less)

pub up-preserved : goal.up-preserved
up-preserved c =
    let outer = c.outer_region-region.ensures.outer in
    rise_higher c.args.machine.now c.args.state c.args.v c.up.region c.up.height c.up.invariant c.requires.inside
    (refuted _ c.up-test.true c.is_owned_by.ensures) outer.0 c.outer_region-region.result outer.1 outer.2 c.outer_region-region.ensures.there

pub up-smaller : goal.up-smaller
up-smaller c = let less = c.up.invariant.below.1 in omega (arith, less)

pub returns : goal.returns
returns c = record {
  owner = c.is_owned_by.ensures.0 c.up-test.false;
  lies = c.up.invariant.lies;
  there = c.up.invariant.there;
}
