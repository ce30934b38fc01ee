-- at first those at which ways end, then those from which ways lead to them
use Rattle.pssm_enabled.proofs.PassingLaws.{gone_none, way_is}
use Rattle.pssm_enabled.proofs.passing.Points.of.Goals as goal

pub add_ends-requires-clause-once : goal.add_ends-requires-clause-once
add_ends-requires-clause-once g c = c.none-points.ensures.once c.args.machine.now

pub loop-place-init : goal.loop-place-init
loop-place-init g c = (
  c.add_ends.ensures.once,
  c.add_ends.ensures.ends,
  λ values tells. (gone_none c.args.machine.now values c.add_ends.new.self c.add_ends.ensures.ends, c.add_ends.ensures.lead values),
)

pub loop-place-preserved : goal.loop-place-preserved
loop-place-preserved g c = (
  c.add_sources.ensures.once,
  λ v there ends. c.add_sources.ensures.kept v (c.loop-place.invariant.1 v there ends),
  λ values tells. (
    c.add_sources.ensures.gone values tells (c.loop-place.invariant.2 values tells).0,
    c.add_sources.ensures.lead values tells (c.loop-place.invariant.2 values tells).1,
  ),
)

pub returns : goal.returns
returns g c values tells v there =
    let so_far = c.loop-place.invariant.2 values tells in
    way_is c.regions-shaped.ensures.shaped values c.loop-place.points c.loop-place.place c.loop-place.invariant.0 c.loop-place.invariant.1 so_far.0
    c.loop-place-test.false so_far.1 v there
