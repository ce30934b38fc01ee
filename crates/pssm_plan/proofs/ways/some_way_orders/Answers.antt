use Rattle.std.proofs.Common.{◌≡◌, ◌<◌, length, arith, sym, subst}
use Rattle.pssm_plan.specs.declared.ways.Way.{Way}
use Rattle.pssm_plan.specs.inner.ByWays.{orders_by}
use Rattle.pssm_plan.proofs.SomeWay.{is_there, only_one}
use Rattle.pssm_plan.proofs.ways.some_way_orders.Goals as goal

pub way_orders-requires-clause-way : goal.way_orders-requires-clause-way
way_orders-requires-clause-way c =
    let one = c.if-ways-eq1.true in
    let some : 0 < length c.args.ways.now = omega (arith, one) in
    c.requires.ways c.index-ways-0.result (is_there c.args.ways.now 0 c.index-ways-0.result some c.index-ways-0.is)

pub returns-then-ways-eq1 : goal.returns-then-ways-eq1
returns-then-ways-eq1 c =
    let ways = c.args.ways.now in
    let way = c.index-ways-0.result in
    let one : length ways ≡ 1 = (let e = c.if-ways-eq1.true in omega (arith, e)) in
    let some : 0 < length ways = omega (arith, one) in (
      λ t. (way, is_there ways 0 way some c.index-ways-0.is, c.way_orders.ensures.0 t),
      λ h. c.way_orders.ensures.1 (
          subst (λ (w : Way). orders_by c.args.machine.now w c.args.first.now c.args.second.now)
          (sym (only_one ways way one c.index-ways-0.is h.0 h.1)) h.2
          ),
    )
