use Rattle.std.proofs.Common.{◌+◌, IsTrue, List, arith, refl, subst, sym}
use Rattle.pssm_plan.specs.declared.ways.Way.{Way}
use Rattle.pssm_plan.specs.inner.Sequence.{IsSomeLong, IsSequence}
use Rattle.pssm_plan.specs.inner.Passes.{AreFreeFrom}
use Rattle.pssm_plan.proofs.Looking.{waiting, blocked_call, settled_nearest}
use Rattle.pssm_plan.proofs.ApartCalls.{rest_is, rest_some, rest_all, settled_begun}
use Rattle.pssm_plan.proofs.OwnOrder.{own_free}
use Rattle.pssm_plan.proofs.NearWays.{near_ways, near_seen, near_settled}
use Rattle.pssm_plan.proofs.waiting.look_newly.Goals as goal

pub look_as-requires-clause-ways : goal.look_as-requires-clause-ways
look_as-requires-clause-ways c =
    near_ways c.args.machine.now c.args.ways.now _ (rest_some c.args.ways.now c.args.since.ways) c.requires.ways

pub look_as-requires-clause-seen : goal.look_as-requires-clause-seen
look_as-requires-clause-seen c =
    near_seen c.args.machine.now c.args.ways.now _ c.args.calls.now c.args.at.place c.begun-begun.result
    (rest_some c.args.ways.now c.args.since.ways)
    (rest_all c.args.machine.now c.args.ways.now c.args.calls.now c.args.call.now c.begun-begun.result c.args.since c.requires.new
    c.begun-begun.ensures.item)
    c.begun-begun.ensures.seen

pub look_as-requires-clause-long : goal.look_as-requires-clause-long
look_as-requires-clause-long c =
    subst (λ (l : List Way). IsSomeLong l → IsTrue c.args.long) (sym (rest_is c.args.ways.now c.args.since.ways)) c.requires.long

pub returns-in-None : goal.returns-in-None
returns-in-None c =
    settled_begun _ c.args.calls.now c.args.at.place c.begun-begun.result c.args.call.now c.look_as.result c.begun-begun.ensures.item c.begun-begun.ensures.ran
    (near_settled c.args.machine.now c.args.ways.now _ c.args.calls.now c.args.at.place c.begun-begun.result (waiting c.begun-begun.result c.look_as.result)
    (rest_some c.args.ways.now c.args.since.ways)
    (rest_all c.args.machine.now c.args.ways.now c.args.calls.now c.args.call.now c.begun-begun.result c.args.since c.requires.new
    c.begun-begun.ensures.item)
    c.look_as.ensures)

-- the nearest of the new ones
pub returns-in-Some : goal.returns-in-Some
returns-in-Some c =
    let near = rest_some c.args.ways.now c.args.since.ways in
    near_settled c.args.machine.now c.args.ways.now _ c.args.calls.now c.args.at.place c.args.call.now (blocked_call c.args.call.now c.in-Some.k)
    near
    (rest_all c.args.machine.now c.args.ways.now c.args.calls.now c.args.call.now c.args.call.now c.args.since c.requires.new refl)
    (settled_nearest _ c.args.calls.now c.args.call.now c.args.at.place c.in-Some.k (let lt = c.in-Some.ensures.0 in omega (arith, lt))
    (let lt = c.in-Some.ensures.0 in let there = c.requires.there in omega (arith, lt, there)) c.in-Some.ensures.1
    (own_free c.regions-shaped.ensures.shaped c.requires.rules _ (near_ways c.args.machine.now c.args.ways.now _ near c.requires.ways)
    c.args.calls.now c.args.call.now.item (c.in-Some.k + 1) c.args.at.place c.requires.own c.in-Some.ensures.2))

pub nearest_behind-requires-clause-ways : goal.nearest_behind-requires-clause-ways
nearest_behind-requires-clause-ways c =
    near_ways c.args.machine.now c.args.ways.now _ (rest_some c.args.ways.now c.args.since.ways) c.requires.ways

pub nearest_behind-requires-clause-long : goal.nearest_behind-requires-clause-long
nearest_behind-requires-clause-long c =
    subst (λ (l : List Way). IsSomeLong l → IsTrue c.args.long) (sym (rest_is c.args.ways.now c.args.since.ways)) c.requires.long

pub begun-begun-requires-clause-passed : goal.begun-begun-requires-clause-passed
begun-begun-requires-clause-passed c =
    subst (λ (l : List Way). AreFreeFrom (IsSequence c.args.machine.now l) c.args.calls.now c.args.call.now.item c.args.since.calls (c.args.at.place + 1))
    (rest_is c.args.ways.now c.args.since.ways)
    (own_free c.regions-shaped.ensures.shaped c.requires.rules _
    (near_ways c.args.machine.now c.args.ways.now _ (rest_some c.args.ways.now c.args.since.ways) c.requires.ways)
    c.args.calls.now c.args.call.now.item c.args.since.calls c.args.at.place c.requires.own c.in-None.ensures)
