-- the climb from the deeper place goes on until both have come to one place
use Rattle.std.proofs.Common.{rules, ◌≡◌, ◌-◌, arith}
use Rattle.pssm_wellformed.proofs.Climbing.{has_owner}
use Rattle.pssm_wellformed.proofs.Meeting.{turned, meet_has_room, meet_goes_on, meet_ends}
use Rattle.pssm_wellformed.proofs.levels.common_level.Goals as goal

pub owner-other_place-requires-clause-owned : goal.owner-other_place-requires-clause-owned
owner-other_place-requires-clause-owned c =
    has_owner c.args.machine.now c.loop-place.other_place c.loop-place.other_height c.loop-place.invariant.1.level
    (let deeper = c.if-height-other_height.true in omega arith)

pub loop-place-preserved-then-height-other_height : goal.loop-place-preserved-then-height-other_height
loop-place-preserved-then-height-other_height c =
    let m = c.args.machine.now in
    let v = c.args.vertex in
    let w = c.args.other in
    let p = c.loop-place.place in
    let q = c.loop-place.other_place in
    let k = c.loop-place.height in
    let n = c.loop-place.other_height in
    let lower = c.if-height-other_height.true in
    let differ : q ≡ p → ⊥ = search rules in
    turned m w v c.owner-other_place.result p (n - 1) k
    (meet_goes_on m c.requires.shape w v c.requires.other q p c.owner-other_place.result n k (n - 1) (turned m v w p q k n c.loop-place.invariant) differ
    (omega arith) c.owner-other_place.ensures (omega arith))

pub owner-place-requires-clause-owned : goal.owner-place-requires-clause-owned
owner-place-requires-clause-owned c =
    let differ : c.loop-place.place ≡ c.loop-place.other_place → ⊥ = search rules in
    has_owner c.args.machine.now c.loop-place.place c.loop-place.height c.loop-place.invariant.0.level
    (meet_has_room c.args.machine.now c.args.vertex c.args.other c.loop-place.place c.loop-place.other_place c.loop-place.height c.loop-place.other_height
    c.loop-place.invariant differ c.if-height-other_height.false)

pub loop-place-preserved : goal.loop-place-preserved
loop-place-preserved c =
    let m = c.args.machine.now in
    let v = c.args.vertex in
    let w = c.args.other in
    let p = c.loop-place.place in
    let q = c.loop-place.other_place in
    let k = c.loop-place.height in
    let n = c.loop-place.other_height in
    let differ : p ≡ q → ⊥ = search rules in
    let room = meet_has_room m v w p q k n c.loop-place.invariant differ c.if-height-other_height.false in
    meet_goes_on m c.requires.shape v w c.requires.vertex p q c.owner-place.result k n (k - 1) c.loop-place.invariant differ
    c.if-height-other_height.false c.owner-place.ensures (omega arith)

pub returns-clause-level : goal.returns-clause-level
returns-clause-level c =
    let same : c.loop-place.place ≡ c.loop-place.other_place = search rules in
    meet_ends c.args.machine.now c.requires.shape c.args.vertex c.args.other c.requires.vertex c.requires.other c.loop-place.place c.loop-place.other_place
    c.loop-place.height c.loop-place.other_height c.loop-place.invariant same
