-- the climb takes one place after the other until the whole owns one
use Rattle.std.proofs.Common.{rules, IsTrue, ◌≡◌, ◌↔◌, ◌-◌, Some, sym, ap, ◌∙◌, arith}
use Rattle.std.proofs.lemmas.Bool.{false≢true}
use Rattle.pssm_wellformed.proofs.Climbing.{seek_begins, seek_goes_on, seek_ends, has_owner}
use Rattle.pssm_wellformed.proofs.inside.part_inside.Goals as goal

pub loop-height-init : goal.loop-height-init
loop-height-init c =
    seek_begins c.args.machine.now c.args.vertex c.args.whole c.home-place.result c.level-height.result c.home-place.ensures c.level-height.ensures.level

pub owner-above-requires-clause-place : goal.owner-above-requires-clause-place
owner-above-requires-clause-place c = c.loop-height.invariant.there

pub owner-above-requires-clause-owned : goal.owner-above-requires-clause-owned
owner-above-requires-clause-owned c =
    has_owner c.args.machine.now c.loop-height.place c.loop-height.height c.loop-height.invariant.level c.loop-height-test.true

pub returns-then-eq : goal.returns-then-eq
returns-then-eq c =
    let same : IsTrue c.eq.result ↔ (c.owner-above.result ≡ c.args.whole) = search rules in
    (c.loop-height.invariant.there, c.owner-above.ensures ∙ ap Some (same.0 c.if-eq.true), c.loop-height.invariant.holds)

pub loop-height-preserved : goal.loop-height-preserved
loop-height-preserved c =
    let some = c.loop-height-test.true in
    let same : IsTrue c.eq.result ↔ (c.owner-above.result ≡ c.args.whole) = search rules in
    seek_goes_on c.args.machine.now c.requires.shape c.args.vertex c.args.whole c.requires.there c.loop-height.place c.owner-above.result c.loop-height.height
    (c.loop-height.height - 1) c.loop-height.invariant c.owner-above.ensures (λ e. false≢true (sym c.if-eq.false ∙ same.1 e)) (omega arith)

pub returns : goal.returns
returns c =
    seek_ends c.args.machine.now c.args.vertex c.args.whole c.loop-height.place c.loop-height.height c.loop-height.invariant
    (let last = c.loop-height-test.false in omega arith)
