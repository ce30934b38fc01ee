-- each turn looks at one transition more
use Rattle.std.proofs.Common.{◌≡◌, ◌<◌, length, get_or, refl, arith}
use Rattle.std.proofs.lemmas.List.Elements.{Contains-get_or}
use Rattle.pssm_model.specs.declared.ids.TransId.{TransId}
use Rattle.pssm_enabled.specs.inner.Fitting.{LeavesMarked}
use Rattle.pssm_enabled.proofs.ListPlaces.{below_next, below_all, refuted}
use Rattle.pssm_enabled.proofs.marked.leave_seen.Goals as goal

pub returns-then-not-leaves_seen : goal.returns-then-not-leaves_seen
returns-then-not-leaves_seen c =
    let d : TransId = record { 0 = 0 } in
    let more : c.loop-t.t-index < length c.args.transitions.now =
    let less = c.loop-t-test.true in let upto = c.loop-t.auto.t-index-end in omega (arith, less, upto) in
    let t = get_or c.args.transitions.now c.loop-t.t-index d in (
      λ wrong. absurd (cc),
      λ h. absurd (refuted c.leaves_seen.result c.if-not-leaves_seen.true c.leaves_seen.ensures
          (h t (Contains-get_or c.args.transitions.now c.loop-t.t-index d more))),
    )

pub loop-t-preserved : goal.loop-t-preserved
loop-t-preserved c =
    let more : c.loop-t.t-index < length c.args.transitions.now =
    let less = c.loop-t-test.true in let upto = c.loop-t.auto.t-index-end in omega (arith, less, upto) in
    below_next (LeavesMarked c.args.machine.now c.args.seen.now) c.args.transitions.now c.loop-t.t-index _ more
    (c.leaves_seen.ensures.0 c.if-not-leaves_seen.false) c.loop-t.invariant

pub returns : goal.returns
returns c =
    let all : length c.args.transitions.now ≡ c.loop-t.t-index =
    let last = c.loop-t-test.false in let upto = c.loop-t.auto.t-index-end in omega (arith, last, upto) in (
      λ holds. below_all (LeavesMarked c.args.machine.now c.args.seen.now) c.args.transitions.now
          c.loop-t.t-index all c.loop-t.invariant,
      λ h. refl,
    )
