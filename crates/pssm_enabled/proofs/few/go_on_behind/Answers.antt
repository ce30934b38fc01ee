-- each turn looks at one transition more
use Rattle.std.proofs.Common.{◌≡◌, ◌<◌, length, get_or, refl, arith}
use Rattle.std.proofs.lemmas.List.Elements.{Contains-get_or}
use Rattle.pssm_model.specs.declared.ids.TransId.{TransId}
use Rattle.pssm_model.specs.Legs.{On}
use Rattle.pssm_enabled.specs.Fitting.{route_with}
use Rattle.pssm_enabled.specs.inner.Fitting.{GoesOnBehind}
use Rattle.pssm_enabled.proofs.ListPlaces.{below_next, below_all, refuted}
use Rattle.pssm_enabled.proofs.few.go_on_behind.Goals as goal

pub returns-then-not-goes_on_behind : goal.returns-then-not-goes_on_behind
returns-then-not-goes_on_behind c =
    let d : TransId = record { 0 = 0 } in
    let more : c.loop-t.t-index < length c.args.some.now =
    let less = c.loop-t-test.true in let upto = c.loop-t.auto.t-index-end in omega (arith, less, upto) in
    let t = get_or c.args.some.now c.loop-t.t-index d in (
      λ wrong. absurd (cc),
      λ h. absurd (refuted c.goes_on_behind.result c.if-not-goes_on_behind.true c.goes_on_behind.ensures
          (h t (Contains-get_or c.args.some.now c.loop-t.t-index d more))),
    )

pub loop-t-preserved : goal.loop-t-preserved
loop-t-preserved c =
    let more : c.loop-t.t-index < length c.args.some.now =
    let less = c.loop-t-test.true in let upto = c.loop-t.auto.t-index-end in omega (arith, less, upto) in
    below_next (GoesOnBehind c.args.machine.now (On (route_with c.args.starts.now c.args.rest.now))) c.args.some.now c.loop-t.t-index _ more (c.goes_on_behind.ensures.0 c.if-not-goes_on_behind.false) c.loop-t.invariant

pub returns : goal.returns
returns c =
    let all : length c.args.some.now ≡ c.loop-t.t-index =
    let last = c.loop-t-test.false in let upto = c.loop-t.auto.t-index-end in omega (arith, last, upto) in (
      λ holds. below_all (GoesOnBehind c.args.machine.now (On (route_with c.args.starts.now c.args.rest.now))) c.args.some.now c.loop-t.t-index all c.loop-t.invariant,
      λ h. refl,
    )
