-- each turn looks at one start more
use Rattle.std.proofs.Common.{◌≡◌, ◌<◌, length, get_or, refl, arith}
use Rattle.std.proofs.lemmas.List.Elements.{Contains-get_or}
use Rattle.pssm_model.specs.declared.ids.TransId.{TransId}
use Rattle.pssm_enabled.specs.inner.Fitting.{EndsAlone}
use Rattle.pssm_enabled.proofs.ListPlaces.{below_next, below_all, refuted}
use Rattle.pssm_enabled.proofs.Fitting.{alone_fits}
use Rattle.pssm_enabled.proofs.route.end_alone.Goals as goal

pub returns-then-not-ends_alone : goal.returns-then-not-ends_alone
returns-then-not-ends_alone c =
    let d : TransId = record { 0 = 0 } in
    let more : c.loop-t.t-index < length c.args.starts.now =
    let less = c.loop-t-test.true in let upto = c.loop-t.auto.t-index-end in omega (arith, less, upto) in
    let t = get_or c.args.starts.now c.loop-t.t-index d in (
      λ wrong. absurd (cc),
      λ h. absurd (refuted c.ends_alone.result c.if-not-ends_alone.true c.ends_alone.ensures
          ((alone_fits c.args.machine.now c.args.starts.now c.requires.outside).1 h t (Contains-get_or c.args.starts.now c.loop-t.t-index d more))),
    )

pub loop-t-preserved : goal.loop-t-preserved
loop-t-preserved c =
    let more : c.loop-t.t-index < length c.args.starts.now =
    let less = c.loop-t-test.true in let upto = c.loop-t.auto.t-index-end in omega (arith, less, upto) in
    below_next (EndsAlone c.args.machine.now) c.args.starts.now c.loop-t.t-index _ more
    (c.ends_alone.ensures.0 c.if-not-ends_alone.false) c.loop-t.invariant

pub returns : goal.returns
returns c =
    let all : length c.args.starts.now ≡ c.loop-t.t-index =
    let last = c.loop-t-test.false in let upto = c.loop-t.auto.t-index-end in omega (arith, last, upto) in (
      λ holds. (alone_fits c.args.machine.now c.args.starts.now c.requires.outside).0
          (below_all (EndsAlone c.args.machine.now) c.args.starts.now c.loop-t.t-index all c.loop-t.invariant),
      λ h. refl,
    )
