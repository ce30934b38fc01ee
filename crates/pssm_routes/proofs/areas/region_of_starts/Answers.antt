-- each turn meets the source of one start more
use Rattle.std.proofs.Common.{◌<◌, ◌≤◌, length, get_or, inl, inr, arith}
use Rattle.std.proofs.lemmas.List.Elements.{Contains-get_or}
use Rattle.pssm_model.specs.declared.ids.TransId.{TransId}
use Rattle.pssm_routes.proofs.Spans.{met_begins, met_start, met_starts}
use Rattle.pssm_routes.proofs.areas.region_of_starts.Goals as goal

pub shared_region-common-requires-clause-shared : goal.shared_region-common-requires-clause-shared
shared_region-common-requires-clause-shared c =
    c.requires.near c.source-source.result c.target.result c.source-source.ensures.leaves (inl (inr c.target.ensures.enters))

pub loop-u-init : goal.loop-u-init
loop-u-init c = (
  met_begins c.args.machine.now c.args.t c.source-source.result c.source-source.ensures.leaves c.target.result c.args.more.now
      c.shared_region-common.result c.target.ensures.enters c.shared_region-common.ensures.scope,
  c.shared_region-common.ensures.there,
)

pub wider_region-common-requires-clause-shared : goal.wider_region-common-requires-clause-shared
wider_region-common-requires-clause-shared c =
    let d : TransId = record { 0 = 0 } in
    let more : c.loop-u.u-index < length c.args.more.now =
    let less = c.loop-u-test.true in let upto = c.loop-u.auto.u-index-end in omega (arith, less, upto) in
    c.requires.near c.source-source.result c.source.result c.source-source.ensures.leaves
    (inr (inl (get_or c.args.more.now c.loop-u.u-index d, Contains-get_or c.args.more.now c.loop-u.u-index d more, c.source.ensures.leaves)))

pub loop-u-preserved : goal.loop-u-preserved
loop-u-preserved c =
    let d : TransId = record { 0 = 0 } in
    let more : c.loop-u.u-index < length c.args.more.now =
    let less = c.loop-u-test.true in let upto = c.loop-u.auto.u-index-end in omega (arith, less, upto) in (
      met_start c.args.machine.now c.args.t c.source-source.result c.source-source.ensures.leaves c.args.more.now c.loop-u.u-index d
          c.source.result c.loop-u.common c.wider_region-common.result more c.source.ensures.leaves c.loop-u.invariant.0
          c.wider_region-common.ensures.wider,
      c.wider_region-common.ensures.there,
    )

pub returns-clause-scope : goal.returns-clause-scope
returns-clause-scope c =
    let all : length c.args.more.now ≤ c.loop-u.u-index =
    let last = c.loop-u-test.false in let upto = c.loop-u.auto.u-index-end in omega (arith, last, upto) in
    met_starts c.args.machine.now c.args.t c.source-source.result c.source-source.ensures.leaves c.args.more.now c.loop-u.u-index c.loop-u.common all
    c.loop-u.invariant.0
