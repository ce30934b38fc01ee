-- each turn meets the target of one transition more
use Rattle.std.proofs.Common.{◌<◌, ◌≤◌, length, get_or, inl, inr, ⊎_elim, arith}
use Rattle.std.proofs.lemmas.List.Elements.{Contains-get_or}
use Rattle.pssm_model.specs.declared.ids.TransId.{TransId}
use Rattle.pssm_model.proofs.ElementLaws.{nothing_in_nil}
use Rattle.pssm_routes.proofs.Spans.{met_rest, met_all}
use Rattle.pssm_routes.proofs.areas.region_of_all.Goals as goal

pub region_of_starts-common-requires-clause-near : goal.region_of_starts-common-requires-clause-near
region_of_starts-common-requires-clause-near c s v leaves met =
    c.requires.near s v leaves (⊎_elim
    (λ ends. inl ends)
    (λ others. ⊎_elim (λ by. inr (inl by)) (λ none. absurd (nothing_in_nil none.0 none.1)) others)
    met)

pub wider_region-common-requires-clause-shared : goal.wider_region-common-requires-clause-shared
wider_region-common-requires-clause-shared c =
    let d : TransId = record { 0 = 0 } in
    let more : c.loop-u.u-index < length c.args.rest.now =
    let less = c.loop-u-test.true in let upto = c.loop-u.auto.u-index-end in omega (arith, less, upto) in
    c.requires.near c.source-source.result c.target.result c.source-source.ensures.leaves
    (inr (inr (get_or c.args.rest.now c.loop-u.u-index d, Contains-get_or c.args.rest.now c.loop-u.u-index d more, c.target.ensures.enters)))

pub loop-u-preserved : goal.loop-u-preserved
loop-u-preserved c =
    let d : TransId = record { 0 = 0 } in
    let more : c.loop-u.u-index < length c.args.rest.now =
    let less = c.loop-u-test.true in let upto = c.loop-u.auto.u-index-end in omega (arith, less, upto) in (
      met_rest c.args.machine.now c.args.t c.source-source.result c.source-source.ensures.leaves c.args.more.now c.args.rest.now c.loop-u.u-index d
          c.target.result c.loop-u.common c.wider_region-common.result more c.target.ensures.enters c.loop-u.invariant.0 c.wider_region-common.ensures.wider,
      c.wider_region-common.ensures.there,
    )

pub returns-clause-scope : goal.returns-clause-scope
returns-clause-scope c =
    let all : length c.args.rest.now ≤ c.loop-u.u-index =
    let last = c.loop-u-test.false in let upto = c.loop-u.auto.u-index-end in omega (arith, last, upto) in
    met_all c.args.machine.now c.args.t c.source-source.result c.source-source.ensures.leaves c.args.more.now c.args.rest.now c.loop-u.u-index
    c.loop-u.common all c.loop-u.invariant.0
