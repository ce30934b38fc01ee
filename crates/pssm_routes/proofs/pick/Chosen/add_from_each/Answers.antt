-- each turn adds what can be added from one State more
use Rattle.std.proofs.Common.{◌<◌, length, arith}
use Rattle.std.proofs.lemmas.List.Elements.{Contains-get_or}
use Rattle.pssm_model.specs.declared.ids.VertexId.{VertexId}
use Rattle.pssm_config.specs.Tables.{configuration_of}
use Rattle.pssm_routes.proofs.Picking.{grown_next}
use Rattle.pssm_routes.proofs.pick.Chosen.add_from_each.Goals as goal

pub add_from-requires-clause-among : goal.add_from-requires-clause-among
add_from-requires-clause-among g c =
    let some = c.args.some.now in
    let more : c.loop-s.s-index < length some =
    let less = c.loop-s-test.true in let upto = c.loop-s.auto.s-index-end in omega (arith, less, upto) in
    c.requires.among _ (Contains-get_or some c.loop-s.s-index _ more)

pub loop-s-preserved : goal.loop-s-preserved
loop-s-preserved g c =
    let now = configuration_of c.args.config.now in
    let states = c.args.states.now in
    let some = c.args.some.now in
    let n = c.loop-s.s-index in
    let d : VertexId = record { 0 = 0 } in
    let more : n < length some =
    let less = c.loop-s-test.true in let upto = c.loop-s.auto.s-index-end in omega (arith, less, upto) in
    let was = c.loop-s.self in
    let is = c.add_from.new.self in (
      c.in_ok-add_from.ensures.footprints,
      λ values tells free chosen. (let before = c.loop-s.invariant.1 values tells free chosen in
          grown_next c.requires.rules c.requires.fits.shape now values c.args.event states some n d c.args.self.now.footprints.items was.footprints.items
          is.footprints.items was.routes.items is.routes.items more before
          (c.in_ok-add_from.ensures.grown values tells free before.chosen)),
    )
