-- what is chosen from all the States is what fires
use Rattle.std.proofs.Common.{List, [], Contains, sym, subst}
use Rattle.pssm_model.specs.declared.steps.Route.{Route}
use Rattle.pssm_config.specs.Tables.{configuration_of}
use Rattle.pssm_routes.specs.declared.areas.Footprint.{Footprint}
use Rattle.pssm_routes.specs.inner.Picks.{IsChosen}
use Rattle.pssm_routes.proofs.Picking.{chosen_none, grown_both, grown_fires, on_one_side, in_front_part, in_back_part}
use Rattle.pssm_routes.proofs.pick.choose.Goals as goal

pub add_from_each-requires-clause-among : goal.add_from_each-requires-clause-among
add_from_each-requires-clause-among g c =
    in_back_part c.args.states.now c.split_at.result.0.now c.split_at.result.1.now c.place_of.result c.split_at.ensures.front c.split_at.ensures.back

pub add_from_each-requires-2-clause-among : goal.add_from_each-requires-2-clause-among
add_from_each-requires-2-clause-among g c =
    in_front_part c.args.states.now c.split_at.result.0.now c.split_at.result.1.now c.place_of.result c.split_at.ensures.front c.split_at.ensures.back

pub returns : goal.returns
returns g c values tells some =
    let m = c.args.machine.now in
    let now = configuration_of c.args.config.now in
    let event = c.args.event in
    let rules = c.requires.rules in
    let shape = c.requires.fits.shape in
    let states = c.args.states.now in
    let n = c.place_of.result in
    let front = c.split_at.result.0.now in
    let back = c.split_at.result.1.now in
    let first = c.split_at.ensures.front in
    let last = c.split_at.ensures.back in
    let routes = c.new.result.items in
    let footprints = c.new-2.result.items in
    let one = c.add_from_each.new.self in
    let two = c.add_from_each-2.new.self in
    let start : IsChosen m now values event routes footprints =
    subst (λ (ps : List Route). IsChosen m now values event ps footprints) (sym c.new.ensures.items)
    (subst (λ (gs : List Footprint). IsChosen m now values event [] gs) (sym c.new-2.ensures.items) (chosen_none rules shape now values event states)) in
    let before = c.in_ok-add_from_each.ensures.grown values tells
    (λ s there. ((some s).0 there).1) start in
    let after = c.in_ok-add_from_each-2.ensures.grown values tells
    (λ s there. ((some s).0 there).1) before.chosen in
    let both = grown_both rules shape now values event states (Contains back) (Contains front) (Contains states) footprints one.footprints.items two.footprints.items
    one.routes.items two.routes.items (on_one_side states front back n first last) before after in
    (grown_fires rules shape now values event states footprints two.footprints.items two.routes.items some both, both.chosen.apart)
