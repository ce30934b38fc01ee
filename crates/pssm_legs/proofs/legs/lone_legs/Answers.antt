-- the one leg is that of a chain of one transition
use Rattle.std.proofs.Common.{◌∙◌, refl}
use Rattle.pssm_model_laws.proofs.RouteOrder.{of_start}
use Rattle.pssm_model_laws.proofs.Through.{target_there}
use Rattle.pssm_legs.proofs.Chains.{on_within}
use Rattle.pssm_legs.proofs.LoneRoutes.{lone_begins, lone_chain, lone_are_legs}
use Rattle.pssm_legs.proofs.legs.lone_legs.Goals as goal

pub target-last-requires : goal.target-last-requires
target-last-requires c =
    on_within c.regions-shaped.ensures.shaped c.requires.rules c.args.route.now c.requires.route c.args.start
    (of_start c.args.machine.now c.args.route.now c.args.start c.requires.start.0)

pub area_of_path-area-requires-clause-first : goal.area_of_path-area-requires-clause-first
area_of_path-area-requires-clause-first c =
    on_within c.regions-shaped.ensures.shaped c.requires.rules c.args.route.now c.requires.route c.args.start
    (of_start c.args.machine.now c.args.route.now c.args.start c.requires.start.0)

pub area_of_path-area-requires-clause-path : goal.area_of_path-area-requires-clause-path
area_of_path-area-requires-clause-path c =
    (lone_chain c.regions-shaped.ensures.shaped c.requires.rules c.args.route.now c.requires.route c.args.start c.target-last.result
    c.requires.start c.target-last.ensures.enters _ (c.as_slice.ensures.value ∙ c.none-further.ensures.items)).path

pub returns : goal.returns
returns c =
    let shape = c.regions-shaped.ensures.shaped in
    let begins = lone_begins shape c.requires.rules c.args.route.now c.requires.route c.args.start c.target-last.result c.requires.start c.target-last.ensures.enters in
    let chain = lone_chain shape c.requires.rules c.args.route.now c.requires.route c.args.start c.target-last.result
    c.requires.start c.target-last.ensures.enters c.as_slice.result.now (c.as_slice.ensures.value ∙ c.none-further.ensures.items) in
    lone_are_legs shape c.requires.rules c.args.route.now c.requires.route _ c.new-more.ensures.items c.none-further.ensures.items refl refl
    c.requires.start c.target-last.ensures.enters (c.area_of_path-area.ensures.area c.args.route.now c.requires.route begins chain)
    c.area_of_path-area.ensures.there (target_there shape c.args.start c.target-last.result c.target-last.ensures.enters)
