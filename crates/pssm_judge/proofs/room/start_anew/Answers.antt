use Rattle.std.proofs.Common.{◌∙◌, [], ◌∷◌, ap, arith}
use Rattle.pssm_model.specs.declared.steps.Route.{Route}
use Rattle.pssm_judge.proofs.RoomLaws.{only_set, route_is}
use Rattle.pssm_judge.proofs.room.start_anew.Goals as goal

pub returns : goal.returns
returns c = λ yes.
    only_set c.args.routes.now c.start_route.new.route (omega arith)
    ∙ ap (λ (r : Route). r ∷ []) (route_is c.start_route.new.route (c.args.start ∷ []) [] (c.start_route.ensures.starts yes) (c.start_route.ensures.rest yes))
