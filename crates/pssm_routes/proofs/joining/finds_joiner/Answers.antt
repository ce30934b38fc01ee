-- a free route is there where the search finds one
use Rattle.pssm_routes.specs.inner.Rooms.{IsJoiningStep}
use Rattle.pssm_enabled.specs.Steps.{steps_of}
use Rattle.pssm_routes.specs.inner.Sets.{HasFreeRoute}
use Rattle.pssm_routes.proofs.FootprintLists.{found_decides}
use Rattle.pssm_routes.proofs.RoutesOver.{found_free}
use Rattle.pssm_routes.proofs.joining.finds_joiner.Goals as goal

pub returns : goal.returns
returns g c values tells =
    let m = c.args.machine.now in
    let footprints = c.args.footprints.now in
    found_decides (IsJoiningStep m values footprints (steps_of c.find_joiner.new.search) c.args.t) (HasFreeRoute m values footprints c.args.t)
    c.find_joiner.result c.is_some.result c.is_some.ensures (c.find_joiner.ensures.some values tells) (c.find_joiner.ensures.none values tells)
    (λ last. found_free c.requires.rules c.regions-shaped.ensures.shaped values footprints c.args.t c.requires.there (steps_of c.find_joiner.new.search) last)
