use Rattle.pssm_breaches.proofs.SearchLaws.{of_all}
use Rattle.pssm_breaches.proofs.walk.first_breach.Goals as goal

pub returns : goal.returns
returns c =
    of_all c.args.draft.now c.args.m c.in_ok-region.region c.in_ok-vertex.vertex c.in_ok-transition.transition c.first_of_two-found.result c.first_of_two.result
    c.in_ok-region.ensures c.in_ok-vertex.ensures c.in_ok-transition.ensures c.first_of_two-found.ensures c.first_of_two.ensures
