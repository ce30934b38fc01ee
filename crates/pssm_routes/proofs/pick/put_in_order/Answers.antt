-- routes whose first starts differ ascend when they are sorted
use Rattle.std.proofs.Common.{rules}
use Rattle.std.proofs.lemmas.List.Sorted.{IsNonDecreasingBy-from_sort_by_key}
use Rattle.pssm_model.specs.declared.steps.Route.{Route}
use Rattle.pssm_routes.specs.inner.Picks.{first_number}
use Rattle.pssm_routes.proofs.Picking.{sorted_listed}
use Rattle.pssm_routes.proofs.pick.put_in_order.Goals as goal

pub returns-clause-listed : goal.returns-clause-listed
returns-clause-listed c apart =
    sorted_listed c.args.routes.now.items c.sort_by_key.new.self.items c.sort_by_key.ensures.permutation apart
    (IsNonDecreasingBy-from_sort_by_key (λ (p : Route). first_number p.starts) _ c.in_ok-sort_by_key.ensures.sorted (λ a r q k. search rules))
