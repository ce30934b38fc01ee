-- the history vertex that was found is the only one of its kind
use Rattle.pssm_object.proofs.OpeningWays.{goes_by_it}
use Rattle.pssm_object.proofs.opening.opens_afresh.Goals as goal

pub returns-in-Some : goal.returns-in-Some
returns-in-Some c =
    let by =
    goes_by_it c.args.class.now c.requires.rules c.args.store.now c.args.params.now c.args.r c.args.kind c.requires.kind c.in-Some.v c.in-Some.ensures.some
    c.args.how.now in
    (λ yes. by.0 (c.goes_from.ensures.0 yes), λ way. c.goes_from.ensures.1 (by.1 way))
