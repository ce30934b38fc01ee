-- a region that remembers a State opens by restoring it
use Rattle.pssm_object.proofs.OpeningWays.{restores_it}
use Rattle.pssm_object.proofs.opening.opens_by_history.Goals as goal

pub returns-in-Some : goal.returns-in-Some
returns-in-Some c =
    let by =
    restores_it c.args.class.now c.args.config.now c.args.store.now c.args.params.now c.args.r c.args.kind c.args.how.now c.in-Some.s c.in-Some.ensures in
    (λ yes. by.0 (c.restores.ensures.0 yes), λ way. c.restores.ensures.1 (by.1 way))
