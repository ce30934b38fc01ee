-- a region opens by none where it has no initial vertex
use Rattle.pssm_object.proofs.OpeningWays.{opens_by_none}
use Rattle.pssm_object.proofs.opening.opens_by_default.Goals as goal

pub returns-in-Nothing : goal.returns-in-Nothing
returns-in-Nothing c =
    opens_by_none c.args.class.now c.args.store.now c.args.params.now c.args.r c.args.how.now c.initials_of.result.now c.is_empty.result c.in-Nothing.is
    c.initials_of.ensures.items c.is_empty.ensures
