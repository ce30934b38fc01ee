use Rattle.pssm_breaches.proofs.FirstLaws.{above_iff}
use Rattle.pssm_breaches.proofs.places.names_above.Goals as goal

pub returns : goal.returns
returns c =
    above_iff c.args._draft.now c.args._m c.args.kind c.args.heritage.now c.args.e c.args._f c.is_first.result c.requires.lineage c.requires.within c.requires.named
    c.is_first.ensures
