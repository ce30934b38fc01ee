use Rattle.std.proofs.Common.{rules}
use Rattle.pssm_breaches.proofs.FirstLaws.{above_within}
use Rattle.pssm_breaches.proofs.places.is_inherited.Goals as goal

pub at_same_place-requires-clause-above : goal.at_same_place-requires-clause-above
at_same_place-requires-clause-above c =
    above_within c.args.draft.now c.args.m c.args.kind c.args.e c.args.f c.requires.range c.requires.within c.requires.named
    (c.names_above.ensures.0 (search rules))
