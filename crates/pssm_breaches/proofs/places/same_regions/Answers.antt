use Rattle.std.proofs.Common.{sym}
use Rattle.pssm_breaches.proofs.PlaceLaws.{regions_iff}
use Rattle.pssm_breaches.proofs.places.same_regions.Goals as goal

pub returns-in-Some-region_at : goal.returns-in-Some-region_at
returns-in-Some-region_at c =
    regions_iff c.args.draft.now c.args._m c.args.heritage.now c.args.e c.args.f c.in-Some.region.now c.in-Some-region_at.other.now c.same_owner.result
    c.requires.range c.requires.lineage c.requires.within c.requires.above (sym c.in-Some.ensures) (sym c.in-Some-region_at.ensures) c.same_owner.ensures
