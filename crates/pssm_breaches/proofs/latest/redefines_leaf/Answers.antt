use Rattle.std.proofs.Common.{◌∙◌, sym}
use Rattle.pssm_breaches.proofs.LatestLaws.{found, not_lost, leaf_iff}
use Rattle.pssm_breaches.proofs.latest.redefines_leaf.Goals as goal

pub returns-in-Some : goal.returns-in-Some
returns-in-Some c =
    leaf_iff c.args.draft.now c.args.kind c.args.e c.in-Some.last c.is_leaf_at.result
    (found c.args.draft.now c.args._m c.args.kind c.args.heritage.now c.args.latest.now c.args.e c.args._f c.requires.asked c.in-Some.last (sym c.latest_of.ensures ∙ c.in-Some.is))
    c.requires.once c.is_leaf_at.ensures

pub returns-in-None : goal.returns-in-None
returns-in-None c =
    absurd (not_lost c.args.draft.now c.args._m c.args.kind c.args.heritage.now c.args.latest.now c.args.e c.args._f c.requires.asked (sym c.latest_of.ensures ∙ c.in-None.is))
