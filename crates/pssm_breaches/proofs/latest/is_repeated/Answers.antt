use Rattle.std.proofs.Common.{◌∙◌, sym, rules}
use Rattle.pssm_breaches.proofs.LatestLaws.{found, not_lost, repeated_iff}
use Rattle.pssm_breaches.proofs.latest.is_repeated.Goals as goal

pub returns-in-Some : goal.returns-in-Some
returns-in-Some c =
    repeated_iff c.args._draft.now c.args.kind c.args.e c.in-Some.last _
    (found c.args._draft.now c.args._m c.args.kind c.args.heritage.now c.args.latest.now c.args.e c.args._f c.requires c.in-Some.last (sym c.latest_of.ensures ∙ c.in-Some.is))
    (search rules)

pub returns-in-None : goal.returns-in-None
returns-in-None c =
    absurd (not_lost c.args._draft.now c.args._m c.args.kind c.args.heritage.now c.args.latest.now c.args.e c.args._f c.requires (sym c.latest_of.ensures ∙ c.in-None.is))
