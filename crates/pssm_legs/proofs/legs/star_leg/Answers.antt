-- what has been made is a leg
use Rattle.std.proofs.Common.{◌≡◌, ◌∷◌, ◌∙◌, true, false, refl, sym, subst, ⊎_elim}
use Rattle.pssm_legs.specs.inner.Chained.{IsStarAt}
use Rattle.pssm_legs.proofs.PathRegions.{in_head, enters_there, leaves_there}
use Rattle.pssm_legs.proofs.LegsMade.{star_is_made}
use Rattle.pssm_legs.proofs.legs.star_leg.Goals as goal

pub target-requires : goal.target-requires
target-requires c =
    let named = in_head c.args.named c.args.more.now in
    ⊎_elim
    (λ join. enters_there c.args.machine.now c.args.named c.args.hub ((join.1 c.args.named).0 named))
    (λ fork. leaves_there c.args.machine.now c.args.named c.args.hub ((fork.1 c.args.named).0 named))
    c.requires.star

pub returns : goal.returns
returns c = λ p step on.
    star_is_made c.regions-shaped.ensures.shaped c.requires.rules p step _ (λ wrong. (let e : false ≡ true = wrong in cc)) on c.target.ensures.enters
    c.args.hub c.home.result c.home.ensures.home refl
    (subst (λ ts. IsStarAt c.args.machine.now (c.args.named ∷ ts) c.args.hub) (sym (c.in_ok-further.ensures.items ∙ c.in_ok-copy.ensures)) c.requires.star)
    _ refl c.home.ensures.there c.target.ensures.there
