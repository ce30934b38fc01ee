-- what has been made is a leg
use Rattle.std.proofs.Common.{◌∷◌, refl, sym, subst}
use Rattle.pssm_model.specs.Paths.{IsJunctionPath}
use Rattle.pssm_legs.specs.inner.Chained.{IsChainOf}
use Rattle.pssm_legs.proofs.Chains.{on_within}
use Rattle.pssm_legs.proofs.LegsMade.{chain_is_made}
use Rattle.pssm_legs.proofs.legs.chain_leg.Goals as goal

pub area_of_path-area-requires-clause-first : goal.area_of_path-area-requires-clause-first
area_of_path-area-requires-clause-first c =
    on_within c.regions-shaped.ensures.shaped c.requires.rules c.args.route.now c.requires.route c.args.named c.requires.begins.on

pub area_of_path-area-requires-clause-path : goal.area_of_path-area-requires-clause-path
area_of_path-area-requires-clause-path c =
    subst (λ ts. IsJunctionPath c.args.machine.now (c.args.named ∷ ts) c.in_ok-chain.chain.last) (sym c.as_slice.ensures.value) c.in_ok-chain.ensures.chain.path

pub returns : goal.returns
returns c =
    let chain = c.in_ok-chain.ensures.chain in
    chain_is_made c.regions-shaped.ensures.shaped c.requires.rules c.args.route.now c.requires.route _ refl c.requires.begins
    (subst (λ ts. IsChainOf c.args.machine.now c.args.route.now c.args.named ts c.in_ok-chain.chain.last) (sym c.in_ok-further.ensures.items) chain)
    (c.area_of_path-area.ensures.area c.args.route.now c.requires.route c.requires.begins
    (subst (λ ts. IsChainOf c.args.machine.now c.args.route.now c.args.named ts c.in_ok-chain.chain.last) (sym c.as_slice.ensures.value) chain))
    _ refl c.area_of_path-area.ensures.there c.in_ok-chain.ensures.there
