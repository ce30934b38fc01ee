-- the chain grows by one transition at each turn
use Rattle.std.proofs.Common.{◌-◌, ◌<◌, ◌∷◌, length, sym, subst}
use Rattle.pssm_model_laws.proofs.Through.{target_there}
use Rattle.pssm_model_laws.proofs.RouteOrder.{of_rest}
use Rattle.pssm_legs.proofs.Chains.{IsChaining, on_within, chain_begins, chain_goes_on, chain_ends, chain_enters, fewer_left}
use Rattle.pssm_legs.proofs.path.chain_of.Goals as goal

pub target-last-requires : goal.target-last-requires
target-last-requires c = on_within c.regions-shaped.ensures.shaped c.requires.rules c.args.route.now c.requires.route c.args.named c.requires.begins.on

pub chain-init : goal.chain-init
chain-init c =
    subst (λ ts. IsChaining c.args.machine.now c.args.route.now c.args.named ts c.target-last.result) (sym c.new-further.ensures.items)
    (chain_begins c.regions-shaped.ensures.shaped c.requires.rules c.args.route.now c.requires.route c.args.named c.requires.begins
    c.target-last.result c.target-last.ensures.enters)

pub has_kind-requires : goal.has_kind-requires
has_kind-requires c = target_there c.regions-shaped.ensures.shaped c.chain.invariant.last c.chain.last c.chain.invariant.enters

pub next_of-next-requires-clause-enters : goal.next_of-next-requires-clause-enters
next_of-next-requires-clause-enters c =
    chain_enters c.regions-shaped.ensures.shaped c.requires.rules c.args.route.now c.requires.route c.args.named c.requires.begins
    c.chain.further.items c.chain.last c.chain.invariant

pub target-end-requires : goal.target-end-requires
target-end-requires c =
    on_within c.regions-shaped.ensures.shaped c.requires.rules c.args.route.now c.requires.route c.next_of-next.result
    (of_rest c.args.machine.now c.args.route.now c.next_of-next.result c.next_of-next.ensures.further)

pub chain-preserved : goal.chain-preserved
chain-preserved c =
    subst (λ ts. IsChaining c.args.machine.now c.args.route.now c.args.named ts c.target-end.result) (sym c.in_ok-push.ensures.items)
    (chain_goes_on c.regions-shaped.ensures.shaped c.requires.rules c.args.route.now c.requires.route c.args.named c.requires.begins
    c.chain.further.items c.chain.last c.target-end.result c.next_of-next.result c.chain.invariant
    (c.has_kind.ensures.0 c.chain-test.true)
    (of_rest c.args.machine.now c.args.route.now c.next_of-next.result c.next_of-next.ensures.further)
    c.next_of-next.ensures.leaves c.target-end.ensures.enters)

pub chain-smaller : goal.chain-smaller
chain-smaller c =
    subst
    (λ ts. length c.args.machine.now.transitions - length (c.args.named ∷ ts) < length c.args.machine.now.transitions
    - length (c.args.named ∷ c.chain.further.items))
    (sym c.in_ok-push.ensures.items)
    (fewer_left c.regions-shaped.ensures.shaped c.requires.rules c.args.route.now c.requires.route c.args.named c.requires.begins
    c.chain.further.items c.chain.last c.next_of-next.result c.chain.invariant
    (c.has_kind.ensures.0 c.chain-test.true)
    (of_rest c.args.machine.now c.args.route.now c.next_of-next.result c.next_of-next.ensures.further)
    c.next_of-next.ensures.leaves)

pub returns-clause-chain : goal.returns-clause-chain
returns-clause-chain c =
    chain_ends c.regions-shaped.ensures.shaped c.requires.rules c.args.route.now c.requires.route c.args.named c.requires.begins
    c.chain.further.items c.chain.last c.chain.invariant
    (λ k. (let yes = c.has_kind.ensures.1 k in let not = c.chain-test.false in cc))

pub returns-clause-there : goal.returns-clause-there
returns-clause-there c = target_there c.regions-shaped.ensures.shaped c.chain.invariant.last c.chain.last c.chain.invariant.enters
