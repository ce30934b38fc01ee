-- one leg for each transition out of the vertex
use Rattle.std.proofs.Common.{refl}
use Rattle.std.proofs.lemmas.List.{get_or_default}
use Rattle.std.proofs.lemmas.Option.{slice_get-get_or}
use Rattle.pssm_legs.proofs.NextLegs.{end_there, out_begins, putting_begins, putting_goes_on, putting_ends}
use Rattle.pssm_legs.proofs.legs.put_chains.Goals as goal

pub outgoing-outgoing-requires : goal.outgoing-outgoing-requires
outgoing-outgoing-requires c =
    end_there c.regions-shaped.ensures.shaped c.requires.rules c.args.route.now c.requires.route c.requires.end.0.named c.args.end c.requires.end.3

pub chain_leg-requires-clause-begins : goal.chain_leg-requires-clause-begins
chain_leg-requires-clause-begins c =
    out_begins c.regions-shaped.ensures.shaped c.requires.rules c.args.route.now c.requires.route c.requires.end.0.named c.args.end c.requires.end.3 _ c.requires.kind
    ((c.outgoing-outgoing.ensures.items _).0
    (c.loop-t.t-index, c.loop-t-test.true, get_or_default c.outgoing-outgoing.result.now c.loop-t.t-index _ _ c.loop-t-test.true))

pub loop-t-init : goal.loop-t-init
loop-t-init c =
    putting_begins c.regions-shaped.ensures.shaped c.requires.rules c.args.route.now c.requires.route c.args.place c.args.end c.requires.kind c.outgoing-outgoing.result.now c.outgoing-outgoing.ensures.items
    c.args.legs.now c.requires.so_far c.requires.end

pub loop-t-preserved : goal.loop-t-preserved
loop-t-preserved c =
    putting_goes_on c.regions-shaped.ensures.shaped c.requires.rules c.args.route.now c.requires.route c.args.place c.args.end c.requires.kind c.outgoing-outgoing.result.now c.outgoing-outgoing.ensures.items
    c.outgoing-outgoing.ensures.ascending c.loop-t.legs _ _ refl c.in_ok-push.ensures.items c.loop-t.t-index _
    (slice_get-get_or _ _ _ c.loop-t-test.true) c.loop-t.invariant c.in_ok-leg.ensures

pub returns : goal.returns
returns c =
    putting_ends c.regions-shaped.ensures.shaped c.requires.rules c.args.route.now c.requires.route c.args.place c.args.end c.requires.kind c.outgoing-outgoing.result.now c.outgoing-outgoing.ensures.items
    c.loop-t.legs c.loop-t.t-index c.loop-t-test.false c.loop-t.invariant
