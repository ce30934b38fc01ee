-- a join has a transition out
use Rattle.std.proofs.Common.{◌<◌, length, sym, arith}
use Rattle.pssm_enabled.proofs.LeadingOn.{join_out}
use Rattle.pssm_routes.proofs.leading.out_of_join.Goals as goal

pub unreachable-requires : goal.unreachable-requires
unreachable-requires c =
    let out = join_out c.requires.rules c.args.v c.requires.join in
    let inside = (c.outgoing.ensures.items out.0).1 out.1 in
    let below = inside.1 in
    let past = c.in-None.ensures.lookup.3 in omega (arith, below, past)

pub returns-clause-leaves : goal.returns-clause-leaves
returns-clause-leaves c =
    let out = join_out c.requires.rules c.args.v c.requires.join in
    let inside = (c.outgoing.ensures.items out.0).1 out.1 in
    let below = inside.1 in
    let some : 0 < length c.outgoing.result.now = omega (arith, below) in
    (c.outgoing.ensures.items c.in-Some.t.now).0 (0, some, sym c.in-Some.ensures.lookup.1)
