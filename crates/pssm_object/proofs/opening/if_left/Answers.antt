-- the first of the transitions that leave the vertex
use Rattle.std.proofs.Common.{refl, arith}
use Rattle.pssm_object.proofs.OpeningWays.{first_out}
use Rattle.pssm_object.proofs.opening.if_left.Goals as goal

pub returns-in-len1-up-clause-some : goal.returns-in-len1-up-clause-some
returns-in-len1-up-clause-some c =
    let some = c.in-len1-up.len_at_least in
    (refl, first_out c.args.machine.now c.args.v c.outgoing.result.now (omega (arith, some)) c.outgoing.ensures.items)
