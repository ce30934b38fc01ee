-- all the room that the array has is told
use Rattle.std.proofs.Common.{ap, ◌-◌, arith}
use Rattle.pssm_links.specs.Chained.{Chained}
use Rattle.pssm_links.proofs.chains.Chains.reserve.Goals as goal

pub returns-clause-spare : goal.returns-clause-spare
returns-clause-spare g c =
    let total = ap (λ (v : Chained g.row.T.Denot). v.spare) c.self.view_is in
    let made = c.in_ok-reserve.ensures in
    let room = c.room_of-self-inside.ensures.all (c.args.n - c.self.inside.unused) (omega arith) (omega (arith, made.ok)) (omega arith) in
    omega (arith, total, room)

pub returns-clause-ok : goal.returns-clause-ok
returns-clause-ok g c =
    let total = ap (λ (v : Chained g.row.T.Denot). v.spare) c.self.view_is in
    let made = c.in_ok-reserve.ensures in
    let room = c.room_of-self-inside.ensures.all (c.args.n - c.self.inside.unused) (omega arith) (omega (arith, made.ok)) (omega arith) in
    omega (arith, total, room)
