-- the vertex is put after those that were reached
use Rattle.std.proofs.Common.{rules, ◌≡◌, ◌<◌, length}
use Rattle.pssm_routes.proofs.Looks.{comes_now}
use Rattle.pssm_routes.proofs.looking.Reached.come_to.Goals as goal

pub returns-clause-come : goal.returns-clause-come
returns-clause-come c = λ yes.
    let long : length c.args.self.now.found ≡ 64 = search rules in
    let room = c.requires.room in
    comes_now c.args.self.now c.args.v (let below : c.args.self.now.count < length c.args.self.now.found = search rules in below)
