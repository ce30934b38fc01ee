-- a leg that stands later has a higher place
use Rattle.std.proofs.Common.{◌≡◌, ◌<◌, ◌≤◌, true, false, length, arith}
use Rattle.pssm_legs.proofs.Backwards.{room_behind}
use Rattle.pssm_legs.proofs.ordering.is_called_after.Goals as goal

pub returns-then-last : goal.returns-then-last
returns-then-last c =
    let full = c.if-last.true in
    let long = c.args.legs.now.more.ok.0 in
    let none : length c.args.legs.now.more.items ≤ c.args.place = omega (arith, full, long) in (
      λ f. absurd (let e : false ≡ true = f in cc),
      λ h. absurd (let room = room_behind c.args.machine.now c.args.legs.now c.requires.legs c.args.place c.args.fires c.args.item h in omega (arith, room, none)),
    )
