use Rattle.std.proofs.Common.{sym}
use Rattle.pssm_lines.proofs.BriefLaws.{brief_take}
use Rattle.pssm_lines.proofs.brief.take_at.Goals as goal

pub returns : goal.returns
returns c =
    brief_take c.args.bytes.now c.in_ok-turn.turn.now c.in_ok-object.object.now c.in_ok-object.space.now c.in_ok-fires.fires.now c.in_ok-start.end.now c.in_ok-rest.rest.now c.in_ok-object.number c.in_ok-start.start
    (sym c.in_ok-turn.ensures) (sym c.in_ok-object.ensures) (sym c.in_ok-fires.ensures) c.in_ok-start.ensures (sym c.in_ok-rest.ensures)
