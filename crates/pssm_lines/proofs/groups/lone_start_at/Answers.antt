use Rattle.std.proofs.Common.{sym}
use Rattle.pssm_lines.proofs.RouteLaws.{lone_start}
use Rattle.pssm_lines.proofs.groups.lone_start_at.Goals as goal

pub returns : goal.returns
returns c = lone_start c.args.bytes.now c.in_ok-digits.digits.now c.in_ok-number.number c.in_ok-number.rest.now c.in_ok-_after._after.now (sym c.in_ok-digits.ensures) (sym c.in_ok-number.ensures) (sym c.in_ok-_after.ensures)
