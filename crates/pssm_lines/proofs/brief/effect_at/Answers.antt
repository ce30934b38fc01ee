use Rattle.std.proofs.Common.{sym}
use Rattle.pssm_lines.proofs.BriefLaws.{brief_effect}
use Rattle.pssm_lines.proofs.brief.effect_at.Goals as goal

pub returns : goal.returns
returns c = brief_effect c.args.bytes.now c.in_ok-place.place.now c.in_ok-object.object.now c.in_ok-object.end.now c.in_ok-rest.rest.now c.in_ok-object.number (sym c.in_ok-place.ensures) (sym c.in_ok-object.ensures) (sym c.in_ok-rest.ensures)
