use Rattle.std.proofs.Common.{sym}
use Rattle.pssm_lines.proofs.BriefLaws.{brief_post}
use Rattle.pssm_lines.proofs.brief.post_at.Goals as goal

pub returns : goal.returns
returns c = brief_post c.args.bytes.now c.in_ok-called.called.now c.in_ok-object.object.now c.in_ok-object.signal.now c.in_ok-object.end.now c.in_ok-rest.rest.now (sym c.in_ok-called.ensures) (sym c.in_ok-object.ensures) (sym c.in_ok-rest.ensures)
