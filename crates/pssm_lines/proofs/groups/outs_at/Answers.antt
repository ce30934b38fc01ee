use Rattle.std.proofs.Common.{sym}
use Rattle.pssm_lines.proofs.PieceLaws.{no_outs}
use Rattle.pssm_lines.proofs.groups.outs_at.Goals as goal

pub returns-in-None : goal.returns-in-None
returns-in-None c = sym (no_outs c.args.bytes.now (sym c.in-None.ensures))
