use Rattle.pssm_lines.proofs.LineLaws.{line_found, line_none}
use Rattle.pssm_lines.proofs.line.line_at.Goals as goal

pub returns-clause-found : goal.returns-clause-found
returns-clause-found c = line_found c.args.bytes.now c.shown_at.result c.shown_at.ensures

pub returns-clause-none : goal.returns-clause-none
returns-clause-none c = line_none c.args.bytes.now c.shown_at.result c.shown_at.ensures
